-- What the reply to a call's request makes of the cached names.
use Rattle.std.specs.Prelude.{ℕ}
use Rattle.fuse_spec.specs.declared.Dentry.{Dentry}
use Rattle.fuse_spec.specs.declared.Opened.{Opened}
use Rattle.fuse_spec.specs.Values.Maps.{NameMap, remove_name}
use Rattle.fuse_spec.specs.Files.Operations.{Operation, unlink, rmdir, rename}

-- The cached names once the operation is done.
abbrev pub names_left : Operation ℕ Opened → NameMap Dentry → NameMap Dentry
names_left (unlink directory name) names = remove_name names (directory, name)
names_left (rmdir directory name) names = remove_name names (directory, name)
names_left (rename directory old newdir new) names = remove_name (remove_name names (directory, old)) (newdir, new)
names_left operation names = names
