-- What contracts see of the names that a directory lists.
use Rattle.std.specs.Prelude.{List}
use Rattle.fuse_spec.specs.Files.Operations.{Dirent}
use Rattle.fk_syscalls.specs.Rows.{dirents_of}
use Rattle.fk_syscalls.specs.declared.listing.ListedName.{ListedName}
use Rattle.fk_syscalls.specs.declared.listing.ListedNames.{ListedNames}

-- The name that is listed.
abbrev pub listed_dirent : ListedName → Dirent
listed_dirent listed = record { ino = listed.ino; offset = listed.offset; kind = listed.kind; name = listed.name.now }

-- The names that are left in an iterator.
abbrev pub names_left_in : ListedNames → List Dirent
names_left_in names = dirents_of names.rows.now names.bytes.now
