-- The names of the operation at the end of a walk stay, whatever file the walk leads to.
use Rattle.std.proofs.Common.{◌≡◌, ℕ, refl}
use Rattle.fuse_spec.specs.Calls.Walks.{FinalOperation, operation_at}
use Rattle.fuse_spec.specs.Files.Operations.{lookup, getattr, mkdir, create, unlink, rmdir, rename, link, opening, readdir, readdirplus, read, write, operation_names}
use Rattle.fuse_spec.specs.declared.Opened.{Opened}

pub names_at : (final : FinalOperation ℕ) (node : ℕ) → operation_names (operation_at {O = Opened} final node) ≡ operation_names final
names_at (lookup d name) node = refl
names_at (getattr x) node = refl
names_at (mkdir d name) node = refl
names_at (create d name) node = refl
names_at (unlink d name) node = refl
names_at (rmdir d name) node = refl
names_at (rename d old e new) node = refl
names_at (link x d name) node = refl
names_at (opening x) node = refl
names_at (readdir d after size) node = refl
names_at (readdirplus d after size) node = refl
names_at (read o offset size) node = refl
names_at (write o offset bytes) node = refl
