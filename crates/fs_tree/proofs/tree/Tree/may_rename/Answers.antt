use Rattle.std.proofs.Common.{rules}
use Rattle.fs_tree.proofs.tree.Tree.may_rename.Goals as goal

pub returns-in-Some-file_at : goal.returns-in-Some-file_at
returns-in-Some-file_at g c = search rules
