use Rattle.std.proofs.Common.{sym, ◌∙◌}
use Rattle.fs_tree.proofs.OpenDirectories.{entries_in-closed}
use Rattle.fs_tree.proofs.directories.close.Goals as goal

pub returns-then-is_empty : goal.returns-then-is_empty
returns-then-is_empty g c =
    λ k. entries_in-closed c.args.directories.now.entries c.swap_remove-entries.new.self.entries c.args.directory _ c.in-Some.ensures.value (sym c.is_empty.ensures ∙ c.if-is_empty.true) c.swap_remove-entries.ensures.updates.0 k
