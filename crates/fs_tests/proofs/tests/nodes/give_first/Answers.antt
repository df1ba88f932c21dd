use Rattle.std.proofs.Common.{sym, ◌∙◌}
use Rattle.fs_nodes.proofs.Callers.{has_no}
use Rattle.fs_tests.proofs.tests.nodes.give_first.Goals as goal

pub give-requires-clause-count : goal.give-requires-clause-count
give-requires-clause-count g c = λ id row is file. absurd (has_no (g.S.NodeStore.table c.reserve.new.self).rows c.args.file id row (sym c.has.ensures ∙ c.if-has.false) is file)
