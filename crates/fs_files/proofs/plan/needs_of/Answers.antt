use Rattle.std.proofs.Common.{sym, ◌∙◌}
use Rattle.fs_files.specs.Values.{on_files}
use Rattle.fs_files.proofs.Drawn.{allocates_unrefused, not_refused}
use Rattle.fs_files.proofs.plan.needs_of.Goals as goal

pub returns : goal.returns
returns g c v =
    allocates_unrefused v c.args.tree.now (on_files c.args.nodes.now.table c.args.operation.now) c.unrefused_needs.result
    (not_refused _ c.may_do.result c.may_do.ensures (sym c.is_err.ensures.value ∙ c.if-is_err.false))
    (c.unrefused_needs.ensures v)
