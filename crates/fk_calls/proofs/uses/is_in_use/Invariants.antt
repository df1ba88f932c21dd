use Rattle.std.proofs.Common.{◌≡◌, drop}
use Rattle.std.specs.List.{list_any}
use Rattle.fuse_spec.specs.Kernel.Kernel.{is_using}
use Rattle.fuse_spec.specs.Values.Maps.{values}
use Rattle.fk_calls.proofs.uses.is_in_use.Given as goal

abbrev pub invariant-loop-call : goal.invariant-loop-call
invariant-loop-call g l = list_any (is_using l.open_call) (values l.calls)
    ≡ list_any (is_using l.open_call) (values (drop l.call-index l.calls))
