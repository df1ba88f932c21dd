use Rattle.std.proofs.Common.{◌≡◌, drop}
use Rattle.std.specs.Prelude.{nat_eq}
use Rattle.std.specs.List.{list_any}
use Rattle.fuse_spec.specs.Kernel.Kernel.{nodes_of_state}
use Rattle.fuse_spec.specs.Values.Maps.{values}
use Rattle.fk_calls.proofs.pins.is_named.Given as goal

abbrev pub invariant-loop-call : goal.invariant-loop-call
invariant-loop-call g l =
    list_any (λ state. list_any (nat_eq l.node) (nodes_of_state state)) (values l.calls)
    ≡ list_any (λ state. list_any (nat_eq l.node) (nodes_of_state state)) (values (drop l.call-index l.calls))
