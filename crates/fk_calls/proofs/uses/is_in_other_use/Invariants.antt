use Rattle.std.proofs.Common.{◌≡◌, ℕ, drop}
use Rattle.std.specs.Prelude.{◌&&◌, not, nat_eq}
use Rattle.std.specs.List.{list_any}
use Rattle.fuse_spec.specs.Kernel.Kernel.{is_using}
use Rattle.fuse_spec.specs.Calls.Vfs.{CallState}
use Rattle.fuse_spec.specs.declared.Opened.{Opened}
use Rattle.fk_calls.proofs.uses.is_in_other_use.Given as goal

abbrev pub invariant-loop-call : goal.invariant-loop-call
invariant-loop-call g l =
    list_any (λ (e : ℕ × CallState Opened). not (nat_eq e.0 l.but) && is_using l.open_call e.1) l.calls
    ≡ list_any (λ (e : ℕ × CallState Opened). not (nat_eq e.0 l.but) && is_using l.open_call e.1)
    (drop l.call-index l.calls)
