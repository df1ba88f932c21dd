use Rattle.std.proofs.Common.{◌≡◌, ℕ, drop}
use Rattle.std.specs.Prelude.{find, nat_eq}
use Rattle.fk_queues.proofs.kernel_queues.request_in.Given as goal

abbrev pub invariant-loop-row : goal.invariant-loop-row
invariant-loop-row l =
    find (λ (e : ℕ × ℕ). nat_eq e.1 l.call) l.calls ≡ find (λ (e : ℕ × ℕ). nat_eq e.1 l.call) (drop l.row-index l.calls)
