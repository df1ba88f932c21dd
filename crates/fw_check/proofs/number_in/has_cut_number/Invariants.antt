use Rattle.std.proofs.Common.{◌≡◌, ◌<◌, ◌≤◌, ℕ, get_or}
use Rattle.fw_check.proofs.number_in.has_cut_number.Given as goal

abbrev pub invariant-loop-place : goal.invariant-loop-place
invariant-loop-place l = (k : ℕ) → 8 ≤ k → k < l.place → get_or l.bytes k 0 ≡ 0
