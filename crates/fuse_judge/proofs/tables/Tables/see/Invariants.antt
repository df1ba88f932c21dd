use Rattle.std.proofs.Common.{◌≡◌, ◌≤◌, ◌+◌, ◌-◌, ℕ, length, take, vec_capacity}
use Rattle.fuse_judge.specs.Seen.{HasRoom, state_of}
use Rattle.fuse_judge.proofs.SeenSoFar.{AreSeen}
use Rattle.fuse_judge.proofs.tables.Tables.see.Given as goal

abbrev pub invariant-loop-act : goal.invariant-loop-act
invariant-loop-act g l =
    AreSeen (state_of l.fn.self) (take l.act-index l.acts) l.verdicts.items (state_of l.self)
    × (length l.verdicts.items ≡ l.act-index)
    × (length l.acts ≤ vec_capacity l.verdicts)
    × HasRoom (length l.acts - l.act-index) l.self
    × ((more : ℕ) → HasRoom (length l.acts + more) l.fn.self → HasRoom (length l.acts - l.act-index + more) l.self)
