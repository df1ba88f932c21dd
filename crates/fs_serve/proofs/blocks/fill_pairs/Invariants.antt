use Rattle.std.proofs.Common.{◌≡◌, ◌≤◌, ◌+◌, ◌-◌, ◌^◌, length}
use Rattle.fs_serve.specs.Blocks.{with_blocks_from}
use Rattle.fs_serve.proofs.blocks.fill_pairs.Given as goal

-- what is left to fill leads to what is to be filled
abbrev pub invariant-loop-pair : goal.invariant-loop-pair
invariant-loop-pair l =
    (with_blocks_from (l._pair-end - l._pair) l.place l.frame
    ≡ with_blocks_from (length l.initial.frame) 16 l.initial.frame)
    × (l.place ≤ length l.frame + 2 ^ 33) × (l._pair-end ≡ length l.initial.frame)
    × (length l.frame ≡ length l.initial.frame)
