use Rattle.std.proofs.Common.{◌≡◌, ◌+◌, ◌≤◌, length}
use Rattle.std.specs.Vec.{vec_len, vec_capacity}
use Rattle.world_sessions.specs.KernelRules.{SessionGoesOn}
use Rattle.fw_world.proofs.Collecting.{Collects}
use Rattle.fw_world.proofs.runs.collect_all.Given as goal

-- This many answers are recorded, and there is room for the others. As many records were added as answers went.
abbrev pub invariant-loop-call : goal.invariant-loop-call
invariant-loop-call g l = Collects l.fn.world l.fn.records.items l.world l.records.items
    × (vec_len l.records + length l.world.kernel.vfs.answers ≤ vec_capacity l.records)
    × (vec_len l.records + length l.world.kernel.vfs.answers
    ≡ vec_len l.fn.records + length l.fn.world.kernel.vfs.answers)
    × (vec_capacity l.fn.records ≤ vec_capacity l.records)
    × SessionGoesOn 0 l.fn.world l.world

abbrev pub decreases-loop-call : goal.decreases-loop-call
decreases-loop-call g l = length l.world.kernel.vfs.answers
