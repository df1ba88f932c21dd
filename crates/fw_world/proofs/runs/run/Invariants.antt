use Rattle.std.proofs.Common.{◌+◌, ◌*◌, ◌≤◌, map, take}
use Rattle.std.specs.Vec.{vec_len, vec_capacity}
use Rattle.world_sessions.specs.KernelRules.{SessionGoesOn}
use Rattle.world_sessions.specs.WorldTransfers.{mounts_among}
use Rattle.fw_world.specs.Runs.{calls_not_over}
use Rattle.fw_world.specs.Values.{event_of}
use Rattle.fw_world.proofs.Recording.{RanSo}
use Rattle.fw_world.proofs.runs.run.Given as goal

-- The first k events ran, and used room for two records each, beside that of the calls that waited.
abbrev pub invariant-loop-k : goal.invariant-loop-k
invariant-loop-k g l =
    RanSo l.fn.world.sides (take l.k l.events) l.fn.records.items l.world.sides l.records.items
    × (vec_len l.records + calls_not_over l.world.sides + vec_capacity l.fn.records
    ≤ vec_len l.fn.records + calls_not_over l.fn.world.sides + 2 * l.k + vec_capacity l.records)
    × SessionGoesOn (mounts_among (map event_of (take l.k l.events))) l.fn.world.sides l.world.sides
