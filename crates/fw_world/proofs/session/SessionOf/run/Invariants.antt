use Rattle.std.proofs.Common.{◌+◌, ◌*◌, ◌≤◌, map, take}
use Rattle.std.specs.Vec.{vec_len, vec_capacity}
use Rattle.world_sessions.specs.KernelRules.{SessionGoesOn}
use Rattle.world_sessions.specs.WorldTransfers.{mounts_among}
use Rattle.fw_world.specs.OverLinks.{session_of}
use Rattle.fw_world.specs.Runs.{calls_not_over}
use Rattle.fw_world.specs.Values.{event_of}
use Rattle.fw_world.proofs.OverLinks.{RanOver}
use Rattle.fw_world.proofs.session.SessionOf.run.Given as goal

-- The first k events ran, and used room for two records each, beside that of the calls that waited.
abbrev pub invariant-loop-k : goal.invariant-loop-k
invariant-loop-k g l =
    RanOver g.L.Link.carries g.L.Link.failed (session_of l.fn.self.world l.fn.self.is_lost) l.fn.self.link
    (take l.k l.events) l.fn.records.items (session_of l.self.world l.self.is_lost) l.self.link l.records.items
    × (vec_len l.records + calls_not_over l.self.world + vec_capacity l.fn.records
    ≤ vec_len l.fn.records + calls_not_over l.fn.self.world + 2 * l.k + vec_capacity l.records)
    × SessionGoesOn (mounts_among (map event_of (take l.k l.events))) l.fn.self.world l.self.world
