use Rattle.std.proofs.Common.{sym, ◌∙◌}
use Rattle.fw_world.proofs.WorldParts.{has_room_ok}
use Rattle.fw_world.proofs.sides.server_events.reserve_reply.Goals as goal

pub returns-then-is_aborted-clause-room : goal.returns-then-is_aborted-clause-room
returns-then-is_aborted-clause-room g c = λ is live. absurd
    (cc (sym c.if-is_aborted.true ∙ c.is_aborted.ensures ∙ live))

pub returns-clause-room : goal.returns-clause-room
returns-clause-room g c = λ is live. has_room_ok c.reserve.result _ _ c.reserve.ensures.ok
    (sym c.is_ok.ensures.value ∙ is)
