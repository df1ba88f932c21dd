use Rattle.std.proofs.Common.{sym, ◌∙◌}
use Rattle.fw_world.proofs.WorldParts.{has_room_ok, not_true}
use Rattle.fw_world.proofs.sides.server_events.reserve_answer.Goals as goal

pub returns-then-not-take_answers-clause-room : goal.returns-then-not-take_answers-clause-room
returns-then-not-take_answers-clause-room g c = λ is answers. absurd
    (not_true c.take_answers.result c.if-not-take_answers.true (c.take_answers.ensures.1 answers))

pub returns-clause-room : goal.returns-clause-room
returns-clause-room g c = λ is answers. has_room_ok c.reserve.result _ _ c.reserve.ensures.ok
    (sym c.is_ok.ensures.value ∙ is)

pub returns-clause-answers : goal.returns-clause-answers
returns-clause-answers g c = λ is. c.take_answers.ensures.0 c.if-not-take_answers.false
