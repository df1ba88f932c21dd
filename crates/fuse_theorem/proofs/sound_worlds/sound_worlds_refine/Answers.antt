use Rattle.fuse_theorem.proofs.Refining.Refining.{refined, kept, event_refines, over_stays, handing_out, list_refines, list_answers}
use Rattle.fuse_theorem.proofs.sound_worlds.sound_worlds_refine.Goals as goal

pub returns-clause-some : goal.returns-clause-some
returns-clause-some g = λ w here. refined w here

pub returns-clause-protocol : goal.returns-clause-protocol
returns-clause-protocol g = λ w here. kept w here

pub returns-clause-event : goal.returns-clause-event
returns-clause-event g = λ w here e o after happens p refines. event_refines w here e o after happens p refines

pub returns-clause-over : goal.returns-clause-over
returns-clause-over g = λ w here e o after happens call over. over_stays w here e o after happens call over

pub returns-clause-handing_out : goal.returns-clause-handing_out
returns-clause-handing_out g = λ w here call p refines. handing_out w here call p refines

pub returns-clause-list : goal.returns-clause-list
returns-clause-list g = λ w here events records after recorded p refines. list_refines w here events records after recorded p refines

pub returns-clause-answers : goal.returns-clause-answers
returns-clause-answers g = λ w here events records after recorded. list_answers w here events records after recorded
