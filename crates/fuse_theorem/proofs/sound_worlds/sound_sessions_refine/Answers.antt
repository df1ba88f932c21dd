use Rattle.fuse_theorem.proofs.OverLinks.SessionsEnd.{session_refines, session_keeps, session_answers}
use Rattle.fuse_theorem.proofs.sound_worlds.sound_sessions_refine.Goals as goal

pub returns-clause-list : goal.returns-clause-list
returns-clause-list g = λ s here events records after recorded p refines. session_refines s here events records after recorded p refines

pub returns-clause-protocol : goal.returns-clause-protocol
returns-clause-protocol g = λ s here events records after recorded. session_keeps s here events records after recorded

pub returns-clause-answers : goal.returns-clause-answers
returns-clause-answers g = λ s here events records after recorded. session_answers s here events records after recorded
