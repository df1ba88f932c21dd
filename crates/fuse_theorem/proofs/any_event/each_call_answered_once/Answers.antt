use Rattle.std.proofs.Common.{refl}
use Rattle.fuse_spec.specs.World.Worlds.{first_world}
use Rattle.fuse_theorem.proofs.Answers.AnswersStay.{first_sound, calls_stay, collected_sound}
use Rattle.fuse_theorem.proofs.Answers.EachAnsweredOnce.{answers_once}
use Rattle.fuse_theorem.proofs.any_event.each_call_answered_once.Goals as goal

pub returns-clause-at_first : goal.returns-clause-at_first
returns-clause-at_first g = first_sound

pub returns-clause-always : goal.returns-clause-always
returns-clause-always g = λ w sound e o after happens. (calls_stay w sound e o after happens).sound

pub returns-clause-collecting : goal.returns-clause-collecting
returns-clause-collecting g = λ w sound. collected_sound w sound

pub returns-clause-once : goal.returns-clause-once
returns-clause-once g = λ w rooted sound events records after recorded. answers_once w rooted sound events records after recorded

pub returns-clause-from_first : goal.returns-clause-from_first
returns-clause-from_first g = λ events records after recorded. answers_once first_world
    (record { root = refl; answers = tt }) first_sound events records after recorded
