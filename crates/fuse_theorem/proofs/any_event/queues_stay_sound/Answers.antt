use Rattle.fuse_theorem.proofs.Requests.EmptyQueues.{empty_sound}
use Rattle.fuse_theorem.proofs.Requests.QueuesSound.{stays_sound}
use Rattle.fuse_theorem.proofs.any_event.queues_stay_sound.Goals as goal

pub returns-clause-at_first : goal.returns-clause-at_first
returns-clause-at_first g = empty_sound

pub returns-clause-always : goal.returns-clause-always
returns-clause-always g = λ choice w sound o after e stepped. stays_sound choice w sound o after e stepped
