use Rattle.fuse_theorem.proofs.Requests.RequestsSound.{first_requests, requests_stay}
use Rattle.fuse_theorem.proofs.Requests.StandsOnce.{unread_unsent}
use Rattle.fuse_theorem.proofs.any_event.requests_stay_sound.Goals as goal

pub returns-clause-at_first : goal.returns-clause-at_first
returns-clause-at_first g = first_requests

pub returns-clause-always : goal.returns-clause-always
returns-clause-always g =
    λ choice w sound numbered o after e stepped. requests_stay choice w sound numbered e o after stepped

pub returns-clause-unread : goal.returns-clause-unread
returns-clause-unread g = λ w once sound. unread_unsent w once sound
