-- The turn of a request that lists a directory, by what came of OPENDIR.
use Rattle.std.specs.Prelude.{◌≡◌, ◌≤◌, ℕ, Bool, false, List, Some, None, length}
use Rattle.fuse_spec.specs.Kernel.Messages.{Request}
use Rattle.fuse_device.specs.Transfers.{Transfer}
use Rattle.fk_drive_frames.specs.OwnRequests.{IsErrorSaid}
use Rattle.fk_drive_frames.specs.declared.opendir_reply.OpendirSaid.{OpendirSaid}
use Rattle.fk_drive_frames.specs.declared.opendir_reply.OpendirSaid.TheVariants.{Handle, NotKnown, Failed}
use Rattle.fk_drive.specs.Driving.{Turn, opened, opening, picked, unopened}
use Rattle.fk_drive.specs.Exchanges.{Ends}
use Rattle.fk_drive.specs.Rooms.{most_waiting}
use Rattle.fk_drive.specs.declared.end.DriveEnd.TheVariants as at
use Rattle.fk_drive.specs.declared.opening.Awaited.{Awaited}
use Rattle.fk_drive.specs.declared.opening.Awaited.TheVariants.{Said, NotYet, Ended}

-- once its reply came
abbrev pub turn_of : Request → OpendirSaid → Turn
turn_of request (Handle fh) = opened request fh
turn_of request NotKnown = picked request
turn_of request (Failed error) = unopened request error

-- and where it may not have come yet
abbrev pub turn_where : Request → (unique node : ℕ) → Awaited → Turn
turn_where request unique node (Said said) = turn_of request said
turn_where request unique node NotYet = opening request unique node
turn_where request unique node (Ended end) = opening request unique node

-- What was said is no error, or one as error replies have it.
abbrev pub HasErrorNumber : Awaited → Type 0
HasErrorNumber (Said said) = IsErrorSaid said
HasErrorNumber NotYet = Unit {0}
HasErrorNumber (Ended end) = Unit {0}

-- Once OPENDIR is known not to be known, it is asked no more.
abbrev pub StopsAsking : OpendirSaid → Bool → Type 0
StopsAsking NotKnown asks = asks ≡ false
StopsAsking said asks = Unit {0}

abbrev pub StopsAskingWhere : Awaited → Bool → Type 0
StopsAskingWhere (Said said) asks = StopsAsking said asks
StopsAskingWhere awaited asks = Unit {0}

-- Waiting for the reply failed as the device came to its end, or as memory ran out, and only so.
abbrev pub AwaitsUntil : Awaited → List Transfer → Type 0
AwaitsUntil (Ended (at.Device end)) log = Ends (Some end) log
AwaitsUntil (Ended (at.Refused refusal)) log = ⊥
AwaitsUntil awaited log = Ends None log

-- It failed for too many frames while so many wait as are kept.
abbrev pub HasTooMany : Awaited → (waiting : List (List ℕ)) → Type 0
HasTooMany (Ended at.TooMany) waiting = most_waiting ≤ length waiting
HasTooMany awaited waiting = Unit {0}
