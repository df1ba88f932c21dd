-- How calls end, one after another.
use Rattle.std.proofs.Common.{◌≡◌, ◌≤◌, ℕ, List, [], ◌++◌, Some, None, inl, inr, refl, sym, subst, vec_len, ◌∙◌}
use Rattle.std.specs.Prelude.{Result, Ok, Err}
use Rattle.std.proofs.lemmas.List.{length-map}
use Rattle.fuse_device.specs.Transfers.{Transfer}
use Rattle.fk_drive.specs.Driven.{waiting_in}
use Rattle.fk_drive.specs.Driving.{Driven}
use Rattle.fk_drive.specs.Exchanges.{Ends, EndsAs, StopsAt}
use Rattle.fk_drive.specs.Openings.{AwaitsUntil, HasTooMany}
use Rattle.fk_drive.specs.Receiving.{ReceivesUntil}
use Rattle.fk_drive.specs.Sending.{SendsUntil}
use Rattle.fk_drive.specs.Rooms.{IsNoRoom, most_waiting}
use Rattle.fk_drive.specs.declared.connection.Connection.{Connection}
use Rattle.fk_drive.specs.declared.end.DriveEnd.{DriveEnd}
use Rattle.fk_drive.specs.declared.end.DriveEnd.TheVariants as at
use Rattle.fk_drive.specs.declared.opening.Awaited.{Awaited}
use Rattle.fk_drive.specs.declared.opening.Awaited.TheVariants.{Said, NotYet, Ended}
use Rattle.fk_drive.proofs.Changes.{bytes}
use Rattle.fk_drive.proofs.Drivings.{ends_on}

pub receives_on : {T : Type 0} (r : Result T DriveEnd) (new : Driven) (h k : List Transfer) → Ends None h
    → ReceivesUntil r new k → ReceivesUntil r new (h ++ k)
receives_on (Ok _) new h k none ends = ends_on None h k none ends
receives_on (Err (at.Device end)) new h k none ends = ends_on (Some end) h k none ends
receives_on (Err at.Memory) new h k none ends = (ends_on None h k none ends.0, ends.1)
receives_on (Err at.TooMany) new h k none ends = ends
receives_on (Err (at.Refused refusal)) new h k none ends = ends

pub awaits_on : (awaited : Awaited) (h k : List Transfer) → Ends None h → AwaitsUntil awaited k
    → AwaitsUntil awaited (h ++ k)
awaits_on (Said said) h k none ends = ends_on None h k none ends
awaits_on NotYet h k none ends = ends_on None h k none ends
awaits_on (Ended (at.Device end)) h k none ends = ends_on (Some end) h k none ends
awaits_on (Ended at.Memory) h k none ends = ends_on None h k none ends
awaits_on (Ended at.TooMany) h k none ends = ends_on None h k none ends
awaits_on (Ended (at.Refused refusal)) h k none ends = ends

pub sends_on : {T : Type 0} (r : Result T DriveEnd) (new : Driven) (h k : List Transfer) → Ends None h
    → SendsUntil r new k → SendsUntil r new (h ++ k)
sends_on (Ok _) new h k none ends = (ends_on None h k none ends.0, ends.1)
sends_on (Err (at.Device end)) new h k none ends = ends_on (Some end) h k none ends
sends_on (Err at.Memory) new h k none ends = (ends_on None h k none ends.0, ends.1)
sends_on (Err at.TooMany) new h k none ends = (ends_on None h k none ends.0, ends.1, ends.2)
sends_on (Err (at.Refused refusal)) new h k none ends = (ends_on None h k none ends.0, ends.1)

-- the device ended as OPENDIR was sent
pub awaits_as : (end : DriveEnd) (log : List Transfer) → EndsAs {T = Unit {0}} (Err end) log → AwaitsUntil (Ended end) log
awaits_as (at.Device end) log ends = ends
awaits_as at.Memory log ends = absurd ends
awaits_as at.TooMany log ends = absurd ends
awaits_as (at.Refused refusal) log ends = absurd ends

-- there was no room for a frame, and none was received
pub no_room_ends : {A : Type 0} (connection : Connection A) (end : DriveEnd) → IsNoRoom connection end → AwaitsUntil (Ended end) []
no_room_ends connection end (inl memory) = subst (λ (e : DriveEnd). AwaitsUntil (Ended e) []) (sym memory) refl
no_room_ends connection end (inr (many, wait)) = subst (λ (e : DriveEnd). AwaitsUntil (Ended e) []) (sym many) refl

-- as many waited as are kept, and still do
pub no_room_many : {A : Type 0} (old new : Connection A) (end : DriveEnd) → IsNoRoom old end
    → vec_len new.waiting ≡ vec_len old.waiting → HasTooMany (Ended end) (waiting_in new)
no_room_many old new end (inl memory) long = subst (λ (e : DriveEnd). HasTooMany (Ended e) (waiting_in new)) (sym memory) tt
no_room_many old new end (inr (many, wait)) long =
    subst (λ (e : DriveEnd). HasTooMany (Ended e) (waiting_in new)) (sym many)
    (subst (λ (n : ℕ). most_waiting ≤ n) (sym long ∙ new.waiting.ok.0 ∙ sym (length-map new.waiting.items bytes)) wait)

-- the device, or memory, ended it
pub stopped_many : (end : DriveEnd) (log : List Transfer) (waiting : List (List ℕ)) → StopsAt end log
    → HasTooMany (Ended end) waiting
stopped_many (at.Device end) log waiting is = tt
stopped_many at.Memory log waiting is = tt
stopped_many at.TooMany log waiting is = absurd is
stopped_many (at.Refused refusal) log waiting is = tt

pub sent_many : (end : DriveEnd) (log : List Transfer) (waiting : List (List ℕ)) → EndsAs {T = Unit {0}} (Err end) log
    → HasTooMany (Ended end) waiting
sent_many (at.Device end) log waiting ends = tt
sent_many at.Memory log waiting ends = tt
sent_many at.TooMany log waiting ends = absurd ends
sent_many (at.Refused refusal) log waiting ends = tt
