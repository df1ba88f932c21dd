-- What goes over a device in one call, and how the call ends.
use Rattle.std.specs.Prelude.{◌≡◌, List, [], ◌∷◌, Option, Some, None, Result, Ok, Err}
use Rattle.fuse_device.specs.Transfers.{Transfer, received, sent, unsent, stopped}
use Rattle.fuse_device.specs.declared.device.DeviceEnd.{DeviceEnd}
use Rattle.fk_drive.specs.declared.end.DriveEnd.{DriveEnd}
use Rattle.fk_drive.specs.declared.end.DriveEnd.TheVariants as at

-- The device came to this end at the last of these, or to none at any: nothing is asked of it behind its end.
abbrev pub Ends : Option DeviceEnd → List Transfer → Type 0
Ends end [] = end ≡ None
Ends end (received frame ∷ log) = Ends end log
Ends end (sent frame result ∷ log) = Ends end log
Ends end (unsent frame came ∷ log) = (end ≡ Some came) × (log ≡ [])
Ends end (stopped came ∷ log) = (end ≡ Some came) × (log ≡ [])

-- A call failed as the device came to its end, and only so.
abbrev pub EndsAs : {T : Type 0} → Result T DriveEnd → List Transfer → Type 0
EndsAs (Ok _) log = Ends None log
EndsAs (Err (at.Device end)) log = Ends (Some end) log
EndsAs (Err other) log = ⊥

-- What went over a device from one of its states to another is such, and ends so.
abbrev pub WentOver : {D : Type 0} → (D → D → List Transfer → Type 0) → D → D → (IsEnd IsSuch : List Transfer → Type 0) → Type 0
WentOver logs old new IsEnd IsSuch = (log : List Transfer) × logs old new log × IsEnd log × IsSuch log

-- The device came to its end as a frame was to be received, or memory ran out and nothing was asked of it.
abbrev pub StopsAt : DriveEnd → List Transfer → Type 0
StopsAt (at.Device end) log = log ≡ stopped end ∷ []
StopsAt at.Memory log = log ≡ []
StopsAt at.TooMany log = ⊥
StopsAt (at.Refused refusal) log = ⊥
