-- How receiving frames for the kernel ends.
use Rattle.std.specs.Prelude.{◌≡◌, List, [], Some, None, Result, Ok, Err}
use Rattle.fuse_device.specs.Transfers.{Transfer}
use Rattle.fk_drive.specs.Driving.{Driven}
use Rattle.fk_drive.specs.Exchanges.{Ends}
use Rattle.fk_drive.specs.declared.end.DriveEnd.{DriveEnd}
use Rattle.fk_drive.specs.declared.end.DriveEnd.TheVariants as at

-- It failed as the device came to its end, or as memory ran out while no frame waits, and only so.
abbrev pub ReceivesUntil : {T : Type 0} → Result T DriveEnd → Driven → List Transfer → Type 0
ReceivesUntil (Ok _) new log = Ends None log
ReceivesUntil (Err (at.Device end)) new log = Ends (Some end) log
ReceivesUntil (Err at.Memory) new log = Ends None log × (new.waiting ≡ [])
ReceivesUntil (Err at.TooMany) new log = ⊥
ReceivesUntil (Err (at.Refused refusal)) new log = ⊥
