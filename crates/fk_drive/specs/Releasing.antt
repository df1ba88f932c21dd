-- How RELEASEDIR goes behind a frame that was written, and its reply is awaited.
use Rattle.std.specs.Prelude.{◌≡◌, ◌≤◌, ℕ, Bool, true, List, ◌++◌, Option, Some, None, Result, Ok, Err, length}
use Rattle.std.specs.Result.{result_err}
use Rattle.fuse_spec.specs.Kernel.Kernel.{Kernel}
use Rattle.fuse_device.specs.Transfers.{Transfer}
use Rattle.fuse_frames.specs.DecodedReplies.{HasReplyHead, head_unique}
use Rattle.fk_drive.specs.Driven.{KeepsWaiting, directories_in, driven}
use Rattle.fk_drive.specs.Driving.{Driven, DriveStep, ReleasesBehind, Runs, Turn, idle, releasing, is_released, waits, sets_aside, ends}
use Rattle.fk_drive.specs.Exchanges.{Ends}
use Rattle.fk_drive.specs.Rooms.{most_waiting}
use Rattle.fk_drive.specs.declared.connection.Connection.{Connection}
use Rattle.fk_drive.specs.declared.end.DriveEnd.{DriveEnd}
use Rattle.fk_drive.specs.declared.end.DriveEnd.TheVariants as at

-- The reply to RELEASEDIR is awaited.
abbrev pub IsReleasing : Turn → Type 0
IsReleasing (releasing unique) = Unit {0}
IsReleasing turn = ⊥

-- That, and this frame is another.
abbrev pub IsStillReleasing : Turn → List ℕ → Type 0
IsStillReleasing (releasing unique) frame = HasReplyHead frame → head_unique frame ≡ unique → ⊥
IsStillReleasing turn frame = ⊥

-- A frame is received while it is: the reply, or another, which waits for the kernel or is set aside. Or the device ends.
abbrev pub IsAwaitingRelease : {old : Driven} {log : List Transfer} {new : Driven} → DriveStep old log new → Type 0
IsAwaitingRelease (is_released unique turn frame head under) = Unit {0}
IsAwaitingRelease {old = old} (waits frame is) = IsStillReleasing old.turn frame
IsAwaitingRelease {old = old} (sets_aside frame is) = IsStillReleasing old.turn frame
IsAwaitingRelease {old = old} (ends end) = IsReleasing old.turn
IsAwaitingRelease step = ⊥

abbrev pub ReleaseStep : Driven → List Transfer → Driven → Type 0
ReleaseStep old log new = (step : DriveStep old log new) × IsAwaitingRelease step

-- The turn once RELEASEDIR was sent under a number, or none was. Where that failed, it was to have the number that came next.
abbrev pub turn_behind : Result (Option ℕ) DriveEnd → (next : ℕ) → Turn
turn_behind (Ok None) next = idle
turn_behind (Ok (Some own)) next = releasing own
turn_behind (Err end) next = releasing next

-- The turn once a frame was received, by whether that is the reply, and once the reply was awaited.
abbrev pub turn_received : Result Bool DriveEnd → (own : ℕ) → Turn
turn_received (Ok true) own = idle
turn_received other own = releasing own

abbrev pub turn_awaited : {T : Type 0} → Result T DriveEnd → (own : ℕ) → Turn
turn_awaited (Ok _) own = idle
turn_awaited (Err end) own = releasing own

-- Awaiting it failed as the device came to its end, as memory ran out, or as so many frames wait as are kept, and only so.
abbrev pub AwaitsRelease : {T : Type 0} → Result T DriveEnd → (waiting : List (List ℕ)) → List Transfer → Type 0
AwaitsRelease (Ok _) waiting log = Ends None log
AwaitsRelease (Err (at.Device end)) waiting log = Ends (Some end) log
AwaitsRelease (Err at.Memory) waiting log = Ends None log
AwaitsRelease (Err at.TooMany) waiting log = Ends None log × (most_waiting ≤ length waiting)
AwaitsRelease (Err (at.Refused refusal)) waiting log = ⊥

-- Where the run goes on behind a frame, no reply is awaited.
abbrev pub EndsBehind : Option DriveEnd → Driven → List Transfer → Type 0
EndsBehind None new log = Ends None log × (new.turn ≡ idle)
EndsBehind (Some (at.Device end)) new log = Ends (Some end) log × IsReleasing new.turn
EndsBehind (Some at.Memory) new log = Ends None log × IsReleasing new.turn
EndsBehind (Some at.TooMany) new log = Ends None log × IsReleasing new.turn × (most_waiting ≤ length new.waiting)
EndsBehind (Some (at.Refused refusal)) new log = ⊥

-- RELEASEDIR goes behind a frame, if it does, and its reply is awaited. The kernel stays the same.
pub record Releases {A D T : Type 0} (kernel : Kernel) (logs : D → D → List Transfer → Type 0) (before after : D)
    (frame : List ℕ) (result : Result T DriveEnd) (old new : Connection A) : Type 0 where
  pub mid : Connection A
  pub keeps : KeepsWaiting old mid
  pub log : List Transfer
  pub turn : Turn
  pub behind : ReleasesBehind frame old.next (directories_in old) log mid.next (directories_in mid) turn
  pub more : List Transfer
  pub over : logs before after (log ++ more)
  pub last : Turn
  pub awaits : Runs ReleaseStep (driven kernel mid turn) more (driven kernel new last)
  pub ends : EndsBehind (result_err result) (driven kernel new last) (log ++ more)
