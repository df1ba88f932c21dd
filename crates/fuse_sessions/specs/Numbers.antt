-- The numbers of a session's requests.
use Rattle.std.specs.Prelude.{ℕ, Bool, true, false, ◌&&◌, ◌||◌, Option, Some, is_some, nat_eq, nat_lt, not, sum_by, if◌then◌else◌}
use Rattle.std.specs.List.{list_any}
use Rattle.fuse_protocol.specs.declared.opcode.Opcode.{Opcode}
use Rattle.fuse_protocol.specs.declared.opcode.Opcode.TheVariants as op
use Rattle.fuse_sessions.specs.declared.act.Act.{Act}
use Rattle.fuse_sessions.specs.declared.act.Act.TheVariants.{Read, Resent, Resends, Asks, Interrupts, RepliesToInterrupt, Agrees, SeveralReaders, SeveralWriters, Ends, Takes}
use Rattle.fuse_sessions.specs.declared.act.Taken.TheVariants as taken
use Rattle.fuse_sessions.specs.Sessions.{Session, Moment, moments, since}
use Rattle.fuse_sessions.specs.Waiting.{reaches, waits}

-- Requests that take no reply are numbered as they are read.
abbrev pub is_forget : Option Opcode → Bool
is_forget (Some op.Forget) = true
is_forget (Some op.BatchForget) = true
is_forget _ = false

-- the act reads a request under this number
abbrev pub reads : ℕ → Act → Bool
reads unique (Read opcode number) = nat_eq number unique
reads unique (Resent number original) = nat_eq number unique
reads unique act = false

abbrev pub was_read : Session → ℕ → Bool
was_read s unique = list_any (reads unique) s

-- the act reads a FORGET or a BATCH_FORGET under this number
abbrev pub reads_forget : ℕ → Act → Bool
reads_forget unique (Read opcode number) = nat_eq number unique && is_forget opcode
reads_forget unique act = false

abbrev pub was_forget : Session → ℕ → Bool
was_forget s unique = list_any (reads_forget unique) s

-- the act reads a request that takes a reply, under this number or a higher one
abbrev pub reads_request_from : ℕ → Act → Bool
reads_request_from unique (Read opcode number) = not (nat_lt number unique) && not (is_forget opcode)
reads_request_from unique act = false

-- A request was read whose number is not below this one. A FORGET is numbered as it is read, above those of
-- requests that are queued: so it is compared with requests alone.
abbrev pub is_out_of_order : Session → ℕ → Bool
is_out_of_order s unique = list_any (reads_request_from unique) s

-- something was read
abbrev pub is_reading : Act → Bool
is_reading (Read opcode unique) = true
is_reading act = false

abbrev pub was_anything_read : Session → Bool
was_anything_read s = list_any is_reading s

abbrev pub is_agreement : Act → Bool
is_agreement (Agrees max_write) = true
is_agreement act = false

-- INIT was accepted
abbrev pub has_agreed : Session → Bool
has_agreed s = list_any is_agreement s

abbrev pub is_of_several : Act → Bool
is_of_several SeveralReaders = true
is_of_several act = false

-- more than one thread reads the device
abbrev pub has_several_readers : Session → Bool
has_several_readers s = list_any is_of_several s

abbrev pub is_of_writers : Act → Bool
is_of_writers SeveralWriters = true
is_of_writers act = false

-- another thread than the one that reads writes replies
abbrev pub has_several_writers : Session → Bool
has_several_writers s = list_any is_of_writers s

-- More than one thread uses the device. A read stands where it ended, and a write where it began: so what one of them
-- shows may have happened before what another shows earlier.
abbrev pub has_several_threads : Session → Bool
has_several_threads s = has_several_readers s || has_several_writers s

-- INTERRUPTs

abbrev pub asks_under : ℕ → Act → Bool
asks_under unique (Asks number asked) = nat_eq number unique
asks_under unique act = false

abbrev pub interrupts_of : ℕ → Act → ℕ
interrupts_of original (Interrupts unique number) = if nat_eq number original then 1 else 0
interrupts_of original act = 0

abbrev pub agains_of : ℕ → Act → ℕ
agains_of original (RepliesToInterrupt number is_again t) = if nat_eq number original && (is_again && reaches t) then 1 else 0
agains_of original act = 0

-- how many INTERRUPTs of the request under a number were read since it was, and how many were answered EAGAIN
abbrev pub interrupts : Session → ℕ → ℕ
interrupts s original = sum_by (interrupts_of original) (since (asks_under original) s)

abbrev pub agains : Session → ℕ → ℕ
agains s original = sum_by (agains_of original) (since (asks_under original) s)

-- the end

abbrev pub is_resend : Act → Bool
is_resend Resends = true
is_resend act = false

-- The server asked for the requests that wait once more. They have other numbers from then on.
abbrev pub has_resent : Session → Bool
has_resent s = list_any is_resend s

-- The device refuses a reply that a request waits for, as to nothing: the connection has ended, unless the request has
-- another number by now.
abbrev pub shows_end : Moment → Bool
shows_end (before, Takes unique taken.NoEntry fit) = is_some (waits before unique) && not (has_resent before)
shows_end (before, Ends) = true
shows_end (before, act) = false

-- The connection has ended: no request is read any more, and no reply is accepted.
abbrev pub has_ended : Session → Bool
has_ended s = list_any shows_end (moments s)

-- And it had ended before what stands next: with several threads that may have been earlier.
abbrev pub is_surely_over : Session → Bool
is_surely_over s = has_ended s && not (has_several_threads s)
