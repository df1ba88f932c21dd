-- The table of signals to a request, and the table of replies to its INTERRUPT.
use Rattle.std.specs.Prelude.{Bool, true, false}
use Rattle.fuse_spec.specs.declared.Mark.{Mark}
use Rattle.fuse_spec.specs.declared.Mark.TheVariants.{Unread, Flagged, Read, Interrupted}
use Rattle.fuse_spec.specs.declared.IntrEffect.{IntrEffect}
use Rattle.fuse_spec.specs.declared.IntrEffect.TheVariants.{Dequeued, Flagged as IsFlagged, Queued, None as NoEffect}
use Rattle.fuse_spec.specs.declared.InterruptReply.{InterruptReply}
use Rattle.fuse_spec.specs.declared.InterruptReply.TheVariants.{Again, NotSupported, Other}
use Rattle.fuse_spec.specs.declared.InterruptReplyEffect.{InterruptReplyEffect}
use Rattle.fuse_spec.specs.declared.InterruptReplyEffect.TheVariants.{QueuedAgain, TurnedOff, None as NoReplyEffect}

-- The effect of a signal, fatal or not, on a request with this mark; `off` says that an INTERRUPT of this mount was
-- answered ENOSYS. (fuse.rst)
abbrev pub signal_effect : (mark : Mark) (fatal off : Bool) → IntrEffect
-- unread: a fatal signal takes it out, whatever else; the first other one flags it
signal_effect Unread true off = Dequeued
signal_effect Flagged true off = Dequeued
signal_effect Unread false false = IsFlagged
signal_effect Unread false true = NoEffect
signal_effect Flagged false off = NoEffect
-- read: the first signal queues its INTERRUPT
signal_effect Read fatal false = Queued
signal_effect Read fatal true = NoEffect
signal_effect Interrupted fatal off = NoEffect

-- The effect of a reply to the INTERRUPT of a request with this mark; `queued` says that the INTERRUPT stands on its
-- list, and `off` that one of this mount was answered ENOSYS. (fuse.rst)
abbrev pub reply_effect : (reply : InterruptReply) (mark : Mark) (queued off : Bool) → InterruptReplyEffect
-- EAGAIN: the INTERRUPT of a request that was signalled and waits is queued once more, unless it is queued
reply_effect Again Interrupted false false = QueuedAgain
reply_effect Again Interrupted false true = NoReplyEffect
reply_effect Again Interrupted true off = NoReplyEffect
reply_effect Again Read queued off = NoReplyEffect
reply_effect Again Unread queued off = NoReplyEffect
reply_effect Again Flagged queued off = NoReplyEffect
-- ENOSYS, and all else
reply_effect NotSupported mark queued off = TurnedOff
reply_effect Other mark queued off = NoReplyEffect
