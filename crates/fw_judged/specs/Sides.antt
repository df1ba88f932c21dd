-- Which transfer of a session a call over a device is.
use Rattle.std.specs.Prelude.{◌≡◌, ℕ, List, [], ◌∷◌, Option, Some, None, false}
use Rattle.fuse_spec.specs.declared.WriteResult.{WriteResult}
use Rattle.fuse_spec.specs.declared.WriteResult.TheVariants.{Accepted, NoEntry, Invalid}
use Rattle.fuse_sessions.specs.declared.act.Act.{Act}
use Rattle.fuse_sessions.specs.declared.act.Act.TheVariants.{Takes}
use Rattle.fuse_sessions.specs.declared.act.Asked.{Asked}
use Rattle.fuse_sessions.specs.declared.act.Fit.{Fit}
use Rattle.fuse_sessions.specs.declared.act.Fit.TheVariants.{Fits, FitsNot, MayFit}
use Rattle.fuse_sessions.specs.declared.act.Taken.{Taken}
use Rattle.fuse_sessions.specs.declared.act.Taken.TheVariants as taken
use Rattle.fuse_sessions.specs.declared.known.Known.{Known}
use Rattle.fuse_sessions.specs.declared.transfer.Transfer.{Transfer as Said}
use Rattle.fuse_sessions.specs.declared.transfer.Transfer.TheVariants as said
use Rattle.fuse_sessions.specs.Frames.{AreActs}
use Rattle.fuse_sessions.specs.Waiting.{waits}
use Rattle.session_frames.specs.Numbers.{IsReplyNumber}
use Rattle.fuse_device.specs.Transfers.{Transfer, received, sent, stopped, unsent}
use Rattle.fw_judged.specs.Judged.{Seen}

-- ---- a kernel at the other side

-- what the device made of a frame
abbrev pub taken_of : WriteResult → Taken
taken_of Accepted = taken.Accepted
taken_of NoEntry = taken.NoEntry
taken_of Invalid = taken.Invalid

-- A kernel's requests are received, and what is sent is written to it, with what it made of it.
abbrev pub OfKernel : Seen → Transfer → Said → Type 0
OfKernel s (received frame) (said.Request bytes) = bytes.now ≡ frame
OfKernel s (sent frame result) (said.Written bytes t) = (bytes.now ≡ frame) × (t ≡ taken_of result)
OfKernel s (unsent frame end) said.Ended = Unit {0}
OfKernel s (stopped end) said.Ended = Unit {0}
OfKernel s t other = ⊥

-- ---- a server at the other side

-- As a reply is taken of which nothing is heard: as accepted, unless nothing waits for it, or its body does not fit. So the
-- device's rules accuse nobody.
abbrev pub taking : Option Asked → Fit → Taken
taking None fit = taken.NoEntry
taking (Some a) Fits = taken.Accepted
taking (Some a) FitsNot = taken.Invalid
taking (Some a) MayFit = taken.Accepted

-- the first act that takes a reply decides; what is no reply to a request is accepted
abbrev pub taking_by : Option Asked → List Act → Taken
taking_by asked [] = taken.Accepted
taking_by asked (Takes unique t fit ∷ acts) = taking asked fit
taking_by asked (a ∷ acts) = taking_by asked acts

-- What a frame is read by: how large a body may be was agreed on, or is known of its request.
abbrev pub reading : Known → Known
reading k = record { offered = None; agreed = k.agreed; has_resent = false; unjudged = k.unjudged }

-- What a server writes is taken so: by the acts that it would be if it were accepted, and by what waits under its number.
abbrev pub IsTaken : Seen → Said → Type 0
IsTaken s (said.Written bytes t) = (number : ℕ) × (acts : List Act) × (later : Known)
    × IsReplyNumber (said.Written bytes taken.Accepted) number
    × AreActs (reading s.known) s.acts (said.Written bytes taken.Accepted) acts later
    × (t ≡ taking_by (waits s.acts number) acts)
IsTaken s other = Unit {0}

-- A server is sent requests, and what it writes is received.
abbrev pub OfServer : Seen → Transfer → Said → Type 0
OfServer s (sent frame result) (said.Request bytes) = bytes.now ≡ frame
OfServer s (received frame) (said.Written bytes t) = (bytes.now ≡ frame) × IsTaken s (said.Written bytes t)
OfServer s (unsent frame end) said.Ended = Unit {0}
OfServer s (stopped end) said.Ended = Unit {0}
OfServer s t other = ⊥
