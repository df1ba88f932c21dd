-- What the two sides send over a link of bytes.
use Rattle.std.specs.Prelude.{◌≡◌, ◌≢◌, ℕ, ◌-◌, ℤ, pos, negsuc, false, List, [], Option, Some, length, slice_get}
use Rattle.fuse_spec.specs.declared.ReplyResult.{ReplyResult}
use Rattle.fuse_spec.specs.declared.WriteResult.{WriteResult}
use Rattle.fuse_spec.specs.declared.WriteResult.TheVariants.{Accepted, NoEntry, Invalid}
use Rattle.fuse_spec.specs.Kernel.Messages.{Request}
use Rattle.fuse_spec.specs.World.Worlds.{World, Sent}
use Rattle.fuse_spec.specs.World.Events.{Event, Outcome, abort, aborted, is_read, taken, performed, sent_again, written}
use Rattle.fuse_spec.specs.World.Steps.{Happens}
use Rattle.fuse_spec.specs.declared.Taken.TheVariants.{Again}
use Rattle.fk_wire.specs.Results.{SpellsResult}
use Rattle.fuse_frames.specs.RequestTies.{IsRequestFrame}
use Rattle.fw_link.specs.declared.side.Side.{Side}
use Rattle.fw_link.specs.declared.side.Side.TheVariants.{Kernel, Server}
use Rattle.fw_link.specs.Carrying.{IsLost}
use Rattle.fw_link.specs.Envelopes.{envelope_spelling}
use Rattle.fw_link.specs.Traffic.{Traffic, no_traffic, sent}
use Rattle.fw_world.specs.Frames.{IsCopyFrame}

-- the last of a list
abbrev pub last_of : {E : Type 0} → List E → Option E
last_of list = slice_get list (length list - 1)

-- the error number of a reply's result, as its frame has it: 0, or negated ENOENT or EINVAL
abbrev pub result_error : WriteResult → ℤ
result_error Accepted = pos 0
result_error NoEntry = negsuc 1
result_error Invalid = negsuc 21

-- an envelope, with the side that sends it
pub record Sending : Type 0 where
  pub from : Side
  pub kind : ℕ
  pub copy : ℕ
  pub frame : List ℕ

-- the bytes of an envelope
abbrev pub sending_bytes : Sending → List ℕ
sending_bytes e = envelope_spelling e.kind e.copy e.frame

-- the frame of the last request on its link
pub record SendsRequest (w : World) (e : Sending) : Type 0 where
  pub request : Request
  pub is_last : last_of w.requests ≡ Some request
  pub spells : IsRequestFrame e.frame request
  pub from : e.from ≡ Kernel
  pub kind : e.kind ≡ 0
  pub copy : e.copy ≡ 0

-- the frame of the last copy on its link
pub record SendsReply (w : World) (e : Sending) : Type 0 where
  pub reply : Sent
  pub is_last : last_of w.replies ≡ Some reply
  pub frame : IsCopyFrame e.frame reply
  pub from : e.from ≡ Server
  pub kind : e.kind ≡ 1
  pub copy : e.copy ≡ reply.number

-- the frame of the last result on its link
pub record SendsResult (w : World) (e : Sending) : Type 0 where
  pub result : ReplyResult
  pub is_last : last_of w.results ≡ Some result
  pub spells : SpellsResult e.frame (result_error result.result) result.unique
  pub from : e.from ≡ Kernel
  pub kind : e.kind ≡ 2
  pub copy : e.copy ≡ result.number

-- An envelope of this kind was put on the link and got at the other end, and nothing else.
pub record Carries (Sends : Sending → Type 0) (carries : Traffic → Type 0) : Type 0 where
  pub envelope : Sending
  pub sends : Sends envelope
  pub carried : carries (sent envelope.from (sending_bytes envelope) (sending_bytes envelope))

-- An envelope of this kind was lost on the link.
pub record LosesEnvelope (Sends : Sending → Type 0) (carries : Traffic → Type 0) (before after : ℕ) : Type 0 where
  pub envelope : Sending
  pub sends : Sends envelope
  pub is_lost : IsLost carries envelope.from (sending_bytes envelope) before after

-- What an accepted event with this outcome did to the link: its envelope came through, or it sends none. The world is
-- the one after the event.
abbrev pub IsSent : World → Outcome → (Traffic → Type 0) → Type 0
IsSent w (is_read unique) carries = Carries (SendsRequest w) carries
IsSent w (taken unique Again) carries = Carries (SendsReply w) carries
IsSent w (performed unique errno false) carries = Carries (SendsReply w) carries
IsSent w (sent_again unique) carries = Carries (SendsReply w) carries
IsSent w (written unique result) carries = Carries (SendsResult w) carries
IsSent w outcome carries = carries no_traffic

-- The envelope of such an event was lost on the link.
abbrev pub IsLostOn : World → Outcome → (Traffic → Type 0) → (before after : ℕ) → Type 0
IsLostOn w (is_read unique) carries before after = LosesEnvelope (SendsRequest w) carries before after
IsLostOn w (taken unique Again) carries before after = LosesEnvelope (SendsReply w) carries before after
IsLostOn w (performed unique errno false) carries before after = LosesEnvelope (SendsReply w) carries before after
IsLostOn w (sent_again unique) carries before after = LosesEnvelope (SendsReply w) carries before after
IsLostOn w (written unique result) carries before after = LosesEnvelope (SendsResult w) carries before after
IsLostOn w outcome carries before after = ⊥

-- what is sent is on its link
abbrev pub IsOut : World → Outcome → Type 0
IsOut w (is_read unique) = w.requests ≢ []
IsOut w (taken unique Again) = w.replies ≢ []
IsOut w (performed unique errno false) = w.replies ≢ []
IsOut w (sent_again unique) = w.replies ≢ []
IsOut w (written unique result) = w.results ≢ []
IsOut w outcome = Unit {0}

-- The event was accepted, its envelope was lost on the link, and the mount was aborted in the same step.
pub record LosesIn (w : World) (event : Event) (outcome : Outcome) (after : World) (carries : Traffic → Type 0)
    (failed_before failed_after : ℕ) : Type 0 where
  pub mid : World
  pub happens : Happens w event outcome mid
  pub is_lost : IsLostOn mid outcome carries failed_before failed_after
  pub aborts : Happens mid abort aborted after
