-- Which transfers of a session it is that goes over a kernel's device.
use Rattle.std.specs.Prelude.{◌≡◌, ℕ, List, [], ◌∷◌}
use Rattle.fuse_device.specs.Transfers.{Transfer, received, sent, unsent, stopped}
use Rattle.fuse_protocol.specs.declared.agreed.Agreed.{Agreed}
use Rattle.fuse_protocol.specs.declared.opcode.Opcode.{Opcode}
use Rattle.fuse_protocol.specs.Requests.{IsRequest, RequestMessage}
use Rattle.fuse_protocol.specs.Table.{row_at}
use Rattle.protocol_law.specs.Law.{Carries}
use Rattle.fuse_sessions.specs.declared.transfer.Transfer.{Transfer as Said}
use Rattle.fuse_sessions.specs.declared.transfer.Transfer.TheVariants as said

-- What a kernel sends is its request, and what it receives was written by a server, whatever the device made of it.
abbrev pub IsSaid : Transfer → Said → Type 0
IsSaid (sent frame result) (said.Request bytes) = bytes.now ≡ frame
IsSaid (received frame) (said.Written bytes t) = bytes.now ≡ frame
IsSaid (unsent frame end) said.Ended = Unit {0}
IsSaid (stopped end) said.Ended = Unit {0}
IsSaid t other = ⊥

abbrev pub AreSaid : List Transfer → List Said → Type 0
AreSaid [] [] = Unit {0}
AreSaid (t ∷ log) (u ∷ us) = IsSaid t u × AreSaid log us
AreSaid log us = ⊥

-- Each frame that was sent is such.
abbrev pub AllSent : (List ℕ → Type 0) → List Transfer → Type 0
AllSent IsSuch [] = Unit {0}
AllSent IsSuch (sent frame result ∷ log) = IsSuch frame × AllSent IsSuch log
AllSent IsSuch (received frame ∷ log) = AllSent IsSuch log
AllSent IsSuch (unsent frame end ∷ log) = AllSent IsSuch log
AllSent IsSuch (stopped end ∷ log) = AllSent IsSuch log

-- A frame is a request of a row, whatever was agreed on but names of 255 bytes, CREATE with its umask, and no extensions.
abbrev pub IsShaped : List ℕ → Type 0
IsShaped frame = (agreed : Agreed) → Carries agreed → (o : Opcode) × (m : RequestMessage) × IsRequest agreed frame (row_at o) m
