-- What goes over a device.
use Rattle.std.specs.Prelude.{ℕ, List, [], ◌∷◌, Option, Some, None}
use Rattle.fuse_spec.specs.declared.WriteResult.{WriteResult}
use Rattle.fuse_device.specs.declared.device.DeviceEnd.{DeviceEnd}

-- One call over a device: a frame was received; one was sent, with this result; one was to be sent as the device came to
-- its end; one was to be received as it did.
pub data Transfer : Type 0 where
  received : (frame : List ℕ) → Transfer
  sent : (frame : List ℕ) → WriteResult → Transfer
  unsent : (frame : List ℕ) → DeviceEnd → Transfer
  stopped : DeviceEnd → Transfer

-- the end at which a call came to its end, if one did: the first
abbrev pub ended_in : List Transfer → Option DeviceEnd
ended_in [] = None
ended_in (received frame ∷ log) = ended_in log
ended_in (sent frame result ∷ log) = ended_in log
ended_in (unsent frame end ∷ log) = Some end
ended_in (stopped end ∷ log) = Some end
