-- What the lines of a file say, as the definitions have it.
use Rattle.std.specs.Prelude.{ℕ, List, [], Option, Result, Ok, Err, map, option_map}
use Rattle.fuse_spec.specs.Calls.Calls.{write}
use Rattle.fuse_spec.specs.World.Events.{Event, call}
use Rattle.fw_world.specs.Values.{event_of}
use Rattle.hex.specs.Hex.{decode_of}
use Rattle.hex.specs.declared.error.FromHexError.{FromHexError}
use Rattle.order_law.specs.Moments.{Act as ActValue, Part as PartValue, line, forgetting, alone, group}
use Rattle.fw_orders.specs.declared.act.Act.{Act}
use Rattle.fw_orders.specs.declared.act.Act.TheVariants as acts
use Rattle.fw_orders.specs.declared.act.WriteCall.{WriteCall}
use Rattle.fw_orders.specs.declared.part.Part.{Part}
use Rattle.fw_orders.specs.declared.part.Part.TheVariants as parts

-- the bytes that hex spells: none, where it is `-`
abbrev pub bytes_or_none : Result (List ℕ) FromHexError → List ℕ
bytes_or_none (Ok bytes) = bytes
bytes_or_none (Err fault) = []

abbrev pub hex_bytes : List ℕ → List ℕ
hex_bytes hex = bytes_or_none (decode_of hex)

-- the event of a call whose bytes are in hex
abbrev pub write_event : WriteCall → Event
write_event made = call (write made.open_call made.offset (hex_bytes made.hex.now))

-- the steps, and the parts of a file
abbrev pub act_of : Act → ActValue
act_of (acts.Event event text) = line text.now (event_of event)
act_of (acts.Write made text) = line text.now (write_event made)
act_of acts.Forget = forgetting

abbrev pub acts_of : List Act → List ActValue
acts_of xs = map act_of xs

abbrev pub step_of : Option Act → Option ActValue
step_of act = option_map act_of act

abbrev pub part_of : {A : Type 0} → Part A → PartValue
part_of (parts.Alone act) = alone (act_of act)
part_of (parts.Group calls step) = group (acts_of calls.items) (step_of step)

abbrev pub parts_of : {A : Type 0} → List (Part A) → List PartValue
parts_of xs = map part_of xs
