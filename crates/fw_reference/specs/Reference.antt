-- A world in which the calls of another kernel's run are made again.
use Rattle.std.specs.Prelude.{◌≡◌, ℕ, Option, Some, None}
use Rattle.fuse_spec.specs.Calls.Calls.{Call as CallMade}
use Rattle.fuse_spec.specs.Values.Maps.{Map, get, put}
use Rattle.fuse_spec.specs.World.Events.{Event, Outcome}
use Rattle.fuse_spec.specs.World.Events as event
use Rattle.fuse_spec.specs.World.Steps.{Happens, IsRefused}
use Rattle.fuse_spec.specs.World.Worlds.{World}
use Rattle.fuse_spec.specs.declared.Refusal.{Refusal}
use Rattle.fk_syscalls.specs.declared.call.Call.{Call}
use Rattle.fk_syscalls.specs.declared.call.Call.TheVariants.{Open, Create, Read, Write, Close}
use Rattle.fw_world.specs.Runs.{call_collected}

-- The world goes on by events that happen, and by answers that are collected.
pub data GoesOn : World → World → Type 0 where
  stays : (w : World) → GoesOn w w
  happened : (first mid : World) → GoesOn first mid → (e : Event) (o : Outcome) (last : World) → Happens mid e o last
      → GoesOn first last
  collected : (first mid : World) → GoesOn first mid → (call : ℕ) → GoesOn first (call_collected mid call)

-- A call was made: it began under this number, and the world went on; or it is refused, and nothing happened.
abbrev pub IsMade : World → CallMade → Option ℕ → World → Type 0
IsMade old call (Some number) new = (mid : World) × Happens old (event.call call) (event.begun number) mid × GoesOn mid new
IsMade old call None new = (new ≡ old) × ((refusal : Refusal) × IsRefused old (event.call call) refusal)

-- the number here of a call there, 0 where it may have opened no file
abbrev pub number_of : Option ℕ → ℕ
number_of (Some number) = number
number_of None = 0

abbrev pub number_here : Map ℕ → ℕ → ℕ
number_here numbers call = number_of (get numbers call)

-- the call by the numbers here
abbrev pub call_here : Map ℕ → Call → Call
call_here numbers (Read open_call offset size) = Read (number_here numbers open_call) offset size
call_here numbers (Write open_call offset bytes) = Write (number_here numbers open_call) offset bytes
call_here numbers (Close open_call) = Close (number_here numbers open_call)
call_here numbers call = call

-- the numbers, once a call that has this number there was made under one here: it is noted of a call that may open a file
abbrev pub numbers_with : Map ℕ → Call → (number : ℕ) → Option ℕ → Map ℕ
numbers_with numbers (Open path) number (Some here) = put numbers number here
numbers_with numbers (Create path) number (Some here) = put numbers number here
numbers_with numbers call number here = numbers
