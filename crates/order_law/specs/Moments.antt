-- What an order of messages does in a world, and the script that says it.
use Rattle.std.specs.Prelude.{◌≡◌, ℕ, ◌+◌, List, [], ◌∷◌, ◌++◌, Option, codes, decimal}
use Rattle.fuse_spec.specs.declared.Refusal.{Refusal}
use Rattle.fuse_spec.specs.World.Events.{Event, Outcome, read_interrupt, read_forgets, read_pending, is_read, take, perform, write, settle}
use Rattle.fuse_spec.specs.World.Steps.{Happens, IsRefused}
use Rattle.fuse_spec.specs.World.Worlds.{World}

-- How far an order has come: the world, the script so far, and how many replies were left untaken.
pub record Moment : Type 0 where
  pub world : World
  pub script : List ℕ
  pub left : ℕ

-- A step of the kernel: an event with the line that says it, or a read of all forgets that are queued.
pub data Act : Type 0 where
  line : (text : List ℕ) (event : Event) → Act
  forgetting : Act

-- A part of a file: a step whose requests are answered before what follows; or calls that run together, with the single
-- step among them.
pub data Part : Type 0 where
  alone : (act : Act) → Part
  group : (calls : List Act) (step : Option Act) → Part

-- An event is tried: it happens, or is refused for another reason than memory, and changes nothing.
pub data Tried (w : World) (event : Event) : World → Type 0 where
  happens : (outcome : Outcome) (new : World) → Happens w event outcome new → Tried w event new
  is_refused : (refusal : Refusal) → IsRefused w event refusal → Tried w event w

-- Events are tried one after another.
pub data AllTried : World → List Event → World → Type 0 where
  no_event : (w : World) → AllTried w [] w
  one_event : (w : World) (event : Event) (mid : World) (events : List Event) (new : World) → Tried w event mid
      → AllTried mid events new → AllTried w (event ∷ events) new

-- the moment in this world, with so much more in its script
abbrev pub said : Moment → List ℕ → World → Moment
said m text w = record m { world = w; script = m.script ++ text }

-- The INTERRUPT that a signal queued is read, if it queued one.
pub data InterruptRead (m : Moment) : Moment → Type 0 where
  one_queued : (unique : ℕ) (first new : World) → Happens m.world read_interrupt (is_read unique) first
      → Tried first (take 0) new → InterruptRead m (said m (codes "read i\n") new)
  none_queued : (refusal : Refusal) → IsRefused m.world read_interrupt refusal → InterruptRead m m

-- No request is pending at this place.
abbrev pub IsLacking : Moment → (place : ℕ) → Type 0
IsLacking m place = (refusal : Refusal) × IsRefused m.world (read_pending place) refusal

-- The request at this place of the pending ones is read, and the server performs it. Its reply is left.
pub record Asked (m : Moment) (place : ℕ) (new : Moment) : Type 0 where
  pub unique : ℕ
  pub first : World
  pub served : World
  pub read : Happens m.world (read_pending place) (is_read unique) first
  pub serves : AllTried first (take 0 ∷ perform unique ∷ []) served
  pub interrupted : InterruptRead (record {
    world = served;
    script = m.script ++ codes "read p " ++ decimal place ++ codes "\n";
    left = m.left + 1;
  }) new

-- All replies that were left are taken, the oldest first.
pub data RepliesTaken : Moment → Moment → Type 0 where
  none_left : (m : Moment) → m.left ≡ 0 → RepliesTaken m m
  one_left : (m : Moment) (left : ℕ) (w : World) (new : Moment) → m.left ≡ left + 1
      → AllTried m.world (write 0 ∷ settle 0 ∷ []) w
      → RepliesTaken (record { world = w; script = m.script ++ codes "write\n"; left = left }) new
      → RepliesTaken m new

-- The request at this place of the pending ones is read, and answered.
pub record Answered (m : Moment) (place : ℕ) (new : Moment) : Type 0 where
  pub asked : Moment
  pub reads : Asked m place asked
  pub takes : RepliesTaken asked new

-- All forgets that are queued are read, one by one.
pub data Forgotten : Moment → Moment → Type 0 where
  all_read : (m : Moment) (refusal : Refusal) → IsRefused m.world (read_forgets 1) refusal → Forgotten m m
  one_read : (m : Moment) (unique : ℕ) (first w : World) (new : Moment)
      → Happens m.world (read_forgets 1) (is_read unique) first → Tried first (take 0) w
      → Forgotten (said m (codes "read f 1\n") w) new → Forgotten m new

-- A step of the kernel is taken.
pub data Acts (m : Moment) : Act → Moment → Type 0 where
  by_line : (text : List ℕ) (event : Event) (w : World) → Tried m.world event w
      → Acts m (line text event) (said m (text ++ codes "\n") w)
  by_forgets : (new : Moment) → Forgotten m new → Acts m forgetting new

-- All requests that come of a step are answered, the oldest first.
pub data Carried : Moment → Moment → Type 0 where
  none_pending : (m : Moment) → IsLacking m 0 → Carried m m
  one_pending : (m mid new : Moment) → Answered m 0 mid → Carried mid new → Carried m new

-- The calls of a group are made.
pub data Begun : Moment → List Act → Moment → Type 0 where
  no_call : (m : Moment) → Begun m [] m
  one_call : (m : Moment) (call : Act) (mid : Moment) (calls : List Act) (new : Moment) → Acts m call mid
      → Begun mid calls new → Begun m (call ∷ calls) new

-- The single step of a group is taken, an INTERRUPT that it queued is read, and all replies that were left are taken.
pub record Stepped (m : Moment) (act : Act) (new : Moment) : Type 0 where
  pub acted : Moment
  pub interrupted : Moment
  pub acts : Acts m act acted
  pub reads : InterruptRead acted interrupted
  pub takes : RepliesTaken interrupted new

-- A step of the kernel is taken, and all requests that come of it are answered.
pub record Carries (m : Moment) (act : Act) (new : Moment) : Type 0 where
  pub acted : Moment
  pub acts : Acts m act acted
  pub carried : Carried acted new
