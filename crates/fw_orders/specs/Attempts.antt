-- What the steps of an order come to, one at a time.
use Rattle.std.specs.Prelude.{◌≡◌, ℕ, ◌+◌, List, [], ◌∷◌, ◌++◌, Option, Some, None, codes}
use Rattle.fuse_spec.specs.declared.Refusal.{Refusal}
use Rattle.fuse_spec.specs.World.Events.{Event, Outcome, is_read, read_forgets, settle, take, write}
use Rattle.fuse_spec.specs.World.Steps.{Happens, IsRefused}
use Rattle.fuse_spec.specs.World.Worlds.{World}
use Rattle.order_law.specs.Moments.{AllTried, Moment, Tried, said}
use Rattle.fw_world.specs.declared.event.Outcome.{Outcome as OutcomeValue}
use Rattle.fw_world.specs.declared.event.Outcome.TheVariants as outcome

-- the moment with so much more in its script
abbrev pub then_said : Moment → List ℕ → Moment
then_said m text = said m text m.world

-- the moment in another world
abbrev pub in_world : Moment → World → Moment
in_world m w = record m { world = w }

-- the moment with one reply more that was left
abbrev pub one_more_left : Moment → Moment
one_more_left m = record m { left = m.left + 1 }

-- An event is refused for another reason than memory.
abbrev pub CannotHappen : Moment → Event → Type 0
CannotHappen m event = (refusal : Refusal) × IsRefused m.world event refusal

-- An event happens in a world, with this outcome, or is refused and changes nothing.
abbrev pub AttemptedIn : World → Event → Option Outcome → World → Type 0
AttemptedIn w event (Some outcome) new = Happens w event outcome new
AttemptedIn w event None new = ((refusal : Refusal) × IsRefused w event refusal) × (new ≡ w)

-- The same of a moment.
abbrev pub Attempted : Moment → Event → Option Outcome → Moment → Type 0
Attempted m event (Some outcome) new = (w : World) × Happens m.world event outcome w × (new ≡ in_world m w)
Attempted m event None new = CannotHappen m event × (new ≡ m)

-- An event is tried, and events one after another.
abbrev pub IsTried : Moment → Event → Moment → Type 0
IsTried m event new = (w : World) × Tried m.world event w × (new ≡ in_world m w)

abbrev pub AreTried : Moment → List Event → Moment → Type 0
AreTried m events new = (w : World) × AllTried m.world events w × (new ≡ in_world m w)

-- the number of the request that was read
abbrev pub unique_read : OutcomeValue → Option ℕ
unique_read (outcome.Read unique opcode len) = Some unique
unique_read other = None

-- The oldest reply that was left is taken.
pub record ReplyTaken (m new : Moment) : Type 0 where
  pub left : ℕ
  pub had : m.left ≡ left + 1
  pub w : World
  pub tries : AllTried m.world (write 0 ∷ settle 0 ∷ []) w
  pub is : new ≡ record { world = w; script = m.script ++ codes "write\n"; left = left }

-- One forget that is queued is read.
pub record ForgetRead (m new : Moment) : Type 0 where
  pub unique : ℕ
  pub first : World
  pub w : World
  pub reads : Happens m.world (read_forgets 1) (is_read unique) first
  pub tries : Tried first (take 0) w
  pub is : new ≡ said m (codes "read f 1\n") w
