-- Where choices lead in a file.
use Rattle.std.specs.Prelude.{◌≡◌, ℕ, List, [], ◌∷◌, Option, Some, None, is_some, nat_lt, codes}
use Rattle.fuse_spec.specs.declared.Minor.TheVariants.{M31}
use Rattle.fuse_spec.specs.World.Events.{mount}
use Rattle.fuse_spec.specs.World.Worlds.{first_world}
use Rattle.order_law.specs.Moments.{Act, Answered, Asked, Begun, Carries, IsLacking, Moment, Part, alone, group, line, Stepped}
use Rattle.order_search.specs.declared.choice.Choice.{Choice}
use Rattle.order_search.specs.declared.choice.Choice.TheVariants.{Trip, Ask, Step, Over}
use Rattle.order_search.specs.declared.choice.Standing.{Standing}
use Rattle.order_search.specs.declared.choice.Standing.TheVariants.{Ended, Choosing, Lacking}

-- Before a part, or among the messages of a group, with the step that is still to come.
pub data Place : Type 0 where
  between : Place
  among : (due : Option Act) → Place

-- What is chosen among the messages of a group is there, and leads to a place.
pub data Chooses (m : Moment) (due : Option Act) : Choice → Moment → Place → Type 0 where
  answers : (place : ℕ) (new : Moment) → Answered m place new → Chooses m due (Trip place) new (among due)
  asks : (place : ℕ) (new : Moment) → Asked m place new → Chooses m due (Ask place) new (among due)
  steps : (act : Act) (new : Moment) → due ≡ Some act → Stepped m act new → Chooses m due Step new (among None)
  goes_on : Chooses m due Over m between

-- It is not there: nothing is pending at its place, or the step was taken.
pub data IsMissing (m : Moment) (due : Option Act) : Choice → Type 0 where
  no_trip : (place : ℕ) → IsLacking m place → IsMissing m due (Trip place)
  no_ask : (place : ℕ) → IsLacking m place → IsMissing m due (Ask place)
  no_step : due ≡ None → IsMissing m due Step

-- From a place before these parts the choices lead there, at this moment.
pub data Follows : Moment → Place → List Part → List Choice → Standing → Moment → Type 0 where
  file_over : (m : Moment) (choices : List Choice) → Follows m between [] choices Ended m
  alone_next : (m mid : Moment) (act : Act) (parts : List Part) (choices : List Choice) (standing : Standing)
      (last : Moment) → Carries m act mid → Follows mid between parts choices standing last
      → Follows m between (alone act ∷ parts) choices standing last
  group_next : (m mid : Moment) (calls : List Act) (step : Option Act) (parts : List Part) (choices : List Choice)
      (standing : Standing) (last : Moment) → Begun m calls mid → Follows mid (among step) parts choices standing last
      → Follows m between (group calls step ∷ parts) choices standing last
  to_choose : (m : Moment) (due : Option Act) (parts : List Part)
      → Follows m (among due) parts [] (Choosing (is_some due) (nat_lt 0 m.left)) m
  chosen : (m mid : Moment) (due : Option Act) (place : Place) (parts : List Part) (choice : Choice)
      (choices : List Choice) (standing : Standing) (last : Moment) → Chooses m due choice mid place
      → Follows mid place parts choices standing last → Follows m (among due) parts (choice ∷ choices) standing last
  missing : (m : Moment) (due : Option Act) (parts : List Part) (choice : Choice) (choices : List Choice)
      → IsMissing m due choice → Follows m (among due) parts (choice ∷ choices) Lacking m

-- The moment before the mount.
abbrev pub first_moment : Moment
first_moment = record { world = first_world; script = []; left = 0 }

-- The kernel mounts, names are valid for no time, and what comes of the mount, which is INIT, is answered.
abbrev pub IsMounted : Moment → Type 0
IsMounted m = Carries first_moment (line (codes "mount 0 0") (mount 0 0 M31)) m

-- In a file of these parts the choices lead there, with this script.
pub record LeadsIn (parts : List Part) (choices : List Choice) (standing : Standing) (script : List ℕ) : Type 0 where
  pub mounted : Moment
  pub last : Moment
  pub mounts : IsMounted mounted
  pub follows : Follows mounted between parts choices standing last
  pub said : last.script ≡ script
