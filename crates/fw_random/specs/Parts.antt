-- The parts of a run of chosen lines.
use Rattle.std.specs.Prelude.{◌≡◌, ◌≤◌, ◌+◌, ◌-◌, ◌*◌, ◌++◌, [], ℕ, List, length}
use Rattle.std.proofs.Common.{arith, length-append}
use Rattle.fw_random.specs.declared.progress.Part.{Part}
use Rattle.fw_random.specs.declared.progress.Part.TheVariants.{Mount, Adopt, Draw, Drain, Look, Drop, Evict, End}

-- how far a run is: its part, how many events are still to be chosen, and how often all was forgotten
pub record Run : Type 0 where
  pub part : Part
  pub events : ℕ
  pub forgotten : ℕ

-- What is behind a run: from Drain on all events were chosen, and at the end all was forgotten and looked up again, twice.
abbrev pub HasBehind : Part → (events forgotten : ℕ) → Type 0
HasBehind Drain events forgotten = (events ≡ 0) × (forgotten ≡ 0)
HasBehind Look events forgotten = (events ≡ 0) × (forgotten ≤ 2)
HasBehind Drop events forgotten = (events ≡ 0) × (forgotten ≤ 2)
HasBehind Evict events forgotten = (events ≡ 0) × (forgotten ≤ 2)
HasBehind End events forgotten = (events ≡ 0) × (forgotten ≡ 2)
HasBehind other events forgotten = forgotten ≡ 0

abbrev pub part_behind : Part → Part
part_behind Mount = Adopt
part_behind Adopt = Draw
part_behind Draw = Drain
part_behind Drain = Look
part_behind Look = Drop
part_behind Drop = Evict
part_behind Evict = End
part_behind End = End

-- how many parts are to come: each time that all is forgotten, it is looked up, its names are dropped and its nodes evicted
abbrev pub parts_left : Part → (forgotten : ℕ) → ℕ
parts_left Mount forgotten = 13
parts_left Adopt forgotten = 12
parts_left Draw forgotten = 11
parts_left Drain forgotten = 10
parts_left Look forgotten = 3 + 3 * (2 - forgotten)
parts_left Drop forgotten = 2 + 3 * (2 - forgotten)
parts_left Evict forgotten = 1 + 3 * (2 - forgotten)
parts_left End forgotten = 0

-- Of the events that were to be chosen before, all that are not to be chosen now are among these lines.
abbrev pub HasChosen : (old new : Run) → List (List ℕ) → Type 0
HasChosen old new lines = old.events ≤ new.events + length lines

-- A run is over: all its events were chosen, and behind them all was forgotten, and looked up again, twice.
abbrev pub IsOver : Run → Type 0
IsOver run = (run.events ≡ 0) × (run.part ≡ End) × (run.forgotten ≡ 2)

pub none_chosen : (run : Run) → HasChosen run run []
none_chosen run = omega arith

pub chosen_in_turn : (first mid last : Run) (lines more : List (List ℕ)) → HasChosen first mid lines
    → HasChosen mid last more → HasChosen first last (lines ++ more)
chosen_in_turn first mid last lines more one two = omega (arith, length-append lines more, one, two)
