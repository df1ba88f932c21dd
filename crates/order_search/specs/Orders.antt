-- All orders of the messages of some calls.
use Rattle.std.specs.Prelude.{◌≡◌, ℕ, ◌+◌, ◌<◌, Bool, true, false, cond, List, [], ◌∷◌, ◌++◌, length, nat_eq}
use Rattle.order_search.specs.declared.choice.Choice.{Choice}
use Rattle.order_search.specs.declared.choice.Choice.TheVariants.{Trip, Ask, Step, Over}
use Rattle.order_search.specs.declared.choice.Standing.{Standing}
use Rattle.order_search.specs.declared.choice.Standing.TheVariants.{Ended, Choosing, Lacking}
use Rattle.order_search.specs.declared.course.Wanted.{Wanted}
use Rattle.order_search.specs.declared.course.Wanted.TheVariants.{All, Nth, Number}

-- one choice more
abbrev pub then_choice : List Choice → Choice → List Choice
then_choice choices choice = choices ++ choice ∷ []

-- a request at a place is read and answered, or read alone
abbrev pub at_place : (is_answered : Bool) → ℕ → Choice
at_place true place = Trip place
at_place false place = Ask place

-- `Leads` says where choices lead, with the script of what they do.
mutual
  -- All orders that begin with these choices, each by its script, in turn.
  pub data AreOrders (Leads : List Choice → Standing → List ℕ → Type 0) : List Choice → List (List ℕ) → Type 0 where
    -- the file is over
    ended : (choices : List Choice) (script : List ℕ) → Leads choices Ended script
        → AreOrders Leads choices (script ∷ [])
    -- The single step is to come, and no reply was left: a request is read and answered, or read alone, or the step
    -- comes.
    due : (choices : List Choice) (script : List ℕ) (trip_count ask_count : ℕ) (trips asks steps : List (List ℕ))
        → Leads choices (Choosing true false) script → AtPlaces Leads true choices trip_count trips
        → AtPlaces Leads false choices ask_count asks → AreOrders Leads (then_choice choices Step) steps
        → AreOrders Leads choices (trips ++ asks ++ steps)
    -- a reply was left: so are those that follow, until the step
    due_with_replies : (choices : List Choice) (script : List ℕ) (ask_count : ℕ) (asks steps : List (List ℕ))
        → Leads choices (Choosing true true) script → AtPlaces Leads false choices ask_count asks
        → AreOrders Leads (then_choice choices Step) steps
        → AreOrders Leads choices (asks ++ steps)
    -- no step is to come: a request is read and answered
    pending : (choices : List Choice) (script : List ℕ) (has_left : Bool) (trip_count : ℕ) (trips : List (List ℕ))
        → Leads choices (Choosing false has_left) script → 0 < trip_count
        → AtPlaces Leads true choices trip_count trips → AreOrders Leads choices trips
    -- and where none is pending, the file goes on
    over : (choices : List Choice) (script : List ℕ) (has_left : Bool) (none others : List (List ℕ))
        → Leads choices (Choosing false has_left) script → AtPlaces Leads true choices 0 none
        → AreOrders Leads (then_choice choices Over) others → AreOrders Leads choices (none ++ others)

  -- The orders that go on with such a choice at each place, of which there are so many.
  pub data AtPlaces (Leads : List Choice → Standing → List ℕ → Type 0) : (is_answered : Bool) → List Choice → ℕ
      → List (List ℕ) → Type 0 where
    until : (is_answered : Bool) (choices : List Choice) (count : ℕ) (orders : List (List ℕ)) (lacking : List ℕ)
        → Below Leads is_answered choices count orders
        → Leads (then_choice choices (at_place is_answered count)) Lacking lacking
        → AtPlaces Leads is_answered choices count orders

  -- the same at the places below this number
  pub data Below (Leads : List Choice → Standing → List ℕ → Type 0) : (is_answered : Bool) → List Choice → ℕ
      → List (List ℕ) → Type 0 where
    no_place : (is_answered : Bool) (choices : List Choice) → Below Leads is_answered choices 0 []
    one_place : (is_answered : Bool) (choices : List Choice) (place : ℕ) (orders more : List (List ℕ))
        → Below Leads is_answered choices place orders
        → AreOrders Leads (then_choice choices (at_place is_answered place)) more
        → Below Leads is_answered choices (place + 1) (orders ++ more)

-- Whether the order of this number is printed.
abbrev pub is_wanted : Wanted → ℕ → Bool
is_wanted All number = true
is_wanted (Nth wanted) number = nat_eq wanted number
is_wanted Number number = false

-- The orders of these that are printed, with their numbers, where so many came before.
abbrev pub wanted_of : Wanted → ℕ → List (List ℕ) → List (ℕ × List ℕ)
wanted_of wanted before [] = []
wanted_of wanted before (script ∷ scripts) =
    cond (is_wanted wanted (before + 1)) ((before + 1, script) ∷ []) [] ++ wanted_of wanted (before + 1) scripts

-- the order that ends there, if one does
abbrev pub ended_with : Standing → List ℕ → List (List ℕ)
ended_with Ended script = script ∷ []
ended_with other script = []

-- What a search printed of these orders, where so many came before.
pub record Printed {P : Type 0} (prints : P → P → List (ℕ × List ℕ) → Type 0) (old new : P) (wanted : Wanted)
    (before after : ℕ) (orders : List (List ℕ)) : Type 0 where
  pub counted : after ≡ before + length orders
  pub printed : prints old new (wanted_of wanted before orders)

-- All orders that begin with these choices were found, and those that are wanted were printed.
pub record Explored {P : Type 0} (Leads : List Choice → Standing → List ℕ → Type 0)
    (prints : P → P → List (ℕ × List ℕ) → Type 0) (choices : List Choice) (wanted : Wanted) (before after : ℕ)
    (old new : P) : Type 0 where
  pub orders : List (List ℕ)
  pub all : AreOrders Leads choices orders
  pub printed : Printed prints old new wanted before after orders

-- The same at each place: so many there are.
pub record ExploredPlaces {P : Type 0} (Leads : List Choice → Standing → List ℕ → Type 0)
    (prints : P → P → List (ℕ × List ℕ) → Type 0) (is_answered : Bool) (choices : List Choice) (count : ℕ)
    (wanted : Wanted) (before after : ℕ) (old new : P) : Type 0 where
  pub orders : List (List ℕ)
  pub all : AtPlaces Leads is_answered choices count orders
  pub printed : Printed prints old new wanted before after orders

-- These choices are not there, and nothing was printed.
pub record IsAbsent {P : Type 0} (Leads : List Choice → Standing → List ℕ → Type 0)
    (prints : P → P → List (ℕ × List ℕ) → Type 0) (choices : List Choice) (before after : ℕ) (old new : P)
    : Type 0 where
  pub script : List ℕ
  pub lacking : Leads choices Lacking script
  pub silent : prints old new []
  pub counted : after ≡ before

-- What following these choices came to: an order is found where they lead to the end of the file, and nothing else is
-- printed.
pub record Looked {P : Type 0} (Leads : List Choice → Standing → List ℕ → Type 0)
    (prints : P → P → List (ℕ × List ℕ) → Type 0) (choices : List Choice) (wanted : Wanted) (before after : ℕ)
    (old new : P) (standing : Standing) : Type 0 where
  pub script : List ℕ
  pub leads : Leads choices standing script
  pub printed : Printed prints old new wanted before after (ended_with standing script)

-- The same at each place below this number.
pub record ExploredBelow {P : Type 0} (Leads : List Choice → Standing → List ℕ → Type 0)
    (prints : P → P → List (ℕ × List ℕ) → Type 0) (is_answered : Bool) (choices : List Choice) (place : ℕ)
    (wanted : Wanted) (before after : ℕ) (old new : P) : Type 0 where
  pub orders : List (List ℕ)
  pub all : Below Leads is_answered choices place orders
  pub printed : Printed prints old new wanted before after orders
