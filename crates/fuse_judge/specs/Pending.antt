-- The requests that wait.
use Rattle.std.specs.Prelude.{◌≡◌, ℕ, ◌+◌, Bool, false, List, [], ◌∷◌, Option, Some, None, nat_eq, filter, sum_by}
use Rattle.fuse_spec.specs.Values.Maps.{Map, get}
use Rattle.fuse_sessions.specs.declared.act.Act.{Act}
use Rattle.fuse_sessions.specs.declared.act.Act.TheVariants as act
use Rattle.fuse_sessions.specs.declared.act.Asked.{Asked}
use Rattle.fuse_sessions.specs.declared.act.OpenFile.{OpenFile}
use Rattle.fuse_sessions.specs.Sessions.{Session}
use Rattle.fuse_sessions.specs.Waiting.{waiting, waits, asked_by, ends, is_that}
use Rattle.fuse_sessions.specs.Numbers.{interrupts, agains, asks_under, interrupts_of, agains_of}
use Rattle.fuse_judge.specs.declared.change.Change.{Change}
use Rattle.fuse_judge.specs.declared.change.Change.TheVariants as change
use Rattle.fuse_judge.specs.declared.handle.Handle.{Handle}
use Rattle.fuse_judge.specs.declared.pending.Waiting.{Waiting}
use Rattle.fuse_judge.specs.Handles.{handle, same_handle}
use Rattle.fuse_judge.specs.Tallies.{Counts, count_in, one_if}

-- What an act does to the request under a number, where it asks none.
pub record HasEffect (unique : ℕ) (act : Act) (is_end : Bool) (more replied : ℕ) : Type 0 where
  pub ending : ends unique act ≡ is_end
  pub asking : asked_by act ≡ []
  pub under : asks_under unique act ≡ false
  pub interrupting : interrupts_of unique act ≡ more
  pub again : agains_of unique act ≡ replied

-- This is what an act does to the requests that wait.
abbrev pub IsChange : Act → Change → Type 0
IsChange a change.Nothing = (unique : ℕ) → HasEffect unique a false 0 0
IsChange a (change.Asks unique asked) = a ≡ act.Asks unique asked
IsChange a (change.Ends number) = (unique : ℕ) → HasEffect unique a (nat_eq number unique) 0 0
IsChange a (change.Interrupts number) = (unique : ℕ) → HasEffect unique a false (one_if (nat_eq number unique)) 0
IsChange a (change.Again number) = (unique : ℕ) → HasEffect unique a false 0 (one_if (nat_eq number unique))

-- what a row lists
abbrev pub entry_of : ℕ → Option Waiting → List (ℕ × Asked)
entry_of unique None = []
entry_of unique (Some row) = (unique, row.asked) ∷ []

-- how often a request names a node, and uses an open file
abbrev pub names_of : ℕ → Asked → ℕ
names_of node asked = one_if (nat_eq asked.nodeid node) + one_if (nat_eq asked.other node)

abbrev pub uses_of : OpenFile → Asked → ℕ
uses_of file asked = one_if (is_that file asked.uses) + one_if (is_that file asked.copies_to)

-- These requests are in the tables, each under its number once, with the nodes that they name and the open files that
-- they use.
pub record AreListed (xs : List (ℕ × Asked)) (rows : Map Waiting) (named : Counts ℕ) (used : Counts Handle) : Type 0 where
  pub once : (unique : ℕ) → filter (λ e. nat_eq unique e.0) xs ≡ entry_of unique (get rows unique)
  pub names : (node : ℕ) → count_in nat_eq named node ≡ sum_by (λ e. names_of node e.1) xs
  pub uses : (file : OpenFile) → count_in same_handle used (handle file) ≡ sum_by (λ e. uses_of file e.1) xs

-- The INTERRUPTs of a request that waits are counted.
abbrev pub IsInterrupted : Session → ℕ → Option Waiting → Type 0
IsInterrupted s unique None = Unit {0}
IsInterrupted s unique (Some row) = (interrupts s unique ≡ row.interrupts) × (agains s unique ≡ row.agains)

abbrev pub AreInterrupted : Session → Map Waiting → Type 0
AreInterrupted s rows = (unique : ℕ) → IsInterrupted s unique (get rows unique)

-- The tables of requests that wait are right.
pub record ArePending (s : Session) (rows : Map Waiting) (named : Counts ℕ) (used : Counts Handle) : Type 0 where
  pub listed : AreListed (waiting s) rows named used
  pub interrupted : AreInterrupted s rows

-- what a row says of its number
abbrev pub IsWaiting : Session → ℕ → Option Waiting → Type 0
IsWaiting s unique None = waits s unique ≡ None
IsWaiting s unique (Some row) = (waits s unique ≡ Some row.asked) × (interrupts s unique ≡ row.interrupts)
    × (agains s unique ≡ row.agains)

abbrev pub AreWaiting : Session → Map Waiting → Type 0
AreWaiting s rows = (unique : ℕ) → IsWaiting s unique (get rows unique)
