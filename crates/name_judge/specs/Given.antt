-- The table of names that were given.
use Rattle.std.specs.Prelude.{◌≡◌, ℕ, Bool, false, List, Option, Some, None, Vec}
use Rattle.std.specs.Ordering.{nat_cmp}
use Rattle.std.specs.BTreeMap.{is_at}
use Rattle.std.specs.BTreeSet.{BTreeSet, contains_by}
use Rattle.std.specs.Map.{lookup}
use Rattle.std.specs.Cmp.Lexicographic.{slice_cmp}
use Rattle.name_sessions.specs.Names.{Name}
use Rattle.name_sessions.specs.NameSessions.{NameSession, is_given}

module _ {A : Type 0} where
  -- the bytes stand among those of a directory, if it has any
  abbrev pub has_bytes : Option (BTreeSet (Vec ℕ A)) → List ℕ → Bool
  has_bytes None bytes = false
  has_bytes (Some names) bytes = contains_by (λ k. slice_cmp nat_cmp bytes k.items) names

  -- the name stands in the table
  abbrev pub holds : List (ℕ × BTreeSet (Vec ℕ A)) → Name → Bool
  holds rows name = has_bytes (lookup (is_at (nat_cmp name.0)) rows) name.1

  -- The names in the table are those that the kernel may have a file of.
  abbrev pub AreGiven : NameSession → List (ℕ × BTreeSet (Vec ℕ A)) → Type 0
  AreGiven s rows = (name : Name) → holds rows name ≡ is_given s name
