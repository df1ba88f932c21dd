-- A text that something is put behind.
use Rattle.std.specs.Prelude.{◌≡◌, ℕ, Bool, true, false, List, ◌++◌, Option, Some, None}

-- What is to be put is there, and was put; or it is not there. What was put then says nothing.
abbrev pub PutsIf : (old new : List ℕ) → (given : Option (List ℕ)) → (is_put : Bool) → Type 0
PutsIf old new given true = (more : List ℕ) × (given ≡ Some more) × (new ≡ old ++ more)
PutsIf old new given false = given ≡ None
