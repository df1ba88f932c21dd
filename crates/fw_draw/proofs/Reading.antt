-- How a script is not read.
use Rattle.std.proofs.Common.{◌≡◌, ℕ, List, Option, Some, None, inl, inr, subst}
use Rattle.std.specs.Prelude.{IfSome}
use Rattle.fw_script.specs.Stops.{SaysFault}

-- the fault of a text that was read is that of the script
pub fault_of_text : (name text : List ℕ) (known old new : Option (List ℕ)) → IfSome known (λ bytes. text ≡ bytes)
    → SaysFault name (Some text) old new → SaysFault name known old new
fault_of_text name text known old new is (inl unreadable) = inl unreadable
fault_of_text name text None old new is (inr bad) = inr tt
fault_of_text name text (Some bytes) old new is (inr bad) =
    subst (λ (t : List ℕ). SaysFault name (Some t) old new) is (inr bad)
