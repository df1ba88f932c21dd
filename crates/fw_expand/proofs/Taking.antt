-- One line that is given, and one that is taken.
use Rattle.std.proofs.Common.{◌≡◌, ◌∷◌, [], ℕ, Bool, List, Option, subst, sym}
use Rattle.fw_expand.specs.Expanding.{Expanded, Gives, IsOver, begins, begun, gives as one_more, no_line, sayable}
use Rattle.fw_expand.specs.Given.{GivesExpanded}
use Rattle.fw_expand.specs.Walks.{Leads}
use Rattle.fw_expand.specs.declared.lines.ExpandedLines.{ExpandedLines}
use Rattle.fw_expand.specs.declared.rest.Rest.{Rest}

module _ {S A : Type 0} (gives : S → S → List (List ℕ) → Type 0) (stays : (s : S) → gives s s [])
    (old new : ExpandedLines S A) where
  -- the source is as it was, and a line is given of those to come
  pub one_given : (is_forgetting : Bool) (name : Option (ℕ × List ℕ)) (node : Option ℕ) (line : List ℕ)
      → Gives (is_forgetting, sayable name, node) old.text.items old.rest line new.rest → new.source ≡ old.source
      → new.text.items ≡ old.text.items → new.is_of_calls ≡ old.is_of_calls → GivesExpanded gives old new (line ∷ [])
  one_given is_forgetting name node line given source text same = (
    [],
    subst (λ (s : S). gives old.source s []) (sym source) (stays old.source),
    subst (λ (t : List ℕ). Expanded old.is_of_calls old.text.items old.rest [] (line ∷ []) t new.rest) (sym text)
        (one_more [] [] old.text.items old.rest no_line is_forgetting name node line new.rest given),
    same,
  )

  -- nothing happens but to the source
  pub none_given : gives old.source new.source [] → new.text.items ≡ old.text.items → new.rest ≡ old.rest
      → new.is_of_calls ≡ old.is_of_calls → GivesExpanded gives old new []
  none_given gave text rest same = (
    [],
    gave,
    subst (λ (t : List ℕ). Expanded old.is_of_calls old.text.items old.rest [] [] t new.rest) (sym text)
        (subst (λ (r : Rest). Expanded old.is_of_calls old.text.items old.rest [] [] old.text.items r) (sym rest) no_line),
    same,
  )

  pub none_moved : new.source ≡ old.source → new.text.items ≡ old.text.items → new.rest ≡ old.rest
      → new.is_of_calls ≡ old.is_of_calls → GivesExpanded gives old new []
  none_moved source text rest same =
      none_given (subst (λ (s : S). gives old.source s []) (sym source) (stays old.source)) text rest same

  -- a raw line begins
  pub one_taken : (is_forgetting : Bool) (name : Option (ℕ × List ℕ)) (node : Option ℕ)
      → IsOver (is_forgetting, sayable name, node) old.rest
      → (leads : Leads) (line : List ℕ) → gives old.source new.source (line ∷ [])
      → (new.text.items, new.rest) ≡ begun leads old.is_of_calls line → new.is_of_calls ≡ old.is_of_calls
      → GivesExpanded gives old new []
  one_taken is_forgetting name node over leads line gave is same = (
    line ∷ [],
    gave,
    begins [] [] old.text.items old.rest no_line is_forgetting name node over leads line new.text.items new.rest is,
    same,
  )
