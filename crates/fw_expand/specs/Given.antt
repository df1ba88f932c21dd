-- The lines that a source of expanded lines gives.
use Rattle.std.specs.Prelude.{◌≡◌, ◌++◌, ◌∷◌, [], ℕ, Bool, List}
use Rattle.std.proofs.Common.{◌∙◌, refl, sym, subst, append-nil, append_assoc}
use Rattle.fw_expand.specs.Expanding.{Expanded, begins, gives as one_more, no_line}
use Rattle.fw_expand.specs.declared.lines.ExpandedLines.{ExpandedLines}
use Rattle.fw_expand.specs.declared.rest.Rest.{Rest}

-- The other source gave raw lines, and these stand for them.
abbrev pub GivesExpanded : {S A : Type 0} → (gives : S → S → List (List ℕ) → Type 0) → (old new : ExpandedLines S A)
    → List (List ℕ) → Type 0
GivesExpanded gives old new lines = (raw : List (List ℕ)) × gives old.source new.source raw
    × Expanded old.is_of_calls old.text.items old.rest raw lines new.text.items new.rest
    × (new.is_of_calls ≡ old.is_of_calls)

-- ---- one line after another

expanded_in_turn : (of_calls : Bool) (text : List ℕ) (rest : Rest) (raw given : List (List ℕ)) (mid : List ℕ)
    (mid_rest : Rest) (more stand : List (List ℕ)) (last : List ℕ) (last_rest : Rest)
    → Expanded of_calls text rest raw given mid mid_rest → Expanded of_calls mid mid_rest more stand last last_rest
    → Expanded of_calls text rest (raw ++ more) (given ++ stand) last last_rest
expanded_in_turn of_calls text rest raw given mid mid_rest _ _ _ _ one no_line =
    subst (λ (l : List (List ℕ)). Expanded of_calls text rest l (given ++ []) mid mid_rest) (sym (append-nil raw))
    (subst (λ (l : List (List ℕ)). Expanded of_calls text rest raw l mid mid_rest) (sym (append-nil given)) one)
expanded_in_turn of_calls text rest raw given mid mid_rest _ _ _ _ one
    (begins more stand had left two is_forgetting name node over leads line has next is) =
    subst (λ (l : List (List ℕ)). Expanded of_calls text rest l (given ++ stand) has next) (append_assoc raw more (line ∷ []))
    (begins (raw ++ more) (given ++ stand) had left
    (expanded_in_turn of_calls text rest raw given mid mid_rest more stand had left one two) is_forgetting name node over
    leads line has next is)
expanded_in_turn of_calls text rest raw given mid mid_rest _ _ _ _ one
    (one_more more stand had left two is_forgetting name node line next is) =
    subst (λ (l : List (List ℕ)). Expanded of_calls text rest (raw ++ more) l had next)
    (append_assoc given stand (line ∷ []))
    (one_more (raw ++ more) (given ++ stand) had left
    (expanded_in_turn of_calls text rest raw given mid mid_rest more stand had left one two) is_forgetting name node line
    next is)

pub none_expanded : {S A : Type 0} (gives : S → S → List (List ℕ) → Type 0) → ((s : S) → gives s s [])
    → (source : ExpandedLines S A) → GivesExpanded gives source source []
none_expanded gives stays source = ([], stays source.source, no_line, refl)

pub lines_in_turn : {S A : Type 0} (gives : S → S → List (List ℕ) → Type 0)
    → ((first mid last : S) (lines more : List (List ℕ)) → gives first mid lines → gives mid last more
    → gives first last (lines ++ more))
    → (first mid last : ExpandedLines S A) (lines more : List (List ℕ)) → GivesExpanded gives first mid lines
    → GivesExpanded gives mid last more → GivesExpanded gives first last (lines ++ more)
lines_in_turn gives goes_on first mid last lines more (raw, gave, one, same) (also, given, two, kept) = (
  raw ++ also,
  goes_on first.source mid.source last.source raw also gave given,
  expanded_in_turn first.is_of_calls first.text.items first.rest raw lines mid.text.items mid.rest also more
      last.text.items last.rest one
      (subst (λ (of_calls : Bool). Expanded of_calls mid.text.items mid.rest also more last.text.items last.rest) same two),
  kept ∙ same,
)
