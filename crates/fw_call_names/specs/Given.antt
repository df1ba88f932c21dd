-- The lines that a source of named calls gives.
use Rattle.std.specs.Prelude.{◌++◌, ◌∷◌, [], ℕ, List, Option}
use Rattle.std.proofs.Common.{sym, subst, append-nil, append_assoc}
use Rattle.fw_call_names.specs.CallNames.{begun_of, names_of}
use Rattle.fw_call_names.specs.Naming.{Named, Names, call_begun, names_bound, next_line, no_line}
use Rattle.fw_call_names.specs.declared.lines.NamedLines.{NamedLines}

-- The other source gave raw lines, and these stand for them.
abbrev pub GivesNamed : {S A : Type 0} → (gives : S → S → List (List ℕ) → Type 0) → (old new : NamedLines S A)
    → List (List ℕ) → Type 0
GivesNamed gives old new lines = (raw : List (List ℕ)) × gives old.source new.source raw
    × Named (names_of old.names.items) (begun_of old.begun) raw lines (names_of new.names.items) (begun_of new.begun)

-- ---- one line after another

named_in_turn : (names : Names) (begun : Option (List ℕ × ℕ)) (raw given : List (List ℕ)) (mid : Names)
    (mid_begun : Option (List ℕ × ℕ)) (more stand : List (List ℕ)) (last : Names) (last_begun : Option (List ℕ × ℕ))
    → Named names begun raw given mid mid_begun → Named mid mid_begun more stand last last_begun
    → Named names begun (raw ++ more) (given ++ stand) last last_begun
named_in_turn names begun raw given mid mid_begun _ _ _ _ one no_line =
    subst (λ (l : List (List ℕ)). Named names begun l (given ++ []) mid mid_begun) (sym (append-nil raw))
    (subst (λ (l : List (List ℕ)). Named names begun raw l mid mid_begun) (sym (append-nil given)) one)
named_in_turn names begun raw given mid mid_begun _ _ _ _ one
    (next_line more stand old before two next_call line stands is) =
    let new = names_bound old before next_call in
    let next = call_begun next_call line in
    subst (λ (l : List (List ℕ)). Named names begun l (given ++ (stand ++ stands ∷ [])) new next)
    (append_assoc raw more (line ∷ []))
    (subst (λ (l : List (List ℕ)). Named names begun ((raw ++ more) ++ line ∷ []) l new next)
    (append_assoc given stand (stands ∷ []))
    (next_line (raw ++ more) (given ++ stand) old before
    (named_in_turn names begun raw given mid mid_begun more stand old before one two) next_call line stands is))

pub none_named : {S A : Type 0} (gives : S → S → List (List ℕ) → Type 0) → ((s : S) → gives s s [])
    → (source : NamedLines S A) → GivesNamed gives source source []
none_named gives stays source = ([], stays source.source, no_line)

pub lines_in_turn : {S A : Type 0} (gives : S → S → List (List ℕ) → Type 0)
    → ((first mid last : S) (lines more : List (List ℕ)) → gives first mid lines → gives mid last more
    → gives first last (lines ++ more))
    → (first mid last : NamedLines S A) (lines more : List (List ℕ)) → GivesNamed gives first mid lines
    → GivesNamed gives mid last more → GivesNamed gives first last (lines ++ more)
lines_in_turn gives goes_on first mid last lines more one two = (
  one.0 ++ two.0,
  goes_on first.source mid.source last.source one.0 two.0 one.1 two.1,
  named_in_turn (names_of first.names.items) (begun_of first.begun) one.0 lines (names_of mid.names.items)
      (begun_of mid.begun) two.0 more (names_of last.names.items) (begun_of last.begun) one.2 two.2,
)
