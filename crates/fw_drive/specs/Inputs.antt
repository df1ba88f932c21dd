-- The lines of an input, as they are taken from it.
use Rattle.std.specs.Prelude.{◌≡◌, ◌++◌, ◌∷◌, [], ℕ, Bool, true, false, List, Option, Some, None, option_map}
use Rattle.std.proofs.Common.{refl, sym, ap, ◌∙◌, append_assoc}
use Rattle.fuse_text.specs.Lines.{lines_of}

-- the lines that an input has still to give, where its bytes are known: none once all of it is read
abbrev pub lines_to_come : (is_read : Bool) → (left : Option (List ℕ)) → Option (List (List ℕ))
lines_to_come true left = Some []
lines_to_come false left = option_map lines_of left

-- These were taken from the front, where the lines were known.
abbrev pub AreTaken : (old new : Option (List (List ℕ))) → List (List ℕ) → Type 0
AreTaken None new lines = Unit {0}
AreTaken (Some was) new lines = (rest : List (List ℕ)) × (new ≡ Some rest) × (was ≡ lines ++ rest)

pub none_taken : (known : Option (List (List ℕ))) → AreTaken known known []
none_taken None = tt
none_taken (Some was) = (was, refl, refl)

taken_behind : (was rest : List (List ℕ)) (mid last : Option (List (List ℕ))) (lines more : List (List ℕ))
    → mid ≡ Some rest → was ≡ lines ++ rest → AreTaken mid last more → AreTaken (Some was) last (lines ++ more)
taken_behind was rest None last lines more known is taken = absurd (cc known)
taken_behind was rest (Some left) last lines more known is (end, to_come, more_is) =
    let same : left ≡ rest = cc known in
    (end, to_come, is ∙ ap (λ (l : List (List ℕ)). lines ++ l) (sym same ∙ more_is) ∙ sym (append_assoc lines more end))

pub taken_in_turn : (first mid last : Option (List (List ℕ))) (lines more : List (List ℕ)) → AreTaken first mid lines
    → AreTaken mid last more → AreTaken first last (lines ++ more)
taken_in_turn None mid last lines more one two = tt
taken_in_turn (Some was) mid last lines more (rest, known, is) two = taken_behind was rest mid last lines more known is two
