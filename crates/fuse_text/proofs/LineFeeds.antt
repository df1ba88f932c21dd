-- A line, read up to its line feed.
use Rattle.std.proofs.Common.{◌≡◌, ◌++◌, ◌==◌, ℕ, Bool, true, false, cond, List, [], ◌∷◌, Option, Some, None, length, arith, eq-eqb, refl, sym, ap, ◌∙◌, length-append}
use Rattle.std.proofs.lemmas.Bool.{eqb-true}
use Rattle.std.specs.Prelude.{◌≢◌, IfSome, MatchBool}
use Rattle.std.specs.Io.BufRead.{take_through, drop_through, DropsThrough}
use Rattle.std.specs.List.{onto_first}
use Rattle.fuse_text.specs.Lines.{IsTaken, lines_of}

-- a line feed ends the first line
cut_by_test : (x : ℕ) (xs : List ℕ) (found : Bool) → (x == 10) ≡ found
    → ((front : List ℕ) → take_through 10 xs ≡ front ++ 10 ∷ [] → lines_of xs ≡ front ∷ lines_of (drop_through 10 xs))
    → (front : List ℕ) → cond found (x ∷ []) (x ∷ take_through 10 xs) ≡ front ++ 10 ∷ []
    → cond found ([] ∷ lines_of xs) (onto_first x (lines_of xs)) ≡ front ∷ lines_of (cond found xs (drop_through 10 xs))
cut_by_test x xs true test ih [] e = refl
cut_by_test x xs true test ih (f ∷ fs) e =
    let size = ap length e in let parts = length-append fs (10 ∷ []) in absurd (omega (arith, size, parts))
cut_by_test x xs false test ih [] e =
    let same : x ≡ 10 = cc in let yes = eq-eqb x 10 same in cc
cut_by_test x xs false test ih (f ∷ fs) e =
    let first : x ≡ f = cc in
    let rest : take_through 10 xs ≡ fs ++ 10 ∷ [] = cc in
    let lines = ih fs rest in
    rw (lines, first) refl

line_cut : (xs front : List ℕ) → take_through 10 xs ≡ front ++ 10 ∷ []
    → lines_of xs ≡ front ∷ lines_of (drop_through 10 xs)
line_cut [] [] e = cc
line_cut [] (f ∷ fs) e = cc
line_cut (x ∷ xs) front e = cut_by_test x xs (x == 10) refl (line_cut xs) front e

-- no line feed ends the last one
last_by_test : (x : ℕ) (xs : List ℕ) (found : Bool) → (x == 10) ≡ found
    → (((front : List ℕ) → take_through 10 xs ≢ front ++ 10 ∷ []) → lines_of xs ≡ take_through 10 xs ∷ [])
    → ((front : List ℕ) → cond found (x ∷ []) (x ∷ take_through 10 xs) ≢ front ++ 10 ∷ [])
    → cond found ([] ∷ lines_of xs) (onto_first x (lines_of xs)) ≡ cond found (x ∷ []) (x ∷ take_through 10 xs) ∷ []
last_by_test x xs true test ih none =
    let same : x ≡ 10 = eqb-true x 10 test in absurd (none [] (ap (λ (n : ℕ). n ∷ []) same))
last_by_test x xs false test ih none =
    let lines = ih (λ front e. none (x ∷ front) (ap (λ (l : List ℕ). x ∷ l) e)) in
    rw lines refl

line_last : (xs : List ℕ) → ((front : List ℕ) → take_through 10 xs ≢ front ++ 10 ∷ [])
    → lines_of xs ≡ take_through 10 xs ∷ []
line_last [] none = refl
line_last (x ∷ xs) none = last_by_test x xs (x == 10) refl (line_last xs) none

-- what a reader took is a line
pub taken : (known left : Option (List ℕ)) (cleared read line : List ℕ) (is_more : Bool) → cleared ≡ []
    → IfSome known (λ xs. read ≡ cleared ++ take_through 10 xs) → DropsThrough known left 10
    → MatchBool is_more (read ≡ line ++ 10 ∷ []) ((line ≡ read) × ((front : List ℕ) → read ≢ front ++ 10 ∷ []))
    → IfSome known (λ xs. IsTaken xs is_more line left)
taken None left cleared read line is_more none bytes rest fed = tt
taken (Some xs) left cleared read line true none bytes rest fed =
    let whole : read ≡ take_through 10 xs = bytes ∙ ap (λ (l : List ℕ). l ++ take_through 10 xs) none in
    (drop_through 10 xs, rest, line_cut xs line (sym whole ∙ fed))
taken (Some xs) left cleared read line false none bytes rest fed =
    let whole : read ≡ take_through 10 xs = bytes ∙ ap (λ (l : List ℕ). l ++ take_through 10 xs) none in
    line_last xs (λ front e. fed.1 front (whole ∙ e)) ∙ ap (λ (l : List ℕ). l ∷ []) (sym (fed.0 ∙ whole))
