-- The words after a frame that was written.
use Rattle.std.proofs.Common.{◌≡◌, ℕ, true, false, nat_eq, List, [], ◌∷◌, get_or, codes, eq-eqb, refl, sym, ap, ◌∙◌}
use Rattle.fuse_sessions.specs.declared.act.Taken.{Taken}
use Rattle.fuse_sessions.specs.declared.act.Taken.TheVariants.{Accepted, NoEntry, Invalid, Failed}
use Rattle.fuse_capture.specs.Lines.{IsResult}
use Rattle.fuse_capture.specs.Readings.{HasNoMore}

-- two words or more say nothing of it
pub no_result : (words : List (List ℕ)) → (words ≡ [] → ⊥) → ((word : List ℕ) → words ≡ word ∷ [] → ⊥) → (t : Taken)
    → IsResult words t → ⊥
no_result [] some two t h = some refl
no_result (w ∷ []) some two t h = two w refl
no_result (w ∷ x ∷ rest) some two Accepted h = h
no_result (w ∷ x ∷ rest) some two NoEntry h = h
no_result (w ∷ x ∷ rest) some two Invalid h = h
no_result (w ∷ x ∷ rest) some two Failed h = h

-- words whose first bytes differ
pub differs : {x y : List ℕ} {u v : List (List ℕ)} (a b : ℕ) → nat_eq a b ≡ false → (a ∷ x) ∷ u ≡ (b ∷ y) ∷ v → ⊥
differs a b other e =
    let same : a ≡ b = ap (λ (ws : List (List ℕ)). get_or (get_or ws 0 []) 0 0) e in
    let test : nat_eq a b ≡ true = eq-eqb a b same in
    cc

-- no such word begins with `+`
named : (c : ℕ) (name w : List ℕ) → nat_eq c 43 ≡ false → w ≡ c ∷ name → HasNoMore (w ∷ [])
named c name w other is word later count e more =
    differs c 43 other (ap (λ (v : List ℕ). v ∷ []) (sym is) ∙ e ∙ ap (λ (v : List ℕ). v ∷ later) more)

pub result_is_no_more : (words : List (List ℕ)) (t : Taken) → IsResult words t → HasNoMore words
result_is_no_more [] Accepted h = λ word later count e more. cc
result_is_no_more [] NoEntry h = absurd h
result_is_no_more [] Invalid h = absurd h
result_is_no_more [] Failed h = absurd h
result_is_no_more (w ∷ []) Accepted h = absurd h
result_is_no_more (w ∷ []) NoEntry h = named 69 (codes "NOENT") w refl h
result_is_no_more (w ∷ []) Invalid h = named 69 (codes "INVAL") w refl h
result_is_no_more (w ∷ []) Failed h = named 69 h.0.0 w refl h.0.1
result_is_no_more (w ∷ x ∷ rest) Accepted h = absurd h
result_is_no_more (w ∷ x ∷ rest) NoEntry h = absurd h
result_is_no_more (w ∷ x ∷ rest) Invalid h = absurd h
result_is_no_more (w ∷ x ∷ rest) Failed h = absurd h
