-- The words of the definitions, of a session that stands behind another.
use Rattle.std.proofs.Common.{◌≡◌, ◌≢◌, ◌≤◌, ℕ, max, Bool, true, false, not, cond, ◌||◌, List, [], ◌∷◌, ◌++◌, None, refl, sym, ◌∙◌, ap, append_assoc, append-nil, arith, rules, nat_eq}
use Rattle.std.specs.Prelude.{sum_by}
use Rattle.std.specs.List.{list_any}
use Rattle.std.specs.Map.{lookup}
use Rattle.std.proofs.lemmas.Bool.{cond-true, or_parts, or_right, or_left}
use Rattle.std.proofs.lemmas.List.Folds.{list_any-append}
use Rattle.fuse_sessions.specs.declared.act.Act.{Act}
use Rattle.fuse_sessions.specs.declared.act.Act.TheVariants as act
use Rattle.fuse_sessions.specs.declared.act.Asked.{Asked}
use Rattle.fuse_sessions.specs.Sessions.{Session, moments, since, left}
use Rattle.fuse_sessions.specs.Waiting.{ends, waiting, waits}
use Rattle.fuse_sessions.specs.Numbers.{asks_under, interrupts, interrupts_of, agains, agains_of, has_ended, shows_end}
use Rattle.fuse_sessions.proofs.Laws.{any-more, moments-more}

or_false : (b : Bool) → (b || false) ≡ b
or_false true = refl
or_false false = refl

flipped : (m n : ℕ) → nat_eq m n ≡ false → nat_eq n m ≡ false
flipped m n e = grind (arith, rules)

one_number : (m n : ℕ) → nat_eq m n ≡ true → m ≡ n
one_number m n e = grind (arith, rules)

module _ {A : Type 0} (test : A → Bool) where
  pub any_later : (e s : List A) → list_any test s ≡ true → list_any test (e ++ s) ≡ true
  any_later e s h = list_any-append test e s ∙ or_right (list_any test e) (list_any test s) h

  pub any_alike : (e s : List A) → list_any test e ≡ false → list_any test (e ++ s) ≡ list_any test s
  any_alike e s h = list_any-append test e s ∙ ap (λ b. b || list_any test s) h

  pub since_alike : (e s : List A) → list_any test s ≡ true → since test (e ++ s) ≡ since test s
  since_alike [] s h = refl
  since_alike (a ∷ e) s h = cond-true (list_any test (e ++ s)) (since test (e ++ s)) _ (any_later e s h) ∙ since_alike e s h

-- what is left is no less
best : (n back last : ℕ) → back ≤ last → back ≤ max n last
best n back last h = omega arith

module _ {A : Type 0} (gives takes : A → ℕ) where
  pub left_grows : (e s : List A) → left gives takes s ≤ left gives takes (e ++ s)
  left_grows [] s = omega arith
  left_grows (a ∷ e) s = best _ (left gives takes s) (left gives takes (e ++ s)) (left_grows e s)

-- ---- what waits

ask_ends : (u : ℕ) (a : Act) → asks_under u a ≡ true → ends u a ≡ true
ask_ends u (act.Asks n asked) e = e
ask_ends u a e = cc

either_ends : (u : ℕ) (a : Act) (asked ended : Bool) → (asked ≡ true → ended ≡ true) → (asks_under u a || asked) ≡ true
    → (ends u a || ended) ≡ true
either_ends u a asked ended later e = by (asks_under u a) refl e
  where
    by : (b : Bool) → asks_under u a ≡ b → (b || asked) ≡ true → (ends u a || ended) ≡ true
    by true is h = or_left (ends u a) ended (ask_ends u a is)
    by false is h = or_right (ends u a) ended (later h)

asked_ends : (u : ℕ) (s : Session) → list_any (asks_under u) s ≡ true → list_any (ends u) s ≡ true
asked_ends u [] e = cc
asked_ends u (a ∷ s) e =
    either_ends u a (list_any (asks_under u) s) (list_any (ends u) s) (λ h. asked_ends u s h) e

-- an act that asks nothing under a number
other_first : (u n : ℕ) (asked : Asked) (rest : List (ℕ × Asked)) (b : Bool) → nat_eq n u ≡ false
    → lookup (nat_eq u) (cond b ((n, asked) ∷ []) [] ++ rest) ≡ lookup (nat_eq u) rest
other_first u n asked rest true e = rw (flipped n u e) refl
other_first u n asked rest false e = refl

unasked_first : (u : ℕ) (a : Act) (s : Session) → asks_under u a ≡ false → waits (a ∷ s) u ≡ waits s u
unasked_first u (act.Asks n asked) s e = other_first u n asked (waiting s) (not (list_any (ends n) s)) e
unasked_first u a s e = refl

-- one that asks under it, where a later one does
asked_again : (u n : ℕ) (asked : Asked) (s : Session) → nat_eq n u ≡ true → list_any (ends u) s ≡ true
    → lookup (nat_eq u) (cond (not (list_any (ends n) s)) ((n, asked) ∷ []) [] ++ waiting s) ≡ waits s u
asked_again u n asked s e h = rw (one_number n u e, h) refl

asked_first : (u : ℕ) (a : Act) (s : Session) → list_any (ends u) s ≡ true → waits (a ∷ s) u ≡ waits s u
asked_first u (act.Asks n asked) s h = by (nat_eq n u) refl
  where
    by : (b : Bool) → nat_eq n u ≡ b → waits (act.Asks n asked ∷ s) u ≡ waits s u
    by true e = asked_again u n asked s e h
    by false e = unasked_first u (act.Asks n asked) s e
asked_first u a s h = refl

-- what waits under a number that was not asked under before
pub unasked_alike : (e s : Session) (u : ℕ) → list_any (asks_under u) e ≡ false → waits (e ++ s) u ≡ waits s u
unasked_alike [] s u h = refl
unasked_alike (a ∷ e) s u h =
    let both = or_parts (asks_under u a) (list_any (asks_under u) e) h in
    unasked_first u a (e ++ s) both.0 ∙ unasked_alike e s u both.1

-- or under one that the session itself asks under
pub asked_alike : (e s : Session) (u : ℕ) → list_any (asks_under u) s ≡ true → waits (e ++ s) u ≡ waits s u
asked_alike [] s u h = refl
asked_alike (a ∷ e) s u h =
    asked_first u a (e ++ s) (any_later (ends u) e s (asked_ends u s h)) ∙ asked_alike e s u h

pub asked_if_waits : (s : Session) (u : ℕ) → waits s u ≢ None → list_any (asks_under u) s ≡ true
asked_if_waits s u ne = by (list_any (asks_under u) s) refl
  where
    by : (b : Bool) → list_any (asks_under u) s ≡ b → b ≡ true
    by true e = refl
    by false e = absurd (ne (ap (λ t. waits t u) (sym (append-nil s)) ∙ unasked_alike s [] u e))

pub waits_alike : (e s : Session) (u : ℕ) → waits s u ≢ None → waits (e ++ s) u ≡ waits s u
waits_alike e s u ne = asked_alike e s u (asked_if_waits s u ne)

pub waits_too : (e s : Session) (u : ℕ) → waits s u ≢ None → waits (e ++ s) u ≢ None
waits_too e s u ne is = ne (sym (waits_alike e s u ne) ∙ is)

pub interrupts_alike : (e s : Session) (u : ℕ) → waits s u ≢ None → interrupts (e ++ s) u ≡ interrupts s u
interrupts_alike e s u ne = ap (sum_by (interrupts_of u)) (since_alike (asks_under u) e s (asked_if_waits s u ne))

pub agains_alike : (e s : Session) (u : ℕ) → waits s u ≢ None → agains (e ++ s) u ≡ agains s u
agains_alike e s u ne = ap (sum_by (agains_of u)) (since_alike (asks_under u) e s (asked_if_waits s u ne))

-- ---- the end

quiet : (t : Session) (a : Act) → shows_end (t, a) ≡ false → has_ended (t ++ a ∷ []) ≡ has_ended t
quiet t a silent = ap (list_any shows_end) (moments-more [] t a) ∙ any-more shows_end (moments t) (t, a)
    ∙ ap (λ b. has_ended t || b) silent ∙ or_false (has_ended t)

-- an act that shows no end leaves it open whether the device has ended
pub ended_alike : (e s : Session) (a : Act) → ((t : Session) → shows_end (t, a) ≡ false)
    → has_ended (e ++ (s ++ a ∷ [])) ≡ has_ended (s ++ a ∷ []) → has_ended (e ++ s) ≡ has_ended s
ended_alike e s a silent same = sym (quiet (e ++ s) a (silent (e ++ s))) ∙ ap has_ended (append_assoc e s (a ∷ []))
    ∙ same ∙ quiet s a (silent s)
