-- What one more act, and several, do to each word of the definitions.
use Rattle.std.proofs.Common.{◌≡◌, ℕ, Bool, true, false, ◌||◌, List, [], ◌∷◌, ◌++◌, Option, Some, None, refl, sym, ◌∙◌, ap}
use Rattle.std.specs.List.{list_any}
use Rattle.std.specs.Option.{option_flatten, unwrap_or}
use Rattle.fuse_sessions.specs.Sessions.{latest, or_earlier}
use Rattle.fuse_sessions.proofs.Laws.{latest-more}
use Rattle.name_sessions.specs.Names.{Name}
use Rattle.name_sessions.specs.NameActs.{NameAct, NamesAsked}
use Rattle.name_sessions.specs.NameSessions.{NameSession, is_doubt, is_unsure, says_of_number, waits, says_of_name, is_given}

pub waits-more : (s : NameSession) (a : NameAct) (unique : ℕ) → waits (s ++ a ∷ []) unique
    ≡ option_flatten (or_earlier (says_of_number unique a) (latest (says_of_number unique) s))
waits-more s a unique = ap option_flatten (latest-more (says_of_number unique) s a)

-- an act that says nothing of a number leaves what waits
pub waits-same : (s : NameSession) (a : NameAct) (unique : ℕ) → says_of_number unique a ≡ None
    → waits (s ++ a ∷ []) unique ≡ waits s unique
waits-same s a unique none = waits-more s a unique
    ∙ ap (λ o. option_flatten (or_earlier o (latest (says_of_number unique) s))) none

-- an act that says what waits
pub waits-said : (s : NameSession) (a : NameAct) (unique : ℕ) (o : Option NamesAsked)
    → says_of_number unique a ≡ Some o → waits (s ++ a ∷ []) unique ≡ o
waits-said s a unique o said = waits-more s a unique
    ∙ ap (λ x. option_flatten (or_earlier x (latest (says_of_number unique) s))) said

pub given-more : (s : NameSession) (a : NameAct) (name : Name) → is_given (s ++ a ∷ []) name
    ≡ unwrap_or (or_earlier (says_of_name name a) (latest (says_of_name name) s)) false
given-more s a name = ap (λ o. unwrap_or o false) (latest-more (says_of_name name) s a)

pub given-same : (s : NameSession) (a : NameAct) (name : Name) → says_of_name name a ≡ None
    → is_given (s ++ a ∷ []) name ≡ is_given s name
given-same s a name none = given-more s a name
    ∙ ap (λ o. unwrap_or (or_earlier o (latest (says_of_name name) s)) false) none

pub given-said : (s : NameSession) (a : NameAct) (name : Name) (b : Bool) → says_of_name name a ≡ Some b
    → is_given (s ++ a ∷ []) name ≡ b
given-said s a name b said = given-more s a name
    ∙ ap (λ o. unwrap_or (or_earlier o (latest (says_of_name name) s)) false) said

or_assoc : (a b c : Bool) → ((a || b) || c) ≡ (a || (b || c))
or_assoc true b c = refl
or_assoc false b c = refl

module _ {A : Type 0} where
  pub any-append : (test : A → Bool) (xs ys : List A) → list_any test (xs ++ ys) ≡ (list_any test xs || list_any test ys)
  any-append test [] ys = refl
  any-append test (x ∷ xs) ys = ap (λ b. test x || b) (any-append test xs ys)
      ∙ sym (or_assoc (test x) (list_any test xs) (list_any test ys))

-- once nothing is certain it stays so
pub unsure-append : (s : NameSession) (acts : List NameAct) → is_unsure (s ++ acts) ≡ (is_unsure s || list_any is_doubt acts)
unsure-append s acts = any-append is_doubt s acts

pub stays_unsure : (s : NameSession) (acts : List NameAct) → is_unsure s ≡ true → is_unsure (s ++ acts) ≡ true
stays_unsure s acts unsure = unsure-append s acts ∙ ap (λ b. b || list_any is_doubt acts) unsure

pub or_false : (b : Bool) → (b || false) ≡ b
or_false true = refl
or_false false = refl

-- acts that have no doubt leave it
pub unsure-same : (s : NameSession) (acts : List NameAct) → list_any is_doubt acts ≡ false
    → is_unsure (s ++ acts) ≡ is_unsure s
unsure-same s acts none = unsure-append s acts ∙ ap (λ b. is_unsure s || b) none ∙ or_false (is_unsure s)
