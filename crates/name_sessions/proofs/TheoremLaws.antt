-- A name is given exactly where some act gives it, and no later one takes it away.
use Rattle.std.proofs.Common.{◌≡◌, Bool, true, false, true≢false, not, ◌||◌, cond, nat_eq, List, [], ◌∷◌, ◌++◌, Option, Some, None, refl, sym, ◌∙◌, ap, subst}
use Rattle.std.specs.List.{list_any}
use Rattle.std.specs.Option.{unwrap_or}
use Rattle.fuse_sessions.specs.Sessions.{latest, or_earlier}
use Rattle.name_sessions.specs.Names.{Name, same_name}
use Rattle.name_sessions.specs.NameActs.{NameAct, Unsure, Asks, Ends, Removes, Gives, Loses, Leaves}
use Rattle.name_sessions.specs.NameSessions.{NameSession, is_fault, is_given, is_unsure, says_of_name}
use Rattle.name_sessions.specs.NameTheorems.{gives, takes, IsGiven}

-- what an act says of a name, from whether it gives it and takes it
abbrev said : (gives takes : Bool) → Option Bool
said true taking = Some true
said false true = Some false
said false false = None

says_is : (name : Name) (a : NameAct) → says_of_name name a ≡ said (gives name a) (takes name a)
says_is name (Gives other) = by (same_name other name)
  where
    by : (b : Bool) → cond b (Some true) None ≡ said b false
    by true = refl
    by false = refl
says_is name (Loses other) = by (same_name other name)
  where
    by : (b : Bool) → cond b (Some false) None ≡ said false b
    by true = refl
    by false = refl
says_is name (Leaves node) = by (nat_eq node name.0)
  where
    by : (b : Bool) → cond b (Some false) None ≡ said false b
    by true = refl
    by false = refl
says_is name Unsure = refl
says_is name (Asks unique asked) = refl
says_is name (Ends unique) = refl
says_is name (Removes other) = refl

later_false : (a b : Bool) → (a || b) ≡ false → b ≡ false
later_false true b e = absurd (true≢false e)
later_false false b e = e

module _ (name : Name) where
  abbrev last : List NameAct → Option Bool
  last s = latest (says_of_name name) s

  some_none : (b : Bool) → Some b ≡ None → ⊥
  some_none b e = subst IsSomething e tt
    where
      IsSomething : Option Bool → Type 0
      IsSomething None = ⊥
      IsSomething (Some x) = Unit {0}

  -- where nothing is said of the name nothing takes it
  untaken : (s : List NameAct) → last s ≡ None → list_any (takes name) s ≡ false
  untaken [] e = refl
  untaken (a ∷ s) e = by (last s) refl (gives name a) (takes name a) refl refl (untaken s)
    where
      by : (o : Option Bool) → last s ≡ o → (g t : Bool) → gives name a ≡ g → takes name a ≡ t
          → (last s ≡ None → list_any (takes name) s ≡ false)
          → (takes name a || list_any (takes name) s) ≡ false
      by (Some b) f g t h k rest = absurd (some_none b (sym (ap (λ o. or_earlier o (says_of_name name a)) f) ∙ e))
      by None f true t h k rest = absurd (some_none true (sym (ap (λ o. or_earlier o (says_of_name name a)) f
          ∙ says_is name a ∙ ap (λ b. said b (takes name a)) h) ∙ e))
      by None f false true h k rest = absurd (some_none false (sym (ap (λ o. or_earlier o (says_of_name name a)) f
          ∙ says_is name a ∙ ap (λ b. said b (takes name a)) h ∙ ap (said false) k) ∙ e))
      by None f false false h k rest = ap (λ b. b || list_any (takes name) s) k ∙ rest f

  -- an act that gives the name, with the rest
  pub found : (s : List NameAct) → last s ≡ Some true → IsGiven s name
  found [] e = absurd (some_none true (sym e))
  found (a ∷ s) e = by (last s) refl (gives name a) (takes name a) refl refl (found s)
    where
      so : (o : Option Bool) → last s ≡ o → or_earlier o (says_of_name name a) ≡ Some true
      so o f = ap (λ x. or_earlier x (says_of_name name a)) (sym f) ∙ e

      is_true : (b : Bool) → Some b ≡ Some true → b ≡ true
      is_true b h = ap (λ (o : Option Bool). unwrap_or o true) h

      deeper : IsGiven s name → IsGiven (a ∷ s) name
      deeper g = record {
        before = a ∷ g.before;
        act = g.act;
        later = g.later;
        is = ap (λ (xs : List NameAct). a ∷ xs) g.is;
        there = g.there;
        kept = g.kept;
      }

      by : (o : Option Bool) → last s ≡ o → (g t : Bool) → gives name a ≡ g → takes name a ≡ t
          → (last s ≡ Some true → IsGiven s name) → IsGiven (a ∷ s) name
      by (Some b) f g t h k rest = deeper (rest (f ∙ ap (λ (x : Bool). Some x) (is_true b (so (Some b) f))))
      by None f true t h k rest = record {
        before = [];
        act = a;
        later = s;
        is = refl;
        there = h;
        kept = untaken s f;
      }
      by None f false true h k rest =
          absurd (true≢false (sym (is_true false (sym (says_is name a ∙ ap (λ b. said b (takes name a)) h
          ∙ ap (said false) k) ∙ so None f))))
      by None f false false h k rest =
          absurd (some_none true (sym (so None f) ∙ says_is name a ∙ ap (λ b. said b (takes name a)) h
          ∙ ap (said false) k))

  -- where nothing takes the name, the last that is said of it is that it is given
  kept_true : (s : List NameAct) → list_any (takes name) s ≡ false → or_earlier (last s) (Some true) ≡ Some true
  kept_true [] e = refl
  kept_true (a ∷ s) e = by (gives name a) (takes name a) refl refl
      (kept_true s (later_false (takes name a) (list_any (takes name) s) e))
    where
      first : (x y : Bool) → (x || y) ≡ false → x ≡ false
      first true y h = h
      first false y h = refl

      assoc : (o p : Option Bool) → or_earlier (or_earlier o p) (Some true) ≡ or_earlier o (or_earlier p (Some true))
      assoc None p = refl
      assoc (Some x) p = refl

      by : (g t : Bool) → gives name a ≡ g → takes name a ≡ t → or_earlier (last s) (Some true) ≡ Some true
          → or_earlier (or_earlier (last s) (says_of_name name a)) (Some true) ≡ Some true
      by g true h k rest = absurd (true≢false (sym k ∙ first (takes name a) (list_any (takes name) s) e))
      by true false h k rest = assoc (last s) (says_of_name name a)
          ∙ ap (λ (o : Option Bool). or_earlier (last s) (or_earlier o (Some true)))
          (says_is name a ∙ ap (λ b. said b (takes name a)) h) ∙ rest
      by false false h k rest = assoc (last s) (says_of_name name a)
          ∙ ap (λ (o : Option Bool). or_earlier (last s) (or_earlier o (Some true)))
          (says_is name a ∙ ap (λ b. said b (takes name a)) h ∙ ap (said false) k) ∙ rest

  behind : (before later : List NameAct) → last later ≡ Some true → last (before ++ later) ≡ Some true
  behind [] later e = e
  behind (a ∷ before) later e = ap (λ (o : Option Bool). or_earlier o (says_of_name name a)) (behind before later e)

  pub given_last : (s : List NameAct) → IsGiven s name → last s ≡ Some true
  given_last s g = ap last g.is ∙ behind g.before (g.act ∷ g.later)
      (ap (or_earlier (last g.later)) (says_is name g.act ∙ ap (λ b. said b (takes name g.act)) g.there)
      ∙ kept_true g.later g.kept)

  given_true : (o : Option Bool) → unwrap_or o false ≡ true → o ≡ Some true
  given_true None e = absurd (true≢false (sym e))
  given_true (Some b) e = ap (λ (x : Bool). Some x) e

  pub is_given_is : (s : NameSession) → is_given s name ≡ true → IsGiven s name
  is_given_is s e = found s (given_true (last s) e)

  pub is_given_so : (s : NameSession) → IsGiven s name → is_given s name ≡ true
  is_given_so s g = ap (λ (o : Option Bool). unwrap_or o false) (given_last s g)

neither_first : (a b : Bool) → not (a || b) ≡ true → a ≡ false
neither_first true b e = absurd (true≢false (sym e))
neither_first false b e = refl

neither_second : (a b : Bool) → not (a || b) ≡ true → b ≡ false
neither_second true b e = absurd (true≢false (sym e))
neither_second false true e = absurd (true≢false (sym e))
neither_second false false e = refl

untrue : (b : Bool) → (b ≡ true → ⊥) → b ≡ false
untrue true h = absurd (h refl)
untrue false h = refl

pub fault_means : (s : NameSession) (name : Name) → is_fault s (Removes name) ≡ true
    → (is_unsure s ≡ false) × (IsGiven s name → ⊥)
fault_means s name e = (
  neither_first (is_unsure s) (is_given s name) e,
  λ g. true≢false (sym (is_given_so name s g) ∙ neither_second (is_unsure s) (is_given s name) e),
)

pub fault_where : (s : NameSession) (name : Name) → (is_unsure s ≡ false) × (IsGiven s name → ⊥)
    → is_fault s (Removes name) ≡ true
fault_where s name (sure, none) =
    ap (λ b. not (b || is_given s name)) sure ∙ ap not (untrue (is_given s name) (λ e. none (is_given_is name s e)))
