-- What one more act does to each word of the definitions.
use Rattle.std.proofs.Common.{◌≡◌, ◌≤◌, ℕ, ◌+◌, ◌-◌, max, Bool, true, false, not, ◌||◌, ◌⊎◌, inl, inr, List, [], ◌∷◌, ◌++◌, Option, Some, None, refl, sym, ◌∙◌, ap, append_assoc, arith, cond}
use Rattle.std.specs.Prelude.{sum_by, filter}
use Rattle.std.specs.List.{list_any}
use Rattle.std.proofs.lemmas.Grind.{common_steps}
use Rattle.std.proofs.lemmas.List.{append-nil}
use Rattle.std.proofs.lemmas.List.Elements.{filter-append}
use Rattle.fuse_sessions.specs.declared.act.Act.{Act}
use Rattle.fuse_sessions.specs.declared.act.Asked.{Asked}
use Rattle.fuse_sessions.specs.Sessions.{Session, moments_after, or_earlier, latest, since, left}
use Rattle.fuse_sessions.specs.Waiting.{asked_by, ends, waiting}

module _ {X : Type 0} where
  or_none : (o : Option X) → o ≡ or_earlier o None
  or_none None = refl
  or_none (Some x) = refl

  or_assoc : (a b c : Option X) → or_earlier (or_earlier a b) c ≡ or_earlier a (or_earlier b c)
  or_assoc None b c = refl
  or_assoc (Some x) b c = refl

  pub latest-more : {A : Type 0} (f : A → Option X) (s : List A) (a : A)
      → latest f (s ++ a ∷ []) ≡ or_earlier (f a) (latest f s)
  latest-more f [] a = or_none (f a)
  latest-more f (b ∷ s) a =
      ap (λ o. or_earlier o (f b)) (latest-more f s a) ∙ or_assoc (f a) (latest f s) (f b)

best : (given back last more less : ℕ) → (more ≡ 0) ⊎ (less ≡ 0)
    → max ((given + more) - (back + less)) (last + more - less) ≡ max (given - back) last + more - less
best given back last more less (inl h) = omega arith
best given back last more less (inr h) = omega arith

first_left : (more less : ℕ) → max ((0 + more) - (0 + less)) 0 ≡ 0 + more - less
first_left more less = omega arith

module _ {A : Type 0} where
  pub any-more : (test : A → Bool) (s : List A) (a : A) → list_any test (s ++ a ∷ []) ≡ (list_any test s || test a)
  any-more test s a = grind (arith, common_steps)

  pub sum-more : (f : A → ℕ) (s : List A) (a : A) → sum_by f (s ++ a ∷ []) ≡ sum_by f s + f a
  sum-more f s a = grind (arith, common_steps)

  -- what is left, with what one more act gives or takes back
  pub left-more : (gives takes : A → ℕ) (s : List A) (a : A) → (gives a ≡ 0) ⊎ (takes a ≡ 0)
      → left gives takes (s ++ a ∷ []) ≡ left gives takes s + gives a - takes a
  left-more gives takes [] a h = first_left (gives a) (takes a)
  left-more gives takes (b ∷ s) a h =
      let given : sum_by gives (b ∷ (s ++ a ∷ [])) ≡ sum_by gives (b ∷ s) + gives a = sum-more gives (b ∷ s) a in
      let back : sum_by takes (b ∷ (s ++ a ∷ [])) ≡ sum_by takes (b ∷ s) + takes a = sum-more takes (b ∷ s) a in
      rw (given, back, left-more gives takes s a h)
      (best (sum_by gives (b ∷ s)) (sum_by takes (b ∷ s)) (left gives takes s) (gives a) (takes a) h)

  -- While no more is taken back than there is, what is left is what was given less what was taken back.
  pub balance-more : (gives takes : A → ℕ) (s : List A) (a : A) → (gives a ≡ 0) ⊎ (takes a ≡ 0)
      → takes a ≤ left gives takes s → sum_by gives s ≡ sum_by takes s + left gives takes s
      → sum_by gives (s ++ a ∷ []) ≡ sum_by takes (s ++ a ∷ []) + left gives takes (s ++ a ∷ [])
  balance-more gives takes s a h enough same =
      let given : sum_by gives (s ++ a ∷ []) ≡ sum_by gives s + gives a = sum-more gives s a in
      let back : sum_by takes (s ++ a ∷ []) ≡ sum_by takes s + takes a = sum-more takes s a in
      let now : left gives takes (s ++ a ∷ []) ≡ left gives takes s + gives a - takes a = left-more gives takes s a h in
      omega (arith, given, back, now, enough, same)

pub moments-more : (before s : Session) (a : Act)
    → moments_after before (s ++ a ∷ []) ≡ moments_after before s ++ (before ++ s, a) ∷ []
moments-more before [] a = ap (λ b. (b, a) ∷ []) (sym (append-nil before))
moments-more before (b ∷ s) a = ap (λ ms. (before, b) ∷ ms)
    (moments-more (before ++ b ∷ []) s a
    ∙ ap (λ t. moments_after (before ++ b ∷ []) s ++ (t, a) ∷ []) (append_assoc before (b ∷ []) s))

-- what comes after the last that passes a test, with one more
module _ {A : Type 0} (test : A → Bool) where
  since_by : (a b : A) (s : List A) (some now : Bool) → (rest : List A) → rest ≡ cond now [] (since test s ++ a ∷ [])
      → cond (some || now) rest (cond (test b) (s ++ a ∷ []) (b ∷ (s ++ a ∷ [])))
      ≡ cond now [] (cond some (since test s) (cond (test b) s (b ∷ s)) ++ a ∷ [])
  since_by a b s true true rest is = is
  since_by a b s true false rest is = is
  since_by a b s false true rest is = is
  since_by a b s false false rest is = by (test b)
    where
      by : (here : Bool) → cond here (s ++ a ∷ []) (b ∷ (s ++ a ∷ [])) ≡ cond here s (b ∷ s) ++ a ∷ []
      by true = refl
      by false = refl

  pub since-more : (s : List A) (a : A) → since test (s ++ a ∷ []) ≡ cond (test a) [] (since test s ++ a ∷ [])
  since-more [] a = refl
  since-more (b ∷ s) a = rw (any-more test s a)
      (since_by a b s (list_any test s) (test a) (since test (s ++ a ∷ [])) (since-more s a))

-- the requests that wait, with one more act

keeps_all : {X : Type 0} (xs : List X) → filter (λ _. true) xs ≡ xs
keeps_all [] = refl
keeps_all (x ∷ xs) = ap (λ ys. x ∷ ys) (keeps_all xs)

module _ {X : Type 0} where
  pub same_filter : (f g : X → Bool) → ((x : X) → f x ≡ g x) → (xs : List X) → filter f xs ≡ filter g xs
  same_filter f g same [] = refl
  same_filter f g same (x ∷ xs) = ap (λ ys. cond (f x) (x ∷ ys) ys) (same_filter f g same xs)
      ∙ ap (λ b. cond b (x ∷ filter g xs) (filter g xs)) (same x)

module _ {X : Type 0} (p q : X → Bool) where
  pub filtered_twice : (xs : List X) → filter (λ x. not (p x || q x)) xs ≡ filter (λ x. not (q x)) (filter (λ x. not (p x)) xs)
  filtered_twice [] = refl
  filtered_twice (x ∷ xs) = by (p x) (q x) refl (filtered_twice xs)
    where
      by : (b c : Bool) → q x ≡ c
          → filter (λ y. not (p y || q y)) xs ≡ filter (λ y. not (q y)) (filter (λ y. not (p y)) xs)
          → cond (not (b || c)) (x ∷ filter (λ y. not (p y || q y)) xs) (filter (λ y. not (p y || q y)) xs)
          ≡ filter (λ y. not (q y)) (cond (not b) (x ∷ filter (λ y. not (p y)) xs) (filter (λ y. not (p y)) xs))
      by true c e same = same
      by false true e same = rw e same
      by false false e same = rw e (ap (λ ys. x ∷ ys) same)

pub waiting-more : (s : Session) (a : Act)
    → waiting (s ++ a ∷ []) ≡ filter (λ e. not (ends e.0 a)) (waiting s) ++ asked_by a
waiting-more [] a = append-nil _ ∙ keeps_all (asked_by a)
waiting-more (b ∷ s) a =
    let still : List (ℕ × Asked) = filter (λ (e : ℕ × Asked). not (list_any (ends e.0) s)) (asked_by b) in
    let one : filter (λ (e : ℕ × Asked). not (list_any (ends e.0) (s ++ a ∷ []))) (asked_by b)
    ≡ filter (λ (e : ℕ × Asked). not (ends e.0 a)) still
    = same_filter _ _ (λ (e : ℕ × Asked). ap not (any-more (ends e.0) s a)) (asked_by b)
    ∙ filtered_twice (λ (e : ℕ × Asked). list_any (ends e.0) s) (λ (e : ℕ × Asked). ends e.0 a) (asked_by b) in
    ap (λ ys. ys ++ waiting (s ++ a ∷ [])) one
    ∙ ap (λ ys. filter (λ (e : ℕ × Asked). not (ends e.0 a)) still ++ ys) (waiting-more s a)
    ∙ sym (append_assoc (filter (λ (e : ℕ × Asked). not (ends e.0 a)) still)
    (filter (λ (e : ℕ × Asked). not (ends e.0 a)) (waiting s)) (asked_by a))
    ∙ ap (λ ys. ys ++ asked_by a)
    (sym (filter-append (λ (e : ℕ × Asked). not (ends e.0 a)) still (waiting s)))
