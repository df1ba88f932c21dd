-- The requests that wait, with one more act.
use Rattle.std.proofs.Common.{◌≡◌, ◌≢◌, ◌≤◌, ◌<◌, ℕ, ◌+◌, ◌-◌, ◌*◌, Bool, true, false, true≢false, not, cond, List, [], ◌∷◌, ◌++◌, length, length-append, suc, is_some, ◌&&◌, ◌||◌, nat_lt, Option, Some, None, refl, sym, ◌∙◌, ap, subst, arith, rules, nat_eq, inl, inr}
use Rattle.std.specs.Prelude.{sum_by, filter}
use Rattle.std.specs.Int.{from_bool}
use Rattle.std.specs.List.{list_any}
use Rattle.std.specs.Map.{lookup}
use Rattle.std.proofs.lemmas.Bool.{cases_eq}
use Rattle.std.proofs.lemmas.Grind.{common_steps}
use Rattle.std.proofs.lemmas.List.{append-nil}
use Rattle.std.proofs.lemmas.List.Elements.{filter-append}
use Rattle.fuse_spec.specs.Values.Maps.{Map, get, put, remove}
use Rattle.fuse_spec.proofs.Tables.{get_gone_here, get_gone_there}
use Rattle.fuse_sessions.specs.declared.act.Act.{Act}
use Rattle.fuse_sessions.specs.declared.act.Act.TheVariants as act
use Rattle.fuse_sessions.specs.declared.act.Asked.{Asked}
use Rattle.fuse_sessions.specs.declared.act.OpenFile.{OpenFile}
use Rattle.fuse_sessions.specs.declared.act.Taken.{Taken}
use Rattle.fuse_sessions.specs.Sessions.{Session, since}
use Rattle.fuse_sessions.specs.Waiting.{waiting, waits, asked_by, ends, is_that, reaches, names_node, uses_file, is_named, is_used}
use Rattle.fuse_sessions.specs.Numbers.{interrupts, agains, asks_under, interrupts_of, agains_of}
use Rattle.fuse_sessions.proofs.Laws.{sum-more, since-more, waiting-more, same_filter}
use Rattle.fuse_judge.specs.declared.handle.Handle.{Handle}
use Rattle.fuse_judge.specs.declared.pending.Waiting.{Waiting}
use Rattle.fuse_judge.specs.Handles.{handle, same_handle}
use Rattle.fuse_judge.specs.Pending.{HasEffect, entry_of, names_of, uses_of, AreListed, IsInterrupted, AreInterrupted, ArePending, IsWaiting, AreWaiting}
use Rattle.fuse_judge.specs.Tallies.{Counts, count_in, one_if}
use Rattle.fuse_judge.proofs.Keys.{same, differ, and_true, and_false, all_after_put, all_after_remove}

-- filters

module _ {X : Type 0} (p r : X → Bool) where
  pub kept_both : ((x : X) → p x ≡ true → r x ≡ true) → (xs : List X) → filter p (filter r xs) ≡ filter p xs
  kept_both h [] = refl
  kept_both h (x ∷ xs) = by (p x) (r x) refl refl (kept_both h xs)
    where
      by : (a b : Bool) → p x ≡ a → r x ≡ b → filter p (filter r xs) ≡ filter p xs
          → filter p (cond b (x ∷ filter r xs) (filter r xs)) ≡ cond a (x ∷ filter p xs) (filter p xs)
      by true true e f ih = rw e (ap (λ ys. x ∷ ys) ih)
      by true false e f ih = absurd (true≢false (sym (h x e) ∙ f))
      by false true e f ih = rw e ih
      by false false e f ih = ih

  pub kept_none : ((x : X) → p x ≡ true → r x ≡ false) → (xs : List X) → filter p (filter r xs) ≡ []
  kept_none h [] = refl
  kept_none h (x ∷ xs) = by (p x) (r x) refl refl (kept_none h xs)
    where
      by : (a b : Bool) → p x ≡ a → r x ≡ b → filter p (filter r xs) ≡ []
          → filter p (cond b (x ∷ filter r xs) (filter r xs)) ≡ []
      by true true e f ih = absurd (true≢false (sym f ∙ h x e))
      by true false e f ih = ih
      by false true e f ih = rw e ih
      by false false e f ih = ih

module _ {X : Type 0} where
  pub kept_all : (xs : List X) → filter (λ _. true) xs ≡ xs
  kept_all [] = refl
  kept_all (x ∷ xs) = ap (λ ys. x ∷ ys) (kept_all xs)

  pub sum_first : (w : X → ℕ) (x : X) (xs : List X) → sum_by w (x ∷ xs) ≡ w x + sum_by w xs
  sum_first w x xs = grind (arith, common_steps)

  -- a sum, over what passes a test and what does not
  pub sum_split : (w : X → ℕ) (p : X → Bool) (xs : List X)
      → sum_by w xs ≡ sum_by w (filter p xs) + sum_by w (filter (λ x. not (p x)) xs)
  sum_split w p [] = refl
  sum_split w p (x ∷ xs) = by (p x) (sum_split w p xs)
    where
      by : (b : Bool) → sum_by w xs ≡ sum_by w (filter p xs) + sum_by w (filter (λ y. not (p y)) xs)
          → sum_by w (x ∷ xs) ≡ sum_by w (cond b (x ∷ filter p xs) (filter p xs))
          + sum_by w (cond (not b) (x ∷ filter (λ y. not (p y)) xs) (filter (λ y. not (p y)) xs))
      by true ih =
          let all : sum_by w (x ∷ xs) ≡ w x + sum_by w xs = sum_first w x xs in
          let some : sum_by w (x ∷ filter p xs) ≡ w x + sum_by w (filter p xs) = sum_first w x (filter p xs) in
          rw (all, some) (omega (arith, ih))
      by false ih =
          let all : sum_by w (x ∷ xs) ≡ w x + sum_by w xs = sum_first w x xs in
          let some : sum_by w (x ∷ filter (λ y. not (p y)) xs) ≡ w x + sum_by w (filter (λ y. not (p y)) xs)
          = sum_first w x (filter (λ y. not (p y)) xs) in
          rw (all, some) (omega (arith, ih))

-- The requests but those under a number.
abbrev pub without : ℕ → List (ℕ × Asked) → List (ℕ × Asked)
without u xs = filter (λ e. not (nat_eq u e.0)) xs

another : (u q k : ℕ) → u ≢ q → nat_eq q k ≡ true → not (nat_eq u k) ≡ true
another u q k ne e = grind (arith, rules)

-- one request ends

pub once_ended : (xs : List (ℕ × Asked)) (rows : Map Waiting) (u : ℕ)
    → ((q : ℕ) → filter (λ e. nat_eq q e.0) xs ≡ entry_of q (get rows q))
    → (q : ℕ) → filter (λ e. nat_eq q e.0) (without u xs) ≡ entry_of q (get (remove rows u) q)
once_ended xs rows u are =
    all_after_remove (λ q o. filter (λ e. nat_eq q e.0) (without u xs) ≡ entry_of q o) rows u
    (kept_none (λ (e : ℕ × Asked). nat_eq u e.0) (λ (e : ℕ × Asked). not (nat_eq u e.0)) (λ x e. ap not e) xs)
    (λ q ne. kept_both (λ (e : ℕ × Asked). nat_eq q e.0) (λ (e : ℕ × Asked). not (nat_eq u e.0))
    (λ x e. another u q x.0 ne e) xs ∙ are q)

pub sum_ended : (w : ℕ × Asked → ℕ) (xs : List (ℕ × Asked)) (u : ℕ) (o : Option Waiting)
    → filter (λ e. nat_eq u e.0) xs ≡ entry_of u o → sum_by w (without u xs) ≡ sum_by w xs - sum_by w (entry_of u o)
sum_ended w xs u o e =
    let split : sum_by w xs ≡ sum_by w (filter (λ (e : ℕ × Asked). nat_eq u e.0) xs) + sum_by w (without u xs)
    = sum_split w (λ (e : ℕ × Asked). nat_eq u e.0) xs in
    let here : sum_by w (filter (λ (e : ℕ × Asked). nat_eq u e.0) xs) ≡ sum_by w (entry_of u o) = ap (sum_by w) e in
    omega (arith, split, here)

-- one request is asked

pub once_asked : (xs : List (ℕ × Asked)) (rows : Map Waiting) (u : ℕ) (row : Waiting) → get rows u ≡ None
    → ((q : ℕ) → filter (λ e. nat_eq q e.0) xs ≡ entry_of q (get rows q))
    → (q : ℕ) → filter (λ e. nat_eq q e.0) (xs ++ (u, row.asked) ∷ []) ≡ entry_of q (get (put rows u row) q)
once_asked xs rows u row gone are =
    all_after_put (λ q o. filter (λ e. nat_eq q e.0) (xs ++ (u, row.asked) ∷ []) ≡ entry_of q o) rows u row
    (filter-append (λ (e : ℕ × Asked). nat_eq u e.0) xs ((u, row.asked) ∷ [])
    ∙ ap (λ ys. ys ++ filter (λ (e : ℕ × Asked). nat_eq u e.0) ((u, row.asked) ∷ [])) (are u ∙ ap (entry_of u) gone)
    ∙ ap (λ b. cond b ((u, row.asked) ∷ []) []) (same u))
    (λ q ne. filter-append (λ (e : ℕ × Asked). nat_eq q e.0) xs ((u, row.asked) ∷ [])
    ∙ ap (λ b. filter (λ (e : ℕ × Asked). nat_eq q e.0) xs ++ cond b ((u, row.asked) ∷ []) [])
    (differ q u (λ e. ne (sym e))) ∙ append-nil _ ∙ are q)

-- INTERRUPTs

module _ {A : Type 0} (test : A → Bool) (f : A → ℕ) where
  since_sum : (s : List A) (a : A) (b : Bool)
      → sum_by f (cond b [] (since test s ++ a ∷ [])) ≡ cond b 0 (sum_by f (since test s) + f a)
  since_sum s a true = refl
  since_sum s a false = sum-more f (since test s) a

  pub counted_since : (s : List A) (a : A)
      → sum_by f (since test (s ++ a ∷ [])) ≡ cond (test a) 0 (sum_by f (since test s) + f a)
  counted_since s a = ap (sum_by f) (since-more test s a) ∙ since_sum s a (test a)

  pub more_since : (s : List A) (a : A) → test a ≡ false
      → sum_by f (since test (s ++ a ∷ [])) ≡ sum_by f (since test s) + f a
  more_since s a not_it = counted_since s a ∙ ap (λ b. cond b 0 (sum_by f (since test s) + f a)) not_it

pub other_row : (s : Session) (a : Act) (q : ℕ) (o : Option Waiting) → asks_under q a ≡ false → interrupts_of q a ≡ 0
    → agains_of q a ≡ 0 → IsInterrupted s q o → IsInterrupted (s ++ a ∷ []) q o
other_row s a q None no_ask no_more no_again is = tt
other_row s a q (Some row) no_ask no_more no_again is =
    let more : interrupts (s ++ a ∷ []) q ≡ interrupts s q + interrupts_of q a
    = more_since (asks_under q) (interrupts_of q) s a no_ask in
    let again : agains (s ++ a ∷ []) q ≡ agains s q + agains_of q a
    = more_since (asks_under q) (agains_of q) s a no_ask in (
      omega (arith, more, no_more, is.0),
      omega (arith, again, no_again, is.1),
    )

pub removed_interrupted : (s : Session) (rows : Map Waiting) (u : ℕ) → AreInterrupted s rows
    → AreInterrupted s (remove rows u)
removed_interrupted s rows u are = all_after_remove (IsInterrupted s) rows u tt (λ q ne. are q)

pub asked_interrupted : (s : Session) (rows : Map Waiting) (u : ℕ) (asked : Asked) → AreInterrupted s rows
    → AreInterrupted (s ++ act.Asks u asked ∷ []) (put rows u (record { asked = asked; interrupts = 0; agains = 0 }))
asked_interrupted s rows u asked are =
    let a : Act = act.Asks u asked in
    all_after_put (IsInterrupted (s ++ a ∷ [])) rows u _ (
      rw (counted_since (asks_under u) (interrupts_of u) s a, same u) refl,
      rw (counted_since (asks_under u) (agains_of u) s a, same u) refl,
    )
    (λ q ne. other_row s a q (get rows q) (differ u q ne) refl refl (are q))

module _ (s : Session) (a : Act) (rows : Map Waiting) (u : ℕ) (i g : Bool)
    (is : (q : ℕ) → HasEffect q a false (one_if (nat_eq u q && i)) (one_if (nat_eq u q && g)))
    (are : AreInterrupted s rows) where
  beside : (q : ℕ) → u ≢ q → IsInterrupted (s ++ a ∷ []) q (get rows q)
  beside q ne = other_row s a q (get rows q) (is q).under
      ((is q).interrupting ∙ ap (λ b. one_if (b && i)) (differ u q ne))
      ((is q).again ∙ ap (λ b. one_if (b && g)) (differ u q ne)) (are q)

  pub interrupted_row : (row : Waiting) → get rows u ≡ Some row → AreInterrupted (s ++ a ∷ []) (put rows u (record {
    asked = row.asked;
    interrupts = row.interrupts + one_if i;
    agains = row.agains + one_if g;
  }))
  interrupted_row row there =
      let was : IsInterrupted s u (Some row) = subst (IsInterrupted s u) there (are u) in
      let more : interrupts (s ++ a ∷ []) u ≡ interrupts s u + interrupts_of u a
      = more_since (asks_under u) (interrupts_of u) s a (is u).under in
      let one : interrupts_of u a ≡ one_if i = (is u).interrupting ∙ ap (λ b. one_if (b && i)) (same u) in
      let again : agains (s ++ a ∷ []) u ≡ agains s u + agains_of u a
      = more_since (asks_under u) (agains_of u) s a (is u).under in
      let once : agains_of u a ≡ one_if g = (is u).again ∙ ap (λ b. one_if (b && g)) (same u) in
      all_after_put (IsInterrupted (s ++ a ∷ [])) rows u _ (
        more ∙ ap (λ n. n + interrupts_of u a) was.0 ∙ ap (λ n. row.interrupts + n) one,
        again ∙ ap (λ n. n + agains_of u a) was.1 ∙ ap (λ n. row.agains + n) once,
      )
      beside

  pub interrupted_none : get rows u ≡ None → AreInterrupted (s ++ a ∷ []) rows
  interrupted_none gone q = elim (cases_eq u q) [
    | inl e ↦ subst (λ k. IsInterrupted (s ++ a ∷ []) k (get rows k)) e
        (subst (IsInterrupted (s ++ a ∷ []) u) (sym gone) tt)
    | inr ne ↦ beside q ne
  ]

-- a row of the same request lists the same
pub same_entries : (rows : Map Waiting) (u : ℕ) (row new : Waiting) → get rows u ≡ Some row → new.asked ≡ row.asked
    → (q : ℕ) → entry_of q (get (put rows u new) q) ≡ entry_of q (get rows q)
same_entries rows u row new there is =
    all_after_put (λ q o. entry_of q o ≡ entry_of q (get rows q)) rows u new
    (ap (λ r. (u, r) ∷ []) is ∙ sym (ap (entry_of u) there)) (λ q ne. refl)

-- The tables, with the list of the requests.

one_sum : (w : ℕ × Asked → ℕ) (e : ℕ × Asked) → sum_by w (e ∷ []) ≡ w e
one_sum w e = grind (arith, common_steps)

module _ (xs : List (ℕ × Asked)) (rows : Map Waiting) (u : ℕ) (named : Counts ℕ) (used : Counts Handle)
    (are : AreListed xs rows named used) where
  pub ended_some : (row : Waiting) (names : Counts ℕ) (uses : Counts Handle) → get rows u ≡ Some row
      → ((n : ℕ) → count_in nat_eq names n ≡ count_in nat_eq named n - names_of n row.asked)
      → ((f : OpenFile) → count_in same_handle uses (handle f)
      ≡ count_in same_handle used (handle f) - uses_of f row.asked)
      → AreListed (without u xs) (remove rows u) names uses
  ended_some row names uses there fewer less = record {
    once = once_ended xs rows u are.once;
    names = λ n. fewer n ∙ ap (λ k. k - names_of n row.asked) (are.names n)
        ∙ sym (sum (λ e. names_of n e.1));
    uses = λ f. less f ∙ ap (λ k. k - uses_of f row.asked) (are.uses f)
        ∙ sym (sum (λ e. uses_of f e.1));
  }
    where
      sum : (w : ℕ × Asked → ℕ) → sum_by w (without u xs) ≡ sum_by w xs - w (u, row.asked)
      sum w = sum_ended w xs u (Some row) (are.once u ∙ ap (entry_of u) there)
          ∙ ap (λ k. sum_by w xs - k) (one_sum w (u, row.asked))

  none_ended : get rows u ≡ None → (w : ℕ × Asked → ℕ) → sum_by w (without u xs) ≡ sum_by w xs
  none_ended gone w = sum_ended w xs u None (are.once u ∙ ap (entry_of u) gone) ∙ omega arith

  pub ended_absent : get rows u ≡ None → AreListed (without u xs) (remove rows u) named used
  ended_absent gone = record {
    once = once_ended xs rows u are.once;
    names = λ n. are.names n ∙ sym (none_ended gone (λ e. names_of n e.1));
    uses = λ f. are.uses f ∙ sym (none_ended gone (λ e. uses_of f e.1));
  }

  pub ended_none : get rows u ≡ None → AreListed (without u xs) rows named used
  ended_none gone = record {
    once = λ q. once_ended xs rows u are.once q ∙ ap (entry_of q) (there q);
    names = λ n. are.names n ∙ sym (none_ended gone (λ e. names_of n e.1));
    uses = λ f. are.uses f ∙ sym (none_ended gone (λ e. uses_of f e.1));
  }
    where
      there : (q : ℕ) → get (remove rows u) q ≡ get rows q
      there q = elim (cases_eq u q) [
        | inl e ↦ subst (λ k. get (remove rows u) k ≡ get rows k) e (get_gone_here rows u ∙ sym gone)
        | inr ne ↦ get_gone_there rows u q (λ h. ne (sym h))
      ]

  pub listed_asked : (asked : Asked) (names : Counts ℕ) (uses : Counts Handle) → get rows u ≡ None
      → ((n : ℕ) → count_in nat_eq names n ≡ count_in nat_eq named n + names_of n asked)
      → ((f : OpenFile) → count_in same_handle uses (handle f) ≡ count_in same_handle used (handle f) + uses_of f asked)
      → AreListed (xs ++ (u, asked) ∷ []) (put rows u (record { asked = asked; interrupts = 0; agains = 0 })) names uses
  listed_asked asked names uses gone more further = record {
    once = once_asked xs rows u (record { asked = asked; interrupts = 0; agains = 0 }) gone are.once;
    names = λ n. more n ∙ ap (λ k. k + names_of n asked) (are.names n)
        ∙ sym (sum-more (λ (e : ℕ × Asked). names_of n e.1) xs (u, asked));
    uses = λ f. further f ∙ ap (λ k. k + uses_of f asked) (are.uses f)
        ∙ sym (sum-more (λ (e : ℕ × Asked). uses_of f e.1) xs (u, asked));
  }

  pub listed_alike : (new : Map Waiting) → ((q : ℕ) → entry_of q (get new q) ≡ entry_of q (get rows q))
      → AreListed xs new named used
  listed_alike new alike = record {
    once = λ q. are.once q ∙ sym (alike q);
    names = are.names;
    uses = are.uses;
  }

-- other tables with the same counts
pub pending_recounted : (s : Session) (rows : Map Waiting) (named names : Counts ℕ) (used uses : Counts Handle)
    → ArePending s rows named used → ((n : ℕ) → count_in nat_eq names n ≡ count_in nat_eq named n)
    → ((q : Handle) → count_in same_handle uses q ≡ count_in same_handle used q) → ArePending s rows names uses
pending_recounted s rows named names used uses are same_names same_uses = record {
  listed = record {
    once = are.listed.once;
    names = λ n. same_names n ∙ are.listed.names n;
    uses = λ f. same_uses (handle f) ∙ are.listed.uses f;
  };
  interrupted = are.interrupted;
}

-- The requests that wait after one more act.

pub waiting_kept : (s : Session) (a : Act) → ((q : ℕ) → ends q a ≡ false) → asked_by a ≡ []
    → waiting (s ++ a ∷ []) ≡ waiting s
waiting_kept s a quiet none = waiting-more s a
    ∙ ap (λ ys. filter (λ (e : ℕ × Asked). not (ends e.0 a)) (waiting s) ++ ys) none ∙ append-nil _
    ∙ same_filter (λ (e : ℕ × Asked). not (ends e.0 a)) (λ _. true) (λ (e : ℕ × Asked). ap not (quiet e.0)) (waiting s)
    ∙ kept_all (waiting s)

pub waiting_ended : (s : Session) (a : Act) (u : ℕ) → ((q : ℕ) → ends q a ≡ nat_eq u q) → asked_by a ≡ []
    → waiting (s ++ a ∷ []) ≡ without u (waiting s)
waiting_ended s a u here none = waiting-more s a
    ∙ ap (λ ys. filter (λ (e : ℕ × Asked). not (ends e.0 a)) (waiting s) ++ ys) none ∙ append-nil _
    ∙ same_filter (λ (e : ℕ × Asked). not (ends e.0 a)) (λ (e : ℕ × Asked). not (nat_eq u e.0))
    (λ (e : ℕ × Asked). ap not (here e.0)) (waiting s)

module _ (s : Session) (a : Act) (rows : Map Waiting) (named : Counts ℕ) (used : Counts Handle)
    (are : ArePending s rows named used) where
  pub pending_kept : ((q : ℕ) → HasEffect q a false 0 0) → ArePending (s ++ a ∷ []) rows named used
  pending_kept is = record {
    listed = subst (λ xs. AreListed xs rows named used) (sym (waiting_kept s a (λ q. (is q).ending)
        (is 0).asking)) are.listed;
    interrupted = λ q. other_row s a q (get rows q) (is q).under (is q).interrupting (is q).again (are.interrupted q);
  }

  pub pending_ended : (u : ℕ) (new : Map Waiting) (names : Counts ℕ) (uses : Counts Handle)
      → ((q : ℕ) → HasEffect q a (nat_eq u q) 0 0) → AreListed (without u (waiting s)) new names uses
      → AreInterrupted s new → ArePending (s ++ a ∷ []) new names uses
  pending_ended u new names uses is listed interrupted = record {
    listed = subst (λ xs. AreListed xs new names uses) (sym (waiting_ended s a u (λ q. (is q).ending)
        (is 0).asking)) listed;
    interrupted = λ q. other_row s a q (get new q) (is q).under (is q).interrupting (is q).again (interrupted q);
  }

  pub pending_interrupted : (more again : ℕ → ℕ) (new : Map Waiting) → ((q : ℕ)
      → HasEffect q a false (more q) (again q))
      → ((q : ℕ) → entry_of q (get new q) ≡ entry_of q (get rows q)) → AreInterrupted (s ++ a ∷ []) new
      → ArePending (s ++ a ∷ []) new named used
  pending_interrupted more again new is alike interrupted = record {
    listed = listed_alike (waiting (s ++ a ∷ [])) rows 0 named used
        (subst (λ xs. AreListed xs rows named used) (sym (waiting_kept s a (λ q. (is q).ending)
        (is 0).asking)) are.listed)
        new alike;
    interrupted = interrupted;
  }

pub pending_asked : (s : Session) (u : ℕ) (asked : Asked) (rows : Map Waiting) (named : Counts ℕ) (used : Counts Handle)
    → AreListed (without u (waiting s) ++ (u, asked) ∷ []) rows named used
    → AreInterrupted (s ++ act.Asks u asked ∷ []) rows → ArePending (s ++ act.Asks u asked ∷ []) rows named used
pending_asked s u asked rows named used listed interrupted = record {
  listed = subst (λ xs. AreListed xs rows named used) (sym (waiting-more s (act.Asks u asked))) listed;
  interrupted = interrupted;
}

-- what a row says of its number

abbrev first_asked : List (ℕ × Asked) → Option Asked
first_asked [] = None
first_asked (e ∷ es) = Some e.1

found_first : (u : ℕ) (xs : List (ℕ × Asked))
    → lookup (nat_eq u) xs ≡ first_asked (filter (λ (e : ℕ × Asked). nat_eq u e.0) xs)
found_first u [] = refl
found_first u (x ∷ xs) = by (nat_eq u x.0) (found_first u xs)
  where
    by : (b : Bool) → lookup (nat_eq u) xs ≡ first_asked (filter (λ (e : ℕ × Asked). nat_eq u e.0) xs)
        → cond b (Some x.1) (lookup (nat_eq u) xs)
        ≡ first_asked (cond b (x ∷ filter (λ (e : ℕ × Asked). nat_eq u e.0) xs) (filter (λ (e : ℕ
        × Asked). nat_eq u e.0) xs))
    by true ih = refl
    by false ih = ih

is_waiting : (s : Session) (u : ℕ) (o : Option Waiting)
    → filter (λ (e : ℕ × Asked). nat_eq u e.0) (waiting s) ≡ entry_of u o → IsInterrupted s u o → IsWaiting s u o
is_waiting s u None e is = found_first u (waiting s) ∙ ap first_asked e
is_waiting s u (Some row) e is = (found_first u (waiting s) ∙ ap first_asked e, is.0, is.1)

pub pending_waiting : (s : Session) (rows : Map Waiting) (named : Counts ℕ) (used : Counts Handle) → ArePending s rows named used
    → AreWaiting s rows
pending_waiting s rows named used are u = is_waiting s u (get rows u) (are.listed.once u) (are.interrupted u)

pub waits_is : (s : Session) (u : ℕ) (o : Option Waiting) → IsWaiting s u o → is_some o ≡ is_some (waits s u)
waits_is s u None is = sym (ap is_some is)
waits_is s u (Some row) is = sym (ap is_some is.0)

-- a reply ends what waits under its number, or nothing
pub reply_ends : (u : ℕ) (t : Taken) → reaches t ≡ true → (q : ℕ) → HasEffect q (act.Replies u t) (nat_eq u q) 0 0
reply_ends u t is q = record {
  ending = ap (λ b. nat_eq u q && b) is ∙ and_true (nat_eq u q);
  asking = refl;
  under = refl;
  interrupting = refl;
  again = refl;
}

pub reply_ends_none : (u : ℕ) (t : Taken) → reaches t ≡ false → (q : ℕ) → HasEffect q (act.Replies u t) false 0 0
reply_ends_none u t is q = record {
  ending = ap (λ b. nat_eq u q && b) is ∙ and_false (nat_eq u q);
  asking = refl;
  under = refl;
  interrupting = refl;
  again = refl;
}

-- No count is larger than the session.

pub from_one : (b : Bool) → from_bool b ≡ one_if b
from_one true = refl
from_one false = refl

pub one_small : (b : Bool) → one_if b ≤ 1
one_small true = omega arith
one_small false = omega arith

pub sum_small : {X : Type 0} (w : X → ℕ) (most : ℕ) → ((x : X) → w x ≤ most) → (xs : List X)
    → sum_by w xs ≤ most * length xs
sum_small w most small [] = omega arith
sum_small w most small (x ∷ xs) =
    let first : sum_by w (x ∷ xs) ≡ w x + sum_by w xs = sum_first w x xs in
    let here : w x ≤ most = small x in
    let rest : sum_by w xs ≤ most * length xs = sum_small w most small xs in
    let long : most * length (x ∷ xs) ≡ most + most * length xs = grind arith in
    omega (arith, first, here, rest, long)

at_most : (b : Bool) (e : ℕ × Asked) → length (cond b (e ∷ []) []) ≤ 1
at_most true e = omega arith
at_most false e = omega arith

one_asked : (p : ℕ × Asked → Bool) (a : Act) → length (filter p (asked_by a)) ≤ 1
one_asked p (act.Asks u asked) = at_most (p (u, asked)) (u, asked)
one_asked p a = omega arith

pub waiting_short : (s : Session) → length (waiting s) ≤ length s
waiting_short [] = omega arith
waiting_short (a ∷ s) =
    let here : length (filter (λ (e : ℕ × Asked). not (list_any (ends e.0) s)) (asked_by a)) ≤ 1
    = one_asked (λ e. not (list_any (ends e.0) s)) a in
    let rest : length (waiting s) ≤ length s = waiting_short s in
    let both : length (filter (λ (e : ℕ × Asked). not (list_any (ends e.0) s)) (asked_by a) ++ waiting s)
    ≡ length (filter (λ (e : ℕ × Asked). not (list_any (ends e.0) s)) (asked_by a)) + length (waiting s)
    = length-append _ _ in
    omega (arith, here, rest, both)

pub since_short : {A : Type 0} (test : A → Bool) (s : List A) → length (since test s) ≤ length s
since_short test [] = omega arith
since_short test (a ∷ s) = by (list_any test s) (test a) (since_short test s)
  where
    by : (b c : Bool) → length (since test s) ≤ length s
        → length (cond b (since test s) (cond c s (a ∷ s))) ≤ suc (length s)
    by true c ih = omega (arith, ih)
    by false true ih = omega arith
    by false false ih = omega arith

effect_more : (q : ℕ) (a : Act) (b : Bool) → HasEffect q a false (one_if b) 0
    → HasEffect q a false (one_if (b && true)) (one_if (b && false))
effect_more q a true is = is
effect_more q a false is = is

effect_again : (q : ℕ) (a : Act) (b : Bool) → HasEffect q a false 0 (one_if b)
    → HasEffect q a false (one_if (b && false)) (one_if (b && true))
effect_again q a true is = is
effect_again q a false is = is

pub as_interrupt : (a : Act) (u : ℕ) → ((q : ℕ) → HasEffect q a false (one_if (nat_eq u q)) 0)
    → (q : ℕ) → HasEffect q a false (one_if (nat_eq u q && true)) (one_if (nat_eq u q && false))
as_interrupt a u is q = effect_more q a (nat_eq u q) (is q)

pub as_again : (a : Act) (u : ℕ) → ((q : ℕ) → HasEffect q a false 0 (one_if (nat_eq u q)))
    → (q : ℕ) → HasEffect q a false (one_if (nat_eq u q && false)) (one_if (nat_eq u q && true))
as_again a u is q = effect_again q a (nat_eq u q) (is q)

module _ (s : Session) (rows : Map Waiting) (named : Counts ℕ) (used : Counts Handle) (are : ArePending s rows named used)
    (limit : ℕ) (small : 2 * length s + 2 < limit) where
  pub names_few : (n : ℕ) → count_in nat_eq named n + 2 < limit
  names_few n =
      let is : count_in nat_eq named n ≡ sum_by (λ (e : ℕ × Asked). names_of n e.1) (waiting s) = are.listed.names n in
      let few : sum_by (λ (e : ℕ × Asked). names_of n e.1) (waiting s) ≤ 2 * length (waiting s)
      = sum_small (λ (e : ℕ × Asked). names_of n e.1) 2
      (λ e. two (nat_eq e.1.nodeid n) (nat_eq e.1.other n)) (waiting s) in
      let short : length (waiting s) ≤ length s = waiting_short s in
      omega (arith, is, few, short, small)
    where
      two : (b c : Bool) → one_if b + one_if c ≤ 2
      two b c = let h : one_if b ≤ 1 = one_small b in let k : one_if c ≤ 1 = one_small c in omega (arith, h, k)

  pub uses_few : (f : OpenFile) → count_in same_handle used (handle f) + 2 < limit
  uses_few f =
      let is : count_in same_handle used (handle f) ≡ sum_by (λ (e : ℕ × Asked). uses_of f e.1) (waiting s)
      = are.listed.uses f in
      let few : sum_by (λ (e : ℕ × Asked). uses_of f e.1) (waiting s) ≤ 2 * length (waiting s)
      = sum_small (λ (e : ℕ × Asked). uses_of f e.1) 2 (λ e. two (is_that f e.1.uses) (is_that f e.1.copies_to))
      (waiting s) in
      let short : length (waiting s) ≤ length s = waiting_short s in
      omega (arith, is, few, short, small)
    where
      two : (b c : Bool) → one_if b + one_if c ≤ 2
      two b c = let h : one_if b ≤ 1 = one_small b in let k : one_if c ≤ 1 = one_small c in omega (arith, h, k)

  pub interrupts_few : (u : ℕ) (row : Waiting) → get rows u ≡ Some row
      → (row.interrupts + 1 < limit) × (row.agains + 1 < limit)
  interrupts_few u row there =
      let is : IsInterrupted s u (Some row) = subst (IsInterrupted s u) there (are.interrupted u) in
      let since_few : length (since (asks_under u) s) ≤ length s = since_short (asks_under u) s in
      let more : interrupts s u ≤ 1 * length (since (asks_under u) s)
      = sum_small (interrupts_of u) 1 (one_more u) (since (asks_under u) s) in
      let again : agains s u ≤ 1 * length (since (asks_under u) s)
      = sum_small (agains_of u) 1 (one_again u) (since (asks_under u) s) in
      (omega (arith, is.0, since_few, more, small), omega (arith, is.1, since_few, again, small))
    where
      one_more : (q : ℕ) (a : Act) → interrupts_of q a ≤ 1
      one_more q (act.Interrupts v o) = one_small (nat_eq o q)
      one_more q a = omega arith

      one_again : (q : ℕ) (a : Act) → agains_of q a ≤ 1
      one_again q (act.RepliesToInterrupt o is_again t) = one_small (nat_eq o q && (is_again && reaches t))
      one_again q a = omega arith

-- whether some request that waits names a node, or uses an open file

or_positive : (a b : ℕ) → (nat_lt 0 a || nat_lt 0 b) ≡ nat_lt 0 (a + b)
or_positive a b = grind (arith, rules)

either_one : (b c : Bool) → (b || c) ≡ nat_lt 0 (one_if b + one_if c)
either_one true true = refl
either_one true false = refl
either_one false true = refl
either_one false false = refl

any_sum : {X : Type 0} (test : X → Bool) (w : X → ℕ) → ((x : X) → test x ≡ nat_lt 0 (w x)) → (xs : List X)
    → list_any test xs ≡ nat_lt 0 (sum_by w xs)
any_sum test w is [] = refl
any_sum test w is (x ∷ xs) = ap (λ b. b || list_any test xs) (is x)
    ∙ ap (λ b. nat_lt 0 (w x) || b) (any_sum test w is xs) ∙ or_positive (w x) (sum_by w xs)
    ∙ ap (nat_lt 0) (sym (sum_first w x xs))

module _ (s : Session) (rows : Map Waiting) (named : Counts ℕ) (used : Counts Handle) (are : ArePending s rows named used) where
  pub named_counts : (n : ℕ) → nat_lt 0 (count_in nat_eq named n) ≡ is_named s n
  named_counts n = ap (nat_lt 0) (are.listed.names n) ∙ sym
      (any_sum (λ (e : ℕ × Asked). names_node n e.1) (λ (e : ℕ × Asked). names_of n e.1)
      (λ e. either_one (nat_eq e.1.nodeid n) (nat_eq e.1.other n)) (waiting s))

  pub used_counts : (f : OpenFile) → nat_lt 0 (count_in same_handle used (handle f)) ≡ is_used s f
  used_counts f = ap (nat_lt 0) (are.listed.uses f) ∙ sym
      (any_sum (λ (e : ℕ × Asked). uses_file f e.1) (λ (e : ℕ × Asked). uses_of f e.1)
      (λ e. either_one (is_that f e.1.uses) (is_that f e.1.copies_to)) (waiting s))
