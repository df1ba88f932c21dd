-- Values whose keys came late: what putting and taking make of the entries.
use Rattle.std.proofs.Common.{◌≡◌, ◌≢◌, ◌⊎◌, ℕ, ◌≤◌, ◌+◌, Bool, true, false, cond, List, [], ◌∷◌, length, Option, Some, None, is_some, IsSome, refl, sym, ap, subst, ◌∙◌, arith, T, inl, inr, true≢false}
use Rattle.std.specs.BTreeMap.{is_at}
use Rattle.std.specs.Ordering.{nat_cmp, eq_by_cmp}
use Rattle.std.specs.FinMap.{is_sorted}
use Rattle.std.specs.FinMap.Entries.{find-put, length-put}
use Rattle.std.proofs.lemmas.Bool.{cases_eq}
use Rattle.std.proofs.lemmas.Cmp.{nat_cmp_total}
use Rattle.fuse_spec.specs.Values.Maps.{get, put, remove}
use Rattle.fuse_spec.proofs.Tables.{get_put_here, get_put_there, get_gone_here, get_gone_there}
use Rattle.fuse_tables.specs.LateValues.{late_at, with_late, entries_of, AreKept}
use Rattle.fuse_tables.specs.LiveRows.{live}
use Rattle.fuse_tables.proofs.Rows.{apart, tied, sorted_with, sorted_without}
use Rattle.fuse_tables.proofs.Live.{ties, same_maps, sorted_live}

module _ {V : Type 0} where
  -- a late value, or else the one of the rows
  abbrev pub over : Option V → Option V → Option V
  over None row = row
  over (Some v) row = Some v

  over_none : (late row : Option V) → over late row ≡ None → (late ≡ None) × (row ≡ None)
  over_none None row none = (refl, none)
  over_none (Some v) row none = absurd (true≢false (ap is_some none))

  over_first : (b : Bool) (v : V) (late row : Option V) → cond b (Some v) (over late row) ≡ over (cond b (Some v) late) row
  over_first true v late row = refl
  over_first false v late row = refl

  pub sorted_late : (es os : List (ℕ × V)) → T (is_sorted nat_cmp es) → T (is_sorted nat_cmp (with_late es os))
  sorted_late es [] h = h
  sorted_late es (o ∷ os) h = sorted_with (with_late es os) o.0 o.1 (sorted_late es os h)

  pub get_late : (es os : List (ℕ × V)) (q : ℕ) → get (with_late es os) q ≡ over (late_at os q) (get es q)
  get_late es [] q = refl
  get_late es (o ∷ os) q =
      find-put nat_cmp nat_cmp_total q o.0 o.1 (with_late es os)
      ∙ ap (cond (eq_by_cmp nat_cmp q o.0) (Some o.1)) (get_late es os q)
      ∙ over_first (eq_by_cmp nat_cmp q o.0) o.1 (late_at os q) (get es q)

  pub absent_both : (es os : List (ℕ × V)) (k : ℕ) → get (with_late es os) k ≡ None
      → (late_at os k ≡ None) × (get es k ≡ None)
  absent_both es os k none = over_none (late_at os k) (get es k) (sym (get_late es os k) ∙ none)

  -- ---- counting

  no_shorter : (es : List (ℕ × V)) (k : ℕ) (v : V) → T (is_sorted nat_cmp es) → length es ≤ length (put es k v)
  no_shorter es k v h = by (is_some (get es k)) (length-put nat_cmp nat_cmp_total k v es h)
    where
      by : (b : Bool) → length (put es k v) ≡ cond b (length es) (length es + 1) → length es ≤ length (put es k v)
      by true e = omega arith
      by false e = omega arith

  pub length_late : (es os : List (ℕ × V)) → T (is_sorted nat_cmp es) → length es ≤ length (with_late es os)
  length_late es [] h = omega arith
  length_late es (o ∷ os) h =
      let rest = length_late es os h in
      let more = no_shorter (with_late es os) o.0 o.1 (sorted_late es os h) in
      omega arith

  -- ---- what a look-up finds after a change of the late values

  abbrev pub Updated : List (ℕ × V) → ℕ → Option V → List (ℕ × V) → Type 0
  Updated os k w new = (q : ℕ) → late_at new q ≡ cond (is_at (nat_cmp k) q) w (late_at os q)

  late_here : (os new : List (ℕ × V)) (k : ℕ) (w : Option V) → Updated os k w new → late_at new k ≡ w
  late_here os new k w h = h k ∙ ap (λ b. cond b w (late_at os k)) (ties k k ∙ tied k k refl)

  late_there : (os new : List (ℕ × V)) (k : ℕ) (w : Option V) (q : ℕ) → Updated os k w new → q ≢ k
      → late_at new q ≡ late_at os q
  late_there os new k w q h ne = h q ∙ ap (λ b. cond b w (late_at os q)) (ties k q ∙ apart k q (λ e. ne (sym e)))

  -- ---- putting and taking

  -- two maps are the same that have the same value at a key, and at every other
  same_at : (es fs : List (ℕ × V)) (k : ℕ) → T (is_sorted nat_cmp es) → T (is_sorted nat_cmp fs)
      → get es k ≡ get fs k → ((q : ℕ) → q ≢ k → get es q ≡ get fs q) → es ≡ fs
  same_at es fs k g h here there = same_maps es fs g h (λ q. by q (cases_eq q k))
    where
      by : (q : ℕ) → (q ≡ k) ⊎ (q ≢ k) → get es q ≡ get fs q
      by q (inl e) = subst (λ x. get es x ≡ get fs x) (sym e) here
      by q (inr ne) = there q ne

  pub row_put : (es os : List (ℕ × V)) (k : ℕ) (v : V) → T (is_sorted nat_cmp es) → late_at os k ≡ None
      → with_late (put es k v) os ≡ put (with_late es os) k v
  row_put es os k v h none =
      same_at (with_late (put es k v) os) (put (with_late es os) k v) k
      (sorted_late (put es k v) os (sorted_with es k v h)) (sorted_with (with_late es os) k v (sorted_late es os h))
      (get_late (put es k v) os k ∙ ap (λ o. over o (get (put es k v) k)) none ∙ get_put_here es k v
      ∙ sym (get_put_here (with_late es os) k v))
      (λ q ne. get_late (put es k v) os q ∙ ap (over (late_at os q)) (get_put_there es k v q ne)
      ∙ sym (get_late es os q) ∙ sym (get_put_there (with_late es os) k v q ne))

  pub late_put : (es os new : List (ℕ × V)) (k : ℕ) (v : V) → T (is_sorted nat_cmp es) → Updated os k (Some v) new
      → with_late es new ≡ put (with_late es os) k v
  late_put es os new k v h has =
      same_at (with_late es new) (put (with_late es os) k v) k
      (sorted_late es new h) (sorted_with (with_late es os) k v (sorted_late es os h))
      (get_late es new k ∙ ap (λ o. over o (get es k)) (late_here os new k (Some v) has)
      ∙ sym (get_put_here (with_late es os) k v))
      (λ q ne. get_late es new q ∙ ap (λ o. over o (get es q)) (late_there os new k (Some v) q has ne)
      ∙ sym (get_late es os q) ∙ sym (get_put_there (with_late es os) k v q ne))

  pub row_gone : (es os : List (ℕ × V)) (k : ℕ) → T (is_sorted nat_cmp es) → late_at os k ≡ None
      → with_late (remove es k) os ≡ remove (with_late es os) k
  row_gone es os k h none =
      same_at (with_late (remove es k) os) (remove (with_late es os) k) k
      (sorted_late (remove es k) os (sorted_without es k h)) (sorted_without (with_late es os) k (sorted_late es os h))
      (get_late (remove es k) os k ∙ ap (λ o. over o (get (remove es k) k)) none ∙ get_gone_here es k
      ∙ sym (get_gone_here (with_late es os) k))
      (λ q ne. get_late (remove es k) os q ∙ ap (over (late_at os q)) (get_gone_there es k q ne)
      ∙ sym (get_late es os q) ∙ sym (get_gone_there (with_late es os) k q ne))

  pub late_gone : (es os new : List (ℕ × V)) (k : ℕ) → T (is_sorted nat_cmp es) → get es k ≡ None
      → Updated os k None new → with_late es new ≡ remove (with_late es os) k
  late_gone es os new k h none gone =
      same_at (with_late es new) (remove (with_late es os) k) k
      (sorted_late es new h) (sorted_without (with_late es os) k (sorted_late es os h))
      (get_late es new k ∙ ap (λ o. over o (get es k)) (late_here os new k None gone) ∙ none
      ∙ sym (get_gone_here (with_late es os) k))
      (λ q ne. get_late es new q ∙ ap (λ o. over o (get es q)) (late_there os new k None q gone ne)
      ∙ sym (get_late es os q) ∙ sym (get_gone_there (with_late es os) k q ne))

  -- ---- rows and late values that stay apart

  module _ {rows : List (ℕ × Option V)} {os : List (ℕ × V)} (h : AreKept rows os) where
    -- a key that has a late value has none among the rows
    pub row_none : (k : ℕ) (v : V) → late_at os k ≡ Some v → get (live rows) k ≡ None
    row_none k v there = by (get (live rows) k) refl
      where
        by : (o : Option V) → get (live rows) k ≡ o → o ≡ None
        by None e = refl
        by (Some w) e = absurd (true≢false (sym (ap is_some there) ∙ ap is_some (h.apart k (ap is_some e))))

    pub value_late : (k : ℕ) (v : V) → late_at os k ≡ Some v → get (entries_of rows os) k ≡ Some v
    value_late k v there = get_late (live rows) os k ∙ ap (λ o. over o (get (live rows) k)) there

    pub value_row : (k : ℕ) → late_at os k ≡ None → get (entries_of rows os) k ≡ get (live rows) k
    value_row k none = get_late (live rows) os k ∙ ap (λ o. over o (get (live rows) k)) none

    -- the rows have one value more, at a key that has no late one
    pub kept_row_put : (new : List (ℕ × Option V)) (k : ℕ) (v : V) → T (is_sorted nat_cmp new)
        → live new ≡ put (live rows) k v → late_at os k ≡ None → AreKept new os
    kept_row_put new k v sorted is none = record { sorted = sorted; apart = λ q there. by q there (cases_eq q k) }
      where
        by : (q : ℕ) → is_some (get (live new) q) ≡ true → (q ≡ k) ⊎ (q ≢ k) → late_at os q ≡ None
        by q there (inl e) = subst (λ x. late_at os x ≡ None) (sym e) none
        by q there (inr ne) = h.apart q (ap is_some (sym (ap (λ m. get m q) is ∙ get_put_there (live rows) k v q ne)) ∙ there)

    -- one fewer
    pub kept_row_gone : (new : List (ℕ × Option V)) (k : ℕ) → T (is_sorted nat_cmp new)
        → live new ≡ remove (live rows) k → AreKept new os
    kept_row_gone new k sorted is = record { sorted = sorted; apart = λ q there. by q there (cases_eq q k) }
      where
        by : (q : ℕ) → is_some (get (live new) q) ≡ true → (q ≡ k) ⊎ (q ≢ k) → late_at os q ≡ None
        by q there (inl e) = absurd (true≢false (sym there ∙ ap is_some (ap (λ m. get m q) is
            ∙ subst (λ x. get (remove (live rows) k) x ≡ None) (sym e) (get_gone_here (live rows) k))))
        by q there (inr ne) = h.apart q (ap is_some (sym (ap (λ m. get m q) is ∙ get_gone_there (live rows) k q ne)) ∙ there)

    -- other rows with the same values
    pub kept_same : (new : List (ℕ × Option V)) → T (is_sorted nat_cmp new) → live new ≡ live rows → AreKept new os
    kept_same new sorted is = record {
      sorted = sorted;
      apart = λ q there. h.apart q (ap (λ m. is_some (get m q)) (sym is) ∙ there);
    }

    -- another value at a key that has one among the rows
    pub kept_replaced : (new : List (ℕ × Option V)) (k : ℕ) (v : V) (before : Option V) → T (is_sorted nat_cmp new)
        → (IsSome before → live new ≡ put (live rows) k v) → (before ≡ None → new ≡ rows) → late_at os k ≡ None
        → AreKept new os
    kept_replaced new k v None sorted there absent none = kept_same new sorted (ap live (absent refl))
    kept_replaced new k v (Some w) sorted there absent none = kept_row_put new k v sorted (there refl) none

    -- a late value more, or fewer, at a key that has none among the rows
    pub kept_late : (new : List (ℕ × V)) (k : ℕ) (w : Option V) → get (live rows) k ≡ None → Updated os k w new
        → AreKept rows new
    kept_late new k w none has = record { sorted = h.sorted; apart = λ q there. by q there (cases_eq q k) }
      where
        by : (q : ℕ) → is_some (get (live rows) q) ≡ true → (q ≡ k) ⊎ (q ≢ k) → late_at new q ≡ None
        by q there (inl e) = absurd (true≢false (sym there ∙ ap is_some (subst (λ x. get (live rows) x ≡ None) (sym e) none)))
        by q there (inr ne) = late_there os new k w q has ne ∙ h.apart q there

    pub sorted_entries : T (is_sorted nat_cmp (entries_of rows os))
    sorted_entries = sorted_late (live rows) os (sorted_live rows h.sorted)
