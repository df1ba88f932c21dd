-- Requests in rising number: what is found, marked and taken, and the numbers of those unread.
use Rattle.std.proofs.Common.{◌≡◌, ◌≢◌, ℕ, zero, suc, ◌<◌, ◌≤◌, Bool, true, false, not, cond, List, [], ◌∷◌, ◌++◌, length, get_or, filter, Option, Some, None, refl, sym, ap, subst, ◌∙◌, arith, rules, T, nat_eq, inl, inr, Less, Equal, Greater, if◌then◌else◌, IfSome, option_map, count_by}
use Rattle.std.specs.Prelude.{slice_get, nat_lt}
use Rattle.std.specs.Map.{lookup, remove_entry}
use Rattle.std.specs.List.{All, remove as removed}
use Rattle.std.specs.Ordering.{nat_cmp, is_lt, is_eq}
use Rattle.std.specs.FinMap.{is_sorted}
use Rattle.std.specs.FinMap.Entries.{below_all, by_order}
use Rattle.std.specs.declared.cmp.Ordering.{Ordering}
use Rattle.std.specs.Cmp.{ranked}
use Rattle.std.proofs.lemmas.Bool.{lt-ltb, ltb-true}
use Rattle.std.proofs.lemmas.Bool.Decides.{eqb_tells, nat_tests}
use Rattle.std.proofs.lemmas.List.Elements.{All-cons, All-head, All-tail}
use Rattle.std.proofs.lemmas.Option.{same_Some, slice_get_within, get_or_from_slice_get}
use Rattle.fuse_spec.specs.declared.Mark.{Mark}
use Rattle.fuse_spec.specs.declared.QueuedRequest.{QueuedRequest}
use Rattle.fuse_spec.specs.Kernel.Queues.{is_unread, was_allocated}
use Rattle.fuse_spec.specs.Kernel.QueueCalls.{set_mark}
use Rattle.fuse_spec.proofs.QueueCounts.{count_by-cons}
use Rattle.fuse_spec.specs.Values.Maps.{get, put, remove}
use Rattle.fuse_tables.proofs.Rows.{both_first, both_second, less_lower, apart, tied, none_below, kept_above}
use Rattle.fuse_tables.proofs.Live.{both, ties}
use Rattle.fk_queues.specs.Requests.{Rises, unread_numbers}

lower_less : (x y : ℕ) → x < y → T (is_lt (nat_cmp x y))
lower_less x y h = rw (lt-ltb x y h) tt

-- ---- numbers

all_of : (P : ℕ → Type 0) (ns : List ℕ) → ((k : ℕ) → k < length ns → P (get_or ns k 0)) → All P ns
all_of P [] h = λ k d lt. absurd (omega arith)
all_of P (n ∷ ns) h = All-cons P n ns (h 0 (omega arith)) (all_of P ns (λ k lt. h (suc k) (omega arith)))

pub rises_le : (ns : List ℕ) → Rises ns → (i j : ℕ) → i ≤ j → j < length ns → get_or ns i 0 ≤ get_or ns j 0
rises_le [] h i j le lt = absurd (omega arith)
rises_le (n ∷ ns) h zero zero le lt = omega arith
rises_le (n ∷ ns) h zero (suc j) le lt = let low = h.0 j 0 (omega arith) in omega arith
rises_le (n ∷ ns) h (suc i) zero le lt = absurd (omega arith)
rises_le (n ∷ ns) h (suc i) (suc j) le lt = rises_le ns h.1 i j (omega arith) (omega arith)

-- nothing goes where the number is not there
pub kept_others : (u : ℕ) (ns : List ℕ) → All (λ m. u ≢ m) ns → filter (λ n. not (nat_eq u n)) ns ≡ ns
kept_others u [] h = refl
kept_others u (n ∷ ns) h =
    let rest = kept_others u ns (All-tail (λ m. u ≢ m) n ns h) in
    rw (apart u n (h 0 0 (omega arith))) (ap (λ ms. n ∷ ms) rest)

others_above : (u x : ℕ) (ns : List ℕ) → u ≤ x → All (λ m. x < m) ns → All (λ m. u ≢ m) ns
others_above u x ns le h = λ k d lt e. let low = h k d lt in omega arith

pub gone_at : (u : ℕ) (ns : List ℕ) (i : ℕ) → Rises ns → i < length ns → get_or ns i 0 ≡ u
    → removed ns i ≡ filter (λ n. not (nat_eq u n)) ns
gone_at u [] i h lt at = absurd (omega arith)
gone_at u (n ∷ ns) zero h lt at =
    rw (tied u n (sym at)) (sym (kept_others u ns (others_above u n ns (omega arith) h.0)))
gone_at u (n ∷ ns) (suc i) h lt at =
    let low = h.0 i 0 (omega arith) in
    rw (apart u n (omega arith)) (ap (λ ms. n ∷ ms) (gone_at u ns i h.1 (omega arith) at))

pub gone_none : (u i : ℕ) (ns : List ℕ) → ((k : ℕ) → k < i → get_or ns k 0 < u)
    → ((k : ℕ) → i ≤ k → k < length ns → u < get_or ns k 0) → ns ≡ filter (λ n. not (nat_eq u n)) ns
gone_none u i ns below above = sym (kept_others u ns (all_of (λ m. u ≢ m) ns (λ k lt e. by k lt e (nat_lt k i) refl)))
  where
    by : (k : ℕ) → k < length ns → u ≡ get_or ns k 0 → (b : Bool) → nat_lt k i ≡ b → ⊥
    by k lt e true q = let low = below k (ltb-true k i q) in omega arith
    by k lt e false q = let high = above k (grind (arith, nat_tests)) lt in omega arith

module _ {X : Type 0} where
  pub lookup_get : (es : List (ℕ × X)) (u : ℕ) → lookup (nat_eq u) es ≡ get es u
  lookup_get [] u = refl
  lookup_get (e ∷ es) u = ap (λ b. cond b (Some e.1) (lookup (nat_eq u) es)) (sym (ties u e.0))
      ∙ ap (λ o. cond (is_eq (nat_cmp u e.0)) (Some e.1) o) (lookup_get es u)

  pub remove_entry_is : (es : List (ℕ × X)) (u : ℕ) → T (is_sorted nat_cmp es)
      → remove_entry (nat_eq u) es ≡ remove es u
  remove_entry_is [] u h = refl
  remove_entry_is (e ∷ es) u h =
      elim (eqb_tells u e.0) [
        | inl t ↦ rw (t.0, tied e.0 u (sym t.1)) (sym (kept_above u es e.0 (omega (arith, t.1)) (both_first _ _ h)))
        | inr t ↦ rw (t.0, apart e.0 u (λ q. t.1 (sym q)))
            (ap (λ (fs : List (ℕ × X)). e ∷ fs) (remove_entry_is es u (both_second _ _ h)))
      ]

  pub removed_fewer : (u : ℕ) (es : List (ℕ × X)) → length (remove_entry (nat_eq u) es) ≤ length es
  removed_fewer u [] = omega arith
  removed_fewer u (e ∷ es) =
      let rest = removed_fewer u es in
      elim (nat_eq u e.0) as (λ b. length (cond b es (e ∷ remove_entry (nat_eq u) es)) ≤ length (e ∷ es)) [
        | true ↦ omega arith
        | false ↦ omega (arith, rest)
      ]

  below_push : (x u : ℕ) (v : X) (es : List (ℕ × X)) → x < u → T (below_all nat_cmp x es)
      → T (below_all nat_cmp x (es ++ (u, v) ∷ []))
  below_push x u v [] lt h = both _ _ (lower_less x u lt) tt
  below_push x u v (e ∷ es) lt h = both _ _ (both_first _ _ h) (below_push x u v es lt (both_second _ _ h))

  pub sorted_push : (u : ℕ) (v : X) (es : List (ℕ × X)) → T (is_sorted nat_cmp es) → All (λ e. e.0 < u) es
      → T (is_sorted nat_cmp (es ++ (u, v) ∷ []))
  sorted_push u v [] h above = tt
  sorted_push u v (e ∷ es) h above =
      both _ _ (below_push e.0 u v es (above 0 e (omega arith)) (both_first _ _ h))
      (sorted_push u v es (both_second _ _ h) (All-tail (λ (e : ℕ × X). e.0 < u) e es above))

-- ---- above all others

is_true : (b : Bool) → T b → b ≡ true
is_true true h = refl
is_true false h = absurd h

allocated_below : (n u : ℕ) (b : Bool) → was_allocated n u ≡ b → 1 ≤ cond b 1 0 → u < n
allocated_below n u true q few =
    let allocated : T (was_allocated n u) = subst T (sym q) tt in
    ltb-true u n (is_true (nat_lt u n) (both_first _ _ (both_second _ _ allocated)))
allocated_below n u false q few = absurd (omega arith)

module _ {X : Type 0} where
  pub above_none : (u : ℕ) (es : List (ℕ × X)) → All (λ e. e.0 < u) es → lookup (nat_eq u) es ≡ None
  above_none u [] h = refl
  above_none u (e ∷ es) h =
      let low = h 0 e (omega arith) in
      rw (apart u e.0 (omega arith)) (above_none u es (All-tail (λ (e : ℕ × X). e.0 < u) e es h))

  -- each request's number is below the coming one
  pub allocated_all_below : (n : ℕ) (es : List (ℕ × X))
      → ((u : ℕ) → count_by (λ e. nat_eq u e.0) es ≤ (if was_allocated n u then 1 else 0)) → All (λ e. e.0 < n) es
  allocated_all_below n [] bound = λ k d lt. absurd (omega arith)
  allocated_all_below n (e ∷ es) bound =
      let counted = count_by-cons (λ (x : ℕ × X). nat_eq e.0 x.0) e es in
      let here = tied e.0 e.0 refl in
      let one : 1 ≤ cond (was_allocated n e.0) 1 0 = omega (arith, bound e.0, counted, ap {B = ℕ} (λ b. cond b 1 0) here) in
      All-cons (λ (x : ℕ × X). x.0 < n) e es (allocated_below n e.0 (was_allocated n e.0) refl one)
      (allocated_all_below n es (λ u. omega (arith, bound u, count_by-cons (λ (x : ℕ × X). nat_eq u x.0) e es)))

-- ---- putting

module _ {X : Type 0} where
  -- a key above all others has no value, and what is put there comes last
  pub above_absent : (es : List (ℕ × X)) (key : ℕ) → All (λ e. e.0 < key) es → get es key ≡ None
  above_absent [] key above = refl
  above_absent (e ∷ es) key above =
      by (nat_cmp key e.0) (greater (All-head (λ (x : ℕ × X). x.0 < key) e es above))
      (above_absent es key (All-tail (λ (x : ℕ × X). x.0 < key) e es above))
    where
      greater : e.0 < key → nat_cmp key e.0 ≡ Greater
      greater lower = grind (arith, lower, rules)

      by : (r : Ordering) → r ≡ Greater → get es key ≡ None → cond (is_eq r) (Some e.1) (get es key) ≡ None
      by Less q rest = rest
      by Equal q rest =
          let no : Equal ≡ Greater = q in
          cc
      by Greater q rest = rest

  pub put_last : (es : List (ℕ × X)) (key : ℕ) (v : X) → All (λ e. e.0 < key) es → put es key v ≡ es ++ (key, v) ∷ []
  put_last [] key v above = refl
  put_last (e ∷ es) key v above =
      by (nat_cmp key e.0) (greater (All-head (λ (x : ℕ × X). x.0 < key) e es above))
      (put_last es key v (All-tail (λ (x : ℕ × X). x.0 < key) e es above))
    where
      greater : e.0 < key → nat_cmp key e.0 ≡ Greater
      greater lower = grind (arith, lower, rules)

      by : (r : Ordering) → r ≡ Greater → put es key v ≡ es ++ (key, v) ∷ []
          → by_order r ((key, v) ∷ e ∷ es) ((e.0, v) ∷ es) (e ∷ put es key v) ≡ e ∷ (es ++ (key, v) ∷ [])
      by Less q rest =
          let no : Less ≡ Greater = q in
          cc
      by Equal q rest =
          let no : Equal ≡ Greater = q in
          cc
      by Greater q rest = ap (λ (m : List (ℕ × X)). e ∷ m) rest

abbrev Rows : Type 0 → Type 0
Rows W = List (ℕ × QueuedRequest W)

-- the number of a first row that is another stays
first_stays : (u x : ℕ) (b : Bool) (ns ms : List ℕ) → nat_eq u x ≡ false
    → ms ≡ filter (λ n. not (nat_eq u n)) ns
    → cond b (x ∷ ms) ms ≡ filter (λ n. not (nat_eq u n)) (cond b (x ∷ ns) ns)
first_stays u x true ns ms other same = rw other (ap (λ ks. x ∷ ks) same)
first_stays u x false ns ms other same = same

-- that of a first row that has the number goes
first_goes : (u x : ℕ) (b : Bool) (ns : List ℕ) → nat_eq u x ≡ true → All (λ m. u ≢ m) ns
    → ns ≡ filter (λ n. not (nat_eq u n)) (cond b (x ∷ ns) ns)
first_goes u x true ns same apart_all = rw same (sym (kept_others u ns apart_all))
first_goes u x false ns same apart_all = sym (kept_others u ns apart_all)

module _ {W : Type 0} where
  -- ---- marking

  some_none : (r : QueuedRequest W) → None ≡ Some r → ⊥
  some_none r e = cc

  pub marked_put : (u : ℕ) (m : Mark) (r : QueuedRequest W) (es : Rows W) → T (is_sorted nat_cmp es) → get es u ≡ Some r
      → put es u (record { mark = m; kept = r.kept }) ≡ set_mark u es m
  marked_put u m r [] h there = absurd (some_none r there)
  marked_put u m r (e ∷ es) h there =
      elim (nat_cmp u e.0) as (λ o. nat_cmp u e.0 ≡ o → cond (is_eq o) (Some e.1) (get es u) ≡ Some r
      → put (e ∷ es) u (record { mark = m; kept = r.kept }) ≡ set_mark u (e ∷ es) m) [
        | Less ↦ λ q t. let low = ranked u e.0 Less (sym q) in
            absurd (some_none r (sym (none_below u es e.0 (omega arith) (both_first _ _ h)) ∙ t))
        | Equal ↦ λ q t.
            let equal = ranked u e.0 Equal (sym q) in
            let same = same_Some e.1 r t in
            rw (q, tied u e.0 equal) (ap (λ (x : QueuedRequest W). (e.0, record { mark = m; kept = x.kept }) ∷ es)
            (sym same))
        | Greater ↦ λ q t.
            let high = ranked u e.0 Greater (sym q) in
            rw (q, apart u e.0 (omega arith)) (ap (λ (fs : Rows W). e ∷ fs)
            (marked_put u m r es (both_second _ _ h) t))
      ] refl there

  -- ---- the numbers of those unread

  numbers_first : (e : ℕ × QueuedRequest W) (es : Rows W) (b : Bool) → is_unread e.1.mark ≡ b
      → unread_numbers (e ∷ es) ≡ cond b (e.0 ∷ unread_numbers es) (unread_numbers es)
  numbers_first e es b q = ap (λ c. cond c (e.0 ∷ unread_numbers es) (unread_numbers es)) q

  pub numbers_above : (x : ℕ) (es : Rows W) → T (below_all nat_cmp x es) → All (λ m. x < m) (unread_numbers es)
  numbers_above x [] h = λ k d lt. absurd (omega arith)
  numbers_above x (e ∷ es) h =
      let rest = numbers_above x es (both_second _ _ h) in
      elim (is_unread e.1.mark) as (λ b. All (λ m. x < m) (cond b (e.0 ∷ unread_numbers es) (unread_numbers es))) [
        | true ↦ All-cons (λ m. x < m) e.0 (unread_numbers es) (less_lower x e.0 (both_first _ _ h)) rest
        | false ↦ rest
      ]

  pub numbers_rise : (es : Rows W) → T (is_sorted nat_cmp es) → Rises (unread_numbers es)
  numbers_rise [] h = tt
  numbers_rise (e ∷ es) h =
      let rest = numbers_rise es (both_second _ _ h) in
      elim (is_unread e.1.mark) as (λ b. Rises (cond b (e.0 ∷ unread_numbers es) (unread_numbers es))) [
        | true ↦ (numbers_above e.0 es (both_first _ _ h), rest)
        | false ↦ rest
      ]

  pub numbers_push : (u : ℕ) (r : QueuedRequest W) (es : Rows W) → is_unread r.mark ≡ true
      → unread_numbers (es ++ (u, r) ∷ []) ≡ unread_numbers es ++ u ∷ []
  numbers_push u r [] unread = ap (λ b. cond b (u ∷ []) []) unread
  numbers_push u r (e ∷ es) unread =
      let rest = numbers_push u r es unread in
      elim (is_unread e.1.mark) as (λ b. cond b (e.0 ∷ unread_numbers (es ++ (u, r) ∷ [])) (unread_numbers
      (es ++ (u, r) ∷ [])) ≡ cond b (e.0 ∷ unread_numbers es) (unread_numbers es) ++ u ∷ []) [
        | true ↦ ap (λ ns. e.0 ∷ ns) rest
        | false ↦ rest
      ]

  pub numbers_taken : (u : ℕ) (es : Rows W) → T (is_sorted nat_cmp es)
      → unread_numbers (remove_entry (nat_eq u) es) ≡ filter (λ n. not (nat_eq u n)) (unread_numbers es)
  numbers_taken u [] h = refl
  numbers_taken u (e ∷ es) h =
      elim (eqb_tells u e.0) [
        | inl t ↦ rw t.0 (first_goes u e.0 (is_unread e.1.mark) (unread_numbers es) t.0
            (others_above u e.0 (unread_numbers es) (omega (arith, t.1)) (numbers_above e.0 es (both_first _ _ h))))
        | inr t ↦ rw t.0 (first_stays u e.0 (is_unread e.1.mark) (unread_numbers es)
            (unread_numbers (remove_entry (nat_eq u) es)) t.0 (numbers_taken u es (both_second _ _ h)))
      ]

  pub numbers_read : (u : ℕ) (m : Mark) (es : Rows W) → T (is_sorted nat_cmp es) → is_unread m ≡ false
      → unread_numbers (set_mark u es m) ≡ filter (λ n. not (nat_eq u n)) (unread_numbers es)
  numbers_read u m [] h read = refl
  numbers_read u m (e ∷ es) h read =
      elim (eqb_tells u e.0) [
        | inl t ↦ rw (t.0, read) (first_goes u e.0 (is_unread e.1.mark) (unread_numbers es) t.0
            (others_above u e.0 (unread_numbers es) (omega (arith, t.1)) (numbers_above e.0 es (both_first _ _ h))))
        | inr t ↦ rw t.0 (first_stays u e.0 (is_unread e.1.mark) (unread_numbers es)
            (unread_numbers (set_mark u es m)) t.0 (numbers_read u m es (both_second _ _ h) read))
      ]

  pub numbers_flagged : (u : ℕ) (m : Mark) (es : Rows W) → is_unread m ≡ true
      → IfSome (lookup (nat_eq u) es) (λ r. is_unread r.mark ≡ true)
      → unread_numbers (set_mark u es m) ≡ unread_numbers es
  numbers_flagged u m [] unread there = refl
  numbers_flagged u m (e ∷ es) unread there =
      elim (nat_eq u e.0) as (λ b. IfSome (cond b (Some e.1) (lookup (nat_eq u) es)) (λ r. is_unread r.mark ≡ true)
      → unread_numbers (cond b ((e.0, record { mark = m; kept = e.1.kept }) ∷ es) (e ∷ set_mark u es m))
      ≡ unread_numbers (e ∷ es)) [
        | true ↦ λ was. ap (λ b. cond b (e.0 ∷ unread_numbers es) (unread_numbers es)) (unread ∙ sym was)
        | false ↦ λ was. ap (λ ns. cond (is_unread e.1.mark) (e.0 ∷ ns) ns) (numbers_flagged u m es unread was)
      ] there

  -- ---- what stands at a place among those unread

  abbrev pub unread_rows : Rows W → Rows W
  unread_rows es = filter (λ e. is_unread e.1.mark) es

  number_at_first : (e : ℕ × QueuedRequest W) (es : Rows W) (i : ℕ) (b : Bool)
      → ((j : ℕ) → slice_get (unread_numbers es) j ≡ option_map (λ x. x.0) (slice_get (unread_rows es) j))
      → slice_get (cond b (e.0 ∷ unread_numbers es) (unread_numbers es)) i
      ≡ option_map (λ x. x.0) (slice_get (cond b (e ∷ unread_rows es) (unread_rows es)) i)
  number_at_first e es i false later = later i
  number_at_first e es zero true later = refl
  number_at_first e es (suc i) true later = later i

  pub number_at : (es : Rows W) (i : ℕ)
      → slice_get (unread_numbers es) i ≡ option_map (λ x. x.0) (slice_get (unread_rows es) i)
  number_at [] i = refl
  number_at (e ∷ es) i = number_at_first e es i (is_unread e.1.mark) (λ j. number_at es j)

  none_there : (o : Option (ℕ × QueuedRequest W)) → option_map (λ x. x.0) o ≡ None → None ≡ o
  none_there None e = refl
  none_there (Some x) e = absurd (cc)

  pub none_at : (es : Rows W) (i : ℕ) → slice_get (unread_numbers es) i ≡ None → None ≡ slice_get (unread_rows es) i
  none_at es i none = none_there (slice_get (unread_rows es) i) (sym (number_at es i) ∙ none)

  passes_first : (e : ℕ × QueuedRequest W) (es : Rows W) (i u : ℕ) → T (below_all nat_cmp e.0 es)
      → slice_get (unread_numbers es) i ≡ Some u → get es u ≡ get (e ∷ es) u
  passes_first e es i u h at =
      let within = slice_get_within (unread_numbers es) i u at in
      let above = numbers_above e.0 es h i u within in
      let here = get_or_from_slice_get (unread_numbers es) i u u at in
      let high : e.0 < u = subst (λ n. e.0 < n) here above in
      ap (λ b. cond b (Some e.1) (get es u)) (sym (ties u e.0 ∙ apart u e.0 (omega arith)))

  request_at_first : (e : ℕ × QueuedRequest W) (es : Rows W) (i u : ℕ) (b : Bool) → T (below_all nat_cmp e.0 es)
      → ((j : ℕ) → slice_get (unread_numbers es) j ≡ Some u
      → slice_get (unread_rows es) j ≡ option_map (λ r. (u, r)) (get es u))
      → slice_get (cond b (e.0 ∷ unread_numbers es) (unread_numbers es)) i ≡ Some u
      → slice_get (cond b (e ∷ unread_rows es) (unread_rows es)) i ≡ option_map (λ r. (u, r)) (get (e ∷ es) u)
  request_at_first e es i u false h later at = later i at ∙ ap (option_map (λ r. (u, r))) (passes_first e es i u h at)
  request_at_first e es zero u true h later at =
      let same = same_Some e.0 u at in
      sym (ap (λ b. option_map (λ r. (u, r)) (cond b (Some e.1) (get es u))) (ties u e.0 ∙ tied u e.0 (sym same))
      ∙ ap (λ n. Some (n, e.1)) (sym same))
  request_at_first e es (suc i) u true h later at = later i at ∙ ap (option_map (λ r. (u, r))) (passes_first e es i u h at)

  pub request_at_number : (es : Rows W) (i u : ℕ) → T (is_sorted nat_cmp es) → slice_get (unread_numbers es) i ≡ Some u
      → slice_get (unread_rows es) i ≡ option_map (λ r. (u, r)) (get es u)
  request_at_number [] i u h at = absurd (cc)
  request_at_number (e ∷ es) i u h at =
      request_at_first e es i u (is_unread e.1.mark) (both_first _ _ h)
      (λ j t. request_at_number es j u (both_second _ _ h) t) at
