-- Each call keeps the lists sound.
use Rattle.std.proofs.Common.{◌≡◌, ℕ, ◌+◌, ◌≤◌, ◌<◌, Bool, true, false, not, cond, List, [], ◌∷◌, ◌++◌, filter, Option, Some, None, is_some, option_map, slice_get, nat_eq, length, count_by, refl, sym, ap, subst, ◌∙◌, arith, true≢false}
use Rattle.std.proofs.Math.Nat.{le_trans}
use Rattle.std.proofs.lemmas.Bool.Decides.{nat_tests}
use Rattle.std.specs.List.{list_any}
use Rattle.std.specs.Map.{lookup, remove_entry}
use Rattle.std.specs.Option.{option_map_or}
use Rattle.fuse_spec.specs.Kernel.Uniques.{IsNextNumber}
use Rattle.fuse_spec.specs.Kernel.Queues.{QueueState, has_interrupt, mark_under, is_unread, pending, is_interrupted, IsSound, was_allocated}
use Rattle.fuse_spec.specs.Kernel.QueueCalls.{after_enqueue, with_mark, with_interrupt, after_read_interrupt, without}
use Rattle.fuse_spec.specs.declared.Mark.{Mark}
use Rattle.fuse_spec.specs.declared.Mark.TheVariants.{Unread, Flagged, Read, Interrupted}
use Rattle.fuse_spec.specs.declared.QueuedRequest.{QueuedRequest}
use Rattle.fuse_spec.proofs.QueueCounts.{key_count, key_count-set_mark, lookup-set_mark_other, lookup-set_mark_same, key_count-remove_entry, count_by-push, count_by-cons, count_by-drop_first, count_by-without, lookup-no_key, lookup-found, lookup-push, lookup-remove_entry_other, length-le-keys}

-- numbers

was_allocated-later : (n u : ℕ) → was_allocated n u ≡ true → was_allocated (n + 2) u ≡ true
was_allocated-later n u allocated = grind (arith, nat_tests, allocated)

was_allocated-self : (n : ℕ) → was_allocated n n ≡ false
was_allocated-self n = grind (arith, nat_tests)

was_allocated-here : (n : ℕ) → IsNextNumber n → was_allocated (n + 2) n ≡ true
was_allocated-here n is = grind (arith, nat_tests, is.even, is.low)

-- bounds by a test

-- a count that does not rise stays below a test that does not fall
below_later : (m n : ℕ) (a b : Bool) → n ≤ m → m ≤ cond a 1 0 → (a ≡ true → b ≡ true) → n ≤ cond b 1 0
below_later m n false b fewer below more = omega arith
below_later m n true b fewer below more = rw (more refl) (omega arith)

-- a number that a list does not have
pub count_by-absent : (u : ℕ) (xs : List ℕ) → list_any (nat_eq u) xs ≡ false → count_by (nat_eq u) xs ≡ 0
count_by-absent u [] none = refl
count_by-absent u (x ∷ xs) none =
    let counted = count_by-cons (nat_eq u) x xs in
    grind (arith, counted, none, count_by-absent u xs)

-- an unread request is not interrupted
pub has_interrupt-unread : (m : Mark) → is_unread m ≡ true → has_interrupt m ≡ false
has_interrupt-unread Unread unread = refl
has_interrupt-unread Flagged unread = refl
has_interrupt-unread Read unread = refl
has_interrupt-unread Interrupted unread = cc

module _ {W : Type 0} where
  -- marks

  -- the mark decides whether a request is interrupted
  pub is_interrupted-marked : (s : QueueState W) (u : ℕ) (m : Mark) → mark_under s u ≡ Some m
      → is_interrupted s u ≡ has_interrupt m
  is_interrupted-marked s u m marked = ap (λ o. option_map_or has_interrupt o false) marked

  is_interrupted-later : (s t : QueueState W) (u : ℕ) → lookup (nat_eq u) t.requests ≡ lookup (nat_eq u) s.requests
      → is_interrupted s u ≡ true → is_interrupted t u ≡ true
  is_interrupted-later s t u same was = ap (λ o. option_map_or has_interrupt
      (option_map (λ r. r.mark) o) false) same ∙ was

  -- a request that is not interrupted has no INTERRUPT queued
  pub none_queued : (s : QueueState W) (u : ℕ) (old : Mark) → IsSound s → mark_under s u ≡ Some old
      → has_interrupt old ≡ false → count_by (nat_eq u) s.interrupts ≡ 0
  none_queued s u old sound marked quiet =
      let bound = sound.interrupts u in
      let is = is_interrupted-marked s u old marked in
      grind (arith, bound, is, quiet)

  -- room

  -- while the INTERRUPT of a request is not queued, fewer are queued than there are requests
  pub interrupts-lt-requests : (s : QueueState W) (u : ℕ) (m : Mark) → IsSound s → mark_under s u ≡ Some m
      → count_by (nat_eq u) s.interrupts ≡ 0 → length s.interrupts < length s.requests
  interrupts-lt-requests s u m sound marked none =
      length-le-keys (u ∷ s.interrupts) s.requests (λ v. by v (nat_eq v u) refl)
    where
      is_some-interrupted : (o : Option (QueuedRequest W))
          → option_map_or has_interrupt (option_map (λ r. r.mark) o) false ≡ true → is_some o ≡ true
      is_some-interrupted None is = cc
      is_some-interrupted (Some q) is = refl

      is_some-marked : (o : Option (QueuedRequest W)) → option_map (λ r. r.mark) o ≡ Some m → is_some o ≡ true
      is_some-marked None is = cc
      is_some-marked (Some q) is = refl

      by : (v : ℕ) (b : Bool) → nat_eq v u ≡ b → count_by (nat_eq v) (u ∷ s.interrupts) ≤ cond
          (is_some (lookup (nat_eq v) s.requests)) 1 0
      by v true e =
          let counted = count_by-cons (nat_eq v) u s.interrupts in
          let same : v ≡ u = grind (arith, nat_tests, e) in
          let there : is_some (lookup (nat_eq v) s.requests) ≡ true =
          rw same (is_some-marked (lookup (nat_eq u) s.requests) marked) in
          let absent : count_by (nat_eq v) s.interrupts ≡ 0 = rw same none in
          rw (there, counted, e) (omega arith)
      by v false e =
          let counted = count_by-cons (nat_eq v) u s.interrupts in
          let fewer : count_by (nat_eq v) (u ∷ s.interrupts) ≤ count_by (nat_eq v) s.interrupts =
          rw (counted, e) (omega arith) in
          below_later _ _ (is_interrupted s v) (is_some (lookup (nat_eq v) s.requests)) fewer (sound.interrupts v)
          (is_some-interrupted (lookup (nat_eq v) s.requests))

  -- the calls

  pub IsSound-enqueue : (s : QueueState W) (w : W) → IsSound s → IsNextNumber (s.next + 2) → IsSound (after_enqueue s w)
  IsSound-enqueue s w sound next = record {
    next = next;
    requests = λ u. allocated u (nat_eq u s.next) refl;
    interrupts = λ u. below_later _ _ (is_interrupted s u) (is_interrupted (after_enqueue s w) u) (omega arith)
        (sound.interrupts u) (still u);
  }
    where
      new : ℕ × QueuedRequest W
      new = (s.next, record { mark = Unread; kept = w })

      allocated : (u : ℕ) (b : Bool) → nat_eq u s.next ≡ b
          → key_count u (s.requests ++ new ∷ []) ≤ cond (was_allocated (s.next + 2) u) 1 0
      allocated u true e =
          let pushed = count_by-push (λ d. nat_eq u d.0) s.requests new in
          let same : u ≡ s.next = grind (arith, nat_tests, e) in
          let before : key_count u s.requests ≤ cond (was_allocated s.next s.next) 1 0 =
          subst (λ (n : ℕ). key_count u s.requests ≤ cond (was_allocated s.next n) 1 0) same (sound.requests u) in
          let none : key_count u s.requests ≤ 0 = rw was_allocated-self at before in
          let here : was_allocated (s.next + 2) u ≡ true = rw same (was_allocated-here s.next sound.next) in
          rw (here, pushed, e) (omega arith)
      allocated u false e =
          let pushed = count_by-push (λ d. nat_eq u d.0) s.requests new in
          let same : key_count u (s.requests ++ new ∷ []) ≤ key_count u s.requests = rw (pushed, e) (omega arith) in
          below_later _ _ (was_allocated s.next u) (was_allocated (s.next + 2) u) same (sound.requests u)
          (was_allocated-later s.next u)

      still : (u : ℕ) → is_interrupted s u ≡ true → is_interrupted (after_enqueue s w) u ≡ true
      still u was = by (lookup (nat_eq u) s.requests) refl
        where
          by : (o : Option (QueuedRequest W)) → lookup (nat_eq u) s.requests ≡ o
              → is_interrupted (after_enqueue s w) u ≡ true
          by None e = absurd (true≢false (sym was ∙ ap (λ o. option_map_or has_interrupt
              (option_map (λ r. r.mark) o) false) e))
          by (Some r) e = is_interrupted-later s (after_enqueue s w) u (lookup-push u s.requests new r e ∙ sym e) was

  pub IsSound-mark : (s : QueueState W) (u : ℕ) (old m : Mark) → IsSound s → mark_under s u ≡ Some old
      → has_interrupt old ≡ false → IsSound (with_mark s u m)
  IsSound-mark s u old m sound marked quiet = record {
    next = sound.next;
    requests = λ v. rw (key_count-set_mark v u s.requests m) (sound.requests v);
    interrupts = λ v. by v (nat_eq v u) refl;
  }
    where
      by : (v : ℕ) (b : Bool) → nat_eq v u ≡ b → count_by (nat_eq v) s.interrupts ≤ cond
          (is_interrupted (with_mark s u m) v) 1 0
      by v true e =
          let same : v ≡ u = grind (arith, nat_tests, e) in
          let none : count_by (nat_eq v) s.interrupts ≡ 0 = rw same (none_queued s u old sound marked quiet) in
          rw none (omega arith)
      by v false e = below_later _ _ (is_interrupted s v) (is_interrupted (with_mark s u m) v) (omega arith)
          (sound.interrupts v) (is_interrupted-later s (with_mark s u m) v (lookup-set_mark_other v u s.requests m e))

  pub IsSound-interrupt : (s : QueueState W) (u : ℕ) → IsSound s → is_interrupted s u ≡ true
      → count_by (nat_eq u) s.interrupts ≡ 0 → IsSound (with_interrupt s u)
  IsSound-interrupt s u sound is none = record {
    next = sound.next;
    requests = sound.requests;
    interrupts = λ v. by v s.interrupts_off;
  }
    where
      one_more : (v : ℕ) (b : Bool) → nat_eq v u ≡ b → count_by (nat_eq v) (s.interrupts ++ u ∷ []) ≤ cond
          (is_interrupted s v) 1 0
      one_more v true e =
          let pushed = count_by-push (nat_eq v) s.interrupts u in
          let same : v ≡ u = grind (arith, nat_tests, e) in
          let absent : count_by (nat_eq v) s.interrupts ≡ 0 = rw same none in
          let there : is_interrupted s v ≡ true = rw same is in
          rw (there, pushed, e) (omega arith)
      one_more v false e =
          let pushed = count_by-push (nat_eq v) s.interrupts u in
          rw (pushed, e) (omega (arith, sound.interrupts v))

      by : (v : ℕ) (off : Bool) → count_by (nat_eq v) (cond off s.interrupts (s.interrupts ++ u ∷ [])) ≤ cond
          (is_interrupted s v) 1 0
      by v true = sound.interrupts v
      by v false = one_more v (nat_eq v u) refl

  pub IsSound-without : (s : QueueState W) (u : ℕ) → IsSound s → IsSound (without s u)
  IsSound-without s u sound = record {
    next = sound.next;
    requests = λ v. le_trans (key_count-remove_entry v (nat_eq u) s.requests) (sound.requests v);
    interrupts = λ v. by v (nat_eq v u) refl (count_by-without v u s.interrupts);
  }
    where
      by : (v : ℕ) (b : Bool) → nat_eq v u ≡ b → count_by (nat_eq v)
          (filter (λ i. not (nat_eq u i)) s.interrupts) ≤ cond (nat_eq v u) 0 (count_by (nat_eq v) s.interrupts)
          → count_by (nat_eq v) (filter (λ i. not (nat_eq u i)) s.interrupts) ≤ cond
          (is_interrupted (without s u) v) 1 0
      by v true e fewer = le_trans (rw e at fewer) (omega arith)
      by v false e fewer = below_later _ _ (is_interrupted s v) (is_interrupted (without s u) v) (rw e at fewer)
          (sound.interrupts v) (is_interrupted-later s (without s u) v (lookup-remove_entry_other v u s.requests e))

  pub IsSound-dequeue : (s : QueueState W) (u : ℕ) (old : Mark) → IsSound s → mark_under s u ≡ Some old
      → has_interrupt old ≡ false → IsSound (record s { requests = remove_entry (nat_eq u) s.requests })
  IsSound-dequeue s u old sound marked quiet = record {
    next = sound.next;
    requests = λ v. le_trans (key_count-remove_entry v (nat_eq u) s.requests) (sound.requests v);
    interrupts = λ v. by v (nat_eq v u) refl;
  }
    where
      by : (v : ℕ) (b : Bool) → nat_eq v u ≡ b → count_by (nat_eq v) s.interrupts ≤ cond
          (is_interrupted (record s { requests = remove_entry (nat_eq u) s.requests }) v) 1 0
      by v true e =
          let same : v ≡ u = grind (arith, nat_tests, e) in
          let none : count_by (nat_eq v) s.interrupts ≡ 0 = rw same (none_queued s u old sound marked quiet) in
          rw none (omega arith)
      by v false e = below_later _ _ (is_interrupted s v)
          (is_interrupted (record s { requests = remove_entry (nat_eq u) s.requests }) v) (omega arith)
          (sound.interrupts v) (is_interrupted-later s (record s { requests = remove_entry (nat_eq u) s.requests }) v
          (lookup-remove_entry_other v u s.requests e))

  pub IsSound-read_interrupt : (s : QueueState W) → IsSound s → IsSound (after_read_interrupt s)
  IsSound-read_interrupt s sound = record {
    next = sound.next;
    requests = sound.requests;
    interrupts = λ u. below_later _ _ (is_interrupted s u) (is_interrupted s u)
        (count_by-drop_first (nat_eq u) s.interrupts) (sound.interrupts u) (λ was. was);
  }

  pub IsSound-draw : (s : QueueState W) (forgets : List (ℕ × ℕ)) → IsSound s → IsNextNumber (s.next + 2)
      → IsSound (record s { forgets = forgets; next = s.next + 2 })
  IsSound-draw s forgets sound next = record {
    next = next;
    requests = λ u. below_later _ _ (was_allocated s.next u) (was_allocated (s.next + 2) u) (omega arith) (sound.requests u)
        (was_allocated-later s.next u);
    interrupts = sound.interrupts;
  }

  -- the coming number has no request
  pub lookup-next : (s : QueueState W) → IsSound s → lookup (nat_eq s.next) s.requests ≡ None
  lookup-next s sound =
      let bound = sound.requests s.next in
      let none : key_count s.next s.requests ≤ 0 = rw was_allocated-self at bound in
      lookup-no_key s.next s.requests (omega arith)

  -- the INTERRUPT of a request that is marked so is queued
  pub IsSound-mark_interrupted : (s : QueueState W) (u : ℕ) (old : Mark) → IsSound s → mark_under s u ≡ Some old
      → has_interrupt old ≡ false → IsSound (with_interrupt (with_mark s u Interrupted) u)
  IsSound-mark_interrupted s u old sound marked quiet =
      let now = lookup-set_mark_same u s.requests Interrupted old marked in
      IsSound-interrupt
      (with_mark s u Interrupted)
      u
      (IsSound-mark s u old Interrupted sound marked quiet)
      (is_interrupted-marked (with_mark s u Interrupted) u Interrupted now)
      (none_queued s u old sound marked quiet)

  -- the mark of a pending request is found by its number
  pub mark_under-pending : (s : QueueState W) (place : ℕ) (e : ℕ × QueuedRequest W) → IsSound s
      → slice_get (pending s) place ≡ Some e → mark_under s e.0 ≡ Some e.1.mark
  mark_under-pending s place e sound found =
      let bound = sound.requests e.0 in
      let few : key_count e.0 s.requests ≤ 1 = by (was_allocated s.next e.0) bound in
      ap (option_map (λ r. r.mark)) (lookup-found (λ d. is_unread d.1.mark) s.requests place e found few)
    where
      by : {n : ℕ} (b : Bool) → n ≤ cond b 1 0 → n ≤ 1
      by true le = le
      by false le = omega arith
