-- How many requests serve a call, as requests are queued, read and end.
use Rattle.std.proofs.Common.{◌≡◌, ℕ, zero, suc, ◌+◌, ◌≤◌, Bool, true, false, not, cond, List, [], ◌∷◌, filter, Option, Some, None, is_some, option_map, slice_get, nat_eq, count_by, find, refl, ap, ◌∙◌, arith, inl, inr, drop}
use Rattle.std.specs.List.{list_any}
use Rattle.std.specs.Map.{lookup, remove_entry}
use Rattle.std.specs.Option.{option_map_or}
use Rattle.std.proofs.lemmas.Bool.{cases_eq}
use Rattle.std.proofs.lemmas.Bool.Decides.{nat_tests}
use Rattle.fuse_spec.specs.declared.InterruptReply.{InterruptReply}
use Rattle.fuse_spec.specs.declared.InterruptReplyEffect.{InterruptReplyEffect}
use Rattle.fuse_spec.specs.declared.InterruptReplyEffect.TheVariants.{QueuedAgain, TurnedOff, None as NoReplyEffect}
use Rattle.fuse_spec.specs.declared.IntrEffect.{IntrEffect}
use Rattle.fuse_spec.specs.declared.IntrEffect.TheVariants.{Dequeued, Flagged as IsFlagged, Queued, None as NoEffect}
use Rattle.fuse_spec.specs.declared.Mark.{Mark}
use Rattle.fuse_spec.specs.declared.Mark.TheVariants.{Unread, Flagged, Read, Interrupted}
use Rattle.fuse_spec.specs.declared.Opened.{Opened}
use Rattle.fuse_spec.specs.declared.Purpose.{Purpose}
use Rattle.fuse_spec.specs.declared.Purpose.TheVariants.{Init, Release, Call}
use Rattle.fuse_spec.specs.declared.QueuedRequest.{QueuedRequest}
use Rattle.fuse_spec.specs.Kernel.Kernel.{is_for}
use Rattle.fuse_spec.specs.Kernel.Queues.{QueueState, IsSound, empty_queues, is_unread, mark_under, pending, request_under}
use Rattle.fuse_spec.specs.Kernel.QueueCalls.{set_mark, waiting, pending_at, can_read_forgets, after_enqueue, after_reading, after_read_pending, after_read_forgets, after_answer, after_effect, after_interrupt, after_reply_effect, after_interrupt_reply, interrupt_effect}
use Rattle.fuse_spec.specs.Kernel.Signals.{reply_effect}
use Rattle.fuse_spec.specs.Values.Maps.{Map, get, put, remove}
use Rattle.fuse_spec.proofs.QueueCounts.{key_count, count_by-cons, count_by-push}
use Rattle.fuse_spec.proofs.QueueReadings.{key_count-le-one}
use Rattle.fuse_spec.proofs.Tables.{get_put_here, get_put_there, get_gone_there}
use Rattle.fk_kernel.specs.Soundness.{ServesCalls, requests_for}
use Rattle.fk_kernel.proofs.Rooms.{some_same}

abbrev Entry : Type 0
Entry = ℕ × QueuedRequest Purpose

-- ---- how many pass a test, as an entry goes

module _ {X : Type 0} (p : ℕ × X → Bool) (u : ℕ) where
  -- no more pass
  count_less : (es : List (ℕ × X)) → count_by p (remove_entry (nat_eq u) es) ≤ count_by p es
  count_less [] = omega arith
  count_less (e ∷ es) =
      let counted = count_by-cons p e es in
      let left = count_by-cons p e (remove_entry (nat_eq u) es) in
      grind (arith, counted, left, count_less es)

  -- one fewer where what stands under the key passes
  count_left : (x : X) → p (u, x) ≡ true → (es : List (ℕ × X)) → lookup (nat_eq u) es ≡ Some x
      → count_by p (remove_entry (nat_eq u) es) + 1 ≡ count_by p es
  count_left x passes [] found = cc
  count_left x passes (e ∷ es) found = by (nat_eq u e.0) refl (count_left x passes es)
    where
      counted : count_by p (e ∷ es) ≡ cond (p e) 1 0 + count_by p es
      counted = count_by-cons p e es

      by : (b : Bool) → nat_eq u e.0 ≡ b → (lookup (nat_eq u) es ≡ Some x
          → count_by p (remove_entry (nat_eq u) es) + 1 ≡ count_by p es)
          → count_by p (remove_entry (nat_eq u) (e ∷ es)) + 1 ≡ count_by p (e ∷ es)
      by true h rest =
          let here : Some e.1 ≡ Some x = rw h at found in
          let is : e.1 ≡ x = some_same here in
          let key : e.0 ≡ u = grind (arith, nat_tests, h) in
          let whole : p e ≡ true = (λ i. p (key i, is i)) ∙ passes in
          rw (h, counted, whole) (omega arith)
      by false h rest =
          let left = count_by-cons p e (remove_entry (nat_eq u) es) in
          let more = rest (rw h at found) in
          rw (h, counted, left) (omega (arith, more))

  -- what a test finds has its key counted
  found_counted : (es : List (ℕ × X)) → option_map (λ (e : ℕ × X). e.0) (find p es) ≡ Some u → 1 ≤ key_count u es
  found_counted [] found = cc
  found_counted (e ∷ es) found =
      let counted = count_by-cons (λ (d : ℕ × X). nat_eq u d.0) e es in
      grind (arith, nat_tests, counted, found, found_counted es)

  -- one fewer where the key is that of the first that passes
  first_left : (es : List (ℕ × X)) → key_count u es ≤ 1 → option_map (λ (e : ℕ × X). e.0) (find p es) ≡ Some u
      → count_by p (remove_entry (nat_eq u) es) + 1 ≡ count_by p es
  first_left [] once found = cc
  first_left (e ∷ es) once found =
      let keys = count_by-cons (λ (d : ℕ × X). nat_eq u d.0) e es in
      let counted = count_by-cons p e es in
      let left = count_by-cons p e (remove_entry (nat_eq u) es) in
      grind (arith, nat_tests, keys, counted, left, once, found, found_counted es, first_left es)

-- what is among those that pass another test is counted, where it passes
among : {X : Type 0} (p q : X → Bool) (xs : List X) (i : ℕ) (x : X) → slice_get (filter q xs) i ≡ Some x → p x ≡ true
    → 1 ≤ count_by p xs
among p q [] i x found passes = cc
among {X = X} p q (y ∷ xs) i x found passes = by (q y) (λ j f. among p q xs j x f passes) found
  where
    counted : count_by p (y ∷ xs) ≡ cond (p y) 1 0 + count_by p xs
    counted = count_by-cons p y xs

    at : (j : ℕ) → ((k : ℕ) → slice_get (filter q xs) k ≡ Some x → 1 ≤ count_by p xs)
        → slice_get (y ∷ filter q xs) j ≡ Some x → 1 ≤ count_by p (y ∷ xs)
    at zero rest f =
        let is : y ≡ x = some_same f in
        let here : p y ≡ true = ap p is ∙ passes in
        rw (counted, here) (omega arith)
    at (suc j) rest f = rw counted (omega (arith, rest j f))

    by : (b : Bool) → ((k : ℕ) → slice_get (filter q xs) k ≡ Some x → 1 ≤ count_by p xs)
        → slice_get (cond b (y ∷ filter q xs) (filter q xs)) i ≡ Some x → 1 ≤ count_by p (y ∷ xs)
    by true rest f = at i rest f
    by false rest f = rw counted (omega (arith, rest i f))

-- a mark changes no purpose
count_marked : (call u : ℕ) (m : Mark) (es : List Entry)
    → count_by (λ (e : Entry). is_for call e.1.kept) (set_mark u es m)
    ≡ count_by (λ (e : Entry). is_for call e.1.kept) es
count_marked call u m [] = refl
count_marked call u m (e ∷ es) =
    let serves : Entry → Bool = λ x. is_for call x.1.kept in
    let here = count_by-cons serves (e.0, record { mark = m; kept = e.1.kept }) es in
    let there = count_by-cons serves e (set_mark u es m) in
    let was = count_by-cons serves e es in
    grind (arith, here, there, was, count_marked call u m es)

-- ---- no call has more requests in the new queues than in the old

pub record ServesNoMore (old new : QueueState Purpose) : Type 0 where
  pub each : (call : ℕ) → requests_for call new ≤ requests_for call old

-- the requests are the same
pub same_requests : {s t : QueueState Purpose} → t.requests ≡ s.requests → ServesNoMore s t
same_requests same = record {
  each = λ call.
      let served = ap (count_by (λ (e : Entry). is_for call e.1.kept)) same in
      omega (arith, served);
}

module _ (s : QueueState Purpose) where
  pub more_released : (opened : Opened) → ServesNoMore s (after_enqueue s (Release opened))
  more_released opened = record {
    each = λ call.
        let pushed = count_by-push (λ (e : Entry). is_for call e.1.kept) s.requests
        (s.next, record { mark = Unread; kept = Release opened }) in
        omega (arith, pushed);
  }

  pub fewer_answered : (unique : ℕ) → ServesNoMore s (after_answer s unique)
  fewer_answered unique = by (is_some (waiting s unique))
    where
      by : (b : Bool) → ServesNoMore s (cond b (record s {
        requests = remove_entry (nat_eq unique) s.requests;
        interrupts = filter (λ i. not (nat_eq unique i)) s.interrupts;
      }) s)
      by true = record { each = λ call. count_less (λ (e : Entry). is_for call e.1.kept) unique s.requests }
      by false = same_requests refl

  as_read : (unique : ℕ) (m : Mark) → ServesNoMore s (after_reading s unique m)
  as_read unique Unread =
      record { each = λ call. let same = count_marked call unique Read s.requests in omega (arith, same) }
  as_read unique Flagged =
      record { each = λ call. let same = count_marked call unique Interrupted s.requests in omega (arith, same) }
  as_read unique Read = same_requests refl
  as_read unique Interrupted = same_requests refl

  pub read_alike : (place : ℕ) → ServesNoMore s (after_read_pending s place)
  read_alike place = by (slice_get (pending s) place)
    where
      by : (o : Option Entry) → ServesNoMore s (option_map_or (λ e. after_reading s e.0 e.1.mark) o s)
      by None = same_requests refl
      by (Some e) = as_read e.0 e.1.mark

  pub forgets_alike : (count : ℕ) → ServesNoMore s (after_read_forgets s count)
  forgets_alike count = same_requests (by (can_read_forgets s count))
    where
      by : (b : Bool) → (cond b (record s { forgets = drop count s.forgets; next = s.next + 2 }) s).requests
          ≡ s.requests
      by true = refl
      by false = refl

  pub fewer_signalled : (unique : ℕ) (fatal : Bool) → ServesNoMore s (after_interrupt s unique fatal)
  fewer_signalled unique fatal = by (interrupt_effect s unique fatal)
    where
      by : (x : IntrEffect) → ServesNoMore s (after_effect s unique x)
      by Dequeued = record { each = λ call. count_less (λ (e : Entry). is_for call e.1.kept) unique s.requests }
      by IsFlagged =
          record { each = λ call. let same = count_marked call unique Flagged s.requests in omega (arith, same) }
      by Queued =
          record { each = λ call. let same = count_marked call unique Interrupted s.requests in omega (arith, same) }
      by NoEffect = same_requests refl

  pub replied_alike : (unique : ℕ) (reply : InterruptReply) → ServesNoMore s (after_interrupt_reply s unique reply)
  replied_alike unique reply = by (mark_under s unique)
    where
      effect : (x : InterruptReplyEffect) → ServesNoMore s (after_reply_effect s unique x)
      effect QueuedAgain = same_requests refl
      effect TurnedOff = same_requests refl
      effect NoReplyEffect = same_requests refl

      by : (o : Option Mark) → ServesNoMore s (option_map_or (λ m. after_reply_effect s unique
          (reply_effect reply m (list_any (nat_eq unique) s.interrupts) s.interrupts_off)) o s)
      by None = same_requests refl
      by (Some m) = effect (reply_effect reply m (list_any (nat_eq unique) s.interrupts) s.interrupts_off)

-- ---- the request of a call

same_call : (call : ℕ) → is_for call (Call call) ≡ true
same_call call = grind (arith, nat_tests)

-- the request that was read under a number
read_under : (s : QueueState Purpose) (unique : ℕ) (kept : Purpose) → waiting s unique ≡ Some kept
    → (r : QueuedRequest Purpose) × (request_under s unique ≡ Some r) × (r.kept ≡ kept)
read_under s unique kept waits = by (request_under s unique) refl waits
  where
    marked : (b : Bool) (r : QueuedRequest Purpose) → cond b None (Some r.kept) ≡ Some kept → r.kept ≡ kept
    marked true r is =
        let no : ◌≡◌ {A = Option Purpose} None (Some kept) = is in
        cc
    marked false r is = some_same is

    by : (o : Option (QueuedRequest Purpose)) → request_under s unique ≡ o
        → option_map_or (λ r. cond (is_unread r.mark) None (Some r.kept)) o None ≡ Some kept
        → (r : QueuedRequest Purpose) × (request_under s unique ≡ Some r) × (r.kept ≡ kept)
    by None under is =
        let no : ◌≡◌ {A = Option Purpose} None (Some kept) = is in
        absurd (cc)
    by (Some r) under is = (r, under, marked (is_unread r.mark) r is)

one_at_most : (b : Bool) {n : ℕ} → n ≤ cond b 1 0 → n ≤ 1
one_at_most true few = few
one_at_most false few = omega arith

there_if : (b : Bool) {n : ℕ} → n ≤ cond b 1 0 → 1 ≤ n → b ≡ true
there_if true few some = refl
there_if false few some = absurd (omega arith)

module _ {V : Type 0} {calls : Map V} {s : QueueState Purpose} (old : ServesCalls calls s) where
  pub served_less : {t : QueueState Purpose} → ServesNoMore s t → ServesCalls calls t
  served_less fewer = record { one = λ call. omega (arith, fewer.each call, old.one call) }

  -- a call that is not unanswered has no request
  pub none_for : (call : ℕ) → get calls call ≡ None → requests_for call s ≡ 0
  none_for call none =
      let few = old.one call in
      let zero_at_most : requests_for call s ≤ 0 = rw none at few in
      omega arith

  -- a call that has a request is unanswered
  pub read_unanswered : (unique call : ℕ) → waiting s unique ≡ Some (Call call) → is_some (get calls call) ≡ true
  read_unanswered unique call waits =
      let r = read_under s unique (Call call) waits in
      let serves : is_for call r.0.kept ≡ true = ap (is_for call) r.2 ∙ same_call call in
      let left = count_left (λ (e : Entry). is_for call e.1.kept) unique r.0 serves s.requests r.1 in
      there_if (is_some (get calls call)) (old.one call) (omega (arith, left))

  pub pending_unanswered : (place : ℕ) (unique call : ℕ) → pending_at s place ≡ Some (unique, Call call)
      → is_some (get calls call) ≡ true
  pending_unanswered place unique call at = by (slice_get (pending s) place) refl at
    where
      by : (o : Option Entry) → slice_get (pending s) place ≡ o
          → option_map {U = ℕ × Purpose} (λ (e : Entry). (e.0, e.1.kept)) o ≡ Some (unique, Call call)
          → is_some (get calls call) ≡ true
      by None is at = cc
      by (Some e) is at =
          let kept : e.1.kept ≡ Call call = ap (λ (x : ℕ × Purpose). x.1) (some_same at) in
          let serves : is_for call e.1.kept ≡ true = ap (is_for call) kept ∙ same_call call in
          there_if (is_some (get calls call)) (old.one call)
          (among (λ (x : Entry). is_for call x.1.kept) (λ (x : Entry). is_unread x.1.mark) s.requests place e is serves)

  -- the request of a call ends, and it has none
  pub none_answered : (unique call : ℕ) → waiting s unique ≡ Some (Call call)
      → requests_for call (after_answer s unique) ≡ 0
  none_answered unique call waits =
      let r = read_under s unique (Call call) waits in
      let serves : is_for call r.0.kept ≡ true = ap (is_for call) r.2 ∙ same_call call in
      let left = count_left (λ (e : Entry). is_for call e.1.kept) unique r.0 serves s.requests r.1 in
      let few = one_at_most (is_some (get calls call)) (old.one call) in
      rw waits (omega (arith, left, few))

  pub none_dequeued : (unique call : ℕ) (fatal : Bool) → IsSound s → interrupt_effect s unique fatal ≡ Dequeued
      → option_map (λ (e : Entry). e.0) (find (λ (e : Entry). is_for call e.1.kept) s.requests) ≡ Some unique
      → requests_for call (after_interrupt s unique fatal) ≡ 0
  none_dequeued unique call fatal sound effect first =
      let left = first_left (λ (e : Entry). is_for call e.1.kept) unique s.requests (key_count-le-one s unique sound)
      first in
      let few = one_at_most (is_some (get calls call)) (old.one call) in
      rw effect (omega (arith, left, few))

  -- a call that has no request asks
  pub served_asking : (call : ℕ) (v : V) → requests_for call s ≡ 0
      → ServesCalls (put calls call v) (after_enqueue s (Call call))
  served_asking call v none = record {
    one = λ c. elim (cases_eq c call) [
      | inl e ↦
          let here : is_some (get (put calls call v) c) ≡ true =
          ap (λ (n : ℕ). is_some (get (put calls call v) n)) e ∙ ap is_some (get_put_here calls call v) in
          let mine : requests_for c s ≡ 0 = ap (λ (n : ℕ). requests_for n s) e ∙ none in
          let test : is_for c (Call call) ≡ true = ap (λ (n : ℕ). is_for n (Call call)) e ∙ same_call call in
          rw (here, pushed c, test) (omega (arith, mine))
      | inr ne ↦
          let test : is_for c (Call call) ≡ false = grind (arith, nat_tests, ne) in
          rw (get_put_there calls call v c ne, pushed c, test) (omega (arith, old.one c))
    ];
  }
    where
      pushed : (c : ℕ) → requests_for c (after_enqueue s (Call call))
          ≡ requests_for c s + cond (is_for c (Call call)) 1 0
      pushed c = count_by-push (λ (e : Entry). is_for c e.1.kept) s.requests
          (s.next, record { mark = Unread; kept = Call call })

  -- a call that has no request is answered
  pub served_answered : (call : ℕ) → requests_for call s ≡ 0 → ServesCalls (remove calls call) s
  served_answered call none = record {
    one = λ c. elim (cases_eq c call) [
      | inl e ↦
          let mine : requests_for c s ≡ 0 = ap (λ (n : ℕ). requests_for n s) e ∙ none in
          omega (arith, mine)
      | inr ne ↦ rw (get_gone_there calls call c ne) (old.one c)
    ];
  }

module _ {V : Type 0} {calls : Map V} {s : QueueState Purpose} (old : ServesCalls calls s) where
  -- the request of a call ends with the call
  pub served_ended : (unique call : ℕ) → waiting s unique ≡ Some (Call call)
      → ServesCalls (remove calls call) (after_answer s unique)
  served_ended unique call waits = served_answered (served_less old (fewer_answered s unique)) call
      (none_answered old unique call waits)

  -- and where the call asks anew, one more is queued
  pub served_anew : (unique call : ℕ) (v : V) → waiting s unique ≡ Some (Call call)
      → ServesCalls (put calls call v) (after_enqueue (after_answer s unique) (Call call))
  served_anew unique call v waits = served_asking (served_less old (fewer_answered s unique)) call v
      (none_answered old unique call waits)

-- ---- no request of a call

pub none_served : {V : Type 0} (calls : Map V) → ServesCalls calls empty_queues
none_served calls = record { one = λ call. omega arith }

-- of a mount that starts
pub init_served : {V : Type 0} (calls : Map V) → ServesCalls calls (after_enqueue empty_queues Init)
init_served calls = record { one = λ call. omega arith }
