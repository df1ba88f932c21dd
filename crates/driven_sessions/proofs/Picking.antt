-- What a request that is read from the kernel asks is what its reply is taken for; its number is 2 or higher.
use Rattle.std.proofs.Common.{◌≡◌, ℕ, ◌+◌, ◌≤◌, Bool, true, false, true≢false, cond, List, [], ◌∷◌, Option, Some, None, drop, nat_eq, nat_lt, option_map, slice_get, filter, zero, suc, refl, ap, sym, subst, ◌∙◌, arith}
use Rattle.std.specs.Map.{lookup, remove_entry}
use Rattle.std.specs.Option.{option_map_or}
use Rattle.std.proofs.lemmas.Bool.{false≢true}
use Rattle.std.proofs.lemmas.Bool.Decides.{nat_tests}
use Rattle.fk_wire.specs.declared.opcode.Opcode.{Opcode}
use Rattle.fk_wire.specs.declared.opcode.Opcode.TheVariants as op
use Rattle.fuse_spec.specs.declared.Mark.{Mark}
use Rattle.fuse_spec.specs.declared.Mark.TheVariants as mark
use Rattle.fuse_spec.specs.declared.Purpose.{Purpose}
use Rattle.fuse_spec.specs.Kernel.Kernel.{Kernel, body_of}
use Rattle.fuse_spec.specs.Kernel.Messages.{Request}
use Rattle.fuse_spec.specs.Kernel.QueueCalls.{after_reading, can_read_forgets, set_mark}
use Rattle.fuse_spec.specs.Kernel.Queues.{QueueState, is_unread, pending, request_under}
use Rattle.fuse_spec.proofs.QueueCounts.{count_by-cons, key_count, lookup-no_key}
use Rattle.fuse_theorem.proofs.Requests.AskKept.{asks_same, lookup_marked}
use Rattle.fuse_theorem.proofs.Requests.QueueMoves.{ReadsNone, stays, queues, ends, marks, moves_on}
use Rattle.fuse_frames.specs.RequestTies.{asked_opcode}
use Rattle.fk_kernel.specs.AwaitedReplies.{Awaited, nothing, reply_to}
use Rattle.fk_kernel.specs.Picks.{IsPicked, after_pick}
use Rattle.fk_kernel.specs.declared.read.Pick.{Pick}
use Rattle.fk_kernel.specs.declared.read.Pick.TheVariants.{Interrupt, Forgets, Pending}
use Rattle.fk_drive_theorem.proofs.OneEach.{OneEach}
use Rattle.fk_drive_theorem.proofs.Stable.{Stable, at_most}
use Rattle.driven_sessions.proofs.Asking.{AwaitsOnly, awaited_of, awaits, awaits_none, awaits_read, once_each, some_awaited}
use Rattle.driven_sessions.proofs.Frames.{is_interrupt}
use Rattle.driven_sessions.proofs.Numbers.{Each, Entry, each_at, each_push, each_remarked, each_removed, each_stable}

-- Each number is 2 or higher.
pub record Above (q : QueueState Purpose) : Type 0 where
  pub next : 2 ≤ q.next
  pub requests : Each (λ e. 2 ≤ e.0) q.requests

pub above_stable : (q : QueueState Purpose) → Stable (Above q)
above_stable q s = record {
  next = at_most _ _ (λ no. s (λ a. no a.next));
  requests = each_stable (λ e. 2 ≤ e.0) (λ e. at_most _ _) q.requests (λ no. s (λ a. no a.requests));
}

above_same : (q r : QueueState Purpose) (es : List Entry) → r.requests ≡ es → r.next ≡ q.next → Each (λ e. 2 ≤ e.0) es → Above q
    → Above r
above_same q r es same next all a =
    let low = a.next in
    record { next = omega (arith, low, next); requests = subst (Each (λ e. 2 ≤ e.0)) (sym same) all }

pub moves_above : (q r : QueueState Purpose) → ReadsNone q r → Above q → Above r
moves_above q r (stays a b same next) n = above_same q r q.requests same next n.requests n
moves_above q r (queues a kept) n =
    let low = n.next in
    record {
      next = omega (arith, low);
      requests = each_push (λ e. 2 ≤ e.0) q.requests (q.next, record { mark = mark.Unread; kept = kept }) n.requests low;
    }
moves_above q r (ends a b v same next) n = above_same q r (remove_entry (nat_eq v) q.requests) same next
    (each_removed (λ e. 2 ≤ e.0) (nat_eq v) q.requests n.requests) n
moves_above q r (marks a b v old m found may same next) n = above_same q r (set_mark v q.requests m) same next
    (each_remarked (λ e. 2 ≤ e.0) (λ e m p. p) v m q.requests n.requests) n
moves_above q r (moves_on a b c first rest) n = moves_above b r rest (moves_above q b first n)

reading_above : (q : QueueState Purpose) (u : ℕ) (m : Mark) → Above q → Above (after_reading q u m)
reading_above q u mark.Unread a = record { next = a.next; requests = each_remarked (λ e. 2 ≤ e.0) (λ e m p. p) u mark.Read q.requests a.requests }
reading_above q u mark.Flagged a =
    record { next = a.next; requests = each_remarked (λ e. 2 ≤ e.0) (λ e m p. p) u mark.Interrupted q.requests a.requests }
reading_above q u mark.Read a = a
reading_above q u mark.Interrupted a = a

pub picked_above : (q : QueueState Purpose) (pick : Pick) → Above q → Above (after_pick q pick)
picked_above q Interrupt a = record { next = a.next; requests = a.requests }
picked_above q (Forgets count) a = by (can_read_forgets q count)
  where
    by : (b : Bool) → Above (cond b (record q { forgets = drop count q.forgets; next = q.next + 2 }) q)
    by true = let low = a.next in record { next = omega (arith, low); requests = a.requests }
    by false = a
picked_above q (Pending place) a = by (slice_get (pending q) place)
  where
    by : (o : Option Entry) → Above (option_map_or (λ (e : Entry). after_reading q e.0 e.1.mark) o q)
    by None = a
    by (Some e) = reading_above q e.0 e.1.mark a

-- ---- what is pending

-- It is the one request under its number.
pub found_pending : (es : List Entry) (place : ℕ) (e : Entry) → key_count e.0 es ≤ 1
    → slice_get (filter (λ (x : Entry). is_unread x.1.mark) es) place ≡ Some e → lookup (nat_eq e.0) es ≡ Some e.1
found_pending [] place e once at = absurd (cc at)
found_pending (x ∷ es) place e once at = by (is_unread x.1.mark) (nat_eq e.0 x.0) refl place at (λ n. found_pending es n e)
  where
    counted : key_count e.0 (x ∷ es) ≡ cond (nat_eq e.0 x.0) 1 0 + key_count e.0 es
    counted = count_by-cons (λ (d : Entry). nat_eq e.0 d.0) x es

    some : (a b : Entry) → ◌≡◌ {A = Option Entry} (Some a) (Some b) → a ≡ b
    some a b same = ap of same
      where
        of : Option Entry → Entry
        of None = a
        of (Some y) = y

    gone : (n : ℕ) → nat_eq e.0 x.0 ≡ true → slice_get (filter (λ (x : Entry). is_unread x.1.mark) es) n ≡ Some e
        → (key_count e.0 es ≤ 1 → slice_get (filter (λ (x : Entry). is_unread x.1.mark) es) n ≡ Some e
        → lookup (nat_eq e.0) es ≡ Some e.1) → ⊥
    gone n same at rest =
        let few : key_count e.0 es ≤ 0 = few_of (nat_eq e.0 x.0) same counted in
        cc (rest (omega (arith, few)) at, lookup-no_key e.0 es (omega (arith, few)))
      where
        few_of : (b : Bool) → b ≡ true → key_count e.0 (x ∷ es) ≡ cond b 1 0 + key_count e.0 es → key_count e.0 es ≤ 0
        few_of true is sum = omega (arith, sum, once)
        few_of false is sum = absurd (false≢true is)

    less : (b : Bool) → nat_eq e.0 x.0 ≡ b → key_count e.0 es ≤ 1
    less true is = omega (arith, counted, once)
    less false is = omega (arith, counted, once)

    later : (b : Bool) → nat_eq e.0 x.0 ≡ b → (n : ℕ) → slice_get (filter (λ (x : Entry). is_unread x.1.mark) es) n ≡ Some e
        → (key_count e.0 es ≤ 1 → slice_get (filter (λ (x : Entry). is_unread x.1.mark) es) n ≡ Some e
        → lookup (nat_eq e.0) es ≡ Some e.1) → lookup (nat_eq e.0) (x ∷ es) ≡ Some e.1
    later true is n at rest = absurd (gone n is at rest)
    later false is n at rest = ap (λ (b : Bool). cond b (Some x.1) (lookup (nat_eq e.0) es)) is ∙ rest (less false is) at

    by : (u b : Bool) → nat_eq e.0 x.0 ≡ b → (place : ℕ)
        → slice_get (cond u (x ∷ filter (λ (x : Entry). is_unread x.1.mark) es) (filter (λ (x : Entry). is_unread x.1.mark) es)) place
        ≡ Some e → ((n : ℕ) → key_count e.0 es ≤ 1 → slice_get (filter (λ (x : Entry). is_unread x.1.mark) es) n ≡ Some e
        → lookup (nat_eq e.0) es ≡ Some e.1) → lookup (nat_eq e.0) (x ∷ es) ≡ Some e.1
    by true b is zero at rest =
        let same : x ≡ e = some x e at in
        let number : nat_eq e.0 x.0 ≡ true = grind (arith, nat_tests, ap (λ (y : Entry). y.0) same) in
        ap (λ (c : Bool). cond c (Some x.1) (lookup (nat_eq e.0) es)) number ∙ ap (λ (y : Entry). Some y.1) same
    by true b is (suc n) at rest = later b is n at (rest n)
    by false b is place at rest = later b is place at (rest place)

-- ---- a request is read

abbrev opcode_awaited : Awaited → Opcode
opcode_awaited nothing = op.Init
opcode_awaited (reply_to o) = o

-- Its number is 2 or higher, and its reply is one to what it asks.
pub record AsksItself (k : Kernel) (pick : Pick) (r : Request) : Type 0 where
  pub low : 2 ≤ r.unique
  pub only : AwaitsOnly (asked_opcode r.body) r.unique (record k { queues = after_pick k.queues pick })

module _ (k : Kernel) (one : OneEach k.queues) (above : Above k.queues) where
  pending_asks : (place : ℕ) (r : Request) → IsPicked k (Pending place) r → AsksItself k (Pending place) r
  pending_asks place r is = by (slice_get (pending k.queues) place) refl is.pending
    where
      number : Option (ℕ × Purpose) → ℕ
      number None = 0
      number (Some x) = x.0

      purpose : Option (ℕ × Purpose) → Purpose
      purpose None = is.purpose
      purpose (Some x) = x.1

      of : (e : Entry) → slice_get (pending k.queues) place ≡ Some e → e.0 ≡ r.unique → e.1.kept ≡ is.purpose
          → (new : Kernel) → new.vfs.calls ≡ k.vfs.calls → (m : Mark) → is_unread m ≡ false
          → new.queues.requests ≡ set_mark e.0 k.queues.requests m → AwaitsOnly (asked_opcode r.body) r.unique new
      of e at unique kept new calls m read requests p awaited =
          let there = found_pending k.queues.requests place e (once_each k.queues one e.0) at in
          let under : request_under new.queues e.0 ≡ Some (record { mark = m; kept = e.1.kept }) =
          ap (lookup (nat_eq e.0)) requests ∙ lookup_marked e.0 m e.1 k.queues.requests there in
          let asks : awaits new e.0 ≡ awaited_of (Some r.body) =
          awaits_read new e.0 (record { mark = m; kept = e.1.kept }) under read
          ∙ ap awaited_of (asks_same k new e.1.kept calls ∙ ap (body_of k) kept ∙ is.body) in
          let told : awaits new e.0 ≡ reply_to p = ap (awaits new) unique ∙ awaited in
          ap opcode_awaited (sym told ∙ asks ∙ said)
        where
          said : awaited_of (Some r.body) ≡ reply_to (asked_opcode r.body)
          said = some_awaited r.body

      by : (o : Option Entry) → slice_get (pending k.queues) place ≡ o
          → option_map {U = ℕ × Purpose} (λ (e : Entry). (e.0, e.1.kept)) o ≡ Some (r.unique, is.purpose)
          → AsksItself k (Pending place) r
      by None at found = cc found
      by (Some e) at found =
          let unique : e.0 ≡ r.unique = ap number found in
          let kept : e.1.kept ≡ is.purpose = ap purpose found in
          let seen = each_at (λ x. 2 ≤ x.0) (λ x. is_unread x.1.mark) k.queues.requests place e above.requests at in
          let same : after_pick k.queues (Pending place) ≡ after_reading k.queues e.0 e.1.mark =
          ap (λ (o : Option Entry). option_map_or (λ (x : Entry). after_reading k.queues x.0 x.1.mark) o k.queues) at in
          record {
            low = let two = seen.1 in omega (arith, two, unique);
            only = subst (λ (q : QueueState Purpose). AwaitsOnly (asked_opcode r.body) r.unique (record k { queues = q })) (sym same)
                (read_as e.1.mark seen.0 (of e at unique kept));
          }
        where
          read_as : (m : Mark) → is_unread m ≡ true
              → ((new : Kernel) → new.vfs.calls ≡ k.vfs.calls → (m : Mark) → is_unread m ≡ false
              → new.queues.requests ≡ set_mark e.0 k.queues.requests m → AwaitsOnly (asked_opcode r.body) r.unique new)
              → AwaitsOnly (asked_opcode r.body) r.unique (record k { queues = after_reading k.queues e.0 m })
          read_as mark.Unread unread only = only (record k { queues = after_reading k.queues e.0 mark.Unread }) refl mark.Read refl refl
          read_as mark.Flagged unread only =
              only (record k { queues = after_reading k.queues e.0 mark.Flagged }) refl mark.Interrupted refl refl
          read_as mark.Read unread only = absurd (false≢true unread)
          read_as mark.Interrupted unread only = absurd (false≢true unread)

  -- Nothing is awaited under the coming number.
  pub none_coming : request_under k.queues k.queues.next ≡ None
  none_coming = lookup-no_key k.queues.next k.queues.requests (few (nat_lt k.queues.next k.queues.next) refl (one k.queues.next))
    where
      few : (b : Bool) → nat_lt k.queues.next k.queues.next ≡ b → key_count k.queues.next k.queues.requests ≤ cond b 1 0
          → key_count k.queues.next k.queues.requests ≡ 0
      few true is le = absurd (grind (arith, nat_tests, is))
      few false is le = omega (arith, le)

  forgets_ask : (count : ℕ) (r : Request) → IsPicked k (Forgets count) r → AsksItself k (Forgets count) r
  forgets_ask count r is = record {
    low = let two = above.next in omega (arith, two, unique);
    only = λ p awaited. absurd (cc (awaited, ap (awaits new) unique ∙ awaits_none new k.queues.next (none (can_read_forgets k.queues count))));
  }
    where
      new : Kernel
      new = record k { queues = after_pick k.queues (Forgets count) }

      unique : r.unique ≡ k.queues.next
      unique = ap (λ (q : Request). q.unique) is.is

      none : (b : Bool) → request_under (cond b (record k.queues {
        forgets = drop count k.queues.forgets;
        next = k.queues.next + 2;
      }) k.queues) k.queues.next ≡ None
      none true = none_coming
      none false = none_coming

  pub picked_asks : (pick : Pick) (r : Request) → IsPicked k pick r → is_interrupt r.body ≡ false → AsksItself k pick r
  picked_asks Interrupt r is other =
      absurd (true≢false (sym (ap (λ (q : Request). is_interrupt q.body) is.is) ∙ other))
  picked_asks (Forgets count) r is other = forgets_ask count r is
  picked_asks (Pending place) r is other = pending_asks place r is
