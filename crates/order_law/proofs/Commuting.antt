-- A pending request is read, and the reply to another is taken, in either order.
use Rattle.std.proofs.Common.{◌≡◌, ℕ, Bool, true, false, not, cond, List, [], filter, Option, Some, None, is_some, nat_eq, slice_get, refl, ap, sym, subst, ◌∙◌, append-nil, arith}
use Rattle.std.proofs.lemmas.Bool.Decides.{nat_tests}
use Rattle.std.specs.Map.{lookup, remove_entry}
use Rattle.std.specs.Option.{option_map_or}
use Rattle.fuse_spec.specs.declared.Mark.{Mark}
use Rattle.fuse_spec.specs.declared.Mark.TheVariants.{Flagged}
use Rattle.fuse_spec.specs.declared.Purpose.{Purpose}
use Rattle.fuse_spec.specs.declared.Purpose.TheVariants as purpose
use Rattle.fuse_spec.specs.declared.QueuedRequest.{QueuedRequest}
use Rattle.fuse_spec.specs.declared.WriteResult.{WriteResult}
use Rattle.fuse_spec.specs.Kernel.Kernel.{Kernel, body_of, is_for}
use Rattle.fuse_spec.specs.Kernel.Messages.{WireReply}
use Rattle.fuse_spec.specs.Kernel.QueueCalls.{set_mark, waiting, without}
use Rattle.fuse_spec.specs.Kernel.QueueLaws.{mark_read}
use Rattle.fuse_spec.specs.Kernel.Queues.{is_unread, pending, request_under}
use Rattle.fuse_spec.specs.Kernel.Replies.{ended_by, request_reply_written}
use Rattle.fuse_spec.proofs.QueueCounts.{lookup-remove_entry_other, lookup-set_mark_other}
use Rattle.fuse_theorem.proofs.Refining.Asking.{body_beside}
use Rattle.fuse_theorem.proofs.Requests.AskKept.{asks_same}
use Rattle.order_law.specs.Commuting.{IsApart}
use Rattle.order_law.proofs.Ending.{Requests, behind, both_behind, ended_call_behind, ended_stays}
use Rattle.order_law.proofs.Lists.{filter-append, filter-remove_entry_out, found_under, set_mark-append, set_mark-remove_other, slice_get-append}
use Rattle.order_law.proofs.Reading.{queued_by, queues_read}

-- a test of numbers is the same the other way round
turned : (a b : ℕ) → nat_eq a b ≡ false → nat_eq b a ≡ false
turned a b apart = grind (arith, nat_tests, apart)

-- the INTERRUPT of a request stays as another request goes
kept_queued : (v u : ℕ) (mark : Mark) (off : Bool) → nat_eq v u ≡ false
    → filter (λ i. not (nat_eq v i)) (queued_by mark off u) ≡ queued_by mark off u
kept_queued v u Flagged true apart = refl
kept_queued v u Flagged false apart = rw apart refl
kept_queued v u mark off apart = refl

-- what awaits a reply is not pending
awaited_is_read : (es : Requests) (v : ℕ) (serves : Purpose) (o : Option (QueuedRequest Purpose))
    → option_map_or (λ r. cond (is_unread r.mark) None (Some r.kept)) o None ≡ Some serves
    → option_map_or (λ (r : QueuedRequest Purpose). is_unread r.mark) o false ≡ false
awaited_is_read es v serves None waits = refl
awaited_is_read es v serves (Some r) waits = by (is_unread r.mark) waits
  where
    by : (b : Bool) → cond b None (Some r.kept) ≡ Some serves → b ≡ false
    by true f = absurd (cc)
    by false f = refl

module _ (e : ℕ × QueuedRequest Purpose) where
  -- the kernel once that entry is read
  abbrev pub kernel_read : Kernel → Kernel
  kernel_read k = record k { queues = queues_read k.queues e }

  abbrev pub both_read : WriteResult × Kernel → WriteResult × Kernel
  both_read taken = (taken.0, kernel_read taken.1)

  -- The entry is pending at this place, and no INTERRUPT is queued.
  pub record IsReadable (k : Kernel) (place : ℕ) : Type 0 where
    pub free : k.queues.interrupts ≡ []
    pub at : slice_get (pending k.queues) place ≡ Some e

  -- What a kernel does with a reply it does as well once the entry is read, and the entry stays readable and asks what it
  -- asked.
  pub record Commutes (k : Kernel) (place : ℕ) (take : Kernel → WriteResult × Kernel) : Type 0 where
    pub taken : take (kernel_read k) ≡ both_read (take k)
    pub readable : IsReadable (take k).1 place
    pub asks : body_of (take k).1 e.1.kept ≡ body_of k e.1.kept
    pub phase : (take k).1.phase ≡ k.phase

  -- ---- a request of another call ends

  module _ (l : Kernel) (place call : ℕ) (wire : WireReply) (readable : IsReadable l place)
      (there : is_some (lookup (nat_eq e.0) l.queues.requests) ≡ true) (apart : is_for call e.1.kept ≡ false) where
    abbrev es : Requests
    es = l.queues.requests

    abbrev off : Bool
    off = l.queues.interrupts_off

    abbrev bare : Kernel
    bare = record l { queues = record l.queues { requests = []; interrupts = [] } }

    abbrev ended : Kernel → WriteResult × Kernel
    ended k = ended_by k (purpose.Call call) wire

    -- the kernel with these requests and INTERRUPTs
    abbrev with_queues : Requests → List ℕ → Kernel
    with_queues rows is = record l { queues = record l.queues { requests = rows; interrupts = is } }

    abbrev marked : Requests
    marked = set_mark e.0 es (mark_read e.1.mark)

    abbrev queued : List ℕ
    queued = queued_by e.1.mark off e.0

    split_up : (rows : Requests) (is : List ℕ) → ended (with_queues rows is)
        ≡ both_behind rows is off l.phase (ended bare)
    split_up rows is = ap (λ (x : Requests). ended (with_queues x is)) (sym (append-nil rows))
        ∙ ended_call_behind rows is off l.phase bare call wire

    first_is : ended l ≡ both_behind es [] off l.phase (ended bare)
    first_is = ap (λ (is : List ℕ). ended (with_queues es is)) readable.free ∙ split_up es []

    read_behind : behind marked queued off l.phase (ended bare).1
        ≡ kernel_read (behind es [] off l.phase (ended bare).1)
    read_behind = ap
        (λ (rows : Requests). record (ended bare).1 {
          phase = l.phase;
          queues = record (ended bare).1.queues { requests = rows; interrupts = queued; interrupts_off = off };
        })
        (sym (set_mark-append e.0 (mark_read e.1.mark) es (ended bare).1.queues.requests there))

    call_taken : ended (kernel_read l) ≡ both_read (ended l)
    call_taken = split_up marked queued
        ∙ ap (λ (k : Kernel). ((ended bare).0, k)) read_behind
        ∙ ap both_read (sym first_is)

    call_readable : IsReadable (ended l).1 place
    call_readable = record {
      free = ap (λ (r : WriteResult × Kernel). r.1.queues.interrupts) first_is;
      at = ap (λ (r : WriteResult × Kernel). slice_get (pending r.1.queues) place) first_is
          ∙ ap (λ (rows : Requests). slice_get rows place)
          (filter-append (λ (d : ℕ × QueuedRequest Purpose). is_unread d.1.mark) es (ended bare).1.queues.requests)
          ∙ slice_get-append (pending l.queues)
          (filter (λ (d : ℕ × QueuedRequest Purpose). is_unread d.1.mark) (ended bare).1.queues.requests) place e readable.at;
    }

    call_commutes : Commutes l place ended
    call_commutes = record {
      taken = call_taken;
      readable = call_readable;
      asks = body_beside l (ended l).1 call e.1.kept (λ q ne. ended_stays call q ne l wire) apart;
      phase = ap (λ (r : WriteResult × Kernel). r.1.phase) first_is;
    }

  -- ---- a request that was read leaves

  module _ (k : Kernel) (place v : ℕ) (readable : IsReadable k place) (other : nat_eq v e.0 ≡ false) where
    -- the kernel without the request
    abbrev left : Kernel → Kernel
    left l = record l { queues = without l.queues v }

    left_read : left (kernel_read k) ≡ kernel_read (left k)
    left_read = ap
        (λ (rows : Requests). record k {
          queues =
              record k.queues {
                requests = rows;
                interrupts = filter (λ i. not (nat_eq v i)) (queued_by e.1.mark k.queues.interrupts_off e.0);
              };
        })
        (sym (set_mark-remove_other v e.0 (mark_read e.1.mark) k.queues.requests other))
        ∙ ap
        (λ (is : List ℕ). record k {
          queues =
              record k.queues {
                requests = set_mark e.0 (remove_entry (nat_eq v) k.queues.requests) (mark_read e.1.mark);
                interrupts = is;
              };
        })
        (kept_queued v e.0 e.1.mark k.queues.interrupts_off other)

    left_there : is_some (lookup (nat_eq e.0) (left k).queues.requests) ≡ true
    left_there = ap is_some (lookup-remove_entry_other e.0 v k.queues.requests (turned v e.0 other))
        ∙ found_under (λ (d : ℕ × QueuedRequest Purpose). is_unread d.1.mark) k.queues.requests place e readable.at

    waits_same : waiting (kernel_read k).queues v ≡ waiting k.queues v
    waits_same = ap
        (λ (o : Option (QueuedRequest Purpose)). option_map_or (λ r. cond (is_unread r.mark) None (Some r.kept)) o None)
        (lookup-set_mark_other v e.0 k.queues.requests (mark_read e.1.mark) other)

    left_readable : (serves : Purpose) → waiting k.queues v ≡ Some serves → IsReadable (left k) place
    left_readable serves waits = record {
      free = ap (filter (λ i. not (nat_eq v i))) readable.free;
      at = ap (λ (rows : Requests). slice_get rows place)
          (filter-remove_entry_out (λ (r : QueuedRequest Purpose). is_unread r.mark) v k.queues.requests
          (awaited_is_read k.queues.requests v serves (request_under k.queues v) waits)) ∙ readable.at;
    }

    -- where what awaits the reply is known
    awaited : (wire : WireReply) (o : Option Purpose) → waiting k.queues v ≡ o
        → Commutes k place (λ l. request_reply_written l v wire o)
        → Commutes k place (λ l. request_reply_written l v wire (waiting l.queues v))
    awaited wire o is c = record {
      taken = ap (request_reply_written (kernel_read k) v wire) (waits_same ∙ is) ∙ c.taken
          ∙ ap (λ (x : Option Purpose). both_read (request_reply_written k v wire x)) (sym is);
      readable = subst (λ (x : Option Purpose). IsReadable (request_reply_written k v wire x).1 place) (sym is) c.readable;
      asks = ap (λ (x : Option Purpose). body_of (request_reply_written k v wire x).1 e.1.kept) is ∙ c.asks;
      phase = ap (λ (x : Option Purpose). (request_reply_written k v wire x).1.phase) is ∙ c.phase;
    }

    -- A reply to another request, whose end is that of another call's request or of a RELEASE, or to none.
    pub reply_commutes : (wire : WireReply) → IsApart e.1.kept (waiting k.queues v)
        → Commutes k place (λ l. request_reply_written l v wire (waiting l.queues v))
    reply_commutes wire apart = by (waiting k.queues v) refl apart
      where
        by : (o : Option Purpose) → waiting k.queues v ≡ o → IsApart e.1.kept o
            → Commutes k place (λ l. request_reply_written l v wire (waiting l.queues v))
        by None is beside = awaited wire None is
            (record { taken = refl; readable = readable; asks = refl; phase = refl })
        by (Some purpose.Init) is beside = absurd beside
        by (Some (purpose.Release opened)) is beside = awaited wire (Some (purpose.Release opened)) is (record {
          taken = ap (λ (l : Kernel). ended_by l (purpose.Release opened) wire) left_read;
          readable = left_readable (purpose.Release opened) is;
          asks = asks_same k (left k) e.1.kept refl;
          phase = refl;
        })
        by (Some (purpose.Call call)) is beside =
            let c = call_commutes (left k) place call wire (left_readable (purpose.Call call) is) left_there beside in
            awaited wire (Some (purpose.Call call)) is (record {
              taken = ap (λ (l : Kernel). ended_by l (purpose.Call call) wire) left_read ∙ c.taken;
              readable = c.readable;
              asks = c.asks ∙ asks_same k (left k) e.1.kept refl;
              phase = c.phase;
            })
