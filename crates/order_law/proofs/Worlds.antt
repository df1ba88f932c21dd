-- The law, in the world.
use Rattle.std.proofs.Common.{◌≡◌, ℕ, ◌-◌, Bool, true, false, not, cond, List, [], ◌∷◌, ◌++◌, Option, Some, None, nat_eq, slice_get, length, refl, ap, sym, subst, ◌∙◌, option_map, Ok}
use Rattle.fuse_spec.specs.declared.Purpose.{Purpose}
use Rattle.fuse_spec.specs.declared.QueuedRequest.{QueuedRequest}
use Rattle.fuse_spec.specs.declared.Refusal.TheVariants as refusal
use Rattle.fuse_spec.specs.declared.WriteResult.{WriteResult}
use Rattle.fuse_spec.specs.Kernel.Kernel.{Kernel, body_of, is_live}
use Rattle.fuse_spec.specs.Kernel.Messages.{RequestBody}
use Rattle.fuse_spec.specs.Kernel.QueueCalls.{after_read_pending, pending_at, waiting}
use Rattle.fuse_spec.specs.Kernel.Queues.{QueueState, is_unread, pending}
use Rattle.fuse_spec.specs.Kernel.Replies.{interrupt_reply_written, reply_written, request_reply_written}
use Rattle.fuse_spec.specs.World.Events.{Outcome, read_pending, write, is_read, written}
use Rattle.fuse_spec.specs.Kernel.Refusals.{found, pending_found, unless, when_not_interrupted}
use Rattle.fuse_spec.specs.World.Steps.{Happens, is_past, reading_pending, step}
use Rattle.fuse_spec.specs.World.Worlds.{World, Sent, after_write, world_after_read_pending}
use Rattle.fuse_theorem.proofs.RefusalCases.Happened.{Happened, happened, by_read_pending, by_write}
use Rattle.order_law.specs.Commuting.{IsApart, IsReplyToAnother, RepliesCommute}
use Rattle.order_law.proofs.Commuting.{Commutes, IsReadable, both_read, kernel_read, reply_commutes}
use Rattle.order_law.proofs.Lists.{filter-found}
use Rattle.order_law.proofs.Reading.{queues_read, reading_is}

-- a reply is taken that is there
write_happens : (choice : ℕ → ℕ) (w : World) (k : ℕ) (sent : Sent) → slice_get w.replies k ≡ Some sent
    → is_past (after_write w k sent (reply_written w.kernel sent.unique sent.wire)) ≡ false
    → step choice w (write k) ≡ Ok (
      written sent.unique (reply_written w.kernel sent.unique sent.wire).0,
      after_write w k sent (reply_written w.kernel sent.unique sent.wire),
    )
write_happens choice w k sent there within = rw (there, within) refl

-- a pending request is read
read_happens : (choice : ℕ → ℕ) (w : World) (place unique : ℕ) (serves : Purpose) (body : RequestBody)
    → is_live w.kernel.phase ≡ true → w.kernel.queues.interrupts ≡ []
    → pending_at w.kernel.queues place ≡ Some (unique, serves) → body_of w.kernel serves ≡ Some body
    → is_past (world_after_read_pending w place unique body) ≡ false
    → step choice w (read_pending place) ≡ Ok (is_read unique, world_after_read_pending w place unique body)
read_happens choice w place unique serves body live free at asks within =
    let next = reading_pending w place in
    ap (λ (b : Bool). unless (not b) refusal.NotReady
    (when_not_interrupted w.kernel (pending_found w.kernel (pending_at w.kernel.queues place) next))) live
    ∙ ap (λ (is : List ℕ). unless (not (nat_eq (length is) 0)) refusal.InterruptFirst
    (pending_found w.kernel (pending_at w.kernel.queues place) next)) free
    ∙ ap (λ (o : Option (ℕ × Purpose)). pending_found w.kernel o next) at
    ∙ ap (λ (o : Option RequestBody). found o (next unique)) asks
    ∙ ap (λ (b : Bool). unless {A = Outcome × World} b refusal.Exhausted
    (Ok (is_read unique, world_after_read_pending w place unique body))) within

-- the number of an entry, and what it serves
abbrev named : ℕ × QueuedRequest Purpose → ℕ × Purpose
named e = (e.0, e.1.kept)

-- what stands at a place of the pending requests, whole
entry_at : (o : Option (ℕ × QueuedRequest Purpose)) (unique : ℕ) (serves : Purpose)
    → option_map named o ≡ Some (unique, serves)
    → (e : ℕ × QueuedRequest Purpose) × (o ≡ Some e) × (e.0 ≡ unique) × (e.1.kept ≡ serves)
entry_at None unique serves at = absurd (cc)
entry_at (Some e) unique serves at =
    let pair : (e.0, e.1.kept) ≡ (unique, serves) = cc in
    (e, refl, ap (λ (x : ℕ × Purpose). x.0) pair, ap (λ (x : ℕ × Purpose). x.1) pair)

-- the world after both, as it comes of the kernel's part
abbrev both_done : World → (unique : ℕ) → RequestBody → (k : ℕ) → Sent → WriteResult × Kernel → World
both_done w unique body k sent took = after_write
    (record w { requests = w.requests ++ record { unique = unique; body = body } ∷ [] }) k sent took

module _ (w : World) (place k : ℕ) (sent : Sent) (there : slice_get w.replies k ≡ Some sent)
    (other : IsReplyToAnother w.kernel place sent.unique) (choice choice2 : ℕ → ℕ) where
  abbrev took : Kernel → WriteResult × Kernel
  took l = reply_written l sent.unique sent.wire

  abbrev first : World
  first = after_write w k sent (took w.kernel)

  -- the law, of an entry that is read
  of_entry : (e : ℕ × QueuedRequest Purpose) (unique : ℕ) (serves : Purpose) (body : RequestBody)
      → slice_get (pending w.kernel.queues) place ≡ Some e → nat_eq sent.unique e.0 ≡ false
      → IsApart e.1.kept (waiting w.kernel.queues sent.unique)
      → is_live w.kernel.phase ≡ true → w.kernel.queues.interrupts ≡ []
      → pending_at w.kernel.queues place ≡ Some (unique, serves) → body_of w.kernel serves ≡ Some body
      → let mid = world_after_read_pending w place unique body in
      let last = after_write mid k sent (took mid.kernel) in
      is_past last ≡ false
      → (x : World) × Happens w (write k) (written sent.unique (took mid.kernel).0) x
      × Happens x (read_pending place) (is_read unique) last
  of_entry e unique serves body e_at apart beside live free at asks within =
      (first, (choice2, tt, write_is), (choice, tt, read_is))
    where
      took_even : (l : Kernel) → took l
          ≡ request_reply_written l sent.unique sent.wire (waiting l.queues sent.unique)
      took_even l = ap (λ (b : Bool). cond b
          (interrupt_reply_written l sent.unique sent.wire (waiting l.queues (sent.unique - 1)))
          (request_reply_written l sent.unique sent.wire (waiting l.queues sent.unique))) other.to_request

      unread : is_unread e.1.mark ≡ true
      unread = filter-found (λ (d : ℕ × QueuedRequest Purpose). is_unread d.1.mark) w.kernel.queues.requests place e e_at

      commutes : Commutes e w.kernel place
          (λ l. request_reply_written l sent.unique sent.wire (waiting l.queues sent.unique))
      commutes = reply_commutes e w.kernel place sent.unique (record { free = free; at = e_at }) apart sent.wire beside

      readable : IsReadable e (took w.kernel).1 place
      readable = subst (λ (r : WriteResult × Kernel). IsReadable e r.1 place) (sym (took_even w.kernel)) commutes.readable

      reading_then : after_read_pending (took w.kernel).1.queues place ≡ queues_read (took w.kernel).1.queues e
      reading_then = reading_is (took w.kernel).1.queues place e readable.free readable.at unread

      taken_then : took (record w.kernel { queues = after_read_pending w.kernel.queues place })
          ≡ (
            (took w.kernel).0,
            record (took w.kernel).1 {
              queues =
                  after_read_pending (took w.kernel).1.queues place;
            },
          )
      taken_then = ap (λ (q : QueueState Purpose). took (record w.kernel { queues = q }))
          (reading_is w.kernel.queues place e free e_at unread)
          ∙ took_even (kernel_read e w.kernel) ∙ commutes.taken ∙ ap (both_read e) (sym (took_even w.kernel))
          ∙ ap (λ (q : QueueState Purpose). ((took w.kernel).0, record (took w.kernel).1 { queues = q })) (sym reading_then)

      mid : World
      mid = world_after_read_pending w place unique body

      last_is : after_write (world_after_read_pending w place unique body) k sent
          (took (record w.kernel { queues = after_read_pending w.kernel.queues place }))
          ≡ world_after_read_pending first place unique body
      last_is = ap (both_done w unique body k sent) taken_then

      past_then : is_past (world_after_read_pending first place unique body) ≡ false
      past_then = ap is_past (sym last_is) ∙ within

      past_first : is_past first ≡ false
      past_first = ap (λ (q : QueueState Purpose). is_past
          (record first { kernel = record first.kernel { queues = q } })) (sym reading_then) ∙ past_then

      write_is : step choice2 w (write k) ≡ Ok (
        written sent.unique
            (took (record w.kernel { queues = after_read_pending w.kernel.queues place })).0,
        first,
      )
      write_is = write_happens choice2 w k sent there past_first ∙ ap
          (λ (r : WriteResult × Kernel). Ok (written sent.unique r.0, first)) (sym taken_then)

      named_is : Some (named e) ≡ Some (unique, serves)
      named_is = sym (ap (option_map named) e_at) ∙ at

      serves_is : e.1.kept ≡ serves
      serves_is =
          let pair : named e ≡ (unique, serves) = cc (named_is) in
          ap (λ (x : ℕ × Purpose). x.1) pair

      asks_then : body_of (took w.kernel).1 serves ≡ Some body
      asks_then = ap (body_of (took w.kernel).1) (sym serves_is)
          ∙ ap (λ (r : WriteResult × Kernel). body_of r.1 e.1.kept) (took_even w.kernel) ∙ commutes.asks
          ∙ ap (body_of w.kernel) serves_is ∙ asks

      live_then : is_live (took w.kernel).1.phase ≡ true
      live_then = ap (λ (r : WriteResult × Kernel). is_live r.1.phase) (took_even w.kernel)
          ∙ ap is_live commutes.phase ∙ live

      read_is : step choice first (read_pending place) ≡ Ok (
        is_read unique,
        after_write (world_after_read_pending w place unique body) k sent
            (took (record w.kernel { queues = after_read_pending w.kernel.queues place })),
      )
      read_is = read_happens choice first place unique serves body live_then readable.free
          (ap (option_map named) readable.at ∙ named_is) asks_then past_then
          ∙ ap (λ (x : World). Ok (is_read unique, x)) (sym last_is)

is_same : (a b : Sent) → Some a ≡ Some b → a ≡ b
is_same a b e = cc

pub replies_commute_holds : RepliesCommute
replies_commute_holds w mid last place k sent read wrote there other reads writes =
    by_read w mid last place k sent read wrote there other (happened reads.0 w read mid (read_pending place) reads.2)
    (happened writes.0 mid wrote last (write k) writes.2)
  where
    by_read : (w mid last : World) (place k : ℕ) (sent : Sent) (read wrote : Outcome)
        → slice_get w.replies k ≡ Some sent → IsReplyToAnother w.kernel place sent.unique
        → Happened reads.0 w (read_pending place) read mid → Happened writes.0 mid (write k) wrote last
        → (x : World) × Happens w (write k) wrote x × Happens x (read_pending place) read last
    by_read w mid last place k sent read wrote there other
        (by_read_pending at_place unique serves body live free at asks within) (by_write at_k late there2 within2) =
        let same : sent ≡ late = is_same sent late (sym there ∙ there2) in
        let beside = subst (λ (x : Sent). IsReplyToAnother w.kernel place x.unique) same other in
        let entry = entry_at (slice_get (pending w.kernel.queues) place) beside.number beside.serves beside.pending in
        of_entry w place k late there2 beside reads.0 writes.0 entry.0 unique serves body entry.1
        (ap (nat_eq late.unique) entry.2 ∙ beside.other)
        (subst (λ (x : Purpose). IsApart x (waiting w.kernel.queues late.unique)) (sym entry.3) beside.apart)
        live free at asks within2
