-- Before INIT's reply is accepted a live kernel has nothing but INIT, reads nothing else, and does nothing but end.
use Rattle.std.proofs.Common.{◌≡◌, ℕ, zero, suc, ◌-◌, ◌%◌, Bool, true, false, true≢false, cond, List, [], ◌∷◌, Option, Some, None, nat_eq, refl, ap, sym, subst, ◌∙◌, arith}
use Rattle.std.specs.Prelude.{◌&&◌, option_map}
use Rattle.std.specs.List.{list_any}
use Rattle.std.specs.Option.{option_map_or}
use Rattle.std.proofs.lemmas.Bool.{and_parts, false≢true}
use Rattle.std.proofs.lemmas.Bool.Decides.{nat_tests}
use Rattle.fk_wire.specs.declared.opcode.Opcode.{Opcode}
use Rattle.fk_wire.specs.declared.opcode.Opcode.TheVariants as op
use Rattle.fuse_spec.specs.declared.InterruptReply.{InterruptReply}
use Rattle.fuse_spec.specs.declared.InterruptReply.TheVariants as answers
use Rattle.fuse_spec.specs.declared.Mark.{Mark}
use Rattle.fuse_spec.specs.declared.Mark.TheVariants as mark
use Rattle.fuse_spec.specs.declared.Purpose.{Purpose}
use Rattle.fuse_spec.specs.declared.Purpose.TheVariants as purpose
use Rattle.fuse_spec.specs.declared.QueuedRequest.{QueuedRequest}
use Rattle.fuse_spec.specs.declared.WriteResult.{WriteResult}
use Rattle.fuse_spec.specs.declared.WriteResult.TheVariants.{Accepted}
use Rattle.fuse_spec.specs.Files.Operations as reply
use Rattle.fuse_spec.specs.Kernel.Kernel.{Kernel, body_of, is_live, kernel_aborted, kernel_mounted}
use Rattle.fuse_spec.specs.Kernel.Messages.{Request, RequestBody, WireReply}
use Rattle.fuse_spec.specs.Kernel.QueueCalls.{after_interrupt_reply, after_read_pending, after_reply_effect, pending_at, waiting, without}
use Rattle.fuse_spec.specs.Kernel.Queues.{QueueState, is_unread, request_under}
use Rattle.fuse_spec.specs.Kernel.Signals.{reply_effect}
use Rattle.fuse_spec.specs.Kernel.Refusals.{is_ready}
use Rattle.fuse_spec.specs.Kernel.Replies.{ended_by, interrupt_replied, interrupt_reply_of, interrupt_reply_written, is_agreement, is_init_reply, made_ready, reply_written, request_reply_written, write_result_of}
use Rattle.fk_kernel.specs.AwaitedReplies.{Awaited, ReadsReply, Says, awaited, awaited_by, awaited_by_interrupt, head_unique, nothing, reply_to, said, unsaid, wrong_body_to}
use Rattle.fk_kernel.specs.Picks.{IsPicked, after_pick, pick_refusal}
use Rattle.fk_kernel.specs.declared.read.Pick.{Pick}
use Rattle.fk_kernel.specs.declared.read.Pick.TheVariants.{Interrupt, Forgets, Pending}
use Rattle.fk_drive.specs.KernelSteps.{ActsAlone, IsReplyTaken, mounts, begins, is_signalled, ticks, drops_name, evicts, aborts, gives_answer}
use Rattle.fk_drive_theorem.specs.TakenOnce.{mounts_alone}
use Rattle.fk_drive_theorem.proofs.Stable.{Stable, is_empty, same_truth}
use Rattle.fk_drive_theorem.proofs.Taken.{TakenAs, refused_whole, is_read, holds_as_taken}
use Rattle.fk_drive_theorem.proofs.WrittenCounted.{EmptyUnlessLive}
use Rattle.driven_sessions.proofs.Frames.{is_init_body}
use Rattle.driven_sessions.proofs.Numbers.{Entry}
use Rattle.driven_sessions.proofs.Reading.{picked_alive}
use Rattle.driven_sessions.proofs.Starting.{may_if_ready, none_there, unread_forgets}
use Rattle.driven_sessions.proofs.Steps.{alone_dead, taken_dead}

-- ---- INIT alone

abbrev mark_of : (read : Bool) → Mark
mark_of false = mark.Unread
mark_of true = mark.Read

abbrev has_mark : (read : Bool) → Mark → Bool
has_mark false mark.Unread = true
has_mark true mark.Read = true
has_mark read m = false

abbrev is_for_init : Purpose → Bool
is_for_init purpose.Init = true
is_for_init p = false

-- One request is there, INIT, under the first number, and it was read or not.
abbrev has_init_alone : (read : Bool) → List Entry → Bool
has_init_alone read (e ∷ []) = nat_eq e.0 2 && (has_mark read e.1.mark && is_for_init e.1.kept)
has_init_alone read es = false

abbrev init_alone : (read : Bool) → List Entry
init_alone read = (2, record { mark = mark_of read; kept = purpose.Init }) ∷ []

the_mark : (read : Bool) (m : Mark) → has_mark read m ≡ true → m ≡ mark_of read
the_mark false mark.Unread is = refl
the_mark true mark.Read is = refl
the_mark read m is = absurd (false≢true is)

the_purpose : (p : Purpose) → is_for_init p ≡ true → p ≡ purpose.Init
the_purpose purpose.Init is = refl
the_purpose p is = absurd (false≢true is)

the_init : (read : Bool) (es : List Entry) → has_init_alone read es ≡ true → es ≡ init_alone read
the_init read [] is = absurd (false≢true is)
the_init read (e ∷ []) is =
    let both = and_parts (nat_eq e.0 2) (has_mark read e.1.mark && is_for_init e.1.kept) is in
    let second = and_parts (has_mark read e.1.mark) (is_for_init e.1.kept) both.1 in
    let number : e.0 ≡ 2 = two e.0 both.0 in
    let marked : e.1.mark ≡ mark_of read = the_mark read e.1.mark second.0 in
    let kept : e.1.kept ≡ purpose.Init = the_purpose e.1.kept second.1 in
    λ i. (number i, record { mark = marked i; kept = kept i }) ∷ []
  where
    two : (n : ℕ) → nat_eq n 2 ≡ true → n ≡ 2
    two n is = grind (arith, nat_tests, is)
the_init read (e ∷ f ∷ es) is = absurd (false≢true is)

-- Nothing else is queued, and nothing is known.
pub record HasInit (read : Bool) (k : Kernel) : Type 0 where
  pub unready : is_ready k.phase ≡ false
  pub calls : k.vfs.calls ≡ []
  pub nodes : k.nodes ≡ []
  pub requests : has_init_alone read k.queues.requests ≡ true
  pub interrupts : k.queues.interrupts ≡ []
  pub forgets : k.queues.forgets ≡ []

init_stable : (read : Bool) (k : Kernel) → Stable (HasInit read k)
init_stable read k s = record {
  unready = same_truth _ _ (λ no. s (λ h. no h.unready));
  calls = is_empty _ (λ no. s (λ h. no h.calls));
  nodes = is_empty _ (λ no. s (λ h. no h.nodes));
  requests = same_truth _ _ (λ no. s (λ h. no h.requests));
  interrupts = is_empty _ (λ no. s (λ h. no h.interrupts));
  forgets = is_empty _ (λ no. s (λ h. no h.forgets));
}

-- So is a kernel that is live.
abbrev pub IsEarly : (read : Bool) → Kernel → Type 0
IsEarly read k = is_live k.phase ≡ true → HasInit read k

pub mounted_early : (k : Kernel) → IsEarly false (kernel_mounted k)
mounted_early k live = record {
  unready = refl;
  calls = refl;
  nodes = refl;
  requests = refl;
  interrupts = refl;
  forgets = refl;
}

-- ---- without its server

alone_has : (read : Bool) (old new : Kernel) (acts : ActsAlone old new) → mounts_alone acts ≡ 0 → is_live new.phase ≡ true
    → HasInit read old → HasInit read new
alone_has read old new (mounts may) none live has = absurd (omega (arith, none))
alone_has read old new (begins call may) none live has =
    absurd (true≢false (sym (may_if_ready (is_ready old.phase) _ may) ∙ has.unready))
alone_has read old new (is_signalled call fatal effect q may is) none live has =
    absurd (none_there old.vfs.calls call is.state has.calls is.unanswered)
alone_has read old new (ticks ms may) none live has = record {
  unready = has.unready;
  calls = has.calls;
  nodes = has.nodes;
  requests = has.requests;
  interrupts = has.interrupts;
  forgets = has.forgets;
}
alone_has read old new (drops_name directory name may) none live has = record {
  unready = has.unready;
  calls = has.calls;
  nodes = has.nodes;
  requests = has.requests;
  interrupts = has.interrupts;
  forgets = has.forgets;
}
alone_has read old new (evicts node counted may there) none live has = absurd (none_there old.nodes node counted has.nodes there)
alone_has read old new (aborts may) none live has = absurd (false≢true live)
alone_has read old new (gives_answer call) none live has = record {
  unready = has.unready;
  calls = has.calls;
  nodes = has.nodes;
  requests = has.requests;
  interrupts = has.interrupts;
  forgets = has.forgets;
}

pub alone_early : (read : Bool) (old new : Kernel) (acts : ActsAlone old new) → mounts_alone acts ≡ 0 → IsEarly read old
    → IsEarly read new
alone_early read old new acts none was live = by (is_live old.phase) refl
  where
    by : (b : Bool) → is_live old.phase ≡ b → HasInit read new
    by true alive = alone_has read old new acts none live (was alive)
    by false dead = absurd (true≢false (sym live ∙ alone_dead old new acts none dead))

-- ---- a read

as_record : (q : QueueState Purpose) (es : List Entry) → q.requests ≡ es → q ≡ record q { requests = es }
as_record q es are = λ i. record q { requests = are i }

-- What is pending is INIT, which was not read, and is then.
record IsInitPending (q : QueueState Purpose) (place : ℕ) (there : ℕ × Purpose) : Type 0 where
  is : there.1 ≡ purpose.Init
  after : after_read_pending q place ≡ record q { requests = init_alone true }

init_pending : (read : Bool) (q : QueueState Purpose) (place : ℕ) (there : ℕ × Purpose) → q.requests ≡ init_alone read
    → pending_at q place ≡ Some there → IsInitPending q place there
init_pending read q place there are at =
    let same : q ≡ record q { requests = init_alone read } = as_record q (init_alone read) are in
    by read place (subst (λ (x : QueueState Purpose). pending_at x place ≡ Some there) same at)
    (ap (λ (x : QueueState Purpose). after_read_pending x place) same)
  where
    kept : Option (ℕ × Purpose) → Purpose
    kept None = purpose.Init
    kept (Some x) = x.1

    by : (read : Bool) (place : ℕ) → pending_at (record q { requests = init_alone read }) place ≡ Some there
        → after_read_pending q place ≡ after_read_pending (record q { requests = init_alone read }) place
        → IsInitPending q place there
    by false zero at after = record { is = sym (ap kept at); after = after }
    by false (suc n) at after = cc at
    by true place at after = cc at

-- INIT is read.
pub record ReadsInit (k : Kernel) (pick : Pick) (r : Request) : Type 0 where
  pub is : is_init_body r.body ≡ true
  pub early : IsEarly true (record k { queues = after_pick k.queues pick })

abbrev init_in : Option RequestBody → Bool
init_in None = true
init_in (Some body) = is_init_body body

has_read : (read : Bool) (k : Kernel) (pick : Pick) (r : Request) → IsPicked k pick r → HasInit read k → ReadsInit k pick r
has_read read k Interrupt r is has = cc (has.interrupts, is.first)
has_read read k (Forgets count) r is has = absurd (unread_forgets k count r is has.forgets)
has_read read k (Pending place) r is has =
    let of = init_pending read k.queues place (r.unique, is.purpose) (the_init read k.queues.requests has.requests) is.pending in
    record {
      is = sym (ap init_in (sym (ap (body_of k) of.is) ∙ is.body));
      early = λ live. record {
        unready = has.unready;
        calls = has.calls;
        nodes = has.nodes;
        requests = ap (λ (q : QueueState Purpose). has_init_alone true q.requests) of.after;
        interrupts = ap (λ (q : QueueState Purpose). q.interrupts) of.after ∙ has.interrupts;
        forgets = ap (λ (q : QueueState Purpose). q.forgets) of.after ∙ has.forgets;
      };
    }

pub read_early : (read : Bool) (k : Kernel) (pick : Pick) (r : Request) → pick_refusal k pick ≡ None → IsPicked k pick r
    → IsEarly read k → ReadsInit k pick r
read_early read k pick r may is early = has_read read k pick r is (early (picked_alive k pick may))

-- ---- a reply

-- The bytes agree as INIT's reply.
pub record Agrees (bytes : List ℕ) : Type 0 where
  pub under : head_unique bytes ≡ 2
  pub wire : WireReply
  pub says : Says op.Init bytes wire
  pub agrees : is_agreement wire ≡ true

-- What is found under a number: INIT, or nothing.
abbrev found : (read : Bool) → ℕ → Option (QueuedRequest Purpose)
found read n = cond (nat_eq n 2) (Some (record { mark = mark_of read; kept = purpose.Init })) None

found_under : (read : Bool) (q : QueueState Purpose) → q.requests ≡ init_alone read → (n : ℕ)
    → request_under q n ≡ found read n
found_under read q are n = ap (λ (x : QueueState Purpose). request_under x n) (as_record q (init_alone read) are)

waiting_init : (read : Bool) (q : QueueState Purpose) → q.requests ≡ init_alone read → (n : ℕ)
    → waiting q n ≡ cond (nat_eq n 2) (cond read (Some purpose.Init) None) None
waiting_init read q are n = ap (λ (o : Option (QueuedRequest Purpose)).
    option_map_or (λ (r : QueuedRequest Purpose). cond (is_unread r.mark) None (Some r.kept)) o None)
    (found_under read q are n) ∙ by read (nat_eq n 2)
  where
    by : (read b : Bool) → option_map_or (λ (r : QueuedRequest Purpose). cond (is_unread r.mark) None (Some r.kept))
        (cond b (Some (record { mark = mark_of read; kept = purpose.Init })) None) None
        ≡ cond b (cond read (Some purpose.Init) None) None
    by true true = refl
    by true false = refl
    by false true = refl
    by false false = refl

-- A reply to an INTERRUPT queues none.
record QueuesNone (q r : QueueState Purpose) : Type 0 where
  requests : r.requests ≡ q.requests
  interrupts : r.interrupts ≡ []
  forgets : r.forgets ≡ q.forgets

interrupt_queues : (read : Bool) (q : QueueState Purpose) (n : ℕ) (answer : InterruptReply) → q.requests ≡ init_alone read
    → q.interrupts ≡ [] → QueuesNone q (after_interrupt_reply q n answer)
interrupt_queues read q n answer are none = subst (λ (o : Option (QueuedRequest Purpose)). QueuesNone q
    (option_map_or (λ (m : Mark). after_reply_effect q n (reply_effect answer m (list_any (nat_eq n) q.interrupts) q.interrupts_off))
    (option_map (λ (r : QueuedRequest Purpose). r.mark) o) q)) (sym (found_under read q are n)) (by read answer (nat_eq n 2))
  where
    still : QueuesNone q q
    still = record { requests = refl; interrupts = none; forgets = refl }

    by : (read : Bool) (answer : InterruptReply) (b : Bool) → QueuesNone q (option_map_or (λ (m : Mark). after_reply_effect q n
        (reply_effect answer m (list_any (nat_eq n) q.interrupts) q.interrupts_off))
        (option_map (λ (r : QueuedRequest Purpose). r.mark)
        (cond b (Some (record { mark = mark_of read; kept = purpose.Init })) None)) q)
    by read answer false = still
    by true answers.Again true = still
    by false answers.Again true = still
    by read answers.NotSupported true = record { requests = refl; interrupts = refl; forgets = refl }
    by true answers.Other true = still
    by false answers.Other true = still

module _ (read : Bool) (old : Kernel) (has : HasInit read old) where
  are : old.queues.requests ≡ init_alone read
  are = the_init read old.queues.requests has.requests

  replied_has : (original : ℕ) (wire : WireReply) → HasInit read (interrupt_replied old original wire).1
  replied_has original (reply.failed errno) =
      let none = interrupt_queues read old.queues original (interrupt_reply_of errno) are has.interrupts in record {
        unready = has.unready;
        calls = has.calls;
        nodes = has.nodes;
        requests = ap (has_init_alone read) none.requests ∙ has.requests;
        interrupts = none.interrupts;
        forgets = none.forgets ∙ has.forgets;
      }
  replied_has original wire = has

  interrupt_has : (unique : ℕ) (wire : WireReply) (w : Option Purpose)
      → HasInit read (interrupt_reply_written old unique wire w).1
  interrupt_has unique wire None = has
  interrupt_has unique wire (Some p) = replied_has (unique - 1) wire

accepted_if : (wire : WireReply) → is_agreement wire ≡ true → write_result_of (is_init_reply wire) ≡ Accepted
accepted_if (reply.agreed major minor flags) agrees = refl
accepted_if wire agrees = absurd (false≢true agrees)

abbrev is_something : Awaited → Bool
is_something nothing = false
is_something (reply_to o) = true

abbrev opcode_awaited : Awaited → Opcode
opcode_awaited nothing = op.Init
opcode_awaited (reply_to o) = o

module _ (old : Kernel) (bytes : List ℕ) (result : WriteResult) (new : Kernel) (live : is_live new.phase ≡ true)
    (never : Agrees bytes → result ≡ Accepted → ⊥) (o : Opcode) (wire : WireReply) (means : ReadsReply o bytes wire) where
  says_init : (o : Opcode) (wire : WireReply) → ReadsReply o bytes wire → op.Init ≡ o → is_agreement wire ≡ true
      → Says op.Init bytes wire
  says_init o wire (said wire' says) is agrees = subst (λ (p : Opcode). Says p bytes wire) (sym is) says
  says_init o wire (unsaid none) is agrees =
      absurd (false≢true (ap (λ (p : Opcode). is_agreement (wrong_body_to p)) is ∙ agrees))

  -- INIT is ended by what is no agreement: the mount is aborted.
  init_ended : (k : Kernel) → head_unique bytes ≡ 2 → op.Init ≡ o
      → ended_by k purpose.Init wire ≡ (result, new) → ⊥
  init_ended k under is same = by (is_agreement wire) refl (ap (λ (r : WriteResult × Kernel). r.1) same)
    where
      by : (b : Bool) → is_agreement wire ≡ b → cond b (made_ready k wire) (kernel_aborted k) ≡ new → ⊥
      by true agrees made = never (record { under = under; wire = wire; says = says_init o wire means is agrees; agrees = agrees })
          (sym (ap (λ (r : WriteResult × Kernel). r.0) same) ∙ accepted_if wire agrees)
      by false refuses made = false≢true (ap (λ (k : Kernel). is_live k.phase) made ∙ live)

  -- A reply to a request ends INIT, or is to nothing.
  request_has : (read : Bool) → HasInit read old → (w : Option Purpose)
      → w ≡ cond (nat_eq (head_unique bytes) 2) (cond read (Some purpose.Init) None) None
      → awaited_by old w ≡ reply_to o → request_reply_written old (head_unique bytes) wire w ≡ (result, new)
      → HasInit read new
  request_has read has w there awaits same = by read (nat_eq (head_unique bytes) 2) refl there
    where
      nothing_there : w ≡ None → HasInit read new
      nothing_there none = absurd (false≢true (sym (ap (λ (x : Option Purpose). is_something (awaited_by old x)) none)
          ∙ ap is_something awaits))

      by : (r b : Bool) → nat_eq (head_unique bytes) 2 ≡ b → w ≡ cond b (cond r (Some purpose.Init) None) None
          → HasInit read new
      by r false is there = nothing_there there
      by false true is there = nothing_there there
      by true true is there = absurd (init_ended (record old { queues = without old.queues (head_unique bytes) })
          (grind (arith, nat_tests, is))
          (sym (ap (λ (x : Option Purpose). opcode_awaited (awaited_by old x)) there) ∙ ap opcode_awaited awaits)
          (sym (ap (request_reply_written old (head_unique bytes) wire) there) ∙ same))

  reply_has : (read : Bool) → HasInit read old → awaited old (head_unique bytes) ≡ reply_to o
      → reply_written old (head_unique bytes) wire ≡ (result, new) → HasInit read new
  reply_has read has awaits same = by (nat_eq (head_unique bytes % 2) 1) awaits same
    where
      by : (b : Bool) → cond b (awaited_by_interrupt (waiting old.queues (head_unique bytes - 1)))
          (awaited_by old (waiting old.queues (head_unique bytes))) ≡ reply_to o
          → cond b (interrupt_reply_written old (head_unique bytes) wire (waiting old.queues (head_unique bytes - 1)))
          (request_reply_written old (head_unique bytes) wire (waiting old.queues (head_unique bytes))) ≡ (result, new)
          → HasInit read new
      by true awaits same = subst (HasInit read) (ap (λ (r : WriteResult × Kernel). r.1) same)
          (interrupt_has read old has (head_unique bytes) wire (waiting old.queues (head_unique bytes - 1)))
      by false awaits same = request_has read has (waiting old.queues (head_unique bytes))
          (waiting_init read old.queues (are read old has) (head_unique bytes)) awaits same

-- A reply that is no agreement, or not accepted, makes no kernel ready.
pub taken_early : (read : Bool) (old : Kernel) (bytes : List ℕ) (result : WriteResult) (new : Kernel)
    → IsReplyTaken old bytes result new → EmptyUnlessLive old → (Agrees bytes → result ≡ Accepted → ⊥) → IsEarly read old
    → IsEarly read new
taken_early read old bytes result new taken empty never was live = by (is_live old.phase) refl
  where
    as_taken : HasInit read old → TakenAs old bytes result new → HasInit read new
    as_taken has (refused_whole refused no_entry same) = subst (HasInit read) (sym same) has
    as_taken has (is_read o wire awaits means same) =
        reply_has old bytes result new live never o wire means read has awaits same

    by : (b : Bool) → is_live old.phase ≡ b → HasInit read new
    by true alive = holds_as_taken old bytes result new taken (HasInit read new) (init_stable read new) (as_taken (was alive))
    by false dead = absurd (true≢false (sym live ∙ taken_dead old bytes result new taken empty dead))
