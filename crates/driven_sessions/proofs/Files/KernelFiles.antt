-- What becomes of the files that a kernel has open: a reply may open one, a RELEASE that is read is that of one, and a read or
-- write is of one that is there.
use Rattle.std.proofs.Common.{◌≡◌, ◌⊎◌, inl, inr, ℕ, ◌+◌, ◌-◌, ◌≤◌, Bool, true, false, cond, List, [], ◌∷◌, Option, Some, None, nat_eq, drop, refl, ap, sym, subst, ◌∙◌, arith, All}
use Rattle.std.proofs.lemmas.List.Elements.{All-head}
use Rattle.std.proofs.lemmas.List.Sums.{sum_by-cons}
use Rattle.std.proofs.Math.Decide.{ℕ_discrete}
use Rattle.std.specs.List.{list_any}
use Rattle.std.specs.Option.{option_map_or}
use Rattle.std.specs.Prelude.{◌%◌, sum_by}
use Rattle.fk_wire.specs.declared.opcode.Opcode.{Opcode}
use Rattle.fk_wire.specs.declared.opcode.Opcode.TheVariants as op
use Rattle.fuse_spec.specs.declared.Entry.{Entry}
use Rattle.fuse_spec.specs.declared.InterruptReplyEffect.{InterruptReplyEffect}
use Rattle.fuse_spec.specs.declared.InterruptReplyEffect.TheVariants.{QueuedAgain, TurnedOff, None as NoReplyEffect}
use Rattle.fuse_spec.specs.declared.IntrEffect.{IntrEffect}
use Rattle.fuse_spec.specs.declared.Mark.{Mark}
use Rattle.fuse_spec.specs.declared.Opened.{Opened}
use Rattle.fuse_spec.specs.declared.Purpose.{Purpose}
use Rattle.fuse_spec.specs.declared.Purpose.TheVariants as purpose
use Rattle.fuse_spec.specs.declared.WriteResult.{WriteResult}
use Rattle.fuse_spec.specs.declared.WriteResult.TheVariants.{Accepted, Invalid, NoEntry}
use Rattle.fuse_spec.specs.Calls.Answers as answer
use Rattle.fuse_spec.specs.Calls.CallReplies.{call_replied}
use Rattle.fuse_spec.specs.Calls.Calls.{for_minor}
use Rattle.fuse_spec.specs.Calls.Vfs.{CallState, Vfs, abandoned, answered, asked, doing, using, walking}
use Rattle.fuse_spec.specs.Claim.Counts.{opens_of}
use Rattle.fuse_spec.specs.Files.Operations.{DirentPlus, Operation, create, failed, files_in_reply, listed_plus, read as read_bytes, write as write_bytes}
use Rattle.fuse_spec.specs.Kernel.Kernel.{Kernel, after_use, asked_by, body_of, call_signalled, kernel_aborted}
use Rattle.fuse_spec.specs.Kernel.Messages.{Forget, Request, RequestBody, WireReply, asks, init}
use Rattle.fuse_spec.specs.Kernel.QueueCalls.{after_forget, after_interrupt_reply, after_reply_effect, can_read_forgets, waiting, without}
use Rattle.fuse_spec.specs.Kernel.Queues.{QueueState, mark_under}
use Rattle.fuse_spec.specs.Kernel.Replies.{Use, ended_by, goes_with, interrupt_replied, interrupt_reply_of, interrupt_reply_written, is_agreement, is_empty_reply, is_init_reply, judged, kernel_reply, looked_up, made_ready, replied, replied_to_call, reply_judged, reply_written, request_reply_written, stale, unusable, usable, use_of_reply, without_stale, write_result_of}
use Rattle.fuse_spec.specs.Kernel.Signals.{reply_effect}
use Rattle.fuse_spec.specs.Values.Maps.{Map, get}
use Rattle.fuse_spec.proofs.QueueCounts.{key_count}
use Rattle.fuse_theorem.specs.OpenNumbers.{OpensApart, UsesOpen, released_by}
use Rattle.fuse_theorem.proofs.Calls.OpenSteps.{gained, gained_by, replied_steps}
use Rattle.fuse_theorem.proofs.Lists.MapSums.{values_sum, worth}
use Rattle.fuse_theorem.proofs.Lists.OpenSums.{kernel_sum}
use Rattle.fuse_theorem.proofs.OpenFiles.OpensAfterReply.{ended_keeps, read_sum}
use Rattle.fuse_theorem.proofs.OpenFiles.OpensApart.{call_apart, call_below}
use Rattle.fuse_theorem.proofs.OpenFiles.OpensKept.{KeepsOpen, advanced_keeps, answered_keeps, begun_keeps, signalled_keeps, unmoved, used_keeps}
use Rattle.fuse_theorem.proofs.OpenFiles.OpensUsed.{found_counted}
use Rattle.fk_kernel.specs.AwaitedReplies.{ReadsReply, Says, awaited, head_unique, reply_to, said, unsaid, wrong_body_to}
use Rattle.fk_kernel.specs.Picks.{IsPicked, after_pick}
use Rattle.fuse_spec.specs.World.Worlds.{forget_body}
use Rattle.fk_kernel.specs.declared.read.Pick.{Pick}
use Rattle.fk_kernel.specs.declared.read.Pick.TheVariants.{Forgets, Interrupt, Pending}
use Rattle.fk_drive.specs.KernelSteps.{ActsAlone, IsReplyTaken, aborts, begins, drops_name, evicts, gives_answer, is_signalled, mounts, ticks}
use Rattle.fk_drive_theorem.proofs.Stable.{Stable, at_most, same_list, same_number}
use Rattle.fk_drive_theorem.proofs.Taken.{TakenAs, holds_as_taken, is_read, refused_whole}
use Rattle.driven_sessions.proofs.KnownNodes.{all_stable, same_opened, true_stable}

-- ---- numbers are apart as soon as that is not false

abbrev node_in : Option Opened → ℕ
node_in None = 0
node_in (Some o) = o.nodeid

abbrev fh_in : Option Opened → ℕ
fh_in None = 0
fh_in (Some o) = o.fh

is_or_not : (x : Option Opened) (o : Opened) → (x ≡ Some o) ⊎ (x ≡ Some o → ⊥)
is_or_not None o = inr (λ e. cc e)
is_or_not (Some x) o = elim (ℕ_discrete x.nodeid o.nodeid) [
  | yes node ↦ elim (ℕ_discrete x.fh o.fh) [
    | yes fh ↦ inl (λ i. Some (record { nodeid = node i; fh = fh i }))
    | no ne ↦ inr (λ e. ne (ap fh_in e))
  ]
  | no ne ↦ inr (λ e. ne (ap node_in e))
]

either_stable : (x y : Option Opened) (o : Opened) → Stable ((x ≡ Some o) ⊎ (y ≡ Some o))
either_stable x y o s = by (is_or_not x o) (is_or_not y o)
  where
    neither : (x ≡ Some o → ⊥) → (y ≡ Some o → ⊥) → (x ≡ Some o) ⊎ (y ≡ Some o) → ⊥
    neither a b (inl e) = a e
    neither a b (inr e) = b e

    by : (x ≡ Some o) ⊎ (x ≡ Some o → ⊥) → (y ≡ Some o) ⊎ (y ≡ Some o → ⊥) → (x ≡ Some o) ⊎ (y ≡ Some o)
    by (inl e) other = inl e
    by (inr a) (inl e) = inr e
    by (inr a) (inr b) = absurd (s (neither a b))

uses_stable : (opens closing : Map Opened) (state : CallState Opened) → Stable (UsesOpen opens closing state)
uses_stable opens closing (walking d word words plan) s = tt
uses_stable opens closing (doing operation) s = same_list same_opened (opens_of operation) [] s
uses_stable opens closing (using open_call operation) s =
    all_stable (λ (o : Opened). (get opens open_call ≡ Some o) ⊎ (get closing open_call ≡ Some o))
    (either_stable (get opens open_call) (get closing open_call)) (opens_of operation) s

apart_stable : (c : Vfs Opened) (closing : Map Opened) → Stable (OpensApart c closing)
apart_stable c closing s = record {
  once = λ n. at_most _ _ (λ no. s (λ a. no (a.once n)));
  below = λ n high. same_number _ _ (λ no. s (λ a. no (a.below n high)));
  opens = true_stable _ (λ no. s (λ a. no a.opens));
  closing = true_stable _ (λ no. s (λ a. no a.closing));
  uses = λ call state at. uses_stable c.opens closing state (λ no. s (λ a. no (a.uses call state at)));
}

none_apart : (c : Vfs Opened) → OpensApart (abandoned c) []
none_apart c = record {
  once = λ n. omega arith;
  below = λ n high. refl;
  opens = tt;
  closing = tt;
  uses = λ call state at. absurd (cc at);
}

-- ---- a reply to a call

-- The kernel has no files but those that it had, and one that a reply opens.
pub record Leaves (k l : Kernel) (opens : Option Opened) : Type 0 where
  pub sums : (f : Opened → ℕ) → kernel_sum f l ≤ kernel_sum f k + worth f opens
  pub apart : OpensApart l.vfs l.closing

kept_leaves : (k l : Kernel) (opens : Option Opened) → KeepsOpen k l opens → Leaves k l opens
kept_leaves k l opens keeps = record {
  sums = λ f. let same = keeps.sums f in omega (arith, same);
  apart = keeps.apart;
}

-- What a reply to a call opens: it is accepted, and its entry can be used.
record Replies (k : Kernel) (state : CallState Opened) (wire : WireReply) (after : WriteResult × Kernel) : Type 0 where
  opens : Option Opened
  leaves : Leaves k after.1 opens
  accepted : (o : Opened) → opens ≡ Some o → after.0 ≡ Accepted
  gains : (o : Opened) → opens ≡ Some o → gained_by (asked state) (kernel_reply (asked state) wire) ≡ Some o
  used : (o : Opened) → opens ≡ Some o → use_of_reply k.nodes wire ≡ usable

module _ (k : Kernel) (old : OpensApart k.vfs k.closing) (call : ℕ) (state : CallState Opened)
    (there : get k.vfs.calls call ≡ Some state) (wire : WireReply) where
  opens_none : (l : Kernel) (result : WriteResult) → KeepsOpen k l None → Replies k state wire (result, l)
  opens_none l result keeps = record {
    opens = None;
    leaves = kept_leaves k l None keeps;
    accepted = λ o e. absurd (cc e);
    gains = λ o e. absurd (cc e);
    used = λ o e. absurd (cc e);
  }

  abbrev unstale : Kernel
  unstale = without_stale k wire

  abbrev read : WireReply
  read = reply_judged k.nodes wire

  -- A listing opens nothing.
  judged_gains : (o : Opened) → gained state (kernel_reply (asked state) read) ≡ Some o
      → gained_by (asked state) (kernel_reply (asked state) wire) ≡ Some o
  judged_gains o = by wire state
    where
      listing : (pairs : List (DirentPlus Entry)) (x : Operation ℕ Opened)
          → gained_by x (kernel_reply x (reply_judged k.nodes (listed_plus pairs))) ≡ Some o
          → gained_by x (kernel_reply x (listed_plus pairs)) ≡ Some o
      listing pairs (create d name) e = absurd (cc e)
      listing pairs x e = absurd (cc e)

      by : (w : WireReply) (s : CallState Opened) → gained s (kernel_reply (asked s) (reply_judged k.nodes w)) ≡ Some o
          → gained_by (asked s) (kernel_reply (asked s) w) ≡ Some o
      by w (walking d word words plan) e = absurd (cc e)
      by (listed_plus pairs) (doing operation) e = listing pairs operation e
      by (listed_plus pairs) (using c operation) e = listing pairs operation e
      by w (doing operation) e = e
      by w (using c operation) e = e

  leaves_judged : (u : Use) → use_of_reply k.nodes wire ≡ u
      → Replies k state wire (Accepted, after_use (judged unstale call state read u) state)
  leaves_judged usable is =
      let knows = record unstale { nodes = looked_up k.nodes (files_in_reply read) } in
      let reply = kernel_reply (asked state) read in
      let none = call_apart k.vfs k.closing old call state there in
      let low = call_below k.vfs k.closing old call state there in
      let l = judged unstale call state read usable in
      let first = advanced_keeps knows old call none.0 none.1 low (call_replied k.vfs call state reply) (gained state reply)
      (replied_steps k.vfs call state reply) in
      let second = used_keeps l first.apart state in
      record {
        opens = gained state reply;
        leaves = record {
          sums = λ f. let a = first.sums f in let b = second.sums f in omega (arith, a, b);
          apart = second.apart;
        };
        accepted = λ o e. refl;
        gains = judged_gains;
        used = λ o e. is;
      }
  leaves_judged unusable is =
      let keeps = answered_keeps unstale old call state there (answer.failed 5) in
      opens_none (after_use (judged unstale call state read unusable) state) Accepted
      (record { sums = keeps.sums; apart = keeps.apart })
  leaves_judged (stale node) is =
      let keeps = answered_keeps (record unstale { queues = after_forget unstale.queues node 1 }) old call state there
      (answer.failed 5) in
      opens_none (after_use (judged unstale call state read (stale node)) state) Accepted
      (record { sums = keeps.sums; apart = keeps.apart })

  replied_leaves : (b : Bool) → Replies k state wire (replied k call state b wire)
  replied_leaves true = leaves_judged (use_of_reply k.nodes wire) refl
  replied_leaves false = opens_none (after_use (record k { vfs = answered k.vfs call (answer.failed 5) }) state) Invalid
      (answered_keeps k old call state there (answer.failed 5))

-- ---- any reply

-- A file is opened by a reply to the request of a call, which is accepted.
pub record IsOpenedBy (k : Kernel) (unique : ℕ) (wire : WireReply) (result : WriteResult) (o : Opened) : Type 0 where
  pub accepted : result ≡ Accepted
  pub even : nat_eq (unique % 2) 1 ≡ false
  pub call : ℕ
  pub state : CallState Opened
  pub waits : waiting k.queues unique ≡ Some (purpose.Call call)
  pub there : get k.vfs.calls call ≡ Some state
  pub gains : gained_by (asked state) (kernel_reply (asked state) wire) ≡ Some o
  pub used : use_of_reply k.nodes wire ≡ usable

record Written (k : Kernel) (unique : ℕ) (wire : WireReply) (after : WriteResult × Kernel) : Type 0 where
  opens : Option Opened
  leaves : Leaves k after.1 opens
  because : (o : Opened) → opens ≡ Some o → IsOpenedBy k unique wire after.0 o

module _ (k : Kernel) (old : OpensApart k.vfs k.closing) (unique : ℕ) (wire : WireReply) where
  writes_none : (l : Kernel) (result : WriteResult) → Leaves k l None → Written k unique wire (result, l)
  writes_none l result leaves = record { opens = None; leaves = leaves; because = λ o e. absurd (cc e) }

  same_leaves : Leaves k k None
  same_leaves = kept_leaves k k None (unmoved k old)

  abbrev ended : Kernel
  ended = record k { queues = without k.queues unique }

  ended_written : nat_eq (unique % 2) 1 ≡ false → (kept : Purpose) → waiting k.queues unique ≡ Some kept
      → Written k unique wire (ended_by ended kept wire)
  ended_written even purpose.Init waits = by (is_agreement wire)
    where
      by : (b : Bool) → Written k unique wire
          (write_result_of (is_init_reply wire), cond b (made_ready ended wire) (kernel_aborted ended))
      by true =
          let keeps = ended_keeps k old unique purpose.Init waits in
          writes_none (made_ready ended wire) (write_result_of (is_init_reply wire)) (record {
            sums = λ f. let same = keeps.sums f in omega (arith, same);
            apart = keeps.apart;
          })
      by false = writes_none (kernel_aborted ended) (write_result_of (is_init_reply wire)) (record {
        sums = λ f. omega arith;
        apart = none_apart k.vfs;
      })
  ended_written even (purpose.Release o) waits = writes_none ended (write_result_of (is_empty_reply wire))
      (kept_leaves k ended None (ended_keeps k old unique (purpose.Release o) waits))
  ended_written even (purpose.Call call) waits = by (get k.vfs.calls call) refl
    where
      first : KeepsOpen k ended None
      first = ended_keeps k old unique (purpose.Call call) waits

      by : (o : Option (CallState Opened)) → get k.vfs.calls call ≡ o → Written k unique wire (replied_to_call ended call wire o)
      by None none = writes_none ended Accepted (kept_leaves k ended None first)
      by (Some state) there =
          let second = replied_leaves ended old call state there wire (goes_with (asked state) wire) in
          record {
            opens = second.opens;
            leaves = record {
              sums = λ f. let a = first.sums f in let b = second.leaves.sums f in omega (arith, a, b);
              apart = second.leaves.apart;
            };
            because = λ o e. record {
              accepted = second.accepted o e;
              even = even;
              call = call;
              state = state;
              waits = waits;
              there = there;
              gains = second.gains o e;
              used = second.used o e;
            };
          }

  requests_same : (q : QueueState Purpose) → q.requests ≡ k.queues.requests → Leaves k (record k { queues = q }) None
  requests_same q same = record {
    sums = λ f. let all = ap (λ (es : List _). kernel_sum f (record k { queues = record k.queues { requests = es } })) same in
        omega (arith, all);
    apart = old;
  }

  effects_same : (original : ℕ) (x : InterruptReplyEffect) → (after_reply_effect k.queues original x).requests ≡ k.queues.requests
  effects_same original QueuedAgain = refl
  effects_same original TurnedOff = refl
  effects_same original NoReplyEffect = refl

  reply_same : (original errno : ℕ)
      → (after_interrupt_reply k.queues original (interrupt_reply_of errno)).requests ≡ k.queues.requests
  reply_same original errno = by (mark_under k.queues original)
    where
      by : (o : Option Mark) → (option_map_or (λ m. after_reply_effect k.queues original
          (reply_effect (interrupt_reply_of errno) m (list_any (nat_eq original) k.queues.interrupts) k.queues.interrupts_off))
          o k.queues).requests ≡ k.queues.requests
      by None = refl
      by (Some m) = effects_same original
          (reply_effect (interrupt_reply_of errno) m (list_any (nat_eq original) k.queues.interrupts) k.queues.interrupts_off)

  written_leaves : Written k unique wire (reply_written k unique wire)
  written_leaves = by (nat_eq (unique % 2) 1) refl
    where
      interrupts : (x : WireReply) → Leaves k (interrupt_replied k (unique - 1) x).1 None
      interrupts (failed errno) = requests_same (after_interrupt_reply k.queues (unique - 1) (interrupt_reply_of errno))
          (reply_same (unique - 1) errno)
      interrupts x = same_leaves

      odd : (o : Option Purpose) → Written k unique wire (interrupt_reply_written k unique wire o)
      odd None = writes_none k NoEntry same_leaves
      odd (Some kept) = writes_none (interrupt_replied k (unique - 1) wire).1 (interrupt_replied k (unique - 1) wire).0
          (interrupts wire)

      even : nat_eq (unique % 2) 1 ≡ false → (o : Option Purpose) → waiting k.queues unique ≡ o
          → Written k unique wire (request_reply_written k unique wire o)
      even is None waits = writes_none k NoEntry same_leaves
      even is (Some kept) waits = ended_written is kept waits

      by : (b : Bool) → nat_eq (unique % 2) 1 ≡ b → Written k unique wire
          (cond b (interrupt_reply_written k unique wire (waiting k.queues (unique - 1)))
          (request_reply_written k unique wire (waiting k.queues unique)))
      by true is = odd (waiting k.queues (unique - 1))
      by false is = even is (waiting k.queues unique) refl

-- ---- bytes that are taken as a reply

wrong_gains : (p : Opcode) (o : Opened) (operation : Operation ℕ Opened)
    → gained_by operation (kernel_reply operation (wrong_body_to p)) ≡ Some o → ⊥
wrong_gains op.Init o operation e = by operation e
  where
    by : (x : Operation ℕ Opened) → gained_by x (kernel_reply x (wrong_body_to op.Init)) ≡ Some o → ⊥
    by (create d name) e = cc e
    by x e = cc e
wrong_gains p o operation e = by operation e
  where
    by : (x : Operation ℕ Opened) → gained_by x (kernel_reply x (wrong_body_to p)) ≡ Some o → ⊥
    by (create d name) e = cc e
    by x e = cc e

module _ (old : Kernel) (bytes : List ℕ) (result : WriteResult) (new : Kernel) (taken : IsReplyTaken old bytes result new)
    (apart : OpensApart old.vfs old.closing) where
  abbrev number : ℕ
  number = head_unique bytes

  pub taken_apart : OpensApart new.vfs new.closing
  taken_apart = holds_as_taken old bytes result new taken (OpensApart new.vfs new.closing) (apart_stable new.vfs new.closing) by
    where
      by : TakenAs old bytes result new → OpensApart new.vfs new.closing
      by (refused_whole refused no_entry same) = subst (λ (k : Kernel). OpensApart k.vfs k.closing) (sym same) apart
      by (is_read p wire is means same) = subst (λ (r : WriteResult × Kernel). OpensApart r.1.vfs r.1.closing) same
          (written_leaves old apart number wire).leaves.apart

  -- The kernel has so many files more at most as the reply may open.
  pub taken_sum : (f : Opened → ℕ) (bound : ℕ) → ((p : Opcode) → awaited old number ≡ reply_to p → (wire : WireReply)
      → Says p bytes wire → (o : Opened) → IsOpenedBy old number wire result o → f o ≤ bound)
      → kernel_sum f new ≤ kernel_sum f old + bound
  taken_sum f bound each = holds_as_taken old bytes result new taken (kernel_sum f new ≤ kernel_sum f old + bound)
      (at_most (kernel_sum f new) (kernel_sum f old + bound)) by
    where
      few : (p : Opcode) → awaited old number ≡ reply_to p → (wire : WireReply) → ReadsReply p bytes wire
          → (o : Opened) → IsOpenedBy old number wire result o → f o ≤ bound
      few p is wire (said x says) o opened = each p is x says o opened
      few p is wire (unsaid none) o opened = absurd (wrong_gains p o (asked opened.state) opened.gains)

      by : TakenAs old bytes result new → kernel_sum f new ≤ kernel_sum f old + bound
      by (refused_whole refused no_entry same) =
          let all : kernel_sum f new ≡ kernel_sum f old = ap (kernel_sum f) same in omega (arith, all)
      by (is_read p wire is means same) =
          let leaves = written_leaves old apart number wire in
          let to : kernel_sum f (reply_written old number wire).1 ≡ kernel_sum f new =
          ap (λ (r : WriteResult × Kernel). kernel_sum f r.1) same in
          let all = leaves.leaves.sums f in
          let more = opened leaves.opens leaves.because in
          omega (arith, to, all, more)
        where
          opened : (x : Option Opened)
              → ((o : Opened) → x ≡ Some o → IsOpenedBy old number wire (reply_written old number wire).0 o) → worth f x ≤ bound
          opened None because = omega arith
          opened (Some o) because = few p is wire means o
              (subst (λ (r : WriteResult). IsOpenedBy old number wire r o) (ap (λ (r : WriteResult × Kernel). r.0) same) (because o refl))

-- ---- the kernel by itself

pub alone_leaves : (old new : Kernel) → ActsAlone old new → OpensApart old.vfs old.closing
    → ((u : ℕ) → key_count u old.queues.requests ≤ 1) → Leaves old new None
alone_leaves old new (mounts may) apart once = record { sums = λ f. omega arith; apart = none_apart old.vfs }
alone_leaves old new (begins call may) apart once =
    kept_leaves old new None (begun_keeps old apart (for_minor old.lists_files call))
alone_leaves old new (is_signalled call fatal effect after may is) apart once =
    subst (λ (r : IntrEffect × Kernel). Leaves old r.1 None) is.signalled
    (kept_leaves old (call_signalled old call is.state fatal).1 None
    (signalled_keeps old apart once call is.state is.unanswered fatal))
alone_leaves old new (ticks ms may) apart once = record {
  sums = λ f. omega arith;
  apart = record { once = apart.once; below = apart.below; opens = apart.opens; closing = apart.closing; uses = apart.uses };
}
alone_leaves old new (drops_name directory name may) apart once = record {
  sums = λ f. omega arith;
  apart = record { once = apart.once; below = apart.below; opens = apart.opens; closing = apart.closing; uses = apart.uses };
}
alone_leaves old new (evicts node counted may there) apart once = record { sums = λ f. omega arith; apart = apart }
alone_leaves old new (aborts may) apart once = record { sums = λ f. omega arith; apart = none_apart old.vfs }
alone_leaves old new (gives_answer call) apart once = record {
  sums = λ f. omega arith;
  apart = record { once = apart.once; below = apart.below; opens = apart.opens; closing = apart.closing; uses = apart.uses };
}

-- ---- a request that is read

-- the open file that a request reads or writes
abbrev pub used_by : RequestBody → List Opened
used_by (asks operation) = opens_of operation
used_by body = []

module _ (f : Opened → ℕ) (k : Kernel) (once : (u : ℕ) → key_count u k.queues.requests ≤ 1) where
  none_released : (fs : List Forget) → sum_by f (released_by (forget_body fs)) ≡ 0
  none_released [] = refl
  none_released (g ∷ []) = refl
  none_released (g ∷ h ∷ fs) = refl

  -- A RELEASE that is read was one of a file that the kernel has.
  pub picked_sum : (pick : Pick) (r : Request) → IsPicked k pick r
      → kernel_sum f (record k { queues = after_pick k.queues pick }) + sum_by f (released_by r.body) ≤ kernel_sum f k
  picked_sum Interrupt r is =
      let none : sum_by f (released_by r.body) ≡ 0 = ap (λ (q : Request). sum_by f (released_by q.body)) is.is in
      omega (arith, none)
  picked_sum (Forgets count) r is =
      let none : sum_by f (released_by r.body) ≡ 0 =
      ap (λ (q : Request). sum_by f (released_by q.body)) is.is ∙ none_released is.forgets in
      let same = left (can_read_forgets k.queues count) in
      omega (arith, none, same)
    where
      left : (b : Bool) → kernel_sum f (record k {
        queues = cond b (record k.queues { forgets = drop count k.queues.forgets; next = k.queues.next + 2 }) k.queues;
      }) ≡ kernel_sum f k
      left true = refl
      left false = refl
  picked_sum (Pending place) r is =
      let same = read_sum k once place r.unique is.purpose r.body is.pending is.body f in omega (arith, same)

  -- A request that is read is a read or write of a file that the kernel has.
  module _ (apart : OpensApart k.vfs k.closing) where
    there_counted : (open_call : ℕ) (o : Opened) → (get k.vfs.opens open_call ≡ Some o) ⊎ (get k.closing open_call ≡ Some o)
        → f o ≤ values_sum f k.vfs.opens + values_sum f k.closing
    there_counted open_call o (inl at) =
        let all = found_counted f k.vfs.opens open_call o apart.opens at in omega (arith, all)
    there_counted open_call o (inr at) =
        let all = found_counted f k.closing open_call o apart.closing at in omega (arith, all)

    pub state_used : (state : CallState Opened) → UsesOpen k.vfs.opens k.closing state
        → sum_by f (opens_of (asked state)) ≤ values_sum f k.vfs.opens + values_sum f k.closing
    state_used (walking d word words plan) uses = omega arith
    state_used (doing operation) uses =
        let none : sum_by f (opens_of operation) ≡ 0 = ap (sum_by f) uses in omega (arith, none)
    state_used (using open_call operation) uses = by operation uses
      where
        one : (o : Opened)
            → All (λ (o : Opened). (get k.vfs.opens open_call ≡ Some o) ⊎ (get k.closing open_call ≡ Some o)) (o ∷ [])
            → sum_by f (o ∷ []) ≤ values_sum f k.vfs.opens + values_sum f k.closing
        one o all =
            let counted = there_counted open_call o
            (All-head (λ (o : Opened). (get k.vfs.opens open_call ≡ Some o) ⊎ (get k.closing open_call ≡ Some o)) o [] all) in
            let sum = sum_by-cons f o [] in
            omega (arith, counted, sum)

        by : (x : Operation ℕ Opened)
            → All (λ (o : Opened). (get k.vfs.opens open_call ≡ Some o) ⊎ (get k.closing open_call ≡ Some o)) (opens_of x)
            → sum_by f (opens_of x) ≤ values_sum f k.vfs.opens + values_sum f k.closing
        by (read_bytes o offset size) all = one o all
        by (write_bytes o offset bytes) all = one o all
        by x all = omega arith

    body_used : (kept : Purpose) (body : RequestBody) → body_of k kept ≡ Some body
        → sum_by f (used_by body) ≤ values_sum f k.vfs.opens + values_sum f k.closing
    body_used purpose.Init body is = none (init _) is refl
      where
        none : (x : RequestBody) → Some x ≡ Some body → used_by x ≡ []
            → sum_by f (used_by body) ≤ values_sum f k.vfs.opens + values_sum f k.closing
        none x same is =
            let zero : sum_by f (used_by body) ≡ 0 =
            ap (λ (o : Option RequestBody). option_map_or (λ (b : RequestBody). sum_by f (used_by b)) o 0) (sym same)
            ∙ ap (sum_by f) is in
            omega (arith, zero)
    body_used (purpose.Release o) body is =
        let zero : sum_by f (used_by body) ≡ 0 =
        ap (λ (o : Option RequestBody). option_map_or (λ (b : RequestBody). sum_by f (used_by b)) o 0) (sym is) in
        omega (arith, zero)
    body_used (purpose.Call call) body is = by (get k.vfs.calls call) refl is
      where
        by : (o : Option (CallState Opened)) → get k.vfs.calls call ≡ o → asked_by o ≡ Some body
            → sum_by f (used_by body) ≤ values_sum f k.vfs.opens + values_sum f k.closing
        by None at e = absurd (cc e)
        by (Some state) at e =
            let same : sum_by f (used_by body) ≡ sum_by f (opens_of (asked state)) =
            ap (λ (o : Option RequestBody). option_map_or (λ (b : RequestBody). sum_by f (used_by b)) o 0) (sym e) in
            let all = state_used state (apart.uses call state at) in
            omega (arith, same, all)

    pub picked_used : (pick : Pick) (r : Request) → IsPicked k pick r
        → sum_by f (used_by r.body) ≤ values_sum f k.vfs.opens + values_sum f k.closing
    picked_used Interrupt r is =
        let none : sum_by f (used_by r.body) ≡ 0 = ap (λ (q : Request). sum_by f (used_by q.body)) is.is in omega (arith, none)
    picked_used (Forgets count) r is =
        let none : sum_by f (used_by r.body) ≡ 0 =
        ap (λ (q : Request). sum_by f (used_by q.body)) is.is ∙ of_forgets is.forgets in omega (arith, none)
      where
        of_forgets : (fs : List Forget) → sum_by f (used_by (forget_body fs)) ≡ 0
        of_forgets [] = refl
        of_forgets (g ∷ []) = refl
        of_forgets (g ∷ h ∷ fs) = refl
    picked_used (Pending place) r is = body_used is.purpose r.body is.body
