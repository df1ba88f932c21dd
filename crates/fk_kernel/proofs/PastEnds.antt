-- What bytes can mean to what awaits them, and whether it goes past the end of the numbers.
use Rattle.std.proofs.Common.{◌≡◌, ℕ, ◌-◌, ◌%◌, Bool, true, false, true≢false, List, Option, Some, None, Result, Ok, Err, nat_eq, refl, ap, sym, subst, ◌∙◌, lit≤}
use Rattle.std.specs.Option.{option_map_or}
use Rattle.std.specs.List.{list_any}
use Rattle.std.specs.Prelude.{IfErr}
use Rattle.fuse_spec.specs.declared.Refusal.{Refusal}
use Rattle.fuse_spec.specs.declared.Refusal.TheVariants.{NoMemory}
use Rattle.fk_wire.specs.declared.opcode.Opcode.{Opcode}
use Rattle.fk_wire.specs.declared.opcode.Opcode.TheVariants as op
use Rattle.fuse_spec.specs.declared.Opened.{Opened}
use Rattle.fuse_spec.specs.declared.Purpose.{Purpose}
use Rattle.fuse_spec.specs.declared.Purpose.TheVariants.{Init, Release}
use Rattle.fuse_spec.specs.declared.WriteResult.{WriteResult}
use Rattle.fuse_spec.specs.Kernel.Kernel.{Kernel}
use Rattle.fuse_spec.specs.Kernel.Messages.{WireReply, asks}
use Rattle.fuse_frames.specs.RequestTies.{asked_opcode}
use Rattle.fuse_spec.specs.Files.Operations as reply
use Rattle.fuse_spec.specs.Files.Operations.{Operation, lookup, getattr, mkdir, create, unlink, rmdir, rename, link, opening, readdir, readdirplus, read, write}
use Rattle.fuse_spec.specs.Kernel.QueueCalls.{waiting, after_reply_effect}
use Rattle.fuse_spec.specs.Kernel.Queues.{mark_under}
use Rattle.fuse_spec.specs.Kernel.Replies.{reply_written, interrupt_replied, interrupt_reply_of, is_agreement, goes_with}
use Rattle.fuse_spec.specs.Kernel.Signals.{reply_effect}
use Rattle.fuse_spec.specs.declared.InterruptReply.{InterruptReply}
use Rattle.fuse_spec.specs.declared.InterruptReplyEffect.{InterruptReplyEffect}
use Rattle.fuse_spec.specs.declared.InterruptReplyEffect.TheVariants.{QueuedAgain, TurnedOff, None as NoReplyEffect}
use Rattle.fuse_spec.specs.declared.Mark.{Mark}
use Rattle.fuse_spec.specs.Kernel.Refusals.{is_kernel_past, is_counted_out}
use Rattle.fk_kernel.specs.Refused.{PassesEnd, WritePasses}
use Rattle.fk_kernel.specs.AwaitedReplies.{Says, IsNoReply, ReadsReply, said, unsaid, wrong_body_to, IsJudged, Awaited, nothing, reply_to, awaited, awaited_by_interrupt}
use Rattle.fk_nodes.proofs.Outs.{or_none, or_first}
use Rattle.fk_kernel.proofs.Phases.{none_past_end, within_ends}
use Rattle.fk_kernel.proofs.Replied.{init_is, by_agreement, release_is}
use Rattle.fuse_frames.proofs.Sayings.{says_one}
use Rattle.fk_kernel.proofs.RepliesTaken.{opcode_in, written_odd, awaited_odd}

abbrev IsPast : Kernel → ℕ → WireReply → Bool
IsPast k unique wire = is_kernel_past (reply_written k unique wire).1

-- What was said goes past the end: so does all that the bytes mean.
pub passes : (k : Kernel) (unique : ℕ) (bytes : List ℕ) (o : Opcode) → IsJudged o → (wire : WireReply)
    → Says o bytes wire → is_kernel_past (reply_written k unique wire).1 ≡ true → PassesEnd k unique bytes (reply_to o)
passes k unique bytes o judged wire says past = record { opcode = o; judged = judged; awaits = refl; past = each }
  where
    each : (other : WireReply) → ReadsReply o bytes other → IsPast k unique other ≡ true
    each other (said w s) = subst (λ (x : WireReply). IsPast k unique x ≡ true) (says_one o bytes wire w says s) past
    each other (unsaid none) = absurd (none wire says)

module _ (k : Kernel) (unique : ℕ) (bytes : List ℕ) where
  -- It does not where nothing awaits them,
  pub nothing_passes : PassesEnd k unique bytes nothing → ⊥
  nothing_passes p = let e = p.awaits in cc e

  -- nor where what they say does not,
  pub said_passes : (o : Opcode) (wire : WireReply) → Says o bytes wire
      → is_kernel_past (reply_written k unique wire).1 ≡ false → PassesEnd k unique bytes (reply_to o) → ⊥
  said_passes o wire says within p =
      let s = subst (λ (x : Opcode). Says x bytes wire) (ap opcode_in p.awaits) says in
      true≢false (sym (p.past wire (said wire s)) ∙ within)

  -- nor where nothing that they may mean does.
  pub none_passes : (o : Opcode) → ((wire : WireReply) → Says o bytes wire
      → is_kernel_past (reply_written k unique wire).1 ≡ false) → is_kernel_past (reply_written k unique (wrong_body_to o)).1 ≡ false
      → PassesEnd k unique bytes (reply_to o) → ⊥
  none_passes o each wrong p = true≢false (sym (p.past (wrong_body_to p.opcode) (unsaid none)) ∙ subst
      (λ (x : Opcode). IsPast k unique (wrong_body_to x) ≡ false) same wrong)
    where
      same : o ≡ p.opcode
      same = ap opcode_in p.awaits

      none : IsNoReply p.opcode bytes
      none wire says =
          let s = subst (λ (x : Opcode). Says x bytes wire) (sym same) says in
          true≢false (sym (p.past wire (said wire says)) ∙ each wire s)

  module _ (same : is_kernel_past k ≡ false) where
    -- A reply to an INTERRUPT allocates no number,
    marked_within : (original : ℕ) (reply : InterruptReply) (o : Option Mark)
        → is_kernel_past (record k {
          queues = option_map_or (λ m. after_reply_effect k.queues original
              (reply_effect reply m (list_any
              (nat_eq original) k.queues.interrupts) k.queues.interrupts_off)) o k.queues;
        }) ≡ false
    marked_within original reply None = same
    marked_within original reply (Some m) = by (reply_effect reply m
        (list_any (nat_eq original) k.queues.interrupts) k.queues.interrupts_off)
      where
        by : (x : InterruptReplyEffect) → is_kernel_past (record k { queues = after_reply_effect k.queues original x }) ≡ false
        by QueuedAgain = same
        by TurnedOff = same
        by NoReplyEffect = same

    interrupt_within : (original : ℕ) (wire : WireReply) → is_kernel_past (interrupt_replied k original wire).1 ≡ false
    interrupt_within original (reply.failed errno) =
        marked_within original (interrupt_reply_of errno) (mark_under k.queues original)
    interrupt_within original wire = same

    module _ (odd : nat_eq (unique % 2) 1 ≡ true) where
      by_interrupt : (w : Option Purpose) → waiting k.queues (unique - 1) ≡ w
          → PassesEnd k unique bytes (awaited_by_interrupt w) → ⊥
      by_interrupt None waits = nothing_passes
      by_interrupt (Some purpose) waits = none_passes op.Interrupt (λ wire says. within wire)
          (within (wrong_body_to op.Interrupt))
        where
          within : (wire : WireReply) → IsPast k unique wire ≡ false
          within wire = ap (λ (r : WriteResult × Kernel). is_kernel_past r.1)
              (written_odd k unique odd wire purpose waits) ∙ interrupt_within (unique - 1) wire

      pub odd_passes : PassesEnd k unique bytes (awaited k unique) → ⊥
      odd_passes p = by_interrupt (waiting k.queues (unique - 1)) refl
          (subst (λ (a : Awaited). PassesEnd k unique bytes a) (awaited_odd k unique odd) p)

    -- nor does one to INIT or to a RELEASE.
    module _ (even : nat_eq (unique % 2) 1 ≡ false) where
      pub init_passes : waiting k.queues unique ≡ Some Init → PassesEnd k unique bytes (reply_to op.Init) → ⊥
      init_passes waits = none_passes op.Init (λ wire says. within wire) (within (wrong_body_to op.Init))
        where
          by : (wire : WireReply) (b : Bool) → is_kernel_past (by_agreement k unique even waits wire b) ≡ false
          by wire true = same
          by wire false = or_none _ false (none_past_end 2 k.vfs.next_call (lit≤ tt)
              (within_ends k.queues.next k.vfs.next_call (or_first _ (is_counted_out k.nodes) same)).1) refl

          within : (wire : WireReply) → IsPast k unique wire ≡ false
          within wire = ap (λ (r : WriteResult × Kernel). is_kernel_past r.1) (init_is k unique even waits wire) ∙ by wire
              (is_agreement wire)

      pub release_passes : (opened : Opened) → waiting k.queues unique ≡ Some (Release opened)
          → PassesEnd k unique bytes (reply_to op.Release) → ⊥
      release_passes opened waits = none_passes op.Release (λ wire says. within wire)
          (within (wrong_body_to op.Release))
        where
          within : (wire : WireReply) → IsPast k unique wire ≡ false
          within wire = ap (λ (r : WriteResult × Kernel). is_kernel_past r.1)
              (release_is k unique opened even waits wire) ∙ same

-- A wrong body goes with no operation of a call.
pub wrong_to_call : (operation : Operation ℕ Opened)
    → goes_with operation (wrong_body_to (asked_opcode (asks operation))) ≡ false
wrong_to_call (lookup d w) = refl
wrong_to_call (getattr x) = refl
wrong_to_call (mkdir d n) = refl
wrong_to_call (create d n) = refl
wrong_to_call (unlink d n) = refl
wrong_to_call (rmdir d n) = refl
wrong_to_call (rename d o e n) = refl
wrong_to_call (link x d n) = refl
wrong_to_call (opening x) = refl
wrong_to_call (readdir d a z) = refl
wrong_to_call (readdirplus d a z) = refl
wrong_to_call (read o f z) = refl
wrong_to_call (write o f b) = refl

-- Where memory is out, the bytes do not go past the end.
pub memory_last : {X : Type 0} (k : Kernel) (unique : ℕ) (bytes : List ℕ) (awaits : Awaited) (r : Result X Refusal)
    → (WritePasses k bytes → PassesEnd k unique bytes awaits)
    → IfErr r (λ refusal. refusal ≡ NoMemory → PassesEnd k unique bytes awaits → ⊥)
    → IfErr r (λ refusal. refusal ≡ NoMemory → WritePasses k bytes → ⊥)
memory_last k unique bytes awaits (Ok x) same is = tt
memory_last k unique bytes awaits (Err refusal) same is = λ wants p. is wants (same p)
