-- What bytes that are written as a reply add to a node's lookups, and what they leave of a kernel without a live mount.
use Rattle.std.proofs.Common.{◌≡◌, ◌≢◌, ℕ, ◌-◌, ◌≤◌, Bool, true, false, true≢false, cond, [], Option, Some, None, nat_eq, refl, ap, sym, subst, ◌∙◌, arith}
use Rattle.std.specs.Prelude.{◌%◌}
use Rattle.fk_wire.specs.declared.opcode.Opcode.{Opcode}
use Rattle.fk_wire.specs.declared.opcode.Opcode.TheVariants as op
use Rattle.fuse_spec.specs.declared.Opened.{Opened}
use Rattle.fuse_spec.specs.declared.Purpose.{Purpose}
use Rattle.fuse_spec.specs.declared.Purpose.TheVariants as purpose
use Rattle.fuse_spec.specs.declared.WriteResult.{WriteResult}
use Rattle.fuse_spec.specs.declared.WriteResult.TheVariants.{Accepted, NoEntry}
use Rattle.fuse_spec.specs.Calls.Vfs.{CallState, asked}
use Rattle.fuse_spec.specs.Claim.Counts.{times_named}
use Rattle.fuse_spec.specs.Files.Operations.{Operation, lookup, getattr, mkdir, create, unlink, rmdir, rename, link, opening, readdir, readdirplus, read, write, agreed, done, failed}
use Rattle.fuse_spec.specs.Kernel.Kernel.{Kernel, is_live, kernel_aborted}
use Rattle.fuse_spec.specs.Kernel.Messages.{WireReply, asks}
use Rattle.fuse_spec.specs.Kernel.QueueCalls.{waiting, without}
use Rattle.fuse_spec.specs.Kernel.Replies.{ended_by, goes_with, interrupt_replied, interrupt_reply_of, interrupt_reply_written, is_agreement, is_empty_reply, is_init_reply, made_ready, replied, replied_to_call, reply_written, request_reply_written, write_result_of}
use Rattle.fuse_spec.specs.Values.Maps.{get}
use Rattle.fuse_theorem.proofs.Calls.CallsContinue.{replied_goes_on}
use Rattle.fuse_theorem.proofs.Lookups.CountsStay.{SameCounts, interrupt_reply_same}
use Rattle.fuse_frames.specs.RequestTies.{asked_opcode}
use Rattle.fk_kernel.specs.AwaitedReplies.{Awaited, reply_to, awaited, awaited_by, awaited_by_call, awaited_by_interrupt, wrong_body_to}
use Rattle.fk_kernel.proofs.RepliesTaken.{opcode_in}
use Rattle.fk_drive_theorem.specs.Tallies.{where_accepted}
use Rattle.fk_drive_theorem.proofs.NumbersGone.{none_taken}
use Rattle.fk_drive_theorem.proofs.RepliesCounted.{Gains, same_gains, replied_gains}

-- What awaits a reply, and what a reply results in, by whether the unique is an INTERRUPT's.
abbrev awaited_as : Kernel → ℕ → Bool → Awaited
awaited_as k unique b = cond b (awaited_by_interrupt (waiting k.queues (unique - 1)))
    (awaited_by k (waiting k.queues unique))

abbrev written_as : Kernel → ℕ → WireReply → Bool → WriteResult × Kernel
written_as k unique wire b = cond b (interrupt_reply_written k unique wire (waiting k.queues (unique - 1)))
    (request_reply_written k unique wire (waiting k.queues unique))

-- ---- lookups

module _ (id : ℕ) (low : 2 ≤ id) (k : Kernel) (unique : ℕ) (wire : WireReply) (o : Opcode) where
  abbrev GainsBy : WriteResult × Kernel → Type 0
  GainsBy written = Gains id low k written.1 (where_accepted written.0 (times_named id wire))

  -- a reply that names nothing, or is not accepted
  names_none : (l : Kernel) (result : WriteResult) → SameCounts k l → where_accepted result (times_named id wire) ≡ 0
      → GainsBy (result, l)
  names_none l result same none = let gains = same_gains id low k l same in omega (arith, gains, none)

  init_names : (x : WireReply) → where_accepted (write_result_of (is_init_reply x)) (times_named id x) ≡ 0
  init_names (agreed major minor flags) = refl
  init_names (failed errno) = refl
  init_names x = refl

  release_names : (x : WireReply) → where_accepted (write_result_of (is_empty_reply x)) (times_named id x) ≡ 0
  release_names done = refl
  release_names (failed errno) = refl
  release_names x = refl

  abbrev k1 : Kernel
  k1 = record k { queues = without k.queues unique }

  ended_gains : (kept : Purpose) → awaited_by k (Some kept) ≡ reply_to o
      → is_live (ended_by k1 kept wire).1.phase ≡ true
      → GainsBy (ended_by k1 kept wire)
  ended_gains purpose.Init awaits live = by (is_agreement wire) live
    where
      by : (b : Bool) → is_live (cond b (made_ready k1 wire) (kernel_aborted k1)).phase ≡ true
          → GainsBy (write_result_of (is_init_reply wire), cond b (made_ready k1 wire) (kernel_aborted k1))
      by true still = names_none (made_ready k1 wire) (write_result_of (is_init_reply wire))
          (record { nodes = refl; forgets = refl }) (init_names wire)
      by false still = absurd (true≢false (sym still))
  ended_gains (purpose.Release opened) awaits live = names_none k1 (write_result_of (is_empty_reply wire))
      (record { nodes = refl; forgets = refl }) (release_names wire)
  ended_gains (purpose.Call call) awaits live = by (get k.vfs.calls call) awaits
    where
      by : (c : Option (CallState Opened)) → awaited_by_call c ≡ reply_to o → GainsBy (replied_to_call k1 call wire c)
      by None is = cc is
      by (Some state) is = replied_gains id low k1 call state wire (goes_with (asked state) wire)

  interrupt_gains : (original : ℕ) → GainsBy (interrupt_replied k original wire)
  interrupt_gains original = by wire
    where
      by : (x : WireReply) → Gains id low k (interrupt_replied k original x).1
          (where_accepted (interrupt_replied k original x).0 (times_named id x))
      by (failed errno) = same_gains id low k (interrupt_replied k original (failed errno)).1
          (record { nodes = refl; forgets = interrupt_reply_same k.queues original (interrupt_reply_of errno) })
      by done = same_gains id low k k (record { nodes = refl; forgets = refl })
      by x = same_gains id low k k (record { nodes = refl; forgets = refl })

  -- The lookups grow by how often the reply names the node, if it is accepted.
  pub written_gains : awaited k unique ≡ reply_to o → is_live (reply_written k unique wire).1.phase ≡ true
      → GainsBy (reply_written k unique wire)
  written_gains awaits live = by (nat_eq (unique % 2) 1) awaits live
    where
      even : (w : Option Purpose) → awaited_by k w ≡ reply_to o
          → is_live (request_reply_written k unique wire w).1.phase ≡ true
          → GainsBy (request_reply_written k unique wire w)
      even None is still = names_none k NoEntry (record { nodes = refl; forgets = refl }) refl
      even (Some kept) is still = ended_gains kept is still

      odd : (w : Option Purpose) → GainsBy (interrupt_reply_written k unique wire w)
      odd None = names_none k NoEntry (record { nodes = refl; forgets = refl }) refl
      odd (Some kept) = interrupt_gains (unique - 1)

      by : (b : Bool) → awaited_as k unique b ≡ reply_to o → is_live (written_as k unique wire b).1.phase ≡ true
          → GainsBy (written_as k unique wire b)
      by true is still = odd (waiting k.queues (unique - 1))
      by false is still = even (waiting k.queues unique) is still

-- ---- bytes that say nothing

goes_wrong : (operation : Operation ℕ Opened)
    → goes_with operation (wrong_body_to (asked_opcode (asks operation))) ≡ false
goes_wrong (lookup d name) = refl
goes_wrong (getattr x) = refl
goes_wrong (mkdir d name) = refl
goes_wrong (create d name) = refl
goes_wrong (unlink d name) = refl
goes_wrong (rmdir d name) = refl
goes_wrong (rename d old e new) = refl
goes_wrong (link x d name) = refl
goes_wrong (opening x) = refl
goes_wrong (readdir d after size) = refl
goes_wrong (readdirplus d after size) = refl
goes_wrong (read x offset size) = refl
goes_wrong (write x offset bytes) = refl

module _ (k : Kernel) (unique : ℕ) (o : Opcode) where
  abbrev IsRefused : WriteResult × Kernel → Type 0
  IsRefused written = written.0 ≢ Accepted

  -- They are not accepted.
  pub wrong_refused : awaited k unique ≡ reply_to o → IsRefused (reply_written k unique (wrong_body_to o))
  wrong_refused awaits = by (nat_eq (unique % 2) 1) awaits
    where
      to : (p : Opcode) → reply_to p ≡ reply_to o → (F : WireReply → Type 0) → F (wrong_body_to p) → F (wrong_body_to o)
      to p is F f = subst (λ (q : Opcode). F (wrong_body_to q)) (ap opcode_in is) f

      called : (call : ℕ) (c : Option (CallState Opened)) → awaited_by_call c ≡ reply_to o
          → IsRefused (replied_to_call (record k { queues = without k.queues unique }) call (wrong_body_to o) c)
      called call None is = cc is
      called call (Some state) is = to (asked_opcode (asks (asked state))) is
          (λ (x : WireReply). IsRefused (replied (record k { queues = without k.queues unique }) call state
          (goes_with (asked state) x) x))
          (subst (λ (b : Bool). IsRefused (replied (record k { queues = without k.queues unique }) call state b
          (wrong_body_to (asked_opcode (asks (asked state)))))) (sym (goes_wrong (asked state))) (λ e. cc e))

      even : (w : Option Purpose) → awaited_by k w ≡ reply_to o
          → IsRefused (request_reply_written k unique (wrong_body_to o) w)
      even None is = λ e. cc e
      even (Some purpose.Init) is = to op.Init is
          (λ (x : WireReply). write_result_of (is_init_reply x) ≢ Accepted) (λ e. cc e)
      even (Some (purpose.Release opened)) is = to op.Release is
          (λ (x : WireReply). write_result_of (is_empty_reply x) ≢ Accepted) (λ e. cc e)
      even (Some (purpose.Call call)) is = called call (get k.vfs.calls call) is

      odd : (w : Option Purpose) → awaited_by_interrupt w ≡ reply_to o
          → IsRefused (interrupt_reply_written k unique (wrong_body_to o) w)
      odd None is = λ e. cc e
      odd (Some kept) is = to op.Interrupt is
          (λ (x : WireReply). IsRefused (interrupt_replied k (unique - 1) x)) (λ e. cc e)

      by : (b : Bool) → awaited_as k unique b ≡ reply_to o → IsRefused (written_as k unique (wrong_body_to o) b)
      by true is = odd (waiting k.queues (unique - 1)) is
      by false is = even (waiting k.queues unique) is

-- ---- no live mount

-- Nothing is counted, queued or to be forgotten.
abbrev pub IsEmpty : Kernel → Type 0
IsEmpty k = (k.nodes ≡ []) × (k.queues.requests ≡ []) × (k.queues.forgets ≡ [])

-- A kernel without a live mount is empty.
abbrev pub EmptyUnlessLive : Kernel → Type 0
EmptyUnlessLive k = is_live k.phase ≡ false → IsEmpty k

module _ (k : Kernel) (unique : ℕ) (wire : WireReply) where
  live_written : is_live k.phase ≡ true → EmptyUnlessLive (reply_written k unique wire).1
  live_written live = by (nat_eq (unique % 2) 1)
    where
      same : (l : Kernel) → l.phase ≡ k.phase → EmptyUnlessLive l
      same l phase dead = absurd (true≢false (sym live ∙ ap is_live (sym phase) ∙ dead))

      agreed_or : (q : Kernel) (b : Bool) → EmptyUnlessLive (cond b (made_ready q wire) (kernel_aborted q))
      agreed_or q true dead = absurd (true≢false dead)
      agreed_or q false dead = (refl, refl, refl)

      ended : (kept : Purpose) → EmptyUnlessLive (ended_by (record k { queues = without k.queues unique }) kept wire).1
      ended purpose.Init = agreed_or (record k { queues = without k.queues unique }) (is_agreement wire)
      ended (purpose.Release opened) = same (record k { queues = without k.queues unique }) refl
      ended (purpose.Call call) =
          let q = record k { queues = without k.queues unique } in
          same (replied_to_call q call wire (get k.vfs.calls call)).1
          (replied_goes_on q call wire (get k.vfs.calls call)).phase

      even : (w : Option Purpose) → EmptyUnlessLive (request_reply_written k unique wire w).1
      even None = same k refl
      even (Some kept) = ended kept

      interrupts : (x : WireReply) → EmptyUnlessLive (interrupt_replied k (unique - 1) x).1
      interrupts (failed errno) = same (interrupt_replied k (unique - 1) (failed errno)).1 refl
      interrupts done = same k refl
      interrupts x = same k refl

      odd : (w : Option Purpose) → EmptyUnlessLive (interrupt_reply_written k unique wire w).1
      odd None = same k refl
      odd (Some kept) = interrupts wire

      by : (b : Bool) → EmptyUnlessLive (written_as k unique wire b).1
      by true = odd (waiting k.queues (unique - 1))
      by false = even (waiting k.queues unique)

  -- A reply leaves it so.
  pub written_empty : EmptyUnlessLive k → EmptyUnlessLive (reply_written k unique wire).1
  written_empty empty = by (is_live k.phase) refl
    where
      by : (b : Bool) → is_live k.phase ≡ b → EmptyUnlessLive (reply_written k unique wire).1
      by true live = live_written live
      by false dead = subst EmptyUnlessLive (sym (none_taken k unique wire (empty dead).1)) empty
