-- The kernel refuses no copy for its body.
use Rattle.fuse_spec.specs.Values.Numbers.{init_flags}
use Rattle.fuse_spec.specs.Server.Performs.{init_reply}
use Rattle.fuse_spec.specs.declared.Minor.TheVariants.{M15, M31}
use Rattle.fuse_spec.specs.declared.Minor.{Minor}
use Rattle.std.proofs.Common.{◌≡◌, ◌≢◌, ℕ, ◌-◌, Bool, true, false, true≢false, cond, Option, Some, None, nat_eq, slice_get, refl, ap, sym, subst, ◌∙◌, arith}
use Rattle.std.specs.Prelude.{◌%◌}
use Rattle.std.proofs.lemmas.Bool.Decides.{nat_tests}
use Rattle.fuse_spec.specs.declared.Opened.{Opened}
use Rattle.fuse_spec.specs.declared.Purpose.{Purpose}
use Rattle.fuse_spec.specs.declared.Purpose.TheVariants as purpose
use Rattle.fuse_spec.specs.declared.QueuedRequest.{QueuedRequest}
use Rattle.fuse_spec.specs.declared.WriteResult.{WriteResult}
use Rattle.fuse_spec.specs.declared.WriteResult.TheVariants.{Accepted, Invalid}
use Rattle.fuse_spec.specs.Kernel.Kernel.{Kernel}
use Rattle.fuse_spec.specs.Values.Maps.{get}
use Rattle.fuse_spec.specs.Kernel.Messages.{WireReply}
use Rattle.fuse_spec.specs.Files.Operations.{Operation, done, failed}
use Rattle.fuse_spec.specs.Kernel.QueueCalls.{waiting, without}
use Rattle.fuse_spec.specs.Kernel.Replies.{is_empty_reply, is_init_reply, write_result_of, goes_with, replied, replied_to_call, request_reply_written, interrupt_reply_written, interrupt_replied, reply_written}
use Rattle.fuse_spec.specs.Calls.Vfs.{CallState, asked}
use Rattle.fuse_spec.specs.World.Worlds.{World, Sent}
use Rattle.fuse_spec.specs.Reference.Plain.{Plain}
use Rattle.fuse_theorem.specs.EachEvent.{CanReceive}
use Rattle.fuse_theorem.specs.EachEvent as each
use Rattle.fuse_theorem.specs.EveryList.{BothSound}
use Rattle.fuse_theorem.specs.RepliesFit.{FitsPurpose, RepliesFit}
use Rattle.fuse_theorem.proofs.Answers.Answered.{waiting_is}
use Rattle.fuse_theorem.proofs.Calls.Finding.{All-found}
use Rattle.fuse_theorem.proofs.Refining.Queuing.{All-at}
use Rattle.fuse_theorem.proofs.Replies.WriteNeeds.{write_met}

of_init_reply : (m : Minor) → is_init_reply (init_reply m init_flags) ≡ true
of_init_reply M15 = refl
of_init_reply M31 = refl

module _ (w : World) (p : Plain) (both : BothSound w p) (fit : RepliesFit w) (k : ℕ) (sent : Sent)
    (there : slice_get w.replies k ≡ Some sent) where
  abbrev l : Kernel
  l = record w.kernel { queues = without w.kernel.queues sent.unique }

  accepted : {r : WriteResult} → r ≡ Accepted → r ≢ Invalid
  accepted e f = absurd (cc (e, f))

  -- a reply to an INTERRUPT
  interrupt_fits : (wire : WireReply) → is_empty_reply wire ≡ true
      → (interrupt_replied w.kernel (sent.unique - 1) wire).0 ≡ Accepted
  interrupt_fits (failed errno) e = refl
  interrupt_fits done e = refl
  interrupt_fits wire e = absurd (true≢false (sym e))

  odd_fits : (wire : WireReply) → is_empty_reply wire ≡ true → (o : Option Purpose)
      → (interrupt_reply_written w.kernel sent.unique wire o).0 ≢ Invalid
  odd_fits wire e None = λ f. absurd (cc (f))
  odd_fits wire e (Some kept) = accepted (interrupt_fits wire e)

  of_empty : (b : Bool) → b ≡ true → write_result_of b ≡ Accepted
  of_empty true e = refl
  of_empty false e = absurd (true≢false (sym e))

  replied_so : (call : ℕ) (state : CallState Opened) (b : Bool) → b ≡ true
      → (replied l call state b sent.wire).0 ≡ Accepted
  replied_so call state true e = refl
  replied_so call state false e = absurd (true≢false (sym e))

  called_so : (call : ℕ) (state : CallState Opened) → goes_with (asked state) sent.wire ≡ true
      → (o : Option (CallState Opened)) → o ≡ Some state → (replied_to_call l call sent.wire o).0 ≡ Accepted
  called_so call state goes None e = refl
  called_so call state goes (Some other) e = let same : other ≡ state =
      cc (e) in replied_so call other (goes_with (asked other) sent.wire)
      (ap (λ (s : CallState Opened). goes_with (asked s) sent.wire) same ∙ goes)

  -- what awaits the copy, where its number is even
  even_so : (o : Option Purpose) → waiting w.kernel.queues sent.unique ≡ o → nat_eq (sent.unique % 2) 1 ≡ false
      → (request_reply_written w.kernel sent.unique sent.wire o).0 ≢ Invalid
      → (reply_written w.kernel sent.unique sent.wire).0 ≢ Invalid
  even_so o waits even fits = rw (even, waits) fits

  pub received_fits : CanReceive w p sent → (reply_written w.kernel sent.unique sent.wire).0 ≢ Invalid
  received_fits (each.nothing none) = by (nat_eq (sent.unique % 2) 1) none
    where
      odd : (o : Option Purpose) → o ≡ None → (interrupt_reply_written w.kernel sent.unique sent.wire o).0 ≢ Invalid
      odd None e = λ f. absurd (cc (f))
      odd (Some kept) e = absurd (cc (e))

      even : (o : Option Purpose) → o ≡ None → (request_reply_written w.kernel sent.unique sent.wire o).0 ≢ Invalid
      even None e = λ f. absurd (cc (f))
      even (Some kept) e = absurd (cc (e))

      by : (b : Bool) → cond b (waiting w.kernel.queues (sent.unique - 1)) (waiting w.kernel.queues sent.unique) ≡ None
          → (cond b (interrupt_reply_written w.kernel sent.unique sent.wire
          (waiting w.kernel.queues (sent.unique - 1))) (request_reply_written w.kernel sent.unique sent.wire
          (waiting w.kernel.queues sent.unique))).0 ≢ Invalid
      by true e = odd (waiting w.kernel.queues (sent.unique - 1)) e
      by false e = even (waiting w.kernel.queues sent.unique) e
  received_fits (each.of_interrupt kept numbered live odd waits) =
      let number : sent.unique % 2 ≡ 1 = grind (arith, nat_tests, odd) in
      let says = All-at (λ (s : Sent). s.unique % 2 ≡ 1
      → is_empty_reply s.wire ≡ true) w.replies k sent fit.interrupted there number in
      rw odd (odd_fits sent.wire says (waiting w.kernel.queues (sent.unique - 1)))
  received_fits (each.of_release o numbered live even waits) =
      let request = waiting_is w.kernel.queues sent.unique (purpose.Release o) waits in
      let mine = All-found (λ (e : ℕ
      × QueuedRequest Purpose). FitsPurpose w.replies w.server.kept e.0 e.1.kept) sent.unique w.kernel.queues.requests request.request fit.released request.under in
      let empty = subst (FitsPurpose w.replies w.server.kept sent.unique) request.serves mine in
      let says = All-at (λ (s : Sent). s.unique ≡ sent.unique
      → is_empty_reply s.wire ≡ true) w.replies k sent empty.of_copies there refl in
      even_so (Some (purpose.Release o)) waits even (accepted (of_empty (is_empty_reply sent.wire) says))
  received_fits (each.of_init numbered live even waits wire_is) =
      even_so (Some purpose.Init) waits even (accepted
      (of_empty (is_init_reply sent.wire) (ap is_init_reply wire_is ∙ of_init_reply w.server.minor)))
  received_fits (each.of_call call state reply numbered one live even waits is) =
      even_so (Some (purpose.Call call)) waits even (accepted
      (called_so call state is.goes (get w.kernel.vfs.calls call) is.state_is))
  received_fits (each.of_declined call state numbered one live even waits is) =
      even_so (Some (purpose.Call call)) waits even (accepted
      (called_so call state (ap (goes_with (asked state)) is.wire_is ∙ goes_failed (asked state))
      (get w.kernel.vfs.calls call) is.state_is))
    where
      goes_failed : (operation : Operation ℕ Opened) → goes_with operation (failed 4) ≡ true
      goes_failed operation = refl

-- What the kernel says of a copy is not that its body is wrong.
pub none_invalid : (w : World) (p : Plain) → BothSound w p → RepliesFit w → (k : ℕ) (sent : Sent)
    → slice_get w.replies k ≡ Some sent → (reply_written w.kernel sent.unique sent.wire).0 ≢ Invalid
none_invalid w p both fit k sent there = received_fits w p both fit k sent there
    (write_met (λ n. n) w p both.world both.asked both.links both.witness both.alike k sent there)
