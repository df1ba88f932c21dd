-- An INTERRUPT on the link is one whose original's ask a signal was noted on.
use Rattle.std.proofs.Common.{◌≡◌, ℕ, Bool, true, false, true≢false, Some, slice_get, refl, sym, subst, arith}
use Rattle.fuse_spec.specs.declared.Mark.{Mark}
use Rattle.fuse_spec.specs.declared.Mark.TheVariants as mark
use Rattle.fuse_spec.specs.declared.Purpose.{Purpose}
use Rattle.fuse_spec.specs.declared.QueuedRequest.{QueuedRequest}
use Rattle.fuse_spec.specs.Values.Maps.{get}
use Rattle.fuse_spec.specs.Kernel.Messages.{Request, interrupt}
use Rattle.fuse_spec.specs.Kernel.Queues.{has_interrupt, is_signalled}
use Rattle.fuse_spec.specs.Kernel.Kernel.{is_live, is_for}
use Rattle.fuse_spec.specs.World.Worlds.{World}
use Rattle.fuse_spec.specs.Reference.Plain.{Plain, Ask}
use Rattle.fuse_spec.specs.Claim.Alike.{Alike}
use Rattle.fuse_spec.proofs.QueueReadings.{key_count-le-one}
use Rattle.fuse_theorem.specs.AskedRequests.{IsInterrupted, SentAsked, RequestsAskedWhileLive}
use Rattle.fuse_theorem.specs.Conditions.{IsInterrupt}
use Rattle.fuse_theorem.specs.Links.{LinksSound}
use Rattle.fuse_theorem.specs.Unperformed.{BearsNumber}
use Rattle.fuse_theorem.specs.WorldSound.{WorldSound}
use Rattle.fuse_theorem.proofs.Calls.Finding.{found_entry}
use Rattle.fuse_theorem.proofs.Requests.LinksSound.{none_at}
use Rattle.fuse_theorem.proofs.Refining.Queuing.{All-at}

-- a request whose INTERRUPT was queued has a signal
pub bears_signal : (m : Mark) → has_interrupt m ≡ true → is_signalled m ≡ true
bears_signal mark.Unread e = absurd (true≢false (sym e))
bears_signal mark.Flagged e = refl
bears_signal mark.Read e = absurd (true≢false (sym e))
bears_signal mark.Interrupted e = refl

module _ (w : World) (p : Plain) (sound : WorldSound w) (asked : RequestsAskedWhileLive w) (links : LinksSound w)
    (same : Alike w p) (k : ℕ) (r : Request) (original : ℕ) (there : slice_get w.requests k ≡ Some r)
    (body_is : r.body ≡ interrupt original) where
  in_live : is_live w.kernel.phase ≡ true → IsInterrupt w p k r original
  in_live live =
      let requests = sound.requests in
      let number = subst (BearsNumber r.unique) body_is
      (All-at (λ (x : Request). BearsNumber x.unique x.body) w.requests k r requests.numbers there) in
      let even = interrupted.even in
      record {
        there = there;
        body_is = body_is;
        number = omega (arith, number, even);
        noted = noted;
        once = requests.once original interrupted.even;
      }
    where
      interrupted : IsInterrupted w.kernel original
      interrupted = subst (SentAsked w.kernel r.unique) body_is
          (All-at (λ (x : Request). SentAsked w.kernel x.unique x.body) w.requests k r (asked live).sent there)

      noted : (ask : Ask) → get p.asks original ≡ Some ask → ask.noted ≡ true
      noted ask at =
          let alike = same.asks live in
          let found = found_entry (λ
          (x : ℕ × QueuedRequest Purpose). is_for ask.call x.1.kept) w.kernel.queues.requests original
          (key_count-le-one w.kernel.queues original sound.queues) (alike.no_other original ask at) in
          alike.signalled original found.0 ask found.1 at (bears_signal found.0.mark
          (interrupted.marked found.0 found.1))

  -- What the taking of an INTERRUPT needs of the world holds.
  pub interrupt_noted : IsInterrupt w p k r original
  interrupt_noted = by (is_live w.kernel.phase) refl
    where
      by : (b : Bool) → is_live w.kernel.phase ≡ b → IsInterrupt w p k r original
      by true live = in_live live
      by false dead = none_at w.requests k r (links.idle dead).requests there
