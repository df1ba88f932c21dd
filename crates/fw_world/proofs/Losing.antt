-- What is lost on a link stood on one of the world's links, so that an abort is accepted.
use Rattle.std.proofs.Common.{◌≡◌, ℕ, inl, inr, true≢false, false, not, List, [], ◌∷◌, Some, Ok, Err, Result, sym, subst}
use Rattle.std.specs.Prelude.{IfOk, IfErr}
use Rattle.fuse_spec.specs.declared.Refusal.{Refusal}
use Rattle.fuse_spec.specs.declared.Refusal.TheVariants.{NotReady}
use Rattle.fuse_spec.specs.declared.Taken.TheVariants.{Again}
use Rattle.fuse_spec.specs.Kernel.Kernel.{is_live}
use Rattle.fuse_spec.specs.World.Worlds.{World, after_abort}
use Rattle.fuse_spec.specs.World.Events.{Outcome, abort, aborted, is_read, taken, performed, sent_again, written}
use Rattle.fuse_spec.specs.World.Steps.{Happens, IsRefused, RefusedWith}
use Rattle.fuse_theorem.specs.SoundWorlds.{IsSoundWorld}
use Rattle.fuse_theorem.proofs.Refining.AbortFollows.{abort_follows}
use Rattle.fuse_theorem.proofs.RefusalCases.Accepted.{unless_ok, ok_is}
use Rattle.fw_link.specs.Traffic.{Traffic}
use Rattle.fw_world.specs.declared.event.Outcome.{Outcome as OutcomeValue}
use Rattle.fw_world.specs.Sends.{IsLostOn, last_of}
use Rattle.fw_world.specs.Values.{outcome_of}

abbrev NothingOut : World → Type 0
NothingOut w = (w.requests ≡ []) × (w.replies ≡ []) × (w.results ≡ [])

no_last : {E : Type 0} (list : List E) (x : E) → list ≡ [] → last_of list ≡ Some x → ⊥
no_last [] x none is = absurd (cc is)
no_last (y ∷ list) x none is = absurd (cc none)

pub lost_was_out : (w : World) (o : Outcome) (carries : Traffic → Type 0) (before after : ℕ)
    → IsLostOn w o carries before after → (w.requests ≡ []) × (w.replies ≡ []) × (w.results ≡ []) → ⊥
lost_was_out w (is_read unique) carries before after lost none =
    no_last w.requests lost.sends.request none.0 lost.sends.is_last
lost_was_out w (taken unique Again) carries before after lost none =
    no_last w.replies lost.sends.reply none.1 lost.sends.is_last
lost_was_out w (performed unique errno false) carries before after lost none =
    no_last w.replies lost.sends.reply none.1 lost.sends.is_last
lost_was_out w (sent_again unique) carries before after lost none =
    no_last w.replies lost.sends.reply none.1 lost.sends.is_last
lost_was_out w (written unique result) carries before after lost none =
    no_last w.results lost.sends.result none.2 lost.sends.is_last
lost_was_out w o carries before after lost none = absurd lost

-- Whatever an abort results in, it results in an abort.
aborted_only : (w new : World) (o : Outcome) → Happens w abort o new → Happens w abort aborted new
aborted_only w new o happens =
    let went = unless_ok (not (is_live w.kernel.phase)) NotReady (Ok (aborted, after_abort w)) o new happens.2 in
    let led = ok_is aborted (after_abort w) o new went.rest in
    subst (λ (x : Outcome). Happens w abort x new) (sym led.outcome_is) happens

-- An abort takes no memory.
without_memory : (w : World) (r : Refusal) → RefusedWith w abort r → IsRefused w abort r
without_memory w r (inl refused) = refused
without_memory w r (inr wants) = absurd (true≢false (sym wants.takes))

-- An abort that is not refused where it has to be accepted happens.
pub link_fails : (w new : World) (r : Result OutcomeValue Refusal) → IsSoundWorld w
    → ((w.requests ≡ []) × (w.replies ≡ []) × (w.results ≡ []) → ⊥) → IfErr r (RefusedWith w abort)
    → IfOk r (λ o. Happens w abort (outcome_of o) new) → Happens w abort aborted new
link_fails w new (Ok o) reached some refused happens = aborted_only w new (outcome_of o) happens
link_fails w new (Err r) reached some refused happens =
    let follows = abort_follows w reached.sound.both.links some in
    let accepted = follows.1.2 in
    let judged = without_memory w r refused follows.1.0 follows.1.1 in
    absurd (cc (accepted, judged))
