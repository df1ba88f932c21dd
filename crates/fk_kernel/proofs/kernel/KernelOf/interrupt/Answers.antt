use Rattle.std.proofs.Common.{◌≡◌, true, Some, None, refl, ap, sym, ◌∙◌}
use Rattle.std.specs.Prelude.{is_some}
use Rattle.fuse_spec.specs.Values.Maps.{get}
use Rattle.fuse_spec.specs.Kernel.Kernel.{is_live, request_of}
use Rattle.fuse_spec.specs.declared.IntrEffect.TheVariants.{None as NoEffect}
use Rattle.fk_kernel.proofs.Evicted.{copied_is}
use Rattle.fk_kernel.proofs.Signalled.{signalled_there, unrequested, exhausted}
use Rattle.fk_kernel.proofs.kernel.KernelOf.interrupt.Goals as goal

pub returns-clause-signalled : goal.returns-clause-signalled
returns-clause-signalled g c =
    let k = c.args.self.now in
    let there : is_some (get k.vfs.calls c.args.call) ≡ true = rw (← c.self.view_is)
    (ap is_some (sym c.get.ensures) ∙ copied_is c.get.result ∙ c.if-is_none.ensures) in
    signalled_there k c.args.call c.args.fatal c.signal-effect.result c.signal-effect.new.self
    (get k.vfs.calls c.args.call) refl there c.signal-effect.ensures

pub returns-in_default-clause-signalled : goal.returns-in_default-clause-signalled
returns-in_default-clause-signalled g c =
    let k = c.args.self.now in
    let there : is_some (get k.vfs.calls c.args.call) ≡ true = rw (← c.self.view_is)
    (ap is_some (sym c.get.ensures) ∙ copied_is c.get.result ∙ c.if-is_none.ensures) in
    let none : request_of k c.args.call ≡ None = rw (← c.self.view_is) (sym c.request_for.ensures ∙ c.in_default.is) in
    signalled_there k c.args.call c.args.fatal NoEffect k (get k.vfs.calls c.args.call) refl there
    (λ state at. unrequested k c.args.call state c.args.fatal none)

pub returns-then-signal_exceeds-clause-refusal : goal.returns-then-signal_exceeds-clause-refusal
returns-then-signal_exceeds-clause-refusal g c =
    let k = c.args.self.now in
    let live : is_live k.phase ≡ true = sym c.is_live.ensures ∙ c.if-not-is_live.false in
    let current : request_of k c.args.call ≡ Some c.in-Some.unique =
    rw (← c.self.view_is) (sym c.request_for.ensures ∙ c.in-Some.is) in
    let past = c.signal_exceeds.ensures.past c.if-signal_exceeds.true in
    exhausted k c.args.call c.in-Some.unique c.args.fatal current past.0 past.1 live

pub signal-effect-requires-clause-within : goal.signal-effect-requires-clause-within
signal-effect-requires-clause-within g c = c.signal_exceeds.ensures.within c.if-signal_exceeds.false
