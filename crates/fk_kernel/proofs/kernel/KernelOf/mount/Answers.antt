use Rattle.std.proofs.Common.{◌≡◌, true, false, refl, sym, ◌∙◌}
use Rattle.fuse_spec.specs.Kernel.Refusals.{is_busy}
use Rattle.fk_kernel.proofs.InitialKernel.{sound_mounted}
use Rattle.fk_kernel.proofs.kernel.KernelOf.mount.Goals as goal

pub invariant_of-self : goal.invariant_of-self
invariant_of-self g c =
    rw (
      c.replace.ensures.after,
      c.enqueue-init.ensures.state,
      c.reserve.ensures.state,
      c.new-queues.ensures,
      c.clear.ensures.entries,
      c.clear-2.ensures.entries,
      c.clear-3.ensures.entries,
      c.clear-5.ensures,
    )
    (sound_mounted c.self.invariant _)

pub returns-then-is_busy-clause-refusal : goal.returns-then-is_busy-clause-refusal
returns-then-is_busy-clause-refusal g c =
    let busy : is_busy c.args.self.now ≡ true = sym c.is_busy.ensures ∙ c.if-is_busy.true in
    rw busy refl

pub returns-clause-judged : goal.returns-clause-judged
returns-clause-judged g c =
    let free : is_busy c.args.self.now ≡ false = sym c.is_busy.ensures ∙ c.if-is_busy.false in
    rw free refl
