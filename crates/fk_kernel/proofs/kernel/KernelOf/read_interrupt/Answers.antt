use Rattle.std.proofs.Common.{ℕ, drop, ap, sym, ◌∙◌}
use Rattle.fuse_spec.specs.Kernel.Messages.{interrupt}
use Rattle.fk_kernel.proofs.Signalled.{oldest_is}
use Rattle.fk_kernel.proofs.kernel.KernelOf.read_interrupt.Goals as goal

pub returns-clause-frame : goal.returns-clause-frame
returns-clause-frame g c =
    let interrupts = c.self.inside.queues.queues.interrupts in
    let original = c.in-Some.original in
    record {
      original = original;
      rest = drop 1 interrupts;
      first = rw (← c.self.view_is) (oldest_is interrupts original (sym c.in-Some.is ∙ c.first_interrupt.ensures));
      is = c.in-Ok.ensures ∙ ap (λ (n : ℕ). record {
        unique = n;
        body = interrupt original;
      }) c.interrupt_of.ensures.number;
    }
