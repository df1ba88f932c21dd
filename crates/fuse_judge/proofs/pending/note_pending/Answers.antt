use Rattle.std.proofs.Common.{◌^◌}
use Rattle.fuse_sessions.specs.Waiting.{waiting}
use Rattle.fuse_judge.proofs.PendingLaws.{interrupts_few, pending_kept, pending_ended, pending_interrupted, as_interrupt, as_again}
use Rattle.fuse_judge.proofs.pending.note_pending.Goals as goal

pub interrupt-requires : goal.interrupt-requires
interrupt-requires g c = record { few = interrupts_few _ _ _ _ c.requires.few.1 (2 ^ 64) c.requires.few.2 }

pub interrupt-requires-in-Again : goal.interrupt-requires-in-Again
interrupt-requires-in-Again g c = record { few = interrupts_few _ _ _ _ c.requires.few.1 (2 ^ 64) c.requires.few.2 }

pub returns-in-Nothing-clause-kept : goal.returns-in-Nothing-clause-kept
returns-in-Nothing-clause-kept g c = λ s are. pending_kept s c.args.act _ _ _ are c.in-Nothing.ensures

pub returns-in-Asks-clause-kept : goal.returns-in-Asks-clause-kept
returns-in-Asks-clause-kept g c = λ s are. rw c.in-Asks.ensures (c.note_asked.ensures.kept s are)

pub returns-in-Ends-clause-kept : goal.returns-in-Ends-clause-kept
returns-in-Ends-clause-kept g c = λ s are. pending_ended s c.args.act _ _ _ are c.in-Ends.unique _ _ _ c.in-Ends.ensures
    (c.end-waited.ensures.listed (waiting s) are.listed) (c.end-waited.ensures.interrupted s are.interrupted)

pub returns-in-Interrupts-clause-kept : goal.returns-in-Interrupts-clause-kept
returns-in-Interrupts-clause-kept g c
    = λ s are. pending_interrupted s c.args.act _ _ _ are _ _ _ c.in-Interrupts.ensures
    c.interrupt.ensures.once
    (c.interrupt.ensures.interrupted s c.args.act
    (as_interrupt c.args.act c.in-Interrupts.unique c.in-Interrupts.ensures)
    are.interrupted)

pub returns-in-Again-clause-kept : goal.returns-in-Again-clause-kept
returns-in-Again-clause-kept g c = λ s are. pending_interrupted s c.args.act _ _ _ are _ _ _ c.in-Again.ensures
    c.interrupt-in-Again.ensures.once
    (c.interrupt-in-Again.ensures.interrupted s c.args.act (as_again c.args.act c.in-Again.unique c.in-Again.ensures)
    are.interrupted)
