use Rattle.std.proofs.Common.{ap, sym, ◌∙◌, refl}
use Rattle.std.specs.Option.{option_copied_mut}
use Rattle.fuse_judge.proofs.PendingLaws.{from_one, interrupted_none, interrupted_row, same_entries}
use Rattle.fuse_judge.proofs.pending.interrupt.Goals as goal

pub returns-in_default-clause-interrupted : goal.returns-in_default-clause-interrupted
returns-in_default-clause-interrupted g c = λ s act is are.
    interrupted_none s act c.args.rows.now.entries c.args.unique c.args.interrupts c.args.agains is are
    (sym c.get_mut.ensures.value ∙ ap option_copied_mut c.in_default.is)

pub returns-in-Some-clause-once : goal.returns-in-Some-clause-once
returns-in-Some-clause-once g c =
    same_entries c.args.rows.now.entries c.args.unique c.in-Some.row.now _
    (sym c.get_mut.ensures.value ∙ ap option_copied_mut c.in-Some.is) refl

pub returns-in-Some-clause-interrupted : goal.returns-in-Some-clause-interrupted
returns-in-Some-clause-interrupted g c = λ s act is are.
    rw (c.from.ensures, c.from-in-Some.ensures, from_one c.args.interrupts, from_one c.args.agains)
    (interrupted_row s act c.args.rows.now.entries c.args.unique c.args.interrupts c.args.agains is are c.in-Some.row.now
    (sym c.get_mut.ensures.value ∙ ap option_copied_mut c.in-Some.is))
