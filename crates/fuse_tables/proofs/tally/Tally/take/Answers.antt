use Rattle.std.proofs.Common.{◌∙◌, ap, arith, sym}
use Rattle.std.specs.Option.{option_copied_mut}
use Rattle.fuse_tables.proofs.CountRows.{one_fewer, none_left, no_count}
use Rattle.fuse_tables.proofs.tally.Tally.take.Goals as goal

pub returns-in-None-clause-less : goal.returns-in-None-clause-less
returns-in-None-clause-less g c =
    let none = sym (ap option_copied_mut c.in-None.is) ∙ c.get_mut.ensures.value in
    rw (← c.self.view_is) (no_count c.self.inside.counts.entries c.args.key none)

pub returns-in-Some-clause-less : goal.returns-in-Some-clause-less
returns-in-Some-clause-less g c =
    let more = c.if-this-gt1.true in
    let rows = c.self.inside.counts.entries in
    rw (← c.self.view_is) (one_fewer rows c.args.key c.in-Some.count.now c.in-Some.ensures.value (omega (arith, more)))

pub returns-in-Some-2-clause-less : goal.returns-in-Some-2-clause-less
returns-in-Some-2-clause-less g c =
    let last = c.if-this-gt1.false in
    rw (← c.self.view_is, c.remove-last.ensures.entries)
    (none_left c.self.inside.counts.entries c.args.key c.in-Some.count.now c.in-Some.ensures.value
    (omega (arith, last)))
