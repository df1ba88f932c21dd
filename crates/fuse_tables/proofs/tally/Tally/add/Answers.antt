use Rattle.std.proofs.Common.{◌∙◌, ap, arith, sym, unwrap_or}
use Rattle.std.specs.Option.{option_copied_mut}
use Rattle.fuse_tables.proofs.CountRows.{found, one_more, first_count}
use Rattle.fuse_tables.proofs.tally.Tally.add.Goals as goal

pub overflow_add-count : goal.overflow_add-count
overflow_add-count g c =
    let small = rw (← c.self.view_is) at c.requires.small in
    let is = ap (λ o. unwrap_or o 0) (c.in-Some.ensures.value ∙ found c.self.inside.counts.entries c.args.key) in
    omega (arith, small, is)

pub returns-in-Some-clause-more : goal.returns-in-Some-clause-more
returns-in-Some-clause-more g c =
    let rows = c.self.inside.counts.entries in
    rw (← c.self.view_is) (one_more rows c.args.key c.in-Some.count.now c.in-Some.ensures.value)

pub returns-in-None-clause-more : goal.returns-in-None-clause-more
returns-in-None-clause-more g c =
    let none = sym (ap option_copied_mut c.in-None.is) ∙ c.get_mut.ensures.value in
    rw (← c.self.view_is, c.put.ensures.entries) (first_count c.self.inside.counts.entries c.args.key none)
