use Rattle.std.proofs.Common.{sym, subst, T}
use Rattle.std.specs.Ordering.{nat_cmp}
use Rattle.std.specs.FinMap.{is_sorted}
use Rattle.fuse_tables.proofs.Rows.{read_there, written_there, sorted_with}
use Rattle.fuse_tables.proofs.table.Table.replace.Goals as goal

pub invariant_of-self : goal.invariant_of-self
invariant_of-self g c =
    let old = c.self.inside.rows.items in
    let there = rw (c.in_ok-place.was, c.deref.ensures.value) at c.find_in.ensures in
    let rows = written_there old c.args.key c.in_ok-place.place c.args.value there in
    rw c.replace-row.ensures.after (subst (λ es. T (is_sorted nat_cmp es)) (sym rows)
    (sorted_with old c.args.key c.args.value c.self.invariant))

pub returns-clause-value : goal.returns-clause-value
returns-clause-value g c =
    let there = rw c.in_ok-place.was at c.find_in.ensures in
    rw (c.replace-row.ensures.value, ← c.self.view_is)
    (read_there c.self.inside.rows.items c.deref.result.now c.args.key c.in_ok-place.place c.index_mut.result.now c.self.invariant c.deref.ensures.value there c.index_mut.ensures.value)

pub returns-clause-entries : goal.returns-clause-entries
returns-clause-entries g c = λ is.
    let there = rw (c.in_ok-place.was, c.deref.ensures.value) at c.find_in.ensures in
    rw (c.replace-row.ensures.after, ← c.self.view_is)
    (written_there c.self.inside.rows.items c.args.key c.in_ok-place.place c.args.value there)
