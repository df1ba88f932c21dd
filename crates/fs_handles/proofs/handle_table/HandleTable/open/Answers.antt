use Rattle.std.proofs.Common.{◌≡◌, ◌+◌, ◌<◌, ◌^◌, ◌∙◌, ap, refl, arith, unwrap_or, nat_eq, None, Some, cond}
use Rattle.std.specs.Map.{lookup}
use Rattle.fs_handles.proofs.Handles.{get_there, opened}
use Rattle.fs_handles.proofs.Uses.{given, uses_few}
use Rattle.indexmap.proofs.CallerLemmas.{insert_entry-new}
use Rattle.fs_handles.proofs.handle_table.HandleTable.open.Goals as goal

pub add-requires-clause-small : goal.add-requires-clause-small
add-requires-clause-small g c =
    let few = uses_few c.args.file c.self.invariant in
    let limit = c.self.invariant.limit in
    omega (arith, few, limit)

pub invariant_of-self : goal.invariant_of-self
invariant_of-self g c =
    let numbers : c.self.inside.next < 2 ^ 62 = rw (← c.self.view_is) at c.requires.numbers in
    given c.put.new.entries.entries c.add.new.self.counts c.args.file _ c.self.invariant numbers refl
    (c.put.ensures.entries ∙ insert_entry-new nat_eq c.self.inside.opens c.self.inside.next _
    (c.self.invariant.fresh _ (omega arith)))
    c.put.ensures.at
    c.add.ensures.more
    c.put.ensures.unique

pub returns-clause-unused : goal.returns-clause-unused
returns-clause-unused g c = rw (← c.self.view_is)
    (get_there c.self.inside.opens.entries c.self.inside.next None (c.self.invariant.fresh _ (omega arith)))

pub returns-clause-table : goal.returns-clause-table
returns-clause-table g c = rw (← c.self.view_is)
    (opened _ c.self.inside.opens.entries c.self.inside.next c.args.file c.put.ensures.at)
