use Rattle.std.specs.Option.{option_copied_mut}
use Rattle.std.proofs.Common.{◌<◌, ◌+◌, ◌^◌, sym, ◌∙◌, ap, refl, arith, is_some, Some}
use Rattle.fs_handles.proofs.Handles.{get_there, more-none, more-some}
use Rattle.fs_handles.proofs.Uses.{recounted}
use Rattle.fs_handles.proofs.handle_table.HandleTable.again.Goals as goal

pub overflow_add-open_file : goal.overflow_add-open_file
overflow_add-open_file g c =
    let small = rw (← c.self.view_is) at c.requires in
    let fits : c.in-Some.open_file.now.count + 1 < 2 ^ 64 =
    small _ (get_there c.self.inside.opens.entries c.args.fh (Some c.in-Some.open_file.now)
    (sym c.in-Some.ensures.value)) in
    omega arith

pub returns-in_default-clause-table : goal.returns-in_default-clause-table
returns-in_default-clause-table g c =
    rw (← c.self.view_is, c.get_mut.follows.holds-at-none)
    (more-none c.self.inside.opens.entries c.self.inside.next c.args.fh
    (sym c.get_mut.ensures.value ∙ ap option_copied_mut c.in_default.is))

pub invariant_of-self-2 : goal.invariant_of-self-2
invariant_of-self-2 g c =
    let is = sym c.in-Some.ensures.value in
    let wrote = c.get_mut.follows.holds _ in
    recounted _ c.args.fh _ _ c.self.invariant is refl wrote.0 (wrote.3 (ap is_some is)).0 wrote.4 wrote.2

pub returns-clause-table : goal.returns-clause-table
returns-clause-table g c =
    let is = sym c.in-Some.ensures.value in
    let wrote = c.get_mut.follows.holds _ in
    rw (← c.self.view_is) (more-some _ c.self.inside.opens.entries c.self.inside.next c.args.fh _ is
    (wrote.3 (ap is_some is)).0)
