use Rattle.std.proofs.Common.{◌∙◌, rules, refl, ap, sym, subst, None, T}
use Rattle.std.specs.Ordering.{nat_cmp}
use Rattle.std.specs.FinMap.{is_sorted}
use Rattle.fuse_tables.specs.LiveRows.{live}
use Rattle.fuse_tables.proofs.Rows.{absent_is, read_there, sorted_with, replaced_there}
use Rattle.fuse_tables.proofs.Live.{held, get_live, live_emptied}
use Rattle.fuse_tables.proofs.live_rows.empty_row.Goals as goal

pub returns-in_default-clause-value : goal.returns-in_default-clause-value
returns-in_default-clause-value g c =
    sym (get_live c.args.rows.now.items c.args.key c.requires ∙ ap held c.in_default.ensures)

pub returns-in_default-clause-live : goal.returns-in_default-clause-live
returns-in_default-clause-live g c =
    sym (absent_is (live c.args.rows.now.items) c.args.key
    (get_live c.args.rows.now.items c.args.key c.requires ∙ ap held c.in_default.ensures))

pub returns-clause-value : goal.returns-clause-value
returns-clause-value g c =
    let rows = c.args.rows.now.items in
    let row = ap held (read_there rows rows c.args.key c.in-Some.place c.index_mut.result.now c.requires refl c.in-Some.ensures
    (search rules)) ∙ sym (get_live rows c.args.key c.requires) in
    c.take.ensures.value ∙ row

pub returns-clause-live : goal.returns-clause-live
returns-clause-live g c =
    let rows = c.args.rows.now.items in
    ap live (replaced_there rows c.args.key c.in-Some.place c.index_mut.result.now c.take.new.self None c.in-Some.ensures
    (search rules) (search rules)) ∙ live_emptied rows c.args.key c.requires

pub returns-clause-sorted : goal.returns-clause-sorted
returns-clause-sorted g c =
    let rows = c.args.rows.now.items in
    let emptied = replaced_there rows c.args.key c.in-Some.place c.index_mut.result.now c.take.new.self None
    c.in-Some.ensures (search rules) (search rules) in
    subst (λ es. T (is_sorted nat_cmp es)) (sym emptied) (sorted_with rows c.args.key None c.requires)
