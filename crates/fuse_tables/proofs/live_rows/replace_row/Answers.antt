use Rattle.std.proofs.Common.{◌∙◌, rules, refl, ap, sym, subst, Some, T}
use Rattle.std.specs.Ordering.{nat_cmp}
use Rattle.std.specs.FinMap.{is_sorted}
use Rattle.fuse_tables.specs.LiveRows.{live}
use Rattle.fuse_tables.proofs.Rows.{read_there, replaced_there, sorted_with}
use Rattle.fuse_tables.proofs.Live.{held, get_live, live_put}
use Rattle.fuse_tables.proofs.live_rows.replace_row.Goals as goal

pub returns-in_default-clause-value : goal.returns-in_default-clause-value
returns-in_default-clause-value g c =
    sym (get_live c.args.rows.now.items c.args.key c.requires ∙ ap held c.in_default.ensures)

pub returns-then-is_none-clause-value : goal.returns-then-is_none-clause-value
returns-then-is_none-clause-value g c =
    let rows = c.args.rows.now.items in
    let row = read_there rows rows c.args.key c.in-Some.place c.index.result.now c.requires refl c.in-Some.ensures
    c.index.ensures in
    let value = ap held row ∙ sym (get_live rows c.args.key c.requires) in
    search (rules, value)

pub returns-clause-value : goal.returns-clause-value
returns-clause-value g c =
    let rows = c.args.rows.now.items in
    c.replace.ensures.value ∙ ap held (read_there rows rows c.args.key c.in-Some.place c.index_mut.result.now c.requires
    refl c.in-Some.ensures (search rules)) ∙ sym (get_live rows c.args.key c.requires)

pub returns-clause-live : goal.returns-clause-live
returns-clause-live g c = λ _.
    let rows = c.args.rows.now.items in
    ap live (replaced_there rows c.args.key c.in-Some.place c.index_mut.result.now c.replace.new.self (Some c.args.value)
    c.in-Some.ensures (search rules) (search rules)) ∙ live_put rows c.args.key c.args.value c.requires

pub returns-clause-sorted : goal.returns-clause-sorted
returns-clause-sorted g c =
    let rows = c.args.rows.now.items in
    let written = replaced_there rows c.args.key c.in-Some.place c.index_mut.result.now c.replace.new.self
    (Some c.args.value) c.in-Some.ensures (search rules) (search rules) in
    subst (λ es. T (is_sorted nat_cmp es)) (sym written) (sorted_with rows c.args.key (Some c.args.value) c.requires)
