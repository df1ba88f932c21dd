use Rattle.std.proofs.Common.{◌∙◌, ap, refl, sym, subst, Some, T}
use Rattle.std.specs.Ordering.{nat_cmp}
use Rattle.std.specs.FinMap.{is_sorted}
use Rattle.fuse_tables.specs.LiveRows.{live}
use Rattle.fuse_tables.proofs.Rows.{replaced_there, sorted_with}
use Rattle.fuse_tables.proofs.Live.{live_put}
use Rattle.fuse_tables.proofs.live_rows.fill_row.Goals as goal

pub returns-clause-live : goal.returns-clause-live
returns-clause-live g c =
    let rows = c.args.rows.now.items in
    ap live (replaced_there rows c.args.key c.args.place c.index_mut.result.now (Some c.args.value)
    (Some c.args.value) c.requires.row c.index_mut.ensures.value refl) ∙ live_put rows c.args.key c.args.value c.requires.sorted

pub returns-clause-sorted : goal.returns-clause-sorted
returns-clause-sorted g c =
    let rows = c.args.rows.now.items in
    let written = replaced_there rows c.args.key c.args.place c.index_mut.result.now (Some c.args.value)
    (Some c.args.value) c.requires.row c.index_mut.ensures.value refl in
    subst (λ es. T (is_sorted nat_cmp es)) (sym written) (sorted_with rows c.args.key (Some c.args.value)
    c.requires.sorted)
