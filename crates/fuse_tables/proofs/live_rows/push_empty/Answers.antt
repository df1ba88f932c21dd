use Rattle.std.proofs.Common.{◌∙◌, ap, sym, subst, None, T}
use Rattle.std.specs.Ordering.{nat_cmp}
use Rattle.std.specs.FinMap.{is_sorted}
use Rattle.fuse_tables.specs.LiveRows.{live}
use Rattle.fuse_tables.proofs.Rows.{put_behind, sorted_with}
use Rattle.fuse_tables.proofs.Live.{live_behind}
use Rattle.fuse_tables.proofs.live_rows.push_empty.Goals as goal

pub returns-clause-live : goal.returns-clause-live
returns-clause-live g c = ap live c.push_back_reserved.ensures.items ∙ live_behind c.args.rows.now.items c.args.key

pub returns-clause-sorted : goal.returns-clause-sorted
returns-clause-sorted g c =
    let rows = c.args.rows.now.items in
    let put = c.push_back_reserved.ensures.items ∙ put_behind rows c.args.key None c.requires.sorted c.requires.above in
    subst (λ es. T (is_sorted nat_cmp es)) (sym put) (sorted_with rows c.args.key None c.requires.sorted)
