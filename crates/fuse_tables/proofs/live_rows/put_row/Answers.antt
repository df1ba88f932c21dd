use Rattle.std.proofs.Common.{◌≡◌, ◌∙◌, ap, sym, subst, Some, None, Option, List, ℕ, T, insert}
use Rattle.std.specs.Ordering.{nat_cmp}
use Rattle.std.specs.FinMap.{is_sorted}
use Rattle.fuse_spec.specs.Values.Maps.{get, put}
use Rattle.fuse_tables.specs.LiveRows.{live}
use Rattle.fuse_tables.specs.TableState.{place_of}
use Rattle.fuse_tables.proofs.Rows.{put_is, sorted_with}
use Rattle.fuse_tables.proofs.Live.{live_put}
use Rattle.fuse_tables.proofs.live_rows.put_row.Goals as goal

put_at_place : {V : Type 0} (rows : List (ℕ × Option V)) (key place : ℕ) (v : V) → place ≡ place_of key rows
    → get rows key ≡ None → insert rows place (key, Some v) ≡ put rows key (Some v)
put_at_place rows key place v at absent = rw at (put_is rows key (Some v) absent)

pub returns-clause-live : goal.returns-clause-live
returns-clause-live g c =
    let rows = c.args.rows.now.items in
    let absent = c.is_row_of.ensures.absent c.if-is_row_of.false in
    ap live (c.insert_at.ensures.items ∙ put_at_place rows c.args.key c.place_in-place.result c.args.value
    c.place_in-place.ensures.place absent) ∙ live_put rows c.args.key c.args.value c.requires.sorted

pub returns-clause-sorted : goal.returns-clause-sorted
returns-clause-sorted g c =
    let rows = c.args.rows.now.items in
    let absent = c.is_row_of.ensures.absent c.if-is_row_of.false in
    let put = c.insert_at.ensures.items ∙ put_at_place rows c.args.key c.place_in-place.result c.args.value
    c.place_in-place.ensures.place absent in
    subst (λ es. T (is_sorted nat_cmp es)) (sym put) (sorted_with rows c.args.key (Some c.args.value) c.requires.sorted)
