use Rattle.std.proofs.Common.{◌≡◌, ◌∙◌, rules, ap, sym, subst, length, T, arith}
use Rattle.std.specs.Ordering.{nat_cmp}
use Rattle.std.specs.FinMap.{is_sorted}
use Rattle.std.proofs.lemmas.Fn.{filter_same}
use Rattle.fuse_tables.specs.LiveRows.{live}
use Rattle.fuse_tables.specs.TableState.{place_of}
use Rattle.fuse_tables.proofs.Live.{above_filtered, has_value, live_squeezed, sorted_filtered, length_squeezed}
use Rattle.fuse_tables.proofs.live_rows.squeeze.Goals as goal

pub returns-clause-live : goal.returns-clause-live
returns-clause-live g c =
    let kept = filter_same _ has_value _ (λ x b f' k. search rules) _ _ c.retain.ensures.filtered in
    ap live kept ∙ live_squeezed c.args.rows.now.items

pub returns-clause-sorted : goal.returns-clause-sorted
returns-clause-sorted g c =
    let kept = filter_same _ has_value _ (λ x b f' k. search rules) _ _ c.retain.ensures.filtered in
    subst (λ rows. T (is_sorted nat_cmp rows)) (sym kept) (sorted_filtered has_value c.args.rows.now.items c.requires)

pub returns-clause-above : goal.returns-clause-above
returns-clause-above g c = λ key above.
    let kept = filter_same _ has_value _ (λ x b f' k. search rules) _ _ c.retain.ensures.filtered in
    subst (λ rows. place_of key rows ≡ length rows) (sym kept) (above_filtered has_value key c.args.rows.now.items above)

pub returns-clause-len : goal.returns-clause-len
returns-clause-len g c =
    let kept = filter_same _ has_value _ (λ x b f' k. search rules) _ _ c.retain.ensures.filtered in
    let long = ap length kept ∙ length_squeezed c.args.rows.now.items in
    omega (arith, long)
