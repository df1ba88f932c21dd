use Rattle.std.proofs.Common.{◌++◌, ◌∙◌, sym, ap, subst}
use Rattle.fs_nodes.specs.Slots.{AreSmall}
use Rattle.fs_nodes.proofs.Slots.{listed_places, listed-rows_from}
use Rattle.fs_nodes.proofs.slab_rows.list_nodes.Goals as goal

pub loop-place-init : goal.loop-place-init
loop-place-init g c =
    let all = c.into_iter-place-iterator.ensures.into_iter_gives ∙ c.iter-place-items.ensures.rest in (
      tt,
      tt,
      subst AreSmall (sym all) c.requires,
      ap (λ xs. xs ++ listed_places c.into_iter-place-iterator.result) c.in_ok-list.ensures.items ∙ ap listed_places all ∙ listed-rows_from 0 c.args.nodes.now.slots,
    )
