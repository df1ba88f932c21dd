use Rattle.std.proofs.Common.{None, Some, position, sym, ap, ◌∙◌}
use Rattle.fs_nodes.specs.Vacant.{is_kept_of}
use Rattle.fs_nodes.proofs.Slots.{is_of}
use Rattle.fs_nodes.proofs.Vacant.{found_at, found_is, not_of}
use Rattle.fs_nodes.proofs.list_rows.ListRowsNodeRows.id_of.Goals as goal

pub returns-in_err-place-clause-none : goal.returns-in_err-place-clause-none
returns-in_err-place-clause-none g c =
    let slots = c.args.self.now.slots.items in
    let at = ap (position (is_kept_of c.args.file))
    (sym c.deref.ensures.value) ∙ sym c.place_of_file.ensures ∙ c.in_err-place.was in
    rw c.from_residual.ensures (not_of slots c.args.file at)

pub returns-in_err-place-clause-has : goal.returns-in_err-place-clause-has
returns-in_err-place-clause-has g c =
    let slots = c.args.self.now.slots.items in
    let at = ap (position (is_kept_of c.args.file))
    (sym c.deref.ensures.value) ∙ sym c.place_of_file.ensures ∙ c.in_err-place.was in
    rw c.from_residual.ensures (found_is slots c.args.file None at)

pub returns-clause-some : goal.returns-clause-some
returns-clause-some g c =
    let slots = c.args.self.now.slots.items in
    let at = ap (position (is_kept_of c.args.file))
    (sym c.deref.ensures.value) ∙ sym c.place_of_file.ensures ∙ c.in_ok-place.was in
    is_of slots c.in_ok-place.place c.args.file (found_at slots c.args.file c.in_ok-place.place at)

pub returns-clause-has : goal.returns-clause-has
returns-clause-has g c =
    let slots = c.args.self.now.slots.items in
    let at = ap (position (is_kept_of c.args.file))
    (sym c.deref.ensures.value) ∙ sym c.place_of_file.ensures ∙ c.in_ok-place.was in
    found_is slots c.args.file (Some c.in_ok-place.place) at
