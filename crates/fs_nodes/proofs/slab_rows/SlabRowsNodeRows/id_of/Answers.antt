use Rattle.std.proofs.Common.{true, false, is_some, sym, ap, ◌∙◌}
use Rattle.fs_nodes.proofs.Slots.{is_of, of_none, has_is}
use Rattle.fs_nodes.proofs.slab_rows.SlabRowsNodeRows.id_of.Goals as goal

pub returns-in_err-place-clause-none : goal.returns-in_err-place-clause-none
returns-in_err-place-clause-none g c =
    let self = c.args.self.now in
    rw c.from_residual.ensures (of_none self.nodes.slots self.inverse c.args.file
    (sym c.get.ensures.value ∙ sym c.copied.ensures ∙ c.in_err-place.was))

pub returns-in_err-place-clause-has : goal.returns-in_err-place-clause-has
returns-in_err-place-clause-has g c =
    let self = c.args.self.now in
    rw c.from_residual.ensures (has_is self.nodes.slots self.inverse c.args.file false
    (sym (ap is_some (sym c.get.ensures.value ∙ sym c.copied.ensures ∙ c.in_err-place.was))))

pub returns-clause-some : goal.returns-clause-some
returns-clause-some g c =
    let self = c.args.self.now in
    is_of self.nodes.slots c.in_ok-place.place c.args.file
    (self.inverse.leads c.args.file c.in_ok-place.place
    (sym c.get.ensures.value ∙ sym c.copied.ensures ∙ c.in_ok-place.was))

pub returns-clause-has : goal.returns-clause-has
returns-clause-has g c =
    let self = c.args.self.now in
    has_is self.nodes.slots self.inverse c.args.file true
    (sym (ap is_some (sym c.get.ensures.value ∙ sym c.copied.ensures ∙ c.in_ok-place.was)))
