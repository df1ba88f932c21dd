use Rattle.std.proofs.Common.{sym, ap, ◌∙◌}
use Rattle.fuse_spec.specs.Values.Maps.{Place}
use Rattle.fk_dentry.specs.Rows.{slots_of, bound_in}
use Rattle.fk_dentry.proofs.BoundNames.{get-names}
use Rattle.fk_dentry.proofs.bindings.Bindings.bound.Goals as goal

pub returns-in_err-slot : goal.returns-in_err-slot
returns-in_err-slot g c =
    let key : Place = (c.args.directory, c.args.name.now) in
    let slots = slots_of c.self.inside.rows.entries in
    rw (← c.self.view_is) (c.from_residual.ensures ∙ ap bound_in (sym c.in_err-slot.was ∙ c.slot.ensures) ∙ sym
    (get-names slots c.self.invariant.sorted key))

pub returns : goal.returns
returns g c =
    let key : Place = (c.args.directory, c.args.name.now) in
    let slots = slots_of c.self.inside.rows.entries in
    rw (← c.self.view_is) (ap bound_in (sym c.in_ok-slot.was ∙ c.slot.ensures) ∙ sym
    (get-names slots c.self.invariant.sorted key))
