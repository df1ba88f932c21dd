use Rattle.fk_dentry.specs.Rows.{slots_of}
use Rattle.fk_dentry.proofs.FirstBound.{first_name}
use Rattle.fk_dentry.proofs.bindings.Bindings.first.Goals as goal

pub returns : goal.returns
returns g c = rw (← c.self.view_is)
    (first_name (slots_of c.self.inside.rows.entries) c.self.invariant.sorted c.first_bound.result
    c.first_bound.ensures.some c.first_bound.ensures.none)
