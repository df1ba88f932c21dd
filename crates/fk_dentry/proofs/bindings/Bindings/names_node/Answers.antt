use Rattle.std.proofs.Common.{ap, ◌∙◌}
use Rattle.std.specs.Prelude.{nat_lt}
use Rattle.fk_dentry.specs.Rows.{slots_of}
use Rattle.fk_dentry.proofs.BoundNames.{named_is}
use Rattle.fk_dentry.proofs.bindings.Bindings.names_node.Goals as goal

pub returns : goal.returns
returns g c = rw (← c.self.view_is) (c.contains.ensures ∙ ap (nat_lt 0)
    (c.self.invariant.named c.args.id) ∙ named_is c.args.id (slots_of c.self.inside.rows.entries))
