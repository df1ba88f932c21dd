use Rattle.std.proofs.Common.{◌≡◌, ◌∙◌, ap, refl, Option, Some, None, is_some, Bor}
use Rattle.std.specs.Option.{option_copied}
use Rattle.fuse_tables.proofs.CountRows.{found}
use Rattle.fuse_tables.proofs.tally.Tally.has.Goals as goal

read : {A : Type 0} (o : Option (Bor A)) → is_some o ≡ is_some (option_copied o)
read None = refl
read (Some value) = refl

pub returns : goal.returns
returns g c = rw (← c.self.view_is) (c.is_some.ensures ∙ read c.get.result
    ∙ ap is_some (c.get.ensures ∙ found c.self.inside.counts.entries c.args.key))
