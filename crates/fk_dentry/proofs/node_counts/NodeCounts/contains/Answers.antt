use Rattle.std.proofs.Common.{◌≡◌, ℕ, Bor, Option, Some, None, refl, ap, is_some, ◌∙◌}
use Rattle.std.specs.Option.{option_copied}
use Rattle.fk_dentry.proofs.Counts.{counted_is}
use Rattle.fk_dentry.proofs.node_counts.NodeCounts.contains.Goals as goal

copied : (o : Option (Bor ℕ)) → is_some o ≡ is_some (option_copied o)
copied None = refl
copied (Some x) = refl

pub returns : goal.returns
returns g c = c.is_some.ensures ∙ copied c.get.result ∙ ap is_some c.get.ensures ∙ counted_is
    c.args.self.now.counts.entries c.args.id c.args.self.now.used
