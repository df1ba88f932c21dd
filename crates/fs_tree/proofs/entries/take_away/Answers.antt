use Rattle.std.proofs.Common.{◌∙◌}
use Rattle.fs_tree.proofs.CookieRows.{removed-key}
use Rattle.fs_tree.proofs.entries.take_away.Goals as goal

pub returns-in-Some-clause-entries : goal.returns-in-Some-clause-entries
returns-in-Some-clause-entries g c = rw c.in-Some.is
    (c.remove-leaf.ensures.entries ∙ removed-key c.in-Some.cookie c.args.names.now.entries c.len-len.ensures.ordered)
