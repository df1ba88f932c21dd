use Rattle.std.proofs.Common.{◌++◌, ap, ◌∙◌}
use Rattle.std.specs.Option.{option_to_list}
use Rattle.fs_tree.proofs.CookieRows.{put-last-after}
use Rattle.fs_tree.proofs.parents.Parents.put_last.Goals as goal

pub returns-clause-ok : goal.returns-clause-ok
returns-clause-ok g c = rw (← c.self.view_is) (ap (λ es. option_to_list c.self.inside.first ++ es)
    c.in_ok-_none.ensures.entries ∙ put-last-after c.self.inside.first c.self.inside.later.entries c.args.cookie
    c.args.directory (rw (← c.self.view_is) at c.requires))
