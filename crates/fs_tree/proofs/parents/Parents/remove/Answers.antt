use Rattle.std.proofs.Common.{◌≡◌, ◌++◌, true, false, None, ap, refl, ◌∙◌, nat_eq, arith}
use Rattle.std.specs.Option.{option_to_list}
use Rattle.std.proofs.lemmas.Grind.{common_steps}
use Rattle.fs_tree.proofs.CookieRows.{removed-after}
use Rattle.fs_tree.proofs.parents.Parents.remove.Goals as goal

pub returns-then-first-cookie : goal.returns-then-first-cookie
returns-then-first-cookie g c =
    let same : nat_eq c.in-Some.first c.args.cookie ≡ true = grind (arith, common_steps) in
    rw (← c.self.view_is) (c.remove-directory.ensures.entries
    ∙ removed-after c.args.cookie c.self.inside.first None c.self.inside.later.entries (rw (c.in-Some.is, same) refl)
    c.len-len.ensures.ordered)

pub returns-else-first-cookie : goal.returns-else-first-cookie
returns-else-first-cookie g c =
    let other : nat_eq c.in-Some.first c.args.cookie ≡ false = grind (arith, common_steps) in
    rw (← c.self.view_is) (ap (λ es. option_to_list c.self.inside.first ++ es) c.remove-directory.ensures.entries
    ∙ removed-after c.args.cookie c.self.inside.first c.self.inside.first c.self.inside.later.entries
    (rw (c.in-Some.is, other) refl) c.len-len.ensures.ordered)

pub returns-in_default : goal.returns-in_default
returns-in_default g c = rw (← c.self.view_is) (ap (λ es. option_to_list c.self.inside.first ++ es)
    c.remove-directory.ensures.entries
    ∙ removed-after c.args.cookie c.self.inside.first c.self.inside.first c.self.inside.later.entries
    (rw c.in_default.is refl) c.len-len.ensures.ordered)
