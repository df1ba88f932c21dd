use Rattle.std.proofs.Common.{ap, ◌∙◌, nat_eq, length, []}
use Rattle.std.specs.Option.{unwrap_or}
use Rattle.fs_tree.specs.Stored.{entries_in}
use Rattle.fs_tree.proofs.ByDirectory.{length-in}
use Rattle.fs_tree.proofs.names.Names.is_empty.Goals as goal

pub returns-in-Some : goal.returns-in-Some
returns-in-Some g c =
    let there = ap (λ o. nat_eq (length (unwrap_or o [])) 0) c.in-Some.ensures.value in
    rw (← c.self.view_is) (c.is_empty.ensures ∙ there ∙ ap (λ n. nat_eq n 0)
    (length-in (entries_in c.self.inside.directories.entries) c.self.inside.rows c.self.invariant.0 c.args.directory))

pub returns-in-None : goal.returns-in-None
returns-in-None g c =
    let there = ap (λ o. nat_eq (length (unwrap_or o [])) 0) c.in-None.ensures.value in
    rw (← c.self.view_is) (there ∙ ap (λ n. nat_eq n 0)
    (length-in (entries_in c.self.inside.directories.entries) c.self.inside.rows c.self.invariant.0 c.args.directory))
