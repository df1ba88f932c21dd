use Rattle.std.proofs.Common.{ap, ◌∙◌, find, []}
use Rattle.std.specs.Option.{unwrap_or, option_map}
use Rattle.fuse_spec.specs.Files.Trees.{same_name}
use Rattle.fs_tree.specs.Stored.{entries_in}
use Rattle.fs_tree.proofs.ByDirectory.{cookie-in}
use Rattle.fs_tree.proofs.names.Names.cookie_at.Goals as goal

pub returns-in-Some : goal.returns-in-Some
returns-in-Some g c =
    let there = ap (λ o. option_map (λ e. e.cookie) (find (λ e. same_name e.name c.args.name.now)
    (unwrap_or o []))) c.in-Some.ensures.value in
    rw (← c.self.view_is) (c.cookie_at.ensures ∙ there ∙ cookie-in
    (entries_in c.self.inside.directories.entries) c.self.inside.rows c.self.invariant.0 c.args.directory c.args.name.now)

pub returns-in-None : goal.returns-in-None
returns-in-None g c =
    let there = ap (λ o. option_map (λ e. e.cookie) (find (λ e. same_name e.name c.args.name.now)
    (unwrap_or o []))) c.in-None.ensures.value in
    rw (← c.self.view_is) (there ∙ cookie-in
    (entries_in c.self.inside.directories.entries) c.self.inside.rows c.self.invariant.0 c.args.directory c.args.name.now)
