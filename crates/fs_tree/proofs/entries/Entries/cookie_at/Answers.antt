use Rattle.std.proofs.Common.{ap, ◌∙◌}
use Rattle.std.specs.Option.{option_map}
use Rattle.fuse_tables.specs.NameKeys.{name_sought}
use Rattle.fuse_tables.proofs.NameKeys.{found_by_key}
use Rattle.fs_tree.proofs.NameLinks.{cookie-of}
use Rattle.fs_tree.proofs.entries.Entries.cookie_at.Goals as goal

pub returns-in-Some : goal.returns-in-Some
returns-in-Some g c =
    let links = c.self.inside.links.entries in
    let found = found_by_key links c.args.name.now (name_sought c.of.result) c.of.ensures in
    rw (← c.self.view_is) (ap (option_map (λ l. l.cookie)) (c.in-Some.ensures.value ∙ found)
    ∙ cookie-of _ _ (c.self.invariant.0 c.args.name.now))

pub returns-in-None : goal.returns-in-None
returns-in-None g c =
    let links = c.self.inside.links.entries in
    let found = found_by_key links c.args.name.now (name_sought c.of.result) c.of.ensures in
    rw (← c.self.view_is) (ap (option_map (λ l. l.cookie)) (c.in-None.ensures.value ∙ found)
    ∙ cookie-of _ _ (c.self.invariant.0 c.args.name.now))
