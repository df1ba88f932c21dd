use Rattle.std.proofs.Common.{ap, sym, ◌∙◌, map, not}
use Rattle.fuse_spec.specs.Files.Trees.{same_name}
use Rattle.fs_tree.specs.Stored.{without_key}
use Rattle.fs_tree.specs.EntryViews.{leaf_entry}
use Rattle.fuse_tables.specs.NameKeys.{name_sought}
use Rattle.fuse_tables.proofs.NameKeys.{found_by_key, kept_by_key}
use Rattle.fs_tree.proofs.NameLinks.{AreLinked-removed, AreNamedOnce-where, removed-entries}
use Rattle.fs_tree.proofs.entries.Entries.remove.Goals as goal

pub invariant_of-self : goal.invariant_of-self
invariant_of-self g c =
    let cookie = rw (← c.self.view_is) at c.cookie_at-cookie.ensures in
    let links = c.self.inside.links.entries in
    let lent = name_sought c.of.result in
    rw (
      c.take_away.ensures.entries,
      cookie,
      removed-entries c.args.name.now c.self.inside.names.entries c.self.invariant.1 c.take_away.ensures.was_ordered,
    ) (
      AreLinked-removed c.args.name.now links _ (map leaf_entry c.self.inside.names.entries)
          (kept_by_key c.args.name.now lent c.of.ensures links _ c.remove-link.ensures.updates.3)
          (sym (found_by_key _ c.args.name.now lent c.of.ensures) ∙ c.remove-link.ensures.updates.1)
          c.self.invariant.0,
      AreNamedOnce-where (λ e. not (same_name e.name c.args.name.now))
          (map leaf_entry c.self.inside.names.entries) c.self.invariant.1,
    )

pub returns : goal.returns
returns g c =
    let cookie = rw (← c.self.view_is) at c.cookie_at-cookie.ensures in
    rw (← c.self.view_is)
    (ap (map leaf_entry) (c.take_away.ensures.entries ∙ ap (λ o. without_key o c.self.inside.names.entries) cookie)
    ∙ removed-entries c.args.name.now c.self.inside.names.entries c.self.invariant.1 c.take_away.ensures.was_ordered)
