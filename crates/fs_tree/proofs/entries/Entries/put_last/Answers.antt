use Rattle.std.proofs.Common.{ap, sym, ◌∙◌, map, refl, Some}
use Rattle.std.specs.Option.{option_map}
use Rattle.fs_tree.specs.Stored.{Entry, without_key}
use Rattle.fs_tree.specs.EntryViews.{leaf_entry}
use Rattle.fuse_tables.proofs.NameKeys.{found_by_key, kept_by_key}
use Rattle.fs_tree.proofs.NameLinks.{AreLinked-put, cookie-of, AreNamedOnce-put, put-entries, unput-entries}
use Rattle.fs_tree.proofs.entries.Entries.put_last.Goals as goal

pub invariant_of-self-in-Ok : goal.invariant_of-self-in-Ok
invariant_of-self-in-Ok g c =
    let before = rw (← c.self.view_is) at c.requires in
    let name = c.args.name.items in
    let links = c.self.inside.links.entries in
    let replaced = c.cookie_of.ensures
    ∙ ap (option_map (λ l. l.cookie)) (c.in-Ok.ensures.old ∙ found_by_key links name c.new.result c.new.ensures)
    ∙ cookie-of _ _ (c.self.invariant.0 name) in
    let updates = c.in-Ok.ensures.updates in
    let x : Entry = record { name = c.args.name.items; file = c.args.link.file; cookie = c.args.link.cookie } in
    rw (
      c.take_away.ensures.entries,
      c.in_ok-_none.ensures.entries,
      replaced,
      put-entries c.args.name.items c.self.inside.names.entries c.self.invariant.1 c.in_ok-_none.ensures.was_ordered c.args.link.cookie _ before,
      c.in_ok-copy_of.ensures,
      c.deref.ensures.value,
    ) (
      AreLinked-put x c.args.link links _ (map leaf_entry c.self.inside.names.entries) refl refl
          (kept_by_key name c.new.result c.new.ensures links _ updates.3)
          (sym (found_by_key _ name c.new.result c.new.ensures) ∙ updates.1) c.self.invariant.0,
      AreNamedOnce-put (map leaf_entry c.self.inside.names.entries) x c.self.invariant.1,
    )

pub returns-in-Ok-clause-ok : goal.returns-in-Ok-clause-ok
returns-in-Ok-clause-ok g c =
    let before = rw (← c.self.view_is) at c.requires in
    let name = c.args.name.items in
    let links = c.self.inside.links.entries in
    let replaced = c.cookie_of.ensures
    ∙ ap (option_map (λ l. l.cookie)) (c.in-Ok.ensures.old ∙ found_by_key links name c.new.result c.new.ensures)
    ∙ cookie-of _ _ (c.self.invariant.0 name) in
    rw (← c.self.view_is)
    (ap (map leaf_entry) c.take_away.ensures.entries
    ∙ rw (
      c.in_ok-_none.ensures.entries,
      replaced,
      put-entries c.args.name.items c.self.inside.names.entries c.self.invariant.1 c.in_ok-_none.ensures.was_ordered c.args.link.cookie _ before,
      c.in_ok-copy_of.ensures,
      c.deref.ensures.value,
    ) refl)

pub invariant_of-self-in-Err : goal.invariant_of-self-in-Err
invariant_of-self-in-Err g c =
    let before = rw (← c.self.view_is) at c.requires in
    rw (
      c.take_away-in-Err.ensures.entries,
      c.in_ok-_none.ensures.entries,
      unput-entries c.self.inside.names.entries c.args.link.cookie _ before,
      c.in-Err.ensures.err,
    ) c.self.invariant

pub returns-clause-unchanged : goal.returns-clause-unchanged
returns-clause-unchanged g c =
    let before = rw (← c.self.view_is) at c.requires in
    rw (← c.self.view_is)
    (ap (map leaf_entry) (c.take_away-in-Err.ensures.entries ∙ ap
    (without_key (Some c.args.link.cookie)) c.in_ok-_none.ensures.entries)
    ∙ unput-entries c.self.inside.names.entries c.args.link.cookie _ before)
