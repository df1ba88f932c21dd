use Rattle.std.proofs.Common.{ap, sym, ◌∙◌, map, not, nat_eq, refl}
use Rattle.fs_tree.specs.Stored.{parents_in}
use Rattle.fs_tree.specs.Views.{named_of}
use Rattle.fs_tree.proofs.ListLemmas.{filter-map}
use Rattle.fs_tree.proofs.CookieRows.{remove-absent}
use Rattle.fs_tree.proofs.ByFile.{AreByFile-same, AreByFile-removed, row-found}
use Rattle.fs_tree.proofs.rows.Rows.remove.Goals as goal

pub returns-in_default-remove : goal.returns-in_default-remove
returns-in_default-remove g c =
    rw (← c.self.view_is, c.in-Some.is)
    (ap (map named_of) c.remove.ensures.entries ∙ filter-map named_of _
    (λ n. not (nat_eq n.cookie c.in-Some.cookie)) (λ e. refl) c.self.inside.names.entries)

pub invariant_of-self : goal.invariant_of-self
invariant_of-self g c = rw (
  c.remove.ensures.entries,
  remove-absent c.self.inside.names.entries c.in-Some.cookie
      (sym c.remove.ensures.value ∙ c.in_default-remove.is),
) c.self.invariant

pub invariant_of-self-2 : goal.invariant_of-self-2
invariant_of-self-2 g c =
    let rising = rw (← c.self.view_is) at c.requires in
    let found = row-found c.in-Some.cookie c.self.inside.names.entries c.in-Some-remove.row
    (sym c.remove.ensures.value ∙ c.in-Some-remove.is) in
    rw (
      c.remove.ensures.entries,
      filter-map named_of (λ e. not (nat_eq e.0 c.in-Some.cookie))
          (λ n. not (nat_eq n.cookie c.in-Some.cookie)) (λ e. refl) c.self.inside.names.entries,
    )
    (AreByFile-same _ _ _ c.close.ensures
    (AreByFile-removed (parents_in c.self.inside.parents.entries) _ 1 rising.0
    (map named_of c.self.inside.names.entries) (named_of
    (c.in-Some.cookie, c.in-Some-remove.row)) c.in-Some.cookie c.remove_from.ensures rising.1 found c.self.invariant))

pub returns : goal.returns
returns g c =
    rw (← c.self.view_is, c.in-Some.is)
    (ap (map named_of) c.remove.ensures.entries ∙ filter-map named_of _
    (λ n. not (nat_eq n.cookie c.in-Some.cookie)) (λ e. refl) c.self.inside.names.entries)
