use Rattle.std.proofs.Common.{ap, ◌∙◌, refl, not}
use Rattle.fuse_spec.specs.Files.Trees.{is_at}
use Rattle.fs_tree.specs.Stored.{without_cookie}
use Rattle.fs_tree.proofs.ByDirectory.{AreByDirectory-removed}
use Rattle.fs_tree.proofs.ByCookie.{without-found, AreOnce-where}
use Rattle.fs_tree.proofs.names.Names.remove.Goals as goal

pub invariant_of-self : goal.invariant_of-self
invariant_of-self g c =
    let rising = rw (← c.self.view_is) at c.requires in
    let cookie = rw (← c.self.view_is) at c.cookie_at-cookie.ensures in
    rw (
      c.remove.ensures,
      cookie,
      without-found c.args.directory c.args.name.now 1 rising.0 c.self.inside.rows _ rising.1 c.self.invariant.1 refl,
    ) (
      AreByDirectory-removed c.args.directory c.args.name.now _ _ _ c.remove_from.ensures c.self.invariant.0,
      AreOnce-where (λ n. not (is_at c.args.directory c.args.name.now n)) c.self.inside.rows c.self.invariant.1,
    )

pub returns : goal.returns
returns g c =
    let rising = rw (← c.self.view_is) at c.requires in
    let cookie = rw (← c.self.view_is) at c.cookie_at-cookie.ensures in
    rw (← c.self.view_is)
    (c.remove.ensures ∙ ap (λ o. without_cookie o c.self.inside.rows) cookie ∙ without-found c.args.directory c.args.name.now 1 rising.0 c.self.inside.rows _ rising.1 c.self.invariant.1 refl)
