use Rattle.std.proofs.Common.{◌≡◌, ◌+◌, ap, ◌∙◌, refl, Some, nat_eq}
use Rattle.fuse_spec.specs.Files.Trees.{Named}
use Rattle.fs_tree.specs.Stored.{without_cookie, entries_in}
use Rattle.fs_tree.proofs.ByDirectory.{AreByDirectory-same, AreByDirectory-added}
use Rattle.fs_tree.proofs.ByCookie.{AreOnce-push, push-undone}
use Rattle.fs_tree.proofs.Keeping.{IsRising-push, IsRising-where}
use Rattle.fs_tree.proofs.NameLinks.{before-rising}
use Rattle.fs_tree.proofs.names.Names.add.Goals as goal

pub invariant_of-self-in-Ok : goal.invariant_of-self-in-Ok
invariant_of-self-in-Ok g c =
    let absent = rw (← c.self.view_is, ← c.in_ok-key.ensures) at c.requires.absent in
    let opened = AreByDirectory-same _ _ _ c.open.ensures.same c.self.invariant.0 in
    rw (c.in_ok-push.ensures.ok, c.in_ok-name.ensures, ← c.in_ok-key.ensures) (
      AreByDirectory-added c.args.directory c.in_ok-key.key.items c.args.file c.args.cookie _ _ _ c.in-Ok.ensures.ok opened absent,
      AreOnce-push c.self.inside.rows (record {
        directory = c.args.directory;
        name = c.in_ok-key.key.items;
        file = c.args.file;
        cookie = c.args.cookie;
      }) c.self.invariant.1 absent,
    )

pub remove-requires : goal.remove-requires
remove-requires g c =
    let last = rw (← c.self.view_is) at c.requires.last in
    rw c.in_ok-push.ensures.ok (c.args.cookie + 1, IsRising-push 1 c.args.cookie c.self.inside.rows _ refl last)

pub invariant_of-self-in-Err : goal.invariant_of-self-in-Err
invariant_of-self-in-Err g c =
    let last = rw (← c.self.view_is) at c.requires.last in
    let n : Named = record {
      directory = c.args.directory;
      name = c.in_ok-name.name.items;
      file = c.args.file;
      cookie = c.args.cookie;
    } in
    let undone : c.remove.new.self ≡ c.self.inside.rows =
    c.remove.ensures ∙ ap (without_cookie
    (Some c.args.cookie)) c.in_ok-push.ensures.ok ∙ push-undone 1 c.self.inside.rows n last in
    let opened = AreByDirectory-same _ _ _ c.open.ensures.same c.self.invariant.0 in
    rw undone (AreByDirectory-same _ _ _ c.in-Err.ensures.unchanged opened, c.self.invariant.1)

pub returns-in-Err-clause-unchanged : goal.returns-in-Err-clause-unchanged
returns-in-Err-clause-unchanged g c =
    let last = rw (← c.self.view_is) at c.requires.last in
    let n : Named = record {
      directory = c.args.directory;
      name = c.in_ok-name.name.items;
      file = c.args.file;
      cookie = c.args.cookie;
    } in
    rw (← c.self.view_is) (c.remove.ensures ∙ ap (without_cookie
    (Some c.args.cookie)) c.in_ok-push.ensures.ok ∙ push-undone 1 c.self.inside.rows n last)

pub put_last_in-requires-clause-last : goal.put_last_in-requires-clause-last
put_last_in-requires-clause-last g c =
    let last = rw (← c.self.view_is) at c.requires.last in
    let rising = IsRising-where (λ n. nat_eq n.directory c.args.directory) 1 c.args.cookie c.self.inside.rows last in
    rw (c.open.ensures.same c.args.directory)
    (before-rising c.args.directory 1 c.args.cookie (entries_in c.self.inside.directories.entries c.args.directory)
    (rw (← c.self.invariant.0 c.args.directory) at rising))
