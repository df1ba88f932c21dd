use Rattle.std.proofs.Common.{◌≡◌, ◌+◌, ap, ◌∙◌, refl, not, Some, nat_eq}
use Rattle.fuse_spec.specs.Files.Trees.{Named, is_at}
use Rattle.fs_tree.specs.Stored.{without_cookie, entries_in}
use Rattle.fs_tree.proofs.ByDirectory.{AreByDirectory-same, AreByDirectory-moved}
use Rattle.fs_tree.proofs.ByCookie.{AreOnce-moved, IsRising-without, push-undone, moved-cookies}
use Rattle.fs_tree.proofs.Keeping.{IsRising-push, IsRising-where}
use Rattle.fs_tree.proofs.NameLinks.{before-rising}
use Rattle.fs_tree.proofs.names.Names.rename.Goals as goal

pub remove-requires : goal.remove-requires
remove-requires g c =
    let last = rw (← c.self.view_is) at c.requires.last in
    rw c.in_ok-push.ensures.ok (c.args.cookie + 1, IsRising-push 1 c.args.cookie c.self.inside.rows _ refl last)

pub invariant_of-self-in-Err : goal.invariant_of-self-in-Err
invariant_of-self-in-Err g c =
    let last = rw (← c.self.view_is) at c.requires.last in
    let n : Named = record {
      directory = c.args.new_directory;
      name = c.in_ok-name.name.items;
      file = c.args.file;
      cookie = c.args.cookie;
    } in
    let undone : c.remove.new.self ≡ c.self.inside.rows =
    c.remove.ensures ∙ ap (without_cookie
    (Some c.args.cookie)) c.in_ok-push.ensures.ok ∙ push-undone 1 c.self.inside.rows n last in
    let opened = AreByDirectory-same _ _ _ c.open.ensures.same c.self.invariant.0 in
    rw undone (AreByDirectory-same _ _ _ c.in-Err.ensures.unchanged opened, c.self.invariant.1)

pub returns-in-Err-clause-unchanged : goal.returns-in-Err-clause-unchanged
returns-in-Err-clause-unchanged g c =
    let last = rw (← c.self.view_is) at c.requires.last in
    let n : Named = record {
      directory = c.args.new_directory;
      name = c.in_ok-name.name.items;
      file = c.args.file;
      cookie = c.args.cookie;
    } in
    rw (← c.self.view_is) (c.remove.ensures ∙ ap (without_cookie
    (Some c.args.cookie)) c.in_ok-push.ensures.ok ∙ push-undone 1 c.self.inside.rows n last)

pub remove-requires-2 : goal.remove-requires-2
remove-requires-2 g c =
    let last = rw (← c.self.view_is) at c.requires.last in
    rw c.in_ok-push.ensures.ok (c.args.cookie + 1, IsRising-push 1 c.args.cookie c.self.inside.rows _ refl last)

pub remove-requires-3 : goal.remove-requires-3
remove-requires-3 g c =
    let last = rw (← c.self.view_is) at c.requires.last in
    rw (c.remove-2.ensures, c.in_ok-push.ensures.ok) (
      c.args.cookie + 1,
      IsRising-without c.cookie_at-moved.result 1 (c.args.cookie + 1) _
          (IsRising-push 1 c.args.cookie c.self.inside.rows _ refl last),
    )

pub invariant_of-self-2 : goal.invariant_of-self-2
invariant_of-self-2 g c =
    let last = rw (← c.self.view_is) at c.requires.last in
    let moved = rw (← c.self.view_is) at c.cookie_at-moved.ensures in
    let replaced = rw (← c.self.view_is) at c.cookie_at-replaced.ensures in
    let other = rw (← c.in_ok-key.ensures) at c.requires.other in
    let opened = AreByDirectory-same _ _ _ c.open.ensures.same c.self.invariant.0 in
    let n : Named = record {
      directory = c.args.new_directory;
      name = c.in_ok-key.key.items;
      file = c.args.file;
      cookie = c.args.cookie;
    } in
    rw (
      c.remove-3.ensures,
      c.remove-2.ensures,
      c.in_ok-push.ensures.ok,
      replaced,
      moved,
      c.in_ok-name.ensures,
      ← c.in_ok-key.ensures,
      moved-cookies c.args.directory c.args.old.now c.args.new_directory c.in_ok-key.key.items c.self.inside.rows n last c.self.invariant.1,
    ) (
      AreByDirectory-moved c.args.directory c.args.old.now c.args.new_directory c.in_ok-key.key.items c.args.file c.args.cookie _ _ _ _ c.in_default.ensures.ok c.remove_from.ensures opened other,
      AreOnce-moved (λ m. not (is_at c.args.directory c.args.old.now m)) c.self.inside.rows n c.self.invariant.1,
    )

pub returns-clause-ok : goal.returns-clause-ok
returns-clause-ok g c =
    let last = rw (← c.self.view_is) at c.requires.last in
    let moved = rw (← c.self.view_is) at c.cookie_at-moved.ensures in
    let replaced = rw (← c.self.view_is) at c.cookie_at-replaced.ensures in
    let n : Named = record {
      directory = c.args.new_directory;
      name = c.args.new.now;
      file = c.args.file;
      cookie = c.args.cookie;
    } in
    rw (
      ← c.self.view_is,
      c.remove-3.ensures,
      c.remove-2.ensures,
      c.in_ok-push.ensures.ok,
      replaced,
      moved,
      c.in_ok-name.ensures,
    )
    (moved-cookies c.args.directory c.args.old.now c.args.new_directory c.args.new.now c.self.inside.rows n last c.self.invariant.1)

pub put_last_in-requires-clause-last : goal.put_last_in-requires-clause-last
put_last_in-requires-clause-last g c =
    let last = rw (← c.self.view_is) at c.requires.last in
    let rising = IsRising-where
    (λ n. nat_eq n.directory c.args.new_directory) 1 c.args.cookie c.self.inside.rows last in
    rw (c.open.ensures.same c.args.new_directory)
    (before-rising c.args.new_directory 1 c.args.cookie
    (entries_in c.self.inside.directories.entries c.args.new_directory)
    (rw (← c.self.invariant.0 c.args.new_directory) at rising))
