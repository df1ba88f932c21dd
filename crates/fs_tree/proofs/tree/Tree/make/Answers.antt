use Rattle.std.proofs.Common.{rules}
use Rattle.fs_tree.proofs.Keeping.{kept-named, kept-born, unborn}
use Rattle.fs_tree.specs.Views.{content_in}
use Rattle.fs_tree.proofs.FileRows.{put-undone}
use Rattle.fs_tree.proofs.KeepsShape.{has_room, make}
use Rattle.fs_tree.proofs.tree.Tree.make.Goals as goal

pub push-requires : goal.push-requires
push-requires g c = unborn c.self.inside.next_inode c.self.inside.files c.self.invariant.0.born

pub invariant_of-self-2 : goal.invariant_of-self-2
invariant_of-self-2 g c =
    let inodes = rw (← c.self.view_is) at c.requires.inodes in
    let cookies = rw (← c.self.view_is) at c.requires.cookies in
    rw (c.in_ok-push.ensures.ok, c.in_default.ensures.ok) (
      kept-born _ _ _ _ (kept-named _ _ _ _ c.self.invariant.0 _ (search rules)
          (has_room _ c.self.invariant.1 c.args.directory c.args.name.now (rw (← c.self.view_is) at c.requires.unrefused)) cookies) _ inodes,
      make _ c.self.invariant.1 c.args.directory c.args.name.now _ (rw (← c.self.view_is) at c.requires.unrefused),
    )

pub invariant_of-self-in-Err : goal.invariant_of-self-in-Err
invariant_of-self-in-Err g c =
    let undone = put-undone c.self.inside.files c.self.inside.next_inode
    (content_in c.args.content) c.self.invariant.0.born in
    rw (c.remove.ensures, c.in_ok-push.ensures.ok, undone, c.in-Err.ensures.unchanged) c.self.invariant

pub returns-in-Err-clause-unchanged : goal.returns-in-Err-clause-unchanged
returns-in-Err-clause-unchanged g c =
    let undone = put-undone c.self.inside.files c.self.inside.next_inode
    (content_in c.args.content) c.self.invariant.0.born in
    rw (c.remove.ensures, c.in_ok-push.ensures.ok, undone, c.in-Err.ensures.unchanged) c.self.view_is
