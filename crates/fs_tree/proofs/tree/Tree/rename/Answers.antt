use Rattle.std.proofs.Common.{rules}
use Rattle.fuse_spec.specs.Files.Trees.{is_at}
use Rattle.fs_tree.proofs.Keeping.{kept-moved}
use Rattle.fs_tree.proofs.KeepsShape.{moves, moved_apart, renamed_is}
use Rattle.fs_tree.proofs.tree.Tree.rename.Goals as goal

pub invariant_of-self-2 : goal.invariant_of-self-2
invariant_of-self-2 g c =
    let cookies = rw (← c.self.view_is) at c.requires.cookies in
    let moved = rw (← c.self.view_is) at
    (moved_apart c.args.self.now c.args.directory c.args.old.now c.args.new_directory c.args.new.now c.in_ok-file.field-0 c.in-Some.file c.in_ok-file.ensures.moved c.in-Some.is) in
    rw c.in_ok-rename.ensures.ok (
      kept-moved _ _ _ _ c.self.invariant.0 (is_at c.args.directory c.args.old.now)
          (is_at c.args.new_directory c.args.new.now) _ c.in-Some.file (search rules) moved.0 cookies,
      moves _ c.self.invariant.1 c.args.directory c.args.old.now c.args.new_directory c.args.new.now c.in-Some.file moved.0 moved.1 (rw (← c.self.view_is) at c.in_ok-file.ensures.refusal),
    )

pub returns-clause-ok : goal.returns-clause-ok
returns-clause-ok g c =
    let moved = rw (← c.self.view_is) at
    (moved_apart c.args.self.now c.args.directory c.args.old.now c.args.new_directory c.args.new.now c.in_ok-file.field-0 c.in-Some.file c.in_ok-file.ensures.moved c.in-Some.is) in (
      c.in_ok-file.ensures.refusal,
      rw (← c.self.view_is)
          (renamed_is _ c.args.directory c.args.old.now c.args.new_directory c.args.new.now c.in-Some.file _ moved.0 moved.1 c.in_ok-rename.ensures.ok),
    )
