use Rattle.std.proofs.Common.{rules, ◌≡◌, ◌≤◌, ◌^◌, Some, arith}
use Rattle.fuse_spec.specs.Files.Trees.{file_at}
use Rattle.fs_files.proofs.BornFiles.{looks_up}
use Rattle.fs_files.proofs.operating.look_up.Goals as goal

pub returns-in-Some : goal.returns-in-Some
returns-in-Some g c =
    let at : file_at c.args.tree.now c.args.directory c.args.name.now ≡ Some c.in-Some.file = search rules in
    let sum = c.inodes_left-inodes.ensures in
    let inodes : c.args.tree.now.next_inode ≤ 2 ^ 62 = omega (arith, sum) in
    looks_up c.args.validity c.args.tree.now c.lemma_shaped.ensures inodes c.args.directory c.args.name.now c.in-Some.file at
