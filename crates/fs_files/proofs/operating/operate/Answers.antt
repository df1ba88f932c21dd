use Rattle.fs_files.proofs.BornFiles.{opens}
use Rattle.fs_files.proofs.StaysKnown.{file_there}
use Rattle.fs_files.proofs.operating.operate.Goals as goal

pub move_file-requires-clause-unrefused : goal.move_file-requires-clause-unrefused
move_file-requires-clause-unrefused g c =
    rw (
      c.file_of-file.ensures,
      c.header_node.ensures,
      c.file_of.ensures,
      c.deref-in-Rename.ensures.value,
      c.deref-in-Rename-2.ensures.value,
      c.in-Rename.is,
    )
    (rw c.in-Rename.is at c.requires.unrefused)

pub returns-in-Getattr-clause-ok : goal.returns-in-Getattr-clause-ok
returns-in-Getattr-clause-ok g c = rw c.in-Getattr.is
    (rw (c.file_of-file.ensures, c.header_node.ensures, c.in-Getattr.is) at (c.attributes.ensures c.args.validity))

pub returns-in-Open-clause-ok : goal.returns-in-Open-clause-ok
returns-in-Open-clause-ok g c =
    let t = c.args.nodes.now.table in
    rw (c.file_of-file.ensures, c.header_node.ensures, c.in-Open.is)
    (opens c.args.validity c.args.tree.now _
    (file_there c.args.tree.now t c.lemma_shaped.ensures c.requires.there c.in-Open.node)
    (rw c.in-Open.is at c.requires.unrefused))

pub returns-in-Unlink-clause-ok : goal.returns-in-Unlink-clause-ok
returns-in-Unlink-clause-ok g c = rw c.in-Unlink.is
    (rw (c.file_of-file.ensures, c.header_node.ensures, c.in-Unlink.is, c.deref-in-Unlink.ensures.value) at
    (c.remove_file.ensures c.args.validity))

pub returns-in-Rmdir-clause-ok : goal.returns-in-Rmdir-clause-ok
returns-in-Rmdir-clause-ok g c = rw c.in-Rmdir.is
    (rw (c.file_of-file.ensures, c.header_node.ensures, c.in-Rmdir.is, c.deref-in-Rmdir.ensures.value) at
    (c.remove_directory.ensures c.args.validity))
