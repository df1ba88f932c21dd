use Rattle.std.proofs.Common.{sym}
use Rattle.fuse_tables.proofs.Rows.{absent_is}
use Rattle.fk_opens.proofs.Counted.{closed_one}
use Rattle.fk_opens.proofs.open_files.OpenFiles.remove.Goals as goal

pub invariant_of-self : goal.invariant_of-self
invariant_of-self g c =
    let none = rw c.in_err-opened.was at c.remove.ensures.value in
    rw (c.remove.ensures.entries, absent_is c.self.inside.files.entries c.args.number (sym none)) c.self.invariant

pub invariant_of-self-2 : goal.invariant_of-self-2
invariant_of-self-2 g c =
    let there = rw c.in_ok-opened.was at c.remove.ensures.value in
    rw c.remove.ensures.entries
    (closed_one _ c.self.invariant _ c.args.number c.in_ok-opened.opened c.remove.ensures.sorted (sym there) c.take.ensures.less)
