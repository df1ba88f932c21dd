use Rattle.std.proofs.Common.{ap, length, arith}
use Rattle.fk_syscalls.proofs.RowsLemmas.{length-dirents_of}
use Rattle.fk_syscalls.proofs.listing.Listing.len.Goals as goal

pub returns : goal.returns
returns g c =
    let same = ap length c.self.view_is in
    omega (arith, same, length-dirents_of c.self.inside.rows.items c.self.inside.bytes.items)
