use Rattle.fuse_tables.proofs.Rows.{read_there}
use Rattle.fuse_tables.proofs.table.Table.get.Goals as goal

pub returns : goal.returns
returns g c =
    let there = rw c.in_ok-place.was at c.find_in.ensures in
    rw (← c.self.view_is) (read_there c.self.inside.rows.items c.deref.result.now c.args.key c.in_ok-place.place c.index.result.now c.self.invariant c.deref.ensures.value there c.index.ensures)
