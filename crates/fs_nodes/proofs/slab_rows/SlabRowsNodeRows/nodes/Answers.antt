use Rattle.std.proofs.Common.{arith}
use Rattle.fs_nodes.proofs.Slots.{small_entries, file_there}
use Rattle.fs_nodes.proofs.slab_rows.SlabRowsNodeRows.nodes.Goals as goal

pub list_nodes-requires : goal.list_nodes-requires
list_nodes-requires g c =
    let self = c.args.self.now in
    small_entries 0 self.nodes.slots (λ place some.
    let there = file_there self.nodes.slots place some in
    let small = self.small there.0 place (self.inverse.named there.0 place there.1) in
    omega arith)
