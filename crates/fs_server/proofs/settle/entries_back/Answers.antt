use Rattle.std.proofs.Common.{refl}
use Rattle.fs_server.proofs.Entries.{back_on, entry_at}
use Rattle.fs_server.proofs.DiscardsUnheld.{counts_on, discards_none}
use Rattle.fs_server.proofs.settle.entries_back.Goals as goal

pub loop-entry-init : goal.loop-entry-init
loop-entry-init g c = (refl, discards_none c.args.files.now c.requires)

pub loop-entry-preserved : goal.loop-entry-preserved
loop-entry-preserved g c =
    let files = c.loop-entry.files in
    let new = c.entry_back.new.files in
    let entries = c.args.entries.now in
    let at = c.loop-entry.entry-index in
    let one = c.entry_back.ensures in (
      back_on files.nodes new.nodes entries at c.loop-entry-test.true _ one.nodes_are c.loop-entry.invariant.0,
      counts_on c.args.files.now files new (entry_at entries at) c.loop-entry.invariant.1 one,
    )
