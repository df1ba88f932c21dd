use Rattle.fuse_tables.proofs.LateEntries.{sorted_entries}
use Rattle.fuse_tables.proofs.rising.RisingTable.lemma_sound.Goals as goal

pub returns-clause-sorted : goal.returns-clause-sorted
returns-clause-sorted g c = rw (← c.self.view_is) (sorted_entries c.self.invariant.kept)
