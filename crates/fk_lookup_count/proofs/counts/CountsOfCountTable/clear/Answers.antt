use Rattle.fk_lookup_count.proofs.SlotLemmas.{nodes-empty}
use Rattle.fk_lookup_count.proofs.counts.CountsOfCountTable.clear.Goals as goal

pub returns : goal.returns
returns g c = rw c.clear.ensures nodes-empty
