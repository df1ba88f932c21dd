use Rattle.fk_lookup_count.proofs.SlotLemmas.{nodes-empty}
use Rattle.fk_lookup_count.proofs.counts.CountsOfCountTable.new.Goals as goal

pub returns : goal.returns
returns g c = rw c.new.ensures nodes-empty
