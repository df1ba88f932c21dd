use Rattle.fk_wire.proofs.RecordLists.{dirents_read, names_are, known_records}
use Rattle.fk_wire.proofs.records.Records.over_known.Goals as goal

pub invariant_of-result : goal.invariant_of-result
invariant_of-result c = let known = known_records c.requires.0 c.args.bytes.now c.args.count c.requires.1 c.requires.2 in
    record { ends = known.0; named = known.1 }

pub returns : goal.returns
returns c = let known = known_records c.requires.0 c.args.bytes.now c.args.count c.requires.1 c.requires.2 in
    (names_are c.args.count 0 c.args.bytes.now known.1, dirents_read c.args.count 0 c.args.bytes.now known.0)
