use Rattle.std.proofs.Common.{sym}
use Rattle.fk_fields.proofs.Names.{found_at, found_nowhere}
use Rattle.fk_fields.proofs.fields.name_end_in.Goals as goal

pub returns-then-ends_a_name : goal.returns-then-ends_a_name
returns-then-ends_a_name c = found_at c.args.bytes.now c.bytes.end c.bytes-test.true c.bytes.invariant.1
    (sym c.if-ends_a_name.ensures)

pub returns : goal.returns
returns c = found_nowhere c.args.bytes.now c.bytes.end c.bytes-test.false c.bytes.invariant.0 c.bytes.invariant.1
