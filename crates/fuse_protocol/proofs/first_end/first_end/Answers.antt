use Rattle.std.proofs.Common.{sym}
use Rattle.fuse_protocol.proofs.Ends.{none_before, none_at_all}
use Rattle.fuse_protocol.proofs.first_end.first_end.Goals as goal

pub returns-then-ends : goal.returns-then-ends
returns-then-ends c = (
  c.bytes-test.true,
  none_before c.args.other c.args.bytes.now c.bytes.end c.bytes.invariant.0 c.bytes.invariant.1,
  sym c.if-ends.ensures,
)

pub returns : goal.returns
returns c = none_at_all c.args.other c.args.bytes.now c.bytes.end c.bytes-test.false c.bytes.invariant.1
