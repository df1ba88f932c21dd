use Rattle.std.proofs.Common.{arith, sym}
use Rattle.fuse_sessions.specs.Frames.{number_in}
use Rattle.fw_check.proofs.CutNumbers.{has_none, has_some, test_none, test_some}
use Rattle.fw_check.proofs.number_in.has_cut_number.Goals as goal

pub returns-then-bytes-place-ne0 : goal.returns-then-bytes-place-ne0
returns-then-bytes-place-ne0 c =
    sym (test_some (number_in c.args.bytes.now)
    (has_some c.args.bytes.now c.loop-place.place c.loop-place.auto.place (omega arith) c.if-bytes-place-ne0.true))

pub returns : goal.returns
returns c =
    sym (test_none (number_in c.args.bytes.now)
    (has_none c.args.bytes.now (λ k from to. c.loop-place.invariant k from (omega arith))))
