use Rattle.std.proofs.Common.{rules, ◌≡◌}
use Rattle.fuse_text.proofs.Writes.{some_either}
use Rattle.fw_orders.specs.Stops.{fault_words}
use Rattle.fw_orders.proofs.stop.Stop.report.Goals as goal

pub returns-in-BadLine-clause-said : goal.returns-in-BadLine-clause-said
returns-in-BadLine-clause-said g c =
    let same : c.words.result.now ≡ fault_words c.in-BadLine.fault = search rules in
    rw c.in-BadLine.is (rw same at c.bad_line.ensures.said)

pub returns-in-TooLong-clause-said : goal.returns-in-TooLong-clause-said
returns-in-TooLong-clause-said g c =
    rw c.in-TooLong.is (some_either c.write_text.result _ _ _ c.write_text.ensures.ok c.write_text.ensures.refused)

pub returns-in-NoSuchOrder-clause-said : goal.returns-in-NoSuchOrder-clause-said
returns-in-NoSuchOrder-clause-said g c =
    rw c.in-NoSuchOrder.is
    (some_either c.write_no_such.result _ _ _ c.write_no_such.ensures.ok c.write_no_such.ensures.refused)
