use Rattle.std.proofs.Common.{sym}
use Rattle.fw_capture.proofs.Writing.{not_written, refused_at, written_whole}
use Rattle.fw_capture.proofs.captured.CapturedDevice.write.Goals as goal

pub returns-then-not-self-clause-written : goal.returns-then-not-self-clause-written
returns-then-not-self-clause-written g c = not_written _ _ _ _ c.if-not-self.true

pub returns-then-is_err-clause-written : goal.returns-then-is_err-clause-written
returns-then-is_err-clause-written g c =
    refused_at c.write_line-written.result _ _ _ _ _ _ _ c.if-not-self.false c.write_line-written.ensures
    c.flush-flushed.ensures.bytes

pub returns-else-is_err-2-clause-written : goal.returns-else-is_err-2-clause-written
returns-else-is_err-2-clause-written g c =
    written_whole c.write_line-written.result c.flush-flushed.result _ _ _ _ _ _ _ c.if-not-self.false
    c.write_line-written.ensures c.flush-flushed.ensures.bytes (sym c.if-is_err.ensures.value)
    (sym c.if-is_err-2.ensures.value) c.flush-flushed.ensures.ok
