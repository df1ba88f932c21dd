use Rattle.fuse_capture.proofs.LineLaws.{written_fault, written_left, written_reads}
use Rattle.fuse_capture.proofs.read.read_written.Goals as goal

pub returns-in-Err : goal.returns-in-Err
returns-in-Err c = written_fault _ c.in-Err.fault c.in-Err.ensures

pub returns-in-None : goal.returns-in-None
returns-in-None c = written_left _ _ _ c.in-Ok.ensures c.in-None.ensures

pub returns-in-Some : goal.returns-in-Some
returns-in-Some c = written_reads _ _ _ _ c.in-Ok.ensures c.in-Some.ensures
