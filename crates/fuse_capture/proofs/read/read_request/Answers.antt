use Rattle.std.proofs.Common.{length, ap, arith}
use Rattle.fuse_capture.proofs.LineLaws.{request_fault, request_left, request_reads}
use Rattle.fuse_text.proofs.Splitting.{words_of_some}
use Rattle.fuse_capture.proofs.read.read_request.Goals as goal

pub returns-in-Ok-default-Some : goal.returns-in-Ok-default-Some
returns-in-Ok-default-Some c =
    let reads = rw c.in-Ok-default-Some.field-0-1-is at c.in-Ok-default-Some.ensures in
    let some = words_of_some c.in-Ok-default-Some.field-0-1-0.now in
    request_left _ _ _ reads (λ none. let nothing = ap length none in omega (arith, some, nothing))

pub returns-in-Ok-default-None : goal.returns-in-Ok-default-None
returns-in-Ok-default-None c =
    let reads = rw c.in-Ok-default-None.field-0-1-is at c.in-Ok-default-None.ensures in
    request_reads _ _ reads

pub returns-in-Err : goal.returns-in-Err
returns-in-Err c = request_fault _ c.in-Err.fault c.in-Err.ensures
