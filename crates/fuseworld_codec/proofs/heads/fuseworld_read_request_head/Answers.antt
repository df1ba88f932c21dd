use Rattle.fuseworld_codec.proofs.heads.fuseworld_read_request_head.Goals as goal

pub returns-in-Err-clause-fault : goal.returns-in-Err-clause-fault
returns-in-Err-clause-fault c = λ m h. (c.in-Err.fault, c.number.ensures, c.in-Err.ensures.fault m)
