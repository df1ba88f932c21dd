use Rattle.fuse_frames.proofs.sent.Sent.bytes.Goals as goal

pub returns-clause-written : goal.returns-clause-written
returns-clause-written g c = (c.bytes.ensures.written.0, rw (← c.self.view_is) c.bytes.ensures.written.1)

pub returns-clause-frame : goal.returns-clause-frame
returns-clause-frame g c = rw (← c.self.view_is) c.bytes.ensures.frame
