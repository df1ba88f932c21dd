use Rattle.fuse_frames.proofs.ReplyLemmas.{says, fits, init, empty}
use Rattle.fuse_frames.proofs.reply_frame.ReplyFrame.bytes.Goals as goal

pub returns-clause-written : goal.returns-clause-written
returns-clause-written g c = (c.self.inside.opcode, rw (c.deref.ensures.value, ← c.self.view_is) c.self.invariant)

pub returns-clause-frame : goal.returns-clause-frame
returns-clause-frame g c = (
  c.self.inside.opcode,
  rw (c.deref.ensures.value, ← c.self.view_is)
      (says c.self.inside.opcode c.self.inside.bytes.items _ c.self.invariant),
)

pub returns-clause-fits : goal.returns-clause-fits
returns-clause-fits g c operation e = rw (c.deref.ensures.value, ← c.self.view_is)
    (fits c.self.inside.opcode c.self.inside.bytes.items _ c.self.invariant operation (rw (← c.self.view_is) at e))

pub returns-clause-init : goal.returns-clause-init
returns-clause-init g c e = rw (c.deref.ensures.value, ← c.self.view_is)
    (init c.self.inside.opcode c.self.inside.bytes.items _ c.self.invariant (rw (← c.self.view_is) at e))

pub returns-clause-empty : goal.returns-clause-empty
returns-clause-empty g c e = rw (c.deref.ensures.value, ← c.self.view_is)
    (empty c.self.inside.opcode c.self.inside.bytes.items _ c.self.invariant (rw (← c.self.view_is) at e))
