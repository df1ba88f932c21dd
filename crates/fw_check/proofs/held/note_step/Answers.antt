use Rattle.fw_check.proofs.held.note_step.Goals as goal

pub returns-in-More : goal.returns-in-More
returns-in-More g c = rw c.in-More.is c.raise.ensures

pub returns-in-Less : goal.returns-in-Less
returns-in-Less g c = rw c.in-Less.is c.lower.ensures
