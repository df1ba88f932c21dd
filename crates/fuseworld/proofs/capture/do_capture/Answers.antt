use Rattle.fuseworld.proofs.capture.do_capture.Goals as goal

pub returns-in-Check-clause-does : goal.returns-in-Check-clause-does
returns-in-Check-clause-does g c = rw c.in-Check.is c.run_check.ensures

pub returns-in-Sequence-clause-statuses : goal.returns-in-Sequence-clause-statuses
returns-in-Sequence-clause-statuses g c = rw c.in-Sequence.is c.draw_capture.ensures.statuses

pub returns-in-Sequence-clause-does : goal.returns-in-Sequence-clause-does
returns-in-Sequence-clause-does g c = rw c.in-Sequence.is c.draw_capture.ensures
