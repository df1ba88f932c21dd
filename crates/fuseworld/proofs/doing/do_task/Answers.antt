use Rattle.fuseworld.proofs.doing.do_task.Goals as goal

pub returns-in-Script-clause-statuses : goal.returns-in-Script-clause-statuses
returns-in-Script-clause-statuses g c = rw c.in-Script.is c.run_script.ensures.statuses

pub returns-in-Script-clause-does : goal.returns-in-Script-clause-does
returns-in-Script-clause-does g c = rw c.in-Script.is c.run_script.ensures

pub returns-in-Picture-clause-statuses : goal.returns-in-Picture-clause-statuses
returns-in-Picture-clause-statuses g c = rw c.in-Picture.is c.draw_script.ensures.statuses

pub returns-in-Picture-clause-does : goal.returns-in-Picture-clause-does
returns-in-Picture-clause-does g c = rw c.in-Picture.is c.draw_script.ensures

pub returns-in-Frame-clause-statuses : goal.returns-in-Frame-clause-statuses
returns-in-Frame-clause-statuses g c = rw c.in-Frame.is c.run_frame.ensures.statuses

pub returns-in-Frame-clause-does : goal.returns-in-Frame-clause-does
returns-in-Frame-clause-does g c = rw c.in-Frame.is c.run_frame.ensures

pub returns-in-AnyFrame-clause-statuses : goal.returns-in-AnyFrame-clause-statuses
returns-in-AnyFrame-clause-statuses g c = rw c.in-AnyFrame.is c.run_any_frame.ensures.statuses

pub returns-in-AnyFrame-clause-does : goal.returns-in-AnyFrame-clause-does
returns-in-AnyFrame-clause-does g c = rw c.in-AnyFrame.is c.run_any_frame.ensures

pub returns-in-AnyReply-clause-statuses : goal.returns-in-AnyReply-clause-statuses
returns-in-AnyReply-clause-statuses g c = rw c.in-AnyReply.is c.run_any_reply.ensures.statuses

pub returns-in-AnyReply-clause-does : goal.returns-in-AnyReply-clause-does
returns-in-AnyReply-clause-does g c = rw c.in-AnyReply.is c.run_any_reply.ensures.ends

pub returns-in-Reply-clause-statuses : goal.returns-in-Reply-clause-statuses
returns-in-Reply-clause-statuses g c = rw c.in-Reply.is c.run_reply.ensures.statuses

pub returns-in-Reply-clause-does : goal.returns-in-Reply-clause-does
returns-in-Reply-clause-does g c = rw c.in-Reply.is c.run_reply.ensures

pub returns-in-Vectors-clause-statuses : goal.returns-in-Vectors-clause-statuses
returns-in-Vectors-clause-statuses g c = rw c.in-Vectors.is c.print_vectors.ensures.statuses

pub returns-in-Vectors-clause-does : goal.returns-in-Vectors-clause-does
returns-in-Vectors-clause-does g c = rw c.in-Vectors.is c.print_vectors.ensures

pub returns-in-AllVectors-clause-statuses : goal.returns-in-AllVectors-clause-statuses
returns-in-AllVectors-clause-statuses g c = rw c.in-AllVectors.is c.print_all_vectors.ensures.statuses

pub returns-in-AllVectors-clause-does : goal.returns-in-AllVectors-clause-does
returns-in-AllVectors-clause-does g c = rw c.in-AllVectors.is c.print_all_vectors.ensures
