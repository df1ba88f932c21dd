use Rattle.std.proofs.Common.{[], ◌∷◌}
use Rattle.fk_drive.specs.declared.noted.Noted.TheVariants.{NoOpendirReply}
use Rattle.fk_drive.proofs.opening.note_no_reply.Goals as goal

pub returns-then-is_under-clause-noted : goal.returns-then-is_under-clause-noted
returns-then-is_under-clause-noted g c = (NoOpendirReply c.args.own ∷ [], c.note.ensures)

pub returns-else-is_under-clause-noted : goal.returns-else-is_under-clause-noted
returns-else-is_under-clause-noted g c = ([], g.met.N.Notes.stays c.args.notes.now c.args.out.now)
