use Rattle.fuseworld.proofs.Statuses.{is_out_of_memory, is_unreadable}
use Rattle.fuseworld.proofs.capture.not_read.Goals as goal

pub returns-then-eq : goal.returns-then-eq
returns-then-eq c = is_out_of_memory c.args.task c.no_memory.result c.no_memory.ensures.status

pub returns : goal.returns
returns c = is_unreadable c.args.task c.cannot_open.result c.cannot_open.ensures
