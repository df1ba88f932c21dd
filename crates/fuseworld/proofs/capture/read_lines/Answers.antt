use Rattle.fuseworld.proofs.Statuses.{is_out_of_memory}
use Rattle.fuseworld.proofs.capture.read_lines.Goals as goal

pub returns-in_default : goal.returns-in_default
returns-in_default g c = is_out_of_memory c.args.task c.no_memory.result c.no_memory.ensures.status
