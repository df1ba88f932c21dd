use Rattle.fuseworld.proofs.Statuses.{is_out_of_memory}
use Rattle.fuseworld.proofs.capture.read_input.Goals as goal

pub returns-in-Err : goal.returns-in-Err
returns-in-Err c = is_out_of_memory c.args.task c.no_memory.result c.no_memory.ensures.status
