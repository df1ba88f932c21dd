use Rattle.fuseworld.proofs.Statuses.{captured_three, of_capture}
use Rattle.fuseworld.proofs.serve.serve_to_file.Goals as goal

pub returns-in-Ok : goal.returns-in-Ok
returns-in-Ok c = of_capture c.args.task.is_checked c.serve_place.result c.serve_place.ensures

pub returns-in-Err : goal.returns-in-Err
returns-in-Err c = captured_three c.args.task.is_checked c.no_memory.result c.no_memory.ensures.status
