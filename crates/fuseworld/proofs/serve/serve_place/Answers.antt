use Rattle.fuseworld.proofs.Statuses.{served_four}
use Rattle.fuseworld.proofs.serve.serve_place.Goals as goal

pub returns : goal.returns
returns c = served_four c.args.task.is_checked c.no_socket.result c.no_socket.ensures
