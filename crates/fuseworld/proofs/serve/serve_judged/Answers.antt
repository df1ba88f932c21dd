use Rattle.fuseworld.proofs.Statuses.{served_with}
use Rattle.fuseworld.proofs.serve.serve_judged.Goals as goal

pub returns : goal.returns
returns g c =
    served_with c.args.task.is_checked c.serve_device-status.result c.status_with.result c.if-not-task.false
    c.serve_device-status.ensures.statuses c.status_with.ensures.either
