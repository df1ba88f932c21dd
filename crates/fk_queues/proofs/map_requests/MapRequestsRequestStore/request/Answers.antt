use Rattle.std.proofs.Common.{◌∙◌, sym}
use Rattle.fk_queues.proofs.Requests.{lookup_get}
use Rattle.fk_queues.proofs.map_requests.MapRequestsRequestStore.request.Goals as goal

pub returns : goal.returns
returns g c =
    rw (← c.self.view_is) (c.get.ensures ∙ sym (lookup_get c.self.inside.requests.entries c.args.unique))
