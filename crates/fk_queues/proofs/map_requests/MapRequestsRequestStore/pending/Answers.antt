use Rattle.std.proofs.Common.{◌∙◌, sym, ap, option_map, slice_get}
use Rattle.fk_queues.proofs.Requests.{request_at_number, none_at}
use Rattle.fk_queues.proofs.map_requests.MapRequestsRequestStore.pending.Goals as goal

pub returns-in_default : goal.returns-in_default
returns-in_default g c =
    let es = c.self.inside.requests.entries in
    rw (← c.self.view_is) (none_at es c.args.place (ap (λ ns. slice_get ns c.args.place) (sym c.self.invariant.numbers)
    ∙ sym c.in_default.ensures))

pub returns : goal.returns
returns g c =
    let es = c.self.inside.requests.entries in
    let unique = c.in-Some.unique in
    let at = ap (λ ns. slice_get ns c.args.place) (sym c.self.invariant.numbers) ∙ sym c.in-Some.ensures in
    let there = request_at_number es c.args.place unique c.self.invariant.sorted at in
    rw (← c.self.view_is) (ap (option_map (λ r. (unique, r))) c.in-Some-get.ensures ∙ sym there)

pub returns-in_default-get : goal.returns-in_default-get
returns-in_default-get g c =
    let es = c.self.inside.requests.entries in
    let unique = c.in-Some.unique in
    let at = ap (λ ns. slice_get ns c.args.place) (sym c.self.invariant.numbers) ∙ sym c.in-Some.ensures in
    let there = request_at_number es c.args.place unique c.self.invariant.sorted at in
    rw (← c.self.view_is) (ap (option_map (λ r. (unique, r))) c.in_default-get.ensures ∙ sym there)
