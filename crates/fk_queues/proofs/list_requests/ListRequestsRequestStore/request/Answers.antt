use Rattle.std.proofs.Common.{◌≡◌, rules, sym, nat_eq, get_or, Some, None}
use Rattle.std.specs.List.{position}
use Rattle.fk_queues.proofs.Places.{is_first-position, lookup-first, lookup-no_place}
use Rattle.fk_queues.proofs.list_requests.ListRequestsRequestStore.request.Goals as goal

pub returns-in_err-place : goal.returns-in_err-place
returns-in_err-place g c =
    let es = c.args.self.now.requests.items in
    let none : position (λ e. nat_eq c.args.unique e.0) es ≡ None = search rules in
    let absent = lookup-no_place c.args.unique es none in
    search (rules, absent)

pub returns : goal.returns
returns g c =
    let es = c.args.self.now.requests.items in
    let d = c.index.result.now in
    let place = c.in_ok-place.place in
    let at : position (λ e. nat_eq c.args.unique e.0) es ≡ Some place = search rules in
    let there : get_or es place d ≡ d = search rules in
    let found = lookup-first c.args.unique d es place (is_first-position c.args.unique d es place at) in
    sym (rw there at found)
