use Rattle.std.proofs.Common.{◌≡◌, rules, ap, sym, ◌∙◌, nat_eq, get_or, Some, None}
use Rattle.std.specs.List.{position}
use Rattle.fk_queues.proofs.Places.{is_first-position, lookup-first, remove_entry-first, lookup-no_place, remove_entry-absent}
use Rattle.fk_queues.proofs.list_requests.ListRequestsRequestStore.take.Goals as goal

pub returns-in_err-place-clause-value : goal.returns-in_err-place-clause-value
returns-in_err-place-clause-value g c =
    let es = c.args.self.now.requests.items in
    let none : position (λ e. nat_eq c.args.unique e.0) es ≡ None = search rules in
    let absent = lookup-no_place c.args.unique es none in
    search (rules, absent)

pub returns-in_err-place-clause-entries : goal.returns-in_err-place-clause-entries
returns-in_err-place-clause-entries g c =
    let es = c.args.self.now.requests.items in
    let none : position (λ e. nat_eq c.args.unique e.0) es ≡ None = search rules in
    sym (remove_entry-absent c.args.unique es (lookup-no_place c.args.unique es none))

pub returns-clause-value : goal.returns-clause-value
returns-clause-value g c =
    let es = c.args.self.now.requests.items in
    let d = c.remove-unique.result in
    let place = c.in_ok-place.place in
    let at : position (λ e. nat_eq c.args.unique e.0) es ≡ Some place = search rules in
    let there : d ≡ get_or es place d = search rules in
    let found = lookup-first c.args.unique d es place (is_first-position c.args.unique d es place at) in
    ap (λ e. Some e.1) there ∙ sym found

pub returns-clause-entries : goal.returns-clause-entries
returns-clause-entries g c =
    let es = c.args.self.now.requests.items in
    let d = c.remove-unique.result in
    let place = c.in_ok-place.place in
    let at : position (λ e. nat_eq c.args.unique e.0) es ≡ Some place = search rules in
    c.remove-unique.ensures.items ∙ sym (remove_entry-first c.args.unique d es place
    (is_first-position c.args.unique d es place at))
