use Rattle.std.proofs.Common.{◌≡◌, rules, sym, nat_eq, get_or, Some, None}
use Rattle.std.specs.List.{position}
use Rattle.fuse_spec.proofs.QueueCounts.{set_mark-absent}
use Rattle.fk_queues.proofs.Places.{is_first-position, set_mark-first, lookup-no_place}
use Rattle.fk_queues.proofs.list_requests.ListRequestsRequestStore.put_mark.Goals as goal

pub returns-in-Some-clause-entries : goal.returns-in-Some-clause-entries
returns-in-Some-clause-entries g c =
    let es = c.args.self.now.requests.items in
    let d = c.index_mut.result.now in
    let at : position (λ e. nat_eq c.args.unique e.0) es ≡ Some c.in-Some.place = search rules in
    let there : get_or es c.in-Some.place d ≡ d = search rules in
    let set = set_mark-first c.args.unique d es c.in-Some.place c.args.mark
    (is_first-position c.args.unique d es c.in-Some.place at) in
    sym (rw there at set)

pub returns-in_default-clause-entries : goal.returns-in_default-clause-entries
returns-in_default-clause-entries g c =
    let es = c.args.self.now.requests.items in
    let none : position (λ e. nat_eq c.args.unique e.0) es ≡ None = search rules in
    sym (set_mark-absent c.args.unique es c.args.mark (lookup-no_place c.args.unique es none))
