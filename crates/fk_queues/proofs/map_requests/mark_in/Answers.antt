use Rattle.std.proofs.Common.{◌∙◌, sym, ap}
use Rattle.std.specs.Option.{option_copied_mut}
use Rattle.fuse_spec.proofs.QueueCounts.{set_mark-absent}
use Rattle.fuse_tables.proofs.Rows.{sorted_with}
use Rattle.fk_queues.proofs.Requests.{lookup_get, marked_put}
use Rattle.fk_queues.proofs.map_requests.mark_in.Goals as goal

pub returns-in-Some-clause-entries : goal.returns-in-Some-clause-entries
returns-in-Some-clause-entries g c =
    marked_put c.args.unique c.args.mark c.in-Some.request.now c.args.requests.now.entries c.get_mut.ensures.sorted
    (sym c.in-Some.ensures.value)

pub returns-in-Some-clause-sorted : goal.returns-in-Some-clause-sorted
returns-in-Some-clause-sorted g c =
    sorted_with c.args.requests.now.entries c.args.unique (record { mark = c.args.mark; kept = c.in-Some.request.now.kept })
    c.get_mut.ensures.sorted

pub returns-in_default-clause-entries : goal.returns-in_default-clause-entries
returns-in_default-clause-entries g c =
    let es = c.args.requests.now.entries in
    let none = sym c.get_mut.ensures.value ∙ ap option_copied_mut c.in_default.is in
    sym (set_mark-absent c.args.unique es c.args.mark (lookup_get es c.args.unique ∙ none))
