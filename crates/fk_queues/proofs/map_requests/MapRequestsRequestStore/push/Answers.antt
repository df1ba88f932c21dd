use Rattle.std.proofs.Common.{◌∙◌, ◌++◌, ◌∷◌, [], refl, sym, ap, subst, T}
use Rattle.std.specs.Ordering.{nat_cmp}
use Rattle.std.specs.FinMap.{is_sorted}
use Rattle.fuse_spec.specs.declared.Mark.TheVariants.{Unread}
use Rattle.fuse_spec.specs.declared.QueuedRequest.{QueuedRequest}
use Rattle.fk_queues.specs.Requests.{unread_numbers}
use Rattle.fk_queues.proofs.Requests.{above_absent, put_last, sorted_push, numbers_push}
use Rattle.fk_queues.proofs.map_requests.MapRequestsRequestStore.push.Goals as goal

pub put-requires-clause-absent : goal.put-requires-clause-absent
put-requires-clause-absent g c =
    above_absent c.self.inside.requests.entries c.args.unique (rw (← c.self.view_is) at c.requires.above)

pub invariant_of-self : goal.invariant_of-self
invariant_of-self g c =
    let es = c.self.inside.requests.entries in
    let above = rw (← c.self.view_is) at c.requires.above in
    let request : QueuedRequest _ = record { mark = Unread; kept = c.args.kept } in
    let last = c.put.ensures.entries ∙ put_last es c.args.unique request above in
    record {
      sorted = subst (λ new. T (is_sorted nat_cmp new)) (sym last)
          (sorted_push c.args.unique request es c.self.invariant.sorted above);
      numbers = c.push_back_reserved.ensures.items ∙ ap (λ ns. ns ++ c.args.unique ∷ []) c.self.invariant.numbers
          ∙ sym (numbers_push c.args.unique request es refl) ∙ ap unread_numbers (sym last);
    }

pub returns-clause-entries : goal.returns-clause-entries
returns-clause-entries g c =
    let above = rw (← c.self.view_is) at c.requires.above in
    let request : QueuedRequest _ = record { mark = Unread; kept = c.args.kept } in
    rw (← c.self.view_is) (c.put.ensures.entries ∙ put_last c.self.inside.requests.entries c.args.unique request above)
