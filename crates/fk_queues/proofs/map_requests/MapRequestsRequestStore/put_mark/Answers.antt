use Rattle.std.proofs.Common.{◌≡◌, ◌∙◌, rules, sym, ap, subst, filter, not, nat_eq, false, true, length}
use Rattle.fuse_spec.specs.Kernel.Queues.{is_unread}
use Rattle.fuse_spec.proofs.QueueCounts.{length-set_mark}
use Rattle.fk_queues.specs.Requests.{Rises, unread_numbers}
use Rattle.fk_queues.proofs.Requests.{numbers_read, numbers_flagged, numbers_rise}
use Rattle.fk_queues.proofs.map_requests.MapRequestsRequestStore.put_mark.Goals as goal

pub drop_number-requires : goal.drop_number-requires
drop_number-requires g c =
    subst Rises (sym c.self.invariant.numbers) (numbers_rise c.self.inside.requests.entries c.self.invariant.sorted)

pub invariant_of-self : goal.invariant_of-self
invariant_of-self g c =
    let es = c.self.inside.requests.entries in
    let read : is_unread c.args.mark ≡ false = search rules in
    record {
      sorted = c.mark_in.ensures.sorted;
      numbers = c.drop_number.ensures.items ∙ ap (filter (λ n. not (nat_eq c.args.unique n))) c.self.invariant.numbers
          ∙ sym (numbers_read c.args.unique c.args.mark es c.self.invariant.sorted read)
          ∙ ap unread_numbers (sym c.mark_in.ensures.entries);
    }

pub invariant_of-self-else-not-is_unread : goal.invariant_of-self-else-not-is_unread
invariant_of-self-else-not-is_unread g c =
    let es = c.self.inside.requests.entries in
    let unread : is_unread c.args.mark ≡ true = search rules in
    let was = rw (← c.self.view_is) at (c.requires unread) in
    record {
      sorted = c.mark_in.ensures.sorted;
      numbers = c.self.invariant.numbers ∙ sym (numbers_flagged c.args.unique c.args.mark es unread was)
          ∙ ap unread_numbers (sym c.mark_in.ensures.entries);
    }

pub returns-then-not-is_unread-clause-len : goal.returns-then-not-is_unread-clause-len
returns-then-not-is_unread-clause-len g c =
    rw (← c.self.view_is) (ap length c.mark_in.ensures.entries
    ∙ length-set_mark c.args.unique c.self.inside.requests.entries c.args.mark)

pub returns-else-not-is_unread-clause-len : goal.returns-else-not-is_unread-clause-len
returns-else-not-is_unread-clause-len g c =
    rw (← c.self.view_is) (ap length c.mark_in.ensures.entries
    ∙ length-set_mark c.args.unique c.self.inside.requests.entries c.args.mark)
