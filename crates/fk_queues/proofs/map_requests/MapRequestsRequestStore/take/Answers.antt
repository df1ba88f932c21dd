use Rattle.std.proofs.Common.{◌≡◌, ◌∙◌, sym, ap, subst, filter, not, nat_eq, T}
use Rattle.std.specs.Map.{remove_entry}
use Rattle.std.specs.Ordering.{nat_cmp}
use Rattle.std.specs.FinMap.{is_sorted}
use Rattle.fuse_tables.proofs.Rows.{sorted_without}
use Rattle.fk_queues.specs.Requests.{Rises, unread_numbers}
use Rattle.fk_queues.proofs.Places.{remove_entry-absent}
use Rattle.fk_queues.proofs.Requests.{lookup_get, numbers_rise, numbers_taken, remove_entry_is, removed_fewer}
use Rattle.fk_queues.proofs.map_requests.MapRequestsRequestStore.take.Goals as goal

pub invariant_of-self : goal.invariant_of-self
invariant_of-self g c =
    let es = c.self.inside.requests.entries in
    let unique = c.args.unique in
    let taken = c.remove.ensures.entries ∙ sym (remove_entry_is es unique c.self.invariant.sorted) in
    let none = lookup_get es unique ∙ sym c.in_default.ensures.value in
    let same = taken ∙ remove_entry-absent unique es none in
    record {
      sorted = subst (λ new. T (is_sorted nat_cmp new)) (sym same) c.self.invariant.sorted;
      numbers = c.self.invariant.numbers ∙ ap unread_numbers (sym same);
    }

pub returns-in_default-clause-value : goal.returns-in_default-clause-value
returns-in_default-clause-value g c =
    rw (← c.self.view_is) (c.in_default.ensures.value ∙ sym (lookup_get c.self.inside.requests.entries c.args.unique))

pub returns-in_default-clause-entries : goal.returns-in_default-clause-entries
returns-in_default-clause-entries g c =
    rw (← c.self.view_is) (c.remove.ensures.entries
    ∙ sym (remove_entry_is c.self.inside.requests.entries c.args.unique c.self.invariant.sorted))

pub returns-in_default-clause-len : goal.returns-in_default-clause-len
returns-in_default-clause-len g c =
    let es = c.self.inside.requests.entries in
    let taken = c.remove.ensures.entries ∙ sym (remove_entry_is es c.args.unique c.self.invariant.sorted) in
    rw (← c.self.view_is, taken) (removed_fewer c.args.unique es)

pub drop_number-requires : goal.drop_number-requires
drop_number-requires g c =
    subst Rises (sym c.self.invariant.numbers) (numbers_rise c.self.inside.requests.entries c.self.invariant.sorted)

pub invariant_of-self-2 : goal.invariant_of-self-2
invariant_of-self-2 g c =
    let es = c.self.inside.requests.entries in
    let unique = c.args.unique in
    let sorted = c.self.invariant.sorted in
    let taken = c.remove.ensures.entries ∙ sym (remove_entry_is es unique sorted) in
    record {
      sorted = subst (λ new. T (is_sorted nat_cmp new)) (sym c.remove.ensures.entries) (sorted_without es unique sorted);
      numbers = c.drop_number.ensures.items ∙ ap (filter (λ n. not (nat_eq unique n))) c.self.invariant.numbers
          ∙ sym (numbers_taken unique es sorted) ∙ ap unread_numbers (sym taken);
    }

pub returns-clause-value : goal.returns-clause-value
returns-clause-value g c =
    rw (← c.self.view_is) (c.in-Some.ensures.value ∙ sym (lookup_get c.self.inside.requests.entries c.args.unique))

pub returns-clause-entries : goal.returns-clause-entries
returns-clause-entries g c =
    rw (← c.self.view_is) (c.remove.ensures.entries
    ∙ sym (remove_entry_is c.self.inside.requests.entries c.args.unique c.self.invariant.sorted))

pub returns-clause-len : goal.returns-clause-len
returns-clause-len g c =
    let es = c.self.inside.requests.entries in
    let taken = c.remove.ensures.entries ∙ sym (remove_entry_is es c.args.unique c.self.invariant.sorted) in
    rw (← c.self.view_is, taken) (removed_fewer c.args.unique es)
