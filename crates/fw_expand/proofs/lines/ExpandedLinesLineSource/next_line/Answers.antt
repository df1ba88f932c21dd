use Rattle.std.proofs.Common.{◌≡◌, [], ◌∷◌, rules, subst, sym}
use Rattle.fw_expand.specs.Expanding.{IsOver, begun, sayable}
use Rattle.fw_expand.specs.Given.{lines_in_turn, none_expanded}
use Rattle.fw_expand.specs.declared.rest.Rest.{Rest}
use Rattle.fw_expand.proofs.Taking.{none_given, none_moved, one_given, one_taken}
use Rattle.fw_expand.proofs.lines.ExpandedLinesLineSource.next_line.Goals as goal

pub loop-taken-init : goal.loop-taken-init
loop-taken-init g c = (search rules, none_expanded g.S.LineSource.gives g.met.S.LineSource.stays c.args.self.now)

pub returns-in-Ok-true-clause-given : goal.returns-in-Ok-true-clause-given
returns-in-Ok-true-clause-given g c =
    let (name, drops, given) = c.in-Ok-true.ensures.given in
    lines_in_turn g.S.LineSource.gives g.met.S.LineSource.goes_on c.args.self.now c.loop-taken.self c.give_next.new.self []
    (c.give_next.new.line.items ∷ []) c.loop-taken.invariant.1
    (one_given g.S.LineSource.gives g.met.S.LineSource.stays c.loop-taken.self c.give_next.new.self
    c.args.standing.is_forgetting name (g.V.KernelView.evicts c.args.kernel.now) c.give_next.new.line.items
    (rw c.in-Ok-true.field-0-test at given) c.give_next.ensures.same.0 c.give_next.ensures.same.1
    c.give_next.ensures.same.2)

pub returns-in-Ok-false-take_next-clause-given : goal.returns-in-Ok-false-take_next-clause-given
returns-in-Ok-false-take_next-clause-given g c =
    let gives = g.S.LineSource.gives in
    let first = c.args.self.now in
    let mid = c.loop-taken.self in
    let next = c.give_next.new.self in
    let last = c.take_next.new.self in
    let forgetting = c.args.standing.is_forgetting in
    let evictable = g.V.KernelView.evicts c.args.kernel.now in
    let (name, drops, ends) = c.in-Ok-false.ensures.given in
    let (over, rest) : IsOver (forgetting, sayable name, evictable) mid.rest × (next.rest ≡ mid.rest) =
    rw c.in-Ok-false.field-0-test at ends in
    let (gave, ended, text, kept) : gives next.source last.source [] × g.S.LineSource.is_over last.source
    × (last.text.items ≡ next.text.items) × (last.rest ≡ next.rest) =
    rw c.in-Ok-false-take_next.field-0-test at c.in-Ok-false-take_next.ensures.taken in (
      lines_in_turn gives g.met.S.LineSource.goes_on first mid last [] [] c.loop-taken.invariant.1
          (lines_in_turn gives g.met.S.LineSource.goes_on mid next last [] []
          (none_moved gives g.met.S.LineSource.stays mid next c.give_next.ensures.same.0 c.give_next.ensures.same.1 rest
          c.give_next.ensures.same.2)
          (none_given gives g.met.S.LineSource.stays next last gave text kept c.take_next.ensures.same)),
      ended,
    )

pub loop-taken-preserved : goal.loop-taken-preserved
loop-taken-preserved g c =
    let gives = g.S.LineSource.gives in
    let first = c.args.self.now in
    let mid = c.loop-taken.self in
    let next = c.give_next.new.self in
    let last = c.take_next.new.self in
    let leads = g.V.KernelView.leads c.args.kernel.now in
    let forgetting = c.args.standing.is_forgetting in
    let evictable = g.V.KernelView.evicts c.args.kernel.now in
    let (name, drops, ends) = c.in-Ok-false.ensures.given in
    let (over, rest) : IsOver (forgetting, sayable name, evictable) mid.rest × (next.rest ≡ mid.rest) =
    rw c.in-Ok-false.field-0-test at ends in
    let (gave, begins) : gives next.source last.source (last.raw.items ∷ [])
    × ((last.text.items, last.rest) ≡ begun leads next.is_of_calls last.raw.items) =
    rw c.in-Ok-true-take_next.field-0-test at c.in-Ok-true-take_next.ensures.taken in (
      search rules,
      lines_in_turn gives g.met.S.LineSource.goes_on first mid last [] [] c.loop-taken.invariant.1
          (lines_in_turn gives g.met.S.LineSource.goes_on mid next last [] []
          (none_moved gives g.met.S.LineSource.stays mid next c.give_next.ensures.same.0 c.give_next.ensures.same.1 rest
          c.give_next.ensures.same.2)
          (one_taken gives g.met.S.LineSource.stays next last forgetting name evictable
          (subst (λ (r : Rest). IsOver (forgetting, sayable name, evictable) r) (sym rest) over) leads last.raw.items gave begins
          c.take_next.ensures.same)),
    )
