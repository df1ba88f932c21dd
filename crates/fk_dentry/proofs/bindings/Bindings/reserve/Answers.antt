use Rattle.std.proofs.Common.{◌+◌, ◌≤◌, ap, sym, subst, ◌∙◌, arith, None, length, is_some}
use Rattle.fuse_spec.specs.Values.Maps.{Place, get_name, put_name}
use Rattle.fk_dentry.specs.Counts.{mentions_of, total_in}
use Rattle.fk_dentry.specs.Rows.{slots_of, bound_names, IsNameTable}
use Rattle.fk_dentry.proofs.BoundNames.{names-room, room-put, room_there}
use Rattle.fk_dentry.proofs.KeyedRows.{few_slots, unfound}
use Rattle.fk_dentry.proofs.TableLemmas.{table-room}
use Rattle.fk_dentry.proofs.bindings.Bindings.reserve.Goals as goal

pub invariant_of-self-2 : goal.invariant_of-self-2
invariant_of-self-2 g c =
    let slots = slots_of c.self.inside.rows.entries in
    let key : Place = (c.args.directory, c.args.name.now) in
    let none = sym c.slot.ensures ∙ unfound c.slot.result (sym c.is_some.ensures ∙ c.if-is_some.false) in
    let copied = c.in_ok-name.ensures.items_if_clones_equal (λ x y e. e) in
    let after = c.in_ok-add.ensures.slots ∙ ap (λ (p : Place). put_name slots p None) c.new.ensures
    ∙ ap (λ n. put_name slots (c.args.directory, n) None) copied in
    let nodes = c.reserve.new.self in
    let few = few_slots c.self.inside.rows.entries in
    let fits : length slots + 1 + (length slots + 1) ≤ nodes.most =
    omega (arith, few, c.len.ensures.len, c.in_ok-reserve.ensures.room) in
    subst (λ s. IsNameTable s (mentions_of nodes.counts.entries) (total_in nodes.counts.entries) nodes.most) (sym after)
    (subst (λ es. IsNameTable (put_name slots key None) (mentions_of es) (total_in es) nodes.most)
    (sym c.reserve.ensures.counts) (table-room key _ c.self.invariant none fits))

pub returns-clause-names : goal.returns-clause-names
returns-clause-names g c =
    let slots = slots_of c.self.inside.rows.entries in
    let key : Place = (c.args.directory, c.args.name.now) in
    let none = sym c.slot.ensures ∙ unfound c.slot.result (sym c.is_some.ensures ∙ c.if-is_some.false) in
    let copied = c.in_ok-name.ensures.items_if_clones_equal (λ x y e. e) in
    let after = c.in_ok-add.ensures.slots ∙ ap (λ (p : Place). put_name slots p None) c.new.ensures
    ∙ ap (λ n. put_name slots (c.args.directory, n) None) copied in
    rw (← c.self.view_is) (ap bound_names after ∙ names-room slots key c.self.invariant.sorted none)

pub returns-clause-room : goal.returns-clause-room
returns-clause-room g c =
    let slots = slots_of c.self.inside.rows.entries in
    let key : Place = (c.args.directory, c.args.name.now) in
    let copied = c.in_ok-name.ensures.items_if_clones_equal (λ x y e. e) in
    let after = c.in_ok-add.ensures.slots ∙ ap (λ (p : Place). put_name slots p None) c.new.ensures
    ∙ ap (λ n. put_name slots (c.args.directory, n) None) copied in
    ap (λ s. is_some (get_name s key)) after ∙ room_there slots key None

pub returns-clause-kept : goal.returns-clause-kept
returns-clause-kept g c =
    let slots = slots_of c.self.inside.rows.entries in
    let key : Place = (c.args.directory, c.args.name.now) in
    let copied = c.in_ok-name.ensures.items_if_clones_equal (λ x y e. e) in
    let after = c.in_ok-add.ensures.slots ∙ ap (λ (p : Place). put_name slots p None) c.new.ensures
    ∙ ap (λ n. put_name slots (c.args.directory, n) None) copied in
    rw (← c.self.view_is) (λ other some. ap (λ s. is_some (get_name s other)) after ∙ room-put slots key None other some)
