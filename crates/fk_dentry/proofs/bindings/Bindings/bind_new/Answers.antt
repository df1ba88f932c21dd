use Rattle.std.proofs.Common.{◌+◌, ◌≤◌, ap, sym, subst, ◌∙◌, arith, Some, None, length, is_some}
use Rattle.fuse_spec.specs.Values.Maps.{Place, get_name, put_name, remove_name}
use Rattle.fk_dentry.specs.Counts.{mentions_of, total_in}
use Rattle.fk_dentry.specs.Rows.{slots_of, bound_names, bound_in, IsNameTable}
use Rattle.fk_dentry.proofs.BoundNames.{get-names, names-put, room-put, room_there, sorted_names}
use Rattle.fk_dentry.proofs.KeyedRows.{few_slots}
use Rattle.fk_dentry.proofs.Restored.{restored-put}
use Rattle.fk_dentry.proofs.TableLemmas.{new_fits, table-new}
use Rattle.fk_dentry.proofs.bindings.Bindings.bind_new.Goals as goal

pub enter-requires : goal.enter-requires
enter-requires g c =
    let few = few_slots c.self.inside.rows.entries in
    let fits = new_fits c.self.invariant in
    let len = c.len.ensures.len in
    let room = c.in_ok-reserve.ensures.room in
    let total = ap total_in c.reserve.ensures.counts in
    omega (arith, few, fits, len, room, total)

pub invariant_of-self-2 : goal.invariant_of-self-2
invariant_of-self-2 g c =
    let slots = slots_of c.self.inside.rows.entries in
    let key : Place = (c.args.directory, c.args.name.now) in
    let none = rw (← c.self.view_is) at c.requires in
    let copied = c.in_ok-name.ensures.items_if_clones_equal (λ x y e. e) in
    let after = c.in_ok-add.ensures.slots ∙ ap (λ (p : Place). put_name slots p (Some c.args.dentry)) c.new.ensures
    ∙ ap (λ n. put_name slots (c.args.directory, n) (Some c.args.dentry)) copied in
    let nodes = c.enter.new.self in
    let few = few_slots c.self.inside.rows.entries in
    let most = c.enter.ensures.most in
    let fits : length slots + 1 + (length slots + 1) ≤ nodes.most =
    omega (arith, few, c.len.ensures.len, c.in_ok-reserve.ensures.room, most) in
    let count = rw (c.reserve.ensures.counts) at c.enter.ensures.count in
    let total = rw (c.reserve.ensures.counts) at c.enter.ensures.total in
    subst (λ s. IsNameTable s (mentions_of nodes.counts.entries) (total_in nodes.counts.entries) nodes.most) (sym after)
    (table-new key (Some c.args.dentry) (mentions_of nodes.counts.entries) (total_in nodes.counts.entries) nodes.most
    c.self.invariant none count total fits)

pub returns-clause-unbound : goal.returns-clause-unbound
returns-clause-unbound g c =
    let slots = slots_of c.self.inside.rows.entries in
    let key : Place = (c.args.directory, c.args.name.now) in
    let none = rw (← c.self.view_is) at c.requires in
    rw (← c.self.view_is) (get-names slots c.self.invariant.sorted key ∙ ap bound_in none)

pub returns-clause-names : goal.returns-clause-names
returns-clause-names g c =
    let slots = slots_of c.self.inside.rows.entries in
    let key : Place = (c.args.directory, c.args.name.now) in
    let copied = c.in_ok-name.ensures.items_if_clones_equal (λ x y e. e) in
    let after = c.in_ok-add.ensures.slots ∙ ap (λ (p : Place). put_name slots p (Some c.args.dentry)) c.new.ensures
    ∙ ap (λ n. put_name slots (c.args.directory, n) (Some c.args.dentry)) copied in
    rw (← c.self.view_is) (ap bound_names after ∙ names-put slots key c.args.dentry c.self.invariant.sorted)

pub returns-clause-undone : goal.returns-clause-undone
returns-clause-undone g c =
    let slots = slots_of c.self.inside.rows.entries in
    let key : Place = (c.args.directory, c.args.name.now) in
    let sorted = c.self.invariant.sorted in
    let none = rw (← c.self.view_is) at c.requires in
    let copied = c.in_ok-name.ensures.items_if_clones_equal (λ x y e. e) in
    let after = c.in_ok-add.ensures.slots ∙ ap (λ (p : Place). put_name slots p (Some c.args.dentry)) c.new.ensures
    ∙ ap (λ n. put_name slots (c.args.directory, n) (Some c.args.dentry)) copied in
    let bound = ap bound_names after ∙ names-put slots key c.args.dentry sorted in
    rw (← c.self.view_is) (ap (λ names. remove_name names key) bound
    ∙ restored-put (bound_names slots) key c.args.dentry None (sorted_names slots sorted)
    (get-names slots sorted key ∙ ap bound_in none))

pub returns-clause-room : goal.returns-clause-room
returns-clause-room g c =
    let slots = slots_of c.self.inside.rows.entries in
    let key : Place = (c.args.directory, c.args.name.now) in
    let copied = c.in_ok-name.ensures.items_if_clones_equal (λ x y e. e) in
    let after = c.in_ok-add.ensures.slots ∙ ap (λ (p : Place). put_name slots p (Some c.args.dentry)) c.new.ensures
    ∙ ap (λ n. put_name slots (c.args.directory, n) (Some c.args.dentry)) copied in
    ap (λ s. is_some (get_name s key)) after ∙ room_there slots key (Some c.args.dentry)

pub returns-clause-kept : goal.returns-clause-kept
returns-clause-kept g c =
    let slots = slots_of c.self.inside.rows.entries in
    let key : Place = (c.args.directory, c.args.name.now) in
    let copied = c.in_ok-name.ensures.items_if_clones_equal (λ x y e. e) in
    let after = c.in_ok-add.ensures.slots ∙ ap (λ (p : Place). put_name slots p (Some c.args.dentry)) c.new.ensures
    ∙ ap (λ n. put_name slots (c.args.directory, n) (Some c.args.dentry)) copied in
    rw (← c.self.view_is) (λ other some. ap (λ s. is_some (get_name s other)) after ∙ room-put slots key
    (Some c.args.dentry) other some)
