use Rattle.std.proofs.Common.{ap, sym, subst, ◌∙◌, arith, refl, Some, is_some}
use Rattle.fuse_spec.specs.Values.Maps.{Place, get_name}
use Rattle.fk_dentry.specs.CachedNames.{restored}
use Rattle.fk_dentry.specs.Counts.{mentions_of, total_in}
use Rattle.fk_dentry.specs.Rows.{slots_of, bound_names, bound_in, IsNameTable}
use Rattle.fk_dentry.proofs.BoundNames.{get-names, names-put, room-put, sorted_names}
use Rattle.fk_dentry.proofs.Restored.{restored-put}
use Rattle.fk_dentry.proofs.TableLemmas.{slot_among, slot_room, slot-with}
use Rattle.fk_dentry.proofs.bindings.Bindings.set.Goals as goal

pub replace-requires-clause-named : goal.replace-requires-clause-named
replace-requires-clause-named g c =
    let key : Place = (c.args.directory, c.args.name.now) in
    slot_among key c.in_ok-stood.stood c.self.invariant (sym c.in_ok-stood.ensures.stood)

pub replace-requires-clause-room : goal.replace-requires-clause-room
replace-requires-clause-room g c =
    let key : Place = (c.args.directory, c.args.name.now) in
    slot_room key c.in_ok-stood.stood c.self.invariant (sym c.in_ok-stood.ensures.stood)

pub invariant_of-self-2 : goal.invariant_of-self-2
invariant_of-self-2 g c =
    let key : Place = (c.args.directory, c.args.name.now) in
    let nodes = c.replace.new.self in
    let most = c.replace.ensures.most in
    let table = slot-with key c.in_ok-stood.stood c.self.invariant (sym c.in_ok-stood.ensures.stood) c.args.dentry
    (mentions_of nodes.counts.entries) (total_in nodes.counts.entries) nodes.most c.replace.ensures.count
    c.replace.ensures.total (omega (arith, most)) in
    subst (λ s. IsNameTable s (mentions_of nodes.counts.entries) (total_in nodes.counts.entries) nodes.most)
    (sym (c.in_ok-stood.ensures.slots refl)) table

pub returns-clause-was : goal.returns-clause-was
returns-clause-was g c =
    let key : Place = (c.args.directory, c.args.name.now) in
    let slots = slots_of c.self.inside.rows.entries in
    rw (← c.self.view_is)
    (ap bound_in c.in_ok-stood.ensures.stood ∙ sym (get-names slots c.self.invariant.sorted key))

pub returns-clause-names : goal.returns-clause-names
returns-clause-names g c =
    let key : Place = (c.args.directory, c.args.name.now) in
    rw (← c.self.view_is) (λ _. ap bound_names (c.in_ok-stood.ensures.slots refl) ∙ names-put
    (slots_of c.self.inside.rows.entries) key c.args.dentry c.self.invariant.sorted)

pub returns-clause-undone : goal.returns-clause-undone
returns-clause-undone g c =
    let key : Place = (c.args.directory, c.args.name.now) in
    let slots = slots_of c.self.inside.rows.entries in
    let sorted = c.self.invariant.sorted in
    let was = get-names slots sorted key ∙ ap bound_in (sym c.in_ok-stood.ensures.stood) in
    let bound = ap bound_names (c.in_ok-stood.ensures.slots refl) ∙ names-put slots key c.args.dentry sorted in
    rw (← c.self.view_is) (ap (λ names. restored names key c.in_ok-stood.stood) bound
    ∙ restored-put (bound_names slots) key c.args.dentry c.in_ok-stood.stood (sorted_names slots sorted) was)

pub returns-clause-kept : goal.returns-clause-kept
returns-clause-kept g c =
    let key : Place = (c.args.directory, c.args.name.now) in
    rw (← c.self.view_is) (λ other some. ap (λ s. is_some (get_name s other)) (c.in_ok-stood.ensures.slots refl) ∙ room-put
    (slots_of c.self.inside.rows.entries) key (Some c.args.dentry) other some)
