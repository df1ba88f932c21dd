use Rattle.std.proofs.Common.{◌≡◌, ◌+◌, ◌≤◌, ℕ, ap, sym, subst, ◌∙◌, arith, Option, length, is_some}
use Rattle.fuse_spec.specs.declared.Dentry.{Dentry}
use Rattle.fuse_spec.specs.Values.Maps.{Place, get_name}
use Rattle.fk_dentry.specs.Counts.{mentions_of, total_in}
use Rattle.fk_dentry.specs.Named.{times, named_by}
use Rattle.fk_dentry.specs.Rows.{slots_of, bound_names, IsNameTable}
use Rattle.fk_dentry.proofs.BoundNames.{get-names, names-remove, room-remove}
use Rattle.fk_dentry.proofs.TableLemmas.{bound_among, table-without}
use Rattle.fk_dentry.proofs.bindings.Bindings.take_out.Goals as goal

pub leave-requires : goal.leave-requires
leave-requires g c = λ q.
    let key : Place = (c.args.directory, c.args.name.now) in
    subst (λ (b : Option Dentry). times q
    (named_by c.args.directory b) ≤ mentions_of c.self.inside.nodes.counts.entries q)
    (sym c.take_out-dentry.ensures.dentry)
    (bound_among key c.self.invariant q)

pub invariant_of-self : goal.invariant_of-self
invariant_of-self g c =
    let key : Place = (c.args.directory, c.args.name.now) in
    let slots = slots_of c.self.inside.rows.entries in
    let dentry = c.take_out-dentry.ensures.dentry in
    let counts = c.self.inside.nodes.counts.entries in
    let nodes = c.leave.new.self in
    let gone = subst (λ (b : Option Dentry). (q : ℕ)
    → mentions_of nodes.counts.entries q + times q (named_by c.args.directory b)
    ≡ mentions_of counts q) dentry c.leave.ensures.count in
    let fewer = subst (λ (b : Option Dentry). total_in nodes.counts.entries + length (named_by c.args.directory b)
    ≡ total_in counts) dentry c.leave.ensures.total in
    let most = c.leave.ensures.most in
    let table = table-without key c.self.invariant (mentions_of nodes.counts.entries)
    (total_in nodes.counts.entries) nodes.most gone fewer (omega (arith, most)) in
    subst (λ s. IsNameTable s (mentions_of nodes.counts.entries) (total_in nodes.counts.entries) nodes.most)
    (sym c.take_out-dentry.ensures.slots) table

pub returns-clause-bound : goal.returns-clause-bound
returns-clause-bound g c =
    let key : Place = (c.args.directory, c.args.name.now) in
    let slots = slots_of c.self.inside.rows.entries in
    rw (← c.self.view_is) (c.take_out-dentry.ensures.dentry ∙ sym (get-names slots c.self.invariant.sorted key))

pub returns-clause-names : goal.returns-clause-names
returns-clause-names g c =
    let key : Place = (c.args.directory, c.args.name.now) in
    rw (← c.self.view_is) (ap bound_names c.take_out-dentry.ensures.slots ∙ names-remove
    (slots_of c.self.inside.rows.entries) key)

pub returns-clause-kept : goal.returns-clause-kept
returns-clause-kept g c =
    let key : Place = (c.args.directory, c.args.name.now) in
    rw (← c.self.view_is) (λ other ne some. ap (λ s. is_some
    (get_name s other)) c.take_out-dentry.ensures.slots ∙ room-remove
    (slots_of c.self.inside.rows.entries) key other ne some)
