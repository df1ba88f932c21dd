use Rattle.std.proofs.Common.{true, false, sym, ◌∙◌}
use Rattle.fk_wire.specs.Requests.{request_content}
use Rattle.fs_server.proofs.Frames.{too_many, judged_so}
use Rattle.fs_server.proofs.server.ServerOf.request_fault.Goals as goal

pub returns-then-forgets_too_many-clause-fault : goal.returns-then-forgets_too_many-clause-fault
returns-then-forgets_too_many-clause-fault g c =
    let r = c.args.request.now in
    too_many c.args.self.now r.unique r.nodeid (request_content r.body)
    (rw (← c.self.view_is) (sym c.is_spoken.ensures ∙ c.if-not-is_spoken.false))
    (rw (← c.self.view_is, ← c.nodes.ensures) (sym c.names_known.ensures ∙ c.if-not-names_known.false))
    (rw (← c.self.view_is, ← c.nodes-2.ensures) (sym c.forgets_too_many.ensures ∙ c.if-forgets_too_many.true))

pub returns-then-has_unique-clause-fault : goal.returns-then-has_unique-clause-fault
returns-then-has_unique-clause-fault g c =
    let r = c.args.request.now in
    judged_so c.args.self.now r.unique r.nodeid (request_content r.body)
    (rw (← c.self.view_is) (sym c.is_spoken.ensures ∙ c.if-not-is_spoken.false))
    (rw (← c.self.view_is, ← c.nodes.ensures) (sym c.names_known.ensures ∙ c.if-not-names_known.false))
    (rw (← c.self.view_is, ← c.nodes-2.ensures) (sym c.forgets_too_many.ensures ∙ c.if-forgets_too_many.false)) true
    (sym c.has_unique.ensures.has ∙ c.if-has_unique.true)

pub returns-clause-fault : goal.returns-clause-fault
returns-clause-fault g c =
    let r = c.args.request.now in
    judged_so c.args.self.now r.unique r.nodeid (request_content r.body)
    (rw (← c.self.view_is) (sym c.is_spoken.ensures ∙ c.if-not-is_spoken.false))
    (rw (← c.self.view_is, ← c.nodes.ensures) (sym c.names_known.ensures ∙ c.if-not-names_known.false))
    (rw (← c.self.view_is, ← c.nodes-2.ensures) (sym c.forgets_too_many.ensures ∙ c.if-forgets_too_many.false)) false
    (sym c.has_unique.ensures.has ∙ c.if-has_unique.false)
