use Rattle.std.proofs.Common.{◌≡◌, Bool, true, false, None, Some, ◌&&◌, sym, ap, subst, ◌∙◌}
use Rattle.fuse_spec.specs.Files.Operations.{errno_of}
use Rattle.fuse_spec.specs.Kernel.Messages.{release}
use Rattle.fuse_spec.specs.Server.Nodes.{file_of, is_open}
use Rattle.fuse_spec.specs.Server.Server.{Server, is_known}
use Rattle.fs_server.specs.Effects.{request_fault}
use Rattle.fs_server.specs.Releasing.{Releases, faulty}
use Rattle.fs_server.proofs.DiscardsUnheld.{but_released}
use Rattle.fs_server.proofs.Outcomes.{errno_said}
use Rattle.fs_server.proofs.Released.{errno_bare, known_one, refuses_release, releases, stays_live, stays_lost}
use Rattle.fs_server.proofs.server.ServerOf.release.Goals.{then-not-self-2, else-not-self-2, else-not-self-via-then-not-self+else-self-ge-COUNTER_END, else-not-self-via-else-not-self}
use Rattle.fs_server.proofs.server.ServerOf.release.Goals as goal

pub returns-in-Some-clause-effect : goal.returns-in-Some-clause-effect
returns-in-Some-clause-effect g c = faulty c.in-Some.fault (sym c.request_fault.ensures.fault ∙ c.in-Some.is)

pub returns-then-self-ge-COUNTER_END-clause-effect : goal.returns-then-self-ge-COUNTER_END-clause-effect
returns-then-self-ge-COUNTER_END-clause-effect g c =
    let s = c.self.inside in
    let faultless = sym c.request_fault.ensures.fault ∙ c.in_default.is in
    rw (← c.self.view_is, c.if-not-self.true)
    (refuses_release s.files s.held.entries s.kept.entries s.copies.entries s.next_copy s.validity s.minor c.args.unique c.args.opened c.if-self-ge-COUNTER_END.true (rw (← c.self.view_is) at faultless))

pub discard_unheld-requires : goal.discard_unheld-requires
discard_unheld-requires g c =
    let s = c.self.inside in
    let r = c.release-outcome.ensures in
    but_released s.files c.release-outcome.new.self c.self.invariant.named r.tree c.handle_file-file.result
    c.args.opened.fh (is_open s.files.handles c.args.opened.fh (file_of s.files.nodes c.args.opened.nodeid))
    c.handle_file-file.ensures r.nodes (r.handles s.validity)

pub invariant_of-self : goal.invariant_of-self
invariant_of-self g c =
    let s = c.self.inside in
    let r = c.release-outcome.ensures in
    let d = c.discard_unheld.ensures in
    stays_live s.files c.release-outcome.new.self c.discard_unheld.new.self s.held.entries s.kept.entries s.copies.entries s.next_copy s.validity s.minor c.args.unique c.args.opened c.self.invariant r.tree r.nodes (r.handles s.validity) (d.tree s.validity) d.nodes d.handles d.named
    (elim c.else-not-self.branch [
      | else-not-self-via-then-not-self+else-self-ge-COUNTER_END w ↦ w.if-self-ge-COUNTER_END.false
      | else-not-self-via-else-not-self w ↦ absurd (cc (w.if-not-self.false, c.if-not-self-2.true))
    ])

pub invariant_of-self-else-not-self-2 : goal.invariant_of-self-else-not-self-2
invariant_of-self-else-not-self-2 g c =
    let s = c.self.inside in
    let r = c.release-outcome.ensures in
    let d = c.discard_unheld.ensures in
    stays_lost s.files c.release-outcome.new.self c.discard_unheld.new.self s.held.entries s.kept.entries s.copies.entries s.next_copy s.validity s.minor c.args.unique c.args.opened c.self.invariant r.tree r.nodes (r.handles s.validity) (d.tree s.validity) d.nodes d.handles d.named

pub returns-clause-effect : goal.returns-clause-effect
returns-clause-effect g c =
    let s = c.self.inside in
    let r = c.release-outcome.ensures in
    let d = c.discard_unheld.ensures in
    let right = c.in_default.ensures.faultless in
    let known = known_one s.files.nodes c.args.opened.nodeid (rw (← c.self.view_is) at right.known) in
    let unheld = rw (← c.self.view_is) at right.unheld in
    let unkept = rw (← c.self.view_is) at right.unkept in
    let faultless = sym c.request_fault.ensures.fault ∙ c.in_default.is in
    let says = c.errno.ensures ∙ errno_said s.validity.found_ms c.release-outcome.result
    ∙ ap errno_of (r.says s.validity) in
    elim c.if-not-self-2.branch [
      | then-not-self-2 w ↦ subst (λ (n : Server). Releases c.args.self.now c.args.unique c.args.opened c.errno.result n) (sym w.self-is)
          (rw (← c.self.view_is, w.if-not-self-2.true)
          (releases s.files c.release-outcome.new.self c.discard_unheld.new.self s.held.entries s.kept.entries s.copies.entries s.next_copy s.validity s.minor c.args.unique c.args.opened c.self.invariant r.tree r.nodes (r.handles s.validity) (d.tree s.validity) d.nodes d.handles d.named known unheld unkept false c.errno.result says (rw (← c.self.view_is) at faultless)))
      | else-not-self-2 w ↦ subst (λ (n : Server). Releases c.args.self.now c.args.unique c.args.opened c.errno.result n) (sym w.self-is)
          (rw (← c.self.view_is, w.if-not-self-2.false)
          (releases s.files c.release-outcome.new.self c.discard_unheld.new.self s.held.entries s.kept.entries s.copies.entries s.next_copy s.validity s.minor c.args.unique c.args.opened c.self.invariant r.tree r.nodes (r.handles s.validity) (d.tree s.validity) d.nodes d.handles d.named known unheld unkept true c.errno.result says (rw (← c.self.view_is) at faultless)))
    ]

pub returns-clause-error : goal.returns-clause-error
returns-clause-error g c =
    let s = c.self.inside in
    let r = c.release-outcome.ensures in
    (errno_bare (is_open s.files.handles c.args.opened.fh (file_of s.files.nodes c.args.opened.nodeid)) c.errno.result
    (c.errno.ensures ∙ errno_said s.validity.found_ms c.release-outcome.result ∙ ap errno_of (r.says s.validity))).2
