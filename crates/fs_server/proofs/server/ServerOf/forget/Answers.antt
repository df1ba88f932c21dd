use Rattle.fk_wire.specs.Requests.{request_content}
use Rattle.fs_server.specs.Taking.{forgets_in}
use Rattle.fs_server.proofs.GivenBack.{forgets_so}
use Rattle.fs_server.proofs.Stays.{forgotten}
use Rattle.fs_server.proofs.DiscardsUnheld.{as_forgets}
use Rattle.fs_server.proofs.server.ServerOf.forget.Goals as goal

pub invariant_of-self : goal.invariant_of-self
invariant_of-self g c =
    let s = c.self.inside in
    let fs = forgets_in c.args.request.now.nodeid (request_content c.args.request.now.body) in
    forgotten s.files s.held.entries s.kept.entries s.copies.entries s.next_copy s.validity c.self.invariant c.forget.new.files fs (as_forgets s.files c.forget.new.files fs c.forget.ensures) c.forget.ensures.named

pub returns : goal.returns
returns g c =
    let s = c.self.inside in
    let fs = forgets_in c.args.request.now.nodeid (request_content c.args.request.now.body) in
    rw (← c.self.view_is)
    (forgets_so s.files c.forget.new.files s.held.entries s.kept.entries s.copies.entries s.next_copy s.validity s.minor s.is_aborted fs (as_forgets s.files c.forget.new.files fs c.forget.ensures))
