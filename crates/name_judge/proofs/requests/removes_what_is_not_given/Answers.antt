use Rattle.std.proofs.Common.{◌≡◌, true, Some, None, cond, sym, ◌∙◌, ap}
use Rattle.std.specs.Option.{option_copied}
use Rattle.fuse_protocol.specs.Requests.{request_message}
use Rattle.name_sessions.specs.Names.{Name}
use Rattle.name_sessions.specs.NameFrames.{has_fault}
use Rattle.name_sessions.specs.RequestNames.{first_name, is_removal, name_in, removal, removed_name}
use Rattle.name_judge.proofs.RequestLaws.{removed_fault}
use Rattle.name_judge.proofs.requests.removes_what_is_not_given.Goals as goal

pub returns-in-Some : goal.returns-in-Some
returns-in-Some g c = λ s are sure.
    let o = c.args.request.now.head.opcode in
    let m = request_message c.args.request.now in
    let n : Name = (m.nodeid, c.in-Some.name.now) in
    let removes : is_removal o ≡ true = sym c.is_removal.ensures ∙ c.if-not-is_removal.false in
    let first : first_name m ≡ Some n = ap (name_in m.nodeid) (sym c.first.ensures ∙ ap option_copied c.in-Some.is) in
    let named : removed_name o m ≡ Some n = ap (λ b. cond b (first_name m) None) removes ∙ first in
    removed_fault s n c.is_given.result sure (c.is_given.ensures s are) ∙ ap (λ x. has_fault s (removal x)) (sym named)
