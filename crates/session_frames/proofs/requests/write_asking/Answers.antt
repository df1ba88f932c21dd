use Rattle.std.proofs.Common.{◌≡◌, ◌++◌, [], ◌∷◌, Some, subst}
use Rattle.fuse_protocol.specs.Requests.{request_message}
use Rattle.fuse_sessions.specs.declared.act.Act.TheVariants.{Read, Asks}
use Rattle.fuse_sessions.specs.RequestActs.{naming, using, releasing, writing, asking}
use Rattle.session_frames.proofs.Writes.{on_ok, more}
use Rattle.session_frames.proofs.requests.write_asking.Goals as goal

pub returns : goal.returns
returns g c =
    let start = c.args.acts.now.items in
    let o = c.args.request.now.head.opcode in
    let m = request_message c.args.request.now in
    let a = c.asked_of-asked.result in
    let read = Read (Some o) m.unique ∷ [] in
    let node = read ++ naming a.nodeid in
    let other = node ++ naming a.other in
    let uses = other ++ using a.uses in
    let copies = uses ++ using a.copies_to in
    let releases = copies ++ releasing o m.nodeid m.handle in
    let writes = releases ++ writing o m in
    let read_is = c.in_ok-write_number.ensures in
    let node_is = more start read (naming a.nodeid) _ _ read_is c.in_ok-write_naming.ensures in
    let other_is = more start node (naming a.other) _ _ node_is c.in_ok-write_naming-2.ensures in
    let uses_is = more start other (using a.uses) _ _ other_is c.in_ok-write_using.ensures in
    let copies_is = more start uses (using a.copies_to) _ _ uses_is c.in_ok-write_using-2.ensures in
    let releases_is = more start copies (releasing o m.nodeid m.handle) _ _ copies_is c.in_ok-write_releasing.ensures in
    let writes_is = more start releases (writing o m) _ _ releases_is c.in_ok-write_writing.ensures in
    on_ok _ _ c.write.result
    (λ last. subst (λ x. c.write.new.acts.items ≡ start ++ asking o m x) c.asked_of-asked.ensures
    (more start writes (Asks m.unique a ∷ []) _ _ writes_is last))
    c.write.ensures
