use Rattle.std.proofs.Common.{◌≡◌, ◌<◌, ◌^◌, true, true≢false, sym, ◌∙◌}
use Rattle.fk_wire.specs.Requests.{request_content, request_message}
use Rattle.fs_server.specs.Taking.{answers}
use Rattle.fs_server.proofs.TakingEffects.{exhausts}
use Rattle.fs_server.proofs.Frames.{refuses_as}
use Rattle.fs_server.proofs.server.ServerOf.judged.Goals.{else-answers-via-then-answers+else-self-ge-COUNTER_END, else-answers-via-else-answers}
use Rattle.fs_server.proofs.server.ServerOf.judged.Goals as goal

pub returns-in-Some-clause-refused : goal.returns-in-Some-clause-refused
returns-in-Some-clause-refused g c =
    refuses_as c.args.self.now c.args.bytes.now
    (request_message c.in-Ok.request) c.in-Ok.ensures.ok c.in-Ok.ensures.only c.in-Some.fault
    (sym c.request_fault.ensures.fault ∙ c.in-Some.is)

pub returns-then-self-ge-COUNTER_END-clause-refused : goal.returns-then-self-ge-COUNTER_END-clause-refused
returns-then-self-ge-COUNTER_END-clause-refused g c =
    let over = c.if-self-ge-COUNTER_END.true in
    exhausts c.args.self.now c.args.bytes.now (request_message c.in-Ok.request) c.in-Ok.ensures.ok c.in-Ok.ensures.only c.in_default-request_fault.ensures.faultless (sym (c.answers.ensures c.in-Ok.request.nodeid) ∙ c.if-answers.true) (rw (← c.self.view_is) over)

pub returns-clause-takeable : goal.returns-clause-takeable
returns-clause-takeable g c =
    let number : answers c.args.self.now c.in-Ok.request.nodeid (request_content c.in-Ok.request.body) ≡ true → c.args.self.now.next_copy < 2 ^ 62 =
    elim c.else-answers.branch [
      | else-answers-via-then-answers+else-self-ge-COUNTER_END w ↦ λ up. rw (← c.self.view_is) w.if-self-ge-COUNTER_END.false
      | else-answers-via-else-answers w ↦ λ up. absurd (true≢false (sym up ∙ sym (c.answers.ensures c.in-Ok.request.nodeid) ∙ w.if-answers.false))
    ] in
    record {
      spells = c.in-Ok.ensures.ok;
      only = c.in-Ok.ensures.only;
      faultless = c.in_default-request_fault.ensures.faultless;
      within = c.lemma_in_range.ensures;
      number = number;
    }
