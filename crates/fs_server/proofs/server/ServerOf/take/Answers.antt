use Rattle.std.proofs.Common.{rules, ◌≡◌, true, sym, ap, ◌∙◌}
use Rattle.fk_wire.specs.Requests.{request_message, request_content}
use Rattle.fs_server.specs.Taking.{holds_request}
use Rattle.fs_server.proofs.TakingEffects.{faultless, held_so, interrupted_so}
use Rattle.fs_server.proofs.Frames.{forgets}
use Rattle.fs_server.proofs.MemoryRefusals.{answer_needs_memory, hold_needs_memory, memory_can}
use Rattle.fs_server.proofs.server.ServerOf.take.Goals as goal

pub returns-then-is_forget-clause-effect : goal.returns-then-is_forget-clause-effect
returns-then-is_forget-clause-effect g c =
    let r = c.in_ok-request.request in
    let right = c.in_ok-request.ensures.takeable in
    forgets c.args.self.now c.args.bytes.now r.unique r.nodeid c.taken_as.result c.forget.new.self (request_content r.body)
    (sym c.is_forget.ensures ∙ c.if-is_forget.true) c.taken_as.ensures c.forget.ensures right.spells
    (faultless c.args.self.now c.args.bytes.now (request_message r) right)

pub returns-in-Interrupt-clause-effect : goal.returns-in-Interrupt-clause-effect
returns-in-Interrupt-clause-effect g c =
    interrupted_so c.args.self.now c.args.bytes.now
    (request_message c.in_ok-request.request) c.in_ok-request.ensures.takeable c.in-Interrupt.original
    (ap request_content c.in-Interrupt.is) c.interrupt.new.self c.interrupt.result c.interrupt.ensures.fault
    c.interrupt.ensures.effect

pub returns-in-Interrupt-clause-memory : goal.returns-in-Interrupt-clause-memory
returns-in-Interrupt-clause-memory g c =
    answer_needs_memory c.args.self.now c.args.bytes.now
    (request_message c.in_ok-request.request) c.in_ok-request.ensures.takeable c.in-Interrupt.original
    (ap request_content c.in-Interrupt.is) c.interrupt.result c.interrupt.ensures.answered

pub returns-in-Interrupt-clause-can : goal.returns-in-Interrupt-clause-can
returns-in-Interrupt-clause-can g c = memory_can c.args.self.now c.args.bytes.now
    (request_message c.in_ok-request.request) c.in_ok-request.ensures.takeable c.interrupt.result

pub returns-in_default : goal.returns-in_default
returns-in_default g c =
    let m = request_message c.in_ok-request.request in
    let right = c.in_ok-request.ensures.takeable in
    let is : holds_request c.in_ok-request.request.nodeid (request_content c.in_ok-request.request.body) ≡ true = search rules in
    record {
      refused = c.hold.ensures.refused;
      effect = held_so c.args.self.now c.args.bytes.now m right is c.hold.new.self c.hold.result c.hold.ensures.fault c.hold.ensures.taken c.hold.ensures.held;
      memory = hold_needs_memory c.args.self.now c.args.bytes.now m right is c.hold.result;
      can = memory_can c.args.self.now c.args.bytes.now m right c.hold.result;
    }
