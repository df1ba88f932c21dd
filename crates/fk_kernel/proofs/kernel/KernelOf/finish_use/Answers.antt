use Rattle.std.proofs.Common.{Some, sym, ap, ◌∙◌}
use Rattle.fuse_spec.specs.Kernel.Kernel.{Kernel, released_if_idle, after_use}
use Rattle.fuse_spec.specs.Values.Maps.{get}
use Rattle.fuse_spec.specs.Calls.Vfs.{answered}
use Rattle.fk_syscalls.specs.Values.{answer_of}
use Rattle.fk_kernel.proofs.CallStates.{some_state, using_of, stays}
use Rattle.fk_kernel.proofs.kernel.KernelOf.finish_use.Goals as goal

pub release_if_idle-requires : goal.release_if_idle-requires
release_if_idle-requires g c =
    let s = some_state (get c.args.self.now.vfs.calls c.args.call) c.requires.unanswered in
    let u = using_of s.0 c.in-Some.open_call (sym (c.used_by-open_call.ensures.used s.0 s.1) ∙ c.in-Some.is) in
    rw c.finish.ensures (λ closed idle. c.requires.within c.in-Some.open_call u.0 (s.1 ∙ ap Some u.1) closed idle)

pub returns-in-Some : goal.returns-in-Some
returns-in-Some g c = λ state at.
    let k = c.args.self.now in
    let done : Kernel = record k { vfs = answered k.vfs c.args.call (answer_of c.args.answer) } in
    let u = using_of state c.in-Some.open_call (sym (c.used_by-open_call.ensures.used state at) ∙ c.in-Some.is) in
    c.release_if_idle.ensures ∙ ap (λ (n : Kernel). released_if_idle n c.in-Some.open_call) c.finish.ensures ∙ ap
    (after_use done) (sym u.1)

pub returns-in_default : goal.returns-in_default
returns-in_default g c = λ state at.
    let k = c.args.self.now in
    let done : Kernel = record k { vfs = answered k.vfs c.args.call (answer_of c.args.answer) } in
    c.finish.ensures ∙ sym (stays done state (sym (c.used_by-open_call.ensures.used state at) ∙ c.in_default.is))
