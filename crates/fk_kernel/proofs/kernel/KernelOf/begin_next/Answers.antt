use Rattle.std.proofs.Common.{◌≡◌, ◌≤◌, ◌^◌, Bool, true, ap, sym, ◌∙◌}
use Rattle.fuse_spec.specs.Calls.Answers.{failed}
use Rattle.fk_syscalls.specs.Values.{call_of}
use Rattle.fuse_spec.specs.Kernel.Kernel.{is_aborted}
use Rattle.fuse_spec.specs.Calls.Vfs.{begun}
use Rattle.fuse_spec.specs.Kernel.Refusals.{or_no_memory}
use Rattle.fk_kernel.proofs.Beginnings.{plain_begun, aborted_begun, no_close, asks_refusal, answered_unrefused, answered_begun, asked_begun, asks_unrefused, refused_alike, if_ok, if_ok_so, if_both_ok, if_three_ok}
use Rattle.fk_kernel.proofs.kernel.KernelOf.begin_next.Goals as goal

pub start_walk-requires-clause-closes_none : goal.start_walk-requires-clause-closes_none
start_walk-requires-clause-closes_none g c = no_close c.args.call.now c.in_default.not-Close

pub returns-in-Ask-clause-refusal : goal.returns-in-Ask-clause-refusal
returns-in-Ask-clause-refusal g c =
    let asks = rw c.in-Ask.is at c.in_ok-errno.ensures.begun in
    refused_alike c.begin_asking.result (asks_refusal c.args.self.now c.args.call.now
    (plain_begun c.args.self.now c.args.call.now
    (no_close c.args.call.now c.in_default.not-Close)) c.in-Ask.state c.requires.ready c.requires.few c.requires.number asks) c.begin_asking.ensures.refusal

pub returns-then-is_aborted-clause-refusal : goal.returns-then-is_aborted-clause-refusal
returns-then-is_aborted-clause-refusal g c =
    let k = c.args.self.now in
    let high : k.queues.next ≤ 2 ^ 62 = rw (← c.self.view_is) c.lemma_sound.ensures.sound.next.high in
    let aborted : is_aborted k.phase ≡ true = sym c.is_aborted.ensures ∙ c.if-is_aborted.true in
    let ends = ap (λ (b : Bool). begun b k.vfs (call_of c.args.call.now)) aborted in
    refused_alike c.begin_answered.result (ap or_no_memory
    (answered_unrefused k c.args.call.now (aborted_begun k c.args.call.now aborted)
    (failed 107) c.requires.ready c.requires.few c.requires.number high ends)) c.begin_answered.ensures.refusal

pub returns-then-is_aborted-clause-judged : goal.returns-then-is_aborted-clause-judged
returns-then-is_aborted-clause-judged g c =
    let k = c.args.self.now in
    let high : k.queues.next ≤ 2 ^ 62 = rw (← c.self.view_is) c.lemma_sound.ensures.sound.next.high in
    let aborted : is_aborted k.phase ≡ true = sym c.is_aborted.ensures ∙ c.if-is_aborted.true in
    let ends = ap (λ (b : Bool). begun b k.vfs (call_of c.args.call.now)) aborted in
    if_ok c.begin_answered.result (answered_unrefused k c.args.call.now (aborted_begun k c.args.call.now aborted)
    (failed 107) c.requires.ready c.requires.few c.requires.number high ends)

pub returns-in-Answer-clause-refusal : goal.returns-in-Answer-clause-refusal
returns-in-Answer-clause-refusal g c =
    let k = c.args.self.now in
    let high : k.queues.next ≤ 2 ^ 62 = rw (← c.self.view_is) c.lemma_sound.ensures.sound.next.high in
    let ends = rw c.in-Answer.is at c.in_ok-errno.ensures.begun in
    refused_alike c.begin_answered-in-Answer.result
    (ap or_no_memory (answered_unrefused k c.args.call.now
    (plain_begun k c.args.call.now (no_close c.args.call.now c.in_default.not-Close))
    (failed c.in-Answer.errno) c.requires.ready c.requires.few c.requires.number high ends)) c.begin_answered-in-Answer.ensures.refusal

pub returns-in-Answer-clause-judged : goal.returns-in-Answer-clause-judged
returns-in-Answer-clause-judged g c =
    let k = c.args.self.now in
    let high : k.queues.next ≤ 2 ^ 62 = rw (← c.self.view_is) c.lemma_sound.ensures.sound.next.high in
    let ends = rw c.in-Answer.is at c.in_ok-errno.ensures.begun in
    if_ok c.begin_answered-in-Answer.result (answered_unrefused k c.args.call.now
    (plain_begun k c.args.call.now (no_close c.args.call.now c.in_default.not-Close))
    (failed c.in-Answer.errno) c.requires.ready c.requires.few c.requires.number high ends)

pub returns-in-Answer-clause-begun : goal.returns-in-Answer-clause-begun
returns-in-Answer-clause-begun g c =
    let k = c.args.self.now in
    let ends = rw c.in-Answer.is at c.in_ok-errno.ensures.begun in
    let told = c.begin_answered-in-Answer in
    if_both_ok told.result (answered_begun k c.args.call.now
    (plain_begun k c.args.call.now (no_close c.args.call.now c.in_default.not-Close))
    (failed c.in-Answer.errno) told.new.self ends) told.ensures.vfs told.ensures.same

pub returns-in-Ask-clause-begun : goal.returns-in-Ask-clause-begun
returns-in-Ask-clause-begun g c =
    let k = c.args.self.now in
    let asks = rw c.in-Ask.is at c.in_ok-errno.ensures.begun in
    let told = c.begin_asking in
    if_three_ok told.result (asked_begun k c.args.call.now
    (plain_begun k c.args.call.now (no_close c.args.call.now c.in_default.not-Close))
    c.in-Ask.state told.new.self asks) told.ensures.vfs told.ensures.queues told.ensures.same

pub returns-in-Ask-clause-judged : goal.returns-in-Ask-clause-judged
returns-in-Ask-clause-judged g c =
    let k = c.args.self.now in
    let asks = rw c.in-Ask.is at c.in_ok-errno.ensures.begun in
    if_ok_so c.begin_asking.result (asks_unrefused k c.args.call.now
    (plain_begun k c.args.call.now (no_close c.args.call.now c.in_default.not-Close))
    c.in-Ask.state c.requires.ready c.requires.few c.requires.number asks) c.begin_asking.ensures.left

pub returns-then-is_aborted-clause-begun : goal.returns-then-is_aborted-clause-begun
returns-then-is_aborted-clause-begun g c =
    let k = c.args.self.now in
    let aborted : is_aborted k.phase ≡ true = sym c.is_aborted.ensures ∙ c.if-is_aborted.true in
    let ends = ap (λ (b : Bool). begun b k.vfs (call_of c.args.call.now)) aborted in
    let told = c.begin_answered in
    if_both_ok told.result (answered_begun k c.args.call.now (aborted_begun k c.args.call.now aborted)
    (failed 107) told.new.self ends) told.ensures.vfs told.ensures.same
