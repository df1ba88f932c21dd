use Rattle.std.proofs.Common.{arith, ap, length, sym}
use Rattle.fuse_spec.specs.Kernel.Kernel.{Kernel}
use Rattle.fw_drive.proofs.Following.{all_collected, fewer, none_yet, one_more, some_collected}
use Rattle.fw_drive.proofs.OneMove.{collects_move, none_waits, stayed}
use Rattle.fw_drive.proofs.exchange.collect_answers.Goals as goal

pub loop-call-init : goal.loop-call-init
loop-call-init g c f = none_yet f (g.W.Write.contents c.args.out.now, c.args.notes.now.is_wrong) c.args.driver.now

pub loop-call-preserved : goal.loop-call-preserved
loop-call-preserved g c f =
    let (said, printed, told) = c.in-Ok.ensures.printed in
    one_more f (g.W.Write.contents c.args.out.now, c.args.notes.now.is_wrong) (g.W.Write.contents c.loop-call.out, c.loop-call.notes.is_wrong)
    (g.W.Write.contents c.note_answer.new.out, c.note_answer.new.self.is_wrong) c.args.driver.now c.loop-call.driver c.collect.new.self c.in-Some.call
    c.in-Some.answer said (c.loop-call.invariant f)
    (collects_move c.loop-call.driver c.collect.new.self c.in-Some.call c.in-Some.answer c.in-Some.ensures.first
    c.in-Some.ensures.some c.in-Some.ensures.same) printed told

pub loop-call-smaller : goal.loop-call-smaller
loop-call-smaller g c =
    let gone = ap (λ (k : Kernel). length k.vfs.answers) c.in-Some.ensures.some in
    let short = fewer c.loop-call.driver.kernel.vfs.answers c.in-Some.call _ (sym c.in-Some.ensures.first) in
    omega (arith, gone, short)

pub returns-in-Err : goal.returns-in-Err
returns-in-Err g c f =
    let (said, printed, told) = c.in-Err.ensures.printed in
    some_collected f (g.W.Write.contents c.args.out.now, c.args.notes.now.is_wrong) (g.W.Write.contents c.loop-call.out, c.loop-call.notes.is_wrong)
    (g.W.Write.contents c.note_answer.new.out, c.note_answer.new.self.is_wrong) c.args.driver.now c.loop-call.driver c.collect.new.self c.in-Some.call
    c.in-Some.answer said c.in-Err.stop c.in-Err.ensures.own (c.loop-call.invariant f)
    (collects_move c.loop-call.driver c.collect.new.self c.in-Some.call c.in-Some.answer c.in-Some.ensures.first
    c.in-Some.ensures.some c.in-Some.ensures.same) printed

pub returns : goal.returns
returns g c f =
    all_collected f (g.W.Write.contents c.args.out.now, c.args.notes.now.is_wrong) (g.W.Write.contents c.loop-call.out, c.loop-call.notes.is_wrong) c.args.driver.now
    c.loop-call.driver c.collect.new.self _ (c.loop-call.invariant f)
    (stayed c.loop-call.driver c.collect.new.self c.in_default.ensures.none c.in_default.ensures.same)
    (none_waits c.loop-call.driver c.in_default.ensures.first)
