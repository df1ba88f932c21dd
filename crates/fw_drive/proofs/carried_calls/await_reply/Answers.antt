use Rattle.std.specs.Prelude.{All, Ok, Err}
use Rattle.std.proofs.lemmas.List.Elements.{All-append, All-nil}
use Rattle.fw_drive.specs.LineMoves.{Carries}
use Rattle.fw_drive.proofs.Following.{failed, given, none_went, then}
use Rattle.fw_drive.proofs.carried_calls.await_reply.Goals as goal

pub loop-frame-init : goal.loop-frame-init
loop-frame-init g c =
    none_went g.row.T-Heap.Denot g.D.Device.logs g.met.D.Device.stays c.args.form c.args.device.now
    (g.W.Write.contents c.args.out.now, c.args.notes.now.is_wrong) c.args.driver.now (All Carries) (All-nil Carries)

pub loop-frame-preserved : goal.loop-frame-preserved
loop-frame-preserved g c =
    given g.row.T-Heap.Denot g.D.Device.logs c.args.form c.args.device.now c.receive_toward.new.device
    (g.W.Write.contents c.args.out.now, c.args.notes.now.is_wrong) (g.W.Write.contents c.receive_toward.new.out, c.receive_toward.new.notes.is_wrong) c.args.driver.now c.receive_toward.new.driver
    _ (Ok tt) tt (All Carries) (All Carries)
    (then g.row.T-Heap.Denot g.D.Device.logs g.met.D.Device.goes_on c.args.form c.args.device.now c.loop-frame.device
    c.receive_toward.new.device (g.W.Write.contents c.args.out.now, c.args.notes.now.is_wrong) (g.W.Write.contents c.loop-frame.out, c.loop-frame.notes.is_wrong)
    (g.W.Write.contents c.receive_toward.new.out, c.receive_toward.new.notes.is_wrong) c.args.driver.now c.loop-frame.driver c.receive_toward.new.driver tt _ (All Carries)
    (All Carries) (All Carries) c.loop-frame.invariant c.in-Ok-false.ensures (All-append Carries))
    (λ m are. are)

pub returns-in-Ok-true : goal.returns-in-Ok-true
returns-in-Ok-true g c =
    given g.row.T-Heap.Denot g.D.Device.logs c.args.form c.args.device.now c.receive_toward.new.device
    (g.W.Write.contents c.args.out.now, c.args.notes.now.is_wrong) (g.W.Write.contents c.receive_toward.new.out, c.receive_toward.new.notes.is_wrong) c.args.driver.now c.receive_toward.new.driver
    _ _ tt (All Carries) (All Carries)
    (then g.row.T-Heap.Denot g.D.Device.logs g.met.D.Device.goes_on c.args.form c.args.device.now c.loop-frame.device
    c.receive_toward.new.device (g.W.Write.contents c.args.out.now, c.args.notes.now.is_wrong) (g.W.Write.contents c.loop-frame.out, c.loop-frame.notes.is_wrong)
    (g.W.Write.contents c.receive_toward.new.out, c.receive_toward.new.notes.is_wrong) c.args.driver.now c.loop-frame.driver c.receive_toward.new.driver tt _ (All Carries)
    (All Carries) (All Carries) c.loop-frame.invariant c.in-Ok-true.ensures (All-append Carries))
    (λ m are. are)

pub returns-in-Err : goal.returns-in-Err
returns-in-Err g c =
    failed g.row.T-Heap.Denot g.D.Device.logs c.args.form c.args.device.now c.receive_toward.new.device
    (g.W.Write.contents c.args.out.now, c.args.notes.now.is_wrong) (g.W.Write.contents c.receive_toward.new.out, c.receive_toward.new.notes.is_wrong) c.args.driver.now c.receive_toward.new.driver
    c.in-Err.stop (All Carries) (All Carries)
    (then g.row.T-Heap.Denot g.D.Device.logs g.met.D.Device.goes_on c.args.form c.args.device.now c.loop-frame.device
    c.receive_toward.new.device (g.W.Write.contents c.args.out.now, c.args.notes.now.is_wrong) (g.W.Write.contents c.loop-frame.out, c.loop-frame.notes.is_wrong)
    (g.W.Write.contents c.receive_toward.new.out, c.receive_toward.new.notes.is_wrong) c.args.driver.now c.loop-frame.driver c.receive_toward.new.driver tt (Err c.in-Err.stop) (All Carries)
    (All Carries) (All Carries) c.loop-frame.invariant c.in-Err.ensures (All-append Carries))
    (λ m are. are)

pub returns : goal.returns
returns g c =
    given g.row.T-Heap.Denot g.D.Device.logs c.args.form c.args.device.now c.loop-frame.device
    (g.W.Write.contents c.args.out.now, c.args.notes.now.is_wrong) (g.W.Write.contents c.loop-frame.out, c.loop-frame.notes.is_wrong) c.args.driver.now c.loop-frame.driver
    tt _ tt (All Carries) (All Carries) c.loop-frame.invariant (λ m are. are)
