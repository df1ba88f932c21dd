use Rattle.std.specs.Prelude.{All, Ok, Err}
use Rattle.std.proofs.lemmas.List.Elements.{All-append, All-nil}
use Rattle.fw_drive.specs.LineMoves.{Carries}
use Rattle.fw_drive.proofs.Following.{failed, given, none_went, then}
use Rattle.fw_drive.proofs.carried_calls.carry_all.Goals as goal

pub loop-request-init : goal.loop-request-init
loop-request-init g c =
    none_went g.row.T-Heap.Denot g.D.Device.logs g.met.D.Device.stays c.args.form c.args.device.now
    (g.W.Write.contents c.args.out.now, c.args.notes.now.is_wrong) c.args.driver.now (All Carries) (All-nil Carries)

pub loop-request-preserved : goal.loop-request-preserved
loop-request-preserved g c =
    given g.row.T-Heap.Denot g.D.Device.logs c.args.form c.args.device.now c.carry_one.new.device
    (g.W.Write.contents c.args.out.now, c.args.notes.now.is_wrong) (g.W.Write.contents c.carry_one.new.out, c.carry_one.new.notes.is_wrong) c.args.driver.now c.carry_one.new.driver
    _ (Ok tt) tt (All Carries) (All Carries)
    (then g.row.T-Heap.Denot g.D.Device.logs g.met.D.Device.goes_on c.args.form c.args.device.now c.loop-request.device
    c.carry_one.new.device (g.W.Write.contents c.args.out.now, c.args.notes.now.is_wrong) (g.W.Write.contents c.loop-request.out, c.loop-request.notes.is_wrong)
    (g.W.Write.contents c.carry_one.new.out, c.carry_one.new.notes.is_wrong) c.args.driver.now c.loop-request.driver c.carry_one.new.driver tt _ (All Carries)
    (All Carries) (All Carries) c.loop-request.invariant c.in-Ok-true.ensures (All-append Carries))
    (λ m are. are)

pub returns-in-Ok-false : goal.returns-in-Ok-false
returns-in-Ok-false g c =
    given g.row.T-Heap.Denot g.D.Device.logs c.args.form c.args.device.now c.carry_one.new.device
    (g.W.Write.contents c.args.out.now, c.args.notes.now.is_wrong) (g.W.Write.contents c.carry_one.new.out, c.carry_one.new.notes.is_wrong) c.args.driver.now c.carry_one.new.driver
    _ _ tt (All Carries) (All Carries)
    (then g.row.T-Heap.Denot g.D.Device.logs g.met.D.Device.goes_on c.args.form c.args.device.now c.loop-request.device
    c.carry_one.new.device (g.W.Write.contents c.args.out.now, c.args.notes.now.is_wrong) (g.W.Write.contents c.loop-request.out, c.loop-request.notes.is_wrong)
    (g.W.Write.contents c.carry_one.new.out, c.carry_one.new.notes.is_wrong) c.args.driver.now c.loop-request.driver c.carry_one.new.driver tt _ (All Carries)
    (All Carries) (All Carries) c.loop-request.invariant c.in-Ok-false.ensures (All-append Carries))
    (λ m are. are)

pub returns-in-Err : goal.returns-in-Err
returns-in-Err g c =
    failed g.row.T-Heap.Denot g.D.Device.logs c.args.form c.args.device.now c.carry_one.new.device
    (g.W.Write.contents c.args.out.now, c.args.notes.now.is_wrong) (g.W.Write.contents c.carry_one.new.out, c.carry_one.new.notes.is_wrong) c.args.driver.now c.carry_one.new.driver
    c.in-Err.stop (All Carries) (All Carries)
    (then g.row.T-Heap.Denot g.D.Device.logs g.met.D.Device.goes_on c.args.form c.args.device.now c.loop-request.device
    c.carry_one.new.device (g.W.Write.contents c.args.out.now, c.args.notes.now.is_wrong) (g.W.Write.contents c.loop-request.out, c.loop-request.notes.is_wrong)
    (g.W.Write.contents c.carry_one.new.out, c.carry_one.new.notes.is_wrong) c.args.driver.now c.loop-request.driver c.carry_one.new.driver tt (Err c.in-Err.stop) (All Carries)
    (All Carries) (All Carries) c.loop-request.invariant c.in-Err.ensures (All-append Carries))
    (λ m are. are)

pub returns : goal.returns
returns g c =
    given g.row.T-Heap.Denot g.D.Device.logs c.args.form c.args.device.now c.loop-request.device
    (g.W.Write.contents c.args.out.now, c.args.notes.now.is_wrong) (g.W.Write.contents c.loop-request.out, c.loop-request.notes.is_wrong) c.args.driver.now c.loop-request.driver
    tt _ tt (All Carries) (All Carries) c.loop-request.invariant (λ m are. are)
