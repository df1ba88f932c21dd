use Rattle.std.proofs.Common.{[], refl, arith}
use Rattle.fs_serve.specs.Serving.{nothing}
use Rattle.fs_serve.proofs.Servings.{serves_more, serves_to_the_end}
use Rattle.fs_serve.proofs.serving.serve_frames.Goals as goal

pub loop-frame-init : goal.loop-frame-init
loop-frame-init g c = ([], g.met.D.Device.stays c.args.device.now, (nothing, refl), refl)

pub loop-frame-preserved : goal.loop-frame-preserved
loop-frame-preserved g c =
    serves_more g.D.Device.logs g.met.D.Device.goes_on c.args.device.now c.loop-frame.device c.serve_next.new.device
    c.args.server.now c.loop-frame.server c.serve_next.new.server c.loop-frame._frame c.loop-frame.invariant
    c.in_default.ensures

pub returns-in-Err : goal.returns-in-Err
returns-in-Err g c =
    serves_to_the_end g.D.Device.logs g.met.D.Device.goes_on c.args.device.now c.loop-frame.device
    c.serve_next.new.device c.args.server.now c.loop-frame.server c.serve_next.new.server c.loop-frame._frame
    c.loop-frame.invariant c.in-Err.end c.in-Err.ensures

pub returns : goal.returns
returns g c =
    let (log, logs, both, ends) = c.loop-frame.invariant in
    let count = both.1 in
    (log, logs, (both.0, λ going. omega (arith, count, c.loop-frame-test.false, c.loop-frame.auto._frame-end)), ends)
