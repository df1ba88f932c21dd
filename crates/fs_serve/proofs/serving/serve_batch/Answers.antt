use Rattle.std.proofs.Common.{◌++◌, ◌∙◌, [], None, Some, take, refl, sym}
use Rattle.fs_serve.specs.Serving.{no_pairs}
use Rattle.fs_serve.proofs.Servings.{batch_ended, pairs_left, pairs_more}
use Rattle.fs_serve.proofs.serving.serve_batch.Goals as goal

pub loop-rest-init : goal.loop-rest-init
loop-rest-init g c =
    ([], sym c.pairs_in-rest.ensures, ([], g.met.D.Device.stays c.args.device.now, no_pairs, refl))

pub returns-in-Err : goal.returns-in-Err
returns-in-Err g c =
    let (pairs, split, so_far) = c.loop-rest.invariant in
    let left = c.loop-rest.rest.now in
    let n = c.min-count.result in
    let more = pairs_more g.D.Device.logs g.met.D.Device.goes_on c.args.device.now c.loop-rest.device c.serve_frame.new.device
    c.args.frame.now c.args.server.now c.loop-rest.server c.serve_frame.new.server (Some c.in-Err.end) pairs left
    c.as_slice.result.now n c.min-count.ensures (c.as_slice.ensures.value ∙ c.put_part.ensures) split so_far c.in-Err.ensures in
    batch_ended g.D.Device.logs c.args.device.now c.serve_frame.new.device c.args.frame.now c.args.server.now
    c.serve_frame.new.server c.in-Err.end (pairs ++ take n left) more

pub loop-rest-preserved : goal.loop-rest-preserved
loop-rest-preserved g c =
    let (pairs, split, so_far) = c.loop-rest.invariant in
    let left = c.loop-rest.rest.now in
    let n = c.min-count.result in
    let more = pairs_more g.D.Device.logs g.met.D.Device.goes_on c.args.device.now c.loop-rest.device c.serve_frame.new.device
    c.args.frame.now c.args.server.now c.loop-rest.server c.serve_frame.new.server None pairs left
    c.as_slice.result.now n c.min-count.ensures (c.as_slice.ensures.value ∙ c.put_part.ensures) split so_far c.in_default.ensures in
    (pairs ++ take n left, pairs_left _ pairs left n split, more)
