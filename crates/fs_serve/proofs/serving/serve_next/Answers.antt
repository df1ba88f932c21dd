use Rattle.std.proofs.Common.{[], ◌∷◌, refl, inl, inr, sym, ◌∙◌, take, true≢false}
use Rattle.fuse_device.specs.Transfers.{received, stopped}
use Rattle.fs_serve.specs.LongBatches.{IsLongBatch}
use Rattle.fs_serve.specs.LongInits.{IsLongInit}
use Rattle.fs_serve.specs.Serving.{batch, one, none}
use Rattle.fs_serve.proofs.serving.serve_next.Goals as goal

pub returns-in-Err : goal.returns-in-Err
returns-in-Err g c = (stopped c.in-Err.end ∷ [], c.in-Err.ensures.end, none c.in-Err.end, refl)

pub returns-then-is_long_init : goal.returns-then-is_long_init
returns-then-is_long_init g c =
    let (log, logs, serves, ends) = c.serve_frame.ensures in
    let bytes = take c.in-Ok.count c.receive.new.room in
    let long = c.is_long_init.ensures.0 c.if-is_long_init.true in (
      received bytes ∷ log,
      g.met.D.Device.goes_on c.args.device.now c.receive.new.self c.serve_frame.new.device (received bytes ∷ []) log c.in-Ok.ensures.frame logs,
      one bytes c.init_in.result (inl (long, c.init_in.ensures)) log c.serve_frame.new.server serves,
      ends,
    )

pub returns-then-is_long_batch : goal.returns-then-is_long_batch
returns-then-is_long_batch g c =
    let (log, logs, serves, ends) = c.serve_batch.ensures in
    let bytes = take c.in-Ok.count c.receive.new.room in
    let long = c.is_long_batch.ensures.0 c.if-is_long_batch.true in (
      received bytes ∷ log,
      g.met.D.Device.goes_on c.args.device.now c.receive.new.self c.serve_batch.new.device (received bytes ∷ []) log c.in-Ok.ensures.frame logs,
      batch bytes long log c.serve_batch.new.server serves,
      ends,
    )

pub returns : goal.returns
returns g c =
    let (log, logs, serves, ends) = c.serve_frame-2.ensures in
    let bytes = take c.in-Ok.count c.receive.new.room in
    let short = λ (long : IsLongInit bytes). true≢false (sym (c.is_long_init.ensures.1 long) ∙ c.if-is_long_init.false) in
    let few = λ (long : IsLongBatch bytes). true≢false (sym (c.is_long_batch.ensures.1 long) ∙ c.if-is_long_batch.false) in (
      received bytes ∷ log,
      g.met.D.Device.goes_on c.args.device.now c.receive.new.self c.serve_frame-2.new.device (received bytes ∷ []) log c.in-Ok.ensures.frame logs,
      one bytes bytes (inr (short, few, refl)) log c.serve_frame-2.new.server serves,
      ends,
    )
