use Rattle.std.proofs.Common.{[], ◌∷◌, take, sym, subst}
use Rattle.fuse_device.specs.Transfers.{received, stopped}
use Rattle.fw_capture.proofs.Logged.{captured_request, captured_stopped}
use Rattle.fw_capture.proofs.captured.CapturedDeviceDevice.receive.Goals as goal

pub returns-in-Ok-clause-frame : goal.returns-in-Ok-clause-frame
returns-in-Ok-clause-frame g c =
    let frame = take c.in-Ok.count c.receive.new.room in (
      subst (λ inner. g.D.Device.logs c.args.self.now.inner inner (received frame ∷ [])) (sym c.write.ensures.inner)
          c.in-Ok.ensures.frame,
      captured_request _ _ _ _ _ _ frame c.write.ensures.written,
    )

pub returns-in-Err-clause-end : goal.returns-in-Err-clause-end
returns-in-Err-clause-end g c = (
  subst (λ inner. g.D.Device.logs c.args.self.now.inner inner (stopped c.in-Err.end ∷ []))
      (sym c.write-in-Err.ensures.inner) c.in-Err.ensures.end,
  captured_stopped _ _ _ _ _ _ c.in-Err.end c.ended_text.result.now c.ended_text.ensures
      c.write-in-Err.ensures.written,
)
