use Rattle.std.proofs.Common.{[], ◌∷◌, sym, subst}
use Rattle.fuse_device.specs.Transfers.{sent, unsent}
use Rattle.fw_capture.proofs.Logged.{captured_sent, captured_unsent}
use Rattle.fw_capture.proofs.captured.CapturedDeviceDevice.send.Goals as goal

pub returns-in-Ok-clause-result : goal.returns-in-Ok-clause-result
returns-in-Ok-clause-result g c = (
  subst (λ inner. g.D.Device.logs c.args.self.now.inner inner (sent c.args.frame.now c.in-Ok.sent ∷ []))
      (sym c.write.ensures.inner) c.in-Ok.ensures.result,
  captured_sent _ _ _ _ _ _ c.args.frame.now c.in-Ok.sent c.result_text.result.now c.result_text.ensures
      c.write.ensures.written,
)

pub returns-in-Err-clause-end : goal.returns-in-Err-clause-end
returns-in-Err-clause-end g c = (
  subst (λ inner. g.D.Device.logs c.args.self.now.inner inner (unsent c.args.frame.now c.in-Err.end ∷ []))
      (sym c.write-in-Err.ensures.inner) c.in-Err.ensures.end,
  captured_unsent _ _ _ _ _ _ c.args.frame.now c.in-Err.end c.ended_text.result.now c.ended_text.ensures
      c.write-in-Err.ensures.written,
)
