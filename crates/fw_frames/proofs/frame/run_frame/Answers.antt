use Rattle.std.proofs.Common.{refl, arith}
use Rattle.fw_frames.proofs.Statuses.{at_1_or_3, frame_never_0, not_1_or_3, status_of_frame}
use Rattle.fw_frames.proofs.frame.run_frame.Goals as goal

pub returns-in-Ok : goal.returns-in-Ok
returns-in-Ok g c = record {
  statuses = (0, omega arith, refl);
  printed = λ at. c.in-Ok.ensures.printed;
  bad_hex = λ at. absurd (cc at);
  silent = not_1_or_3;
}

pub returns-in-Err : goal.returns-in-Err
returns-in-Err g c = rw c.report.ensures
    (record {
      statuses = status_of_frame c.in-Err.stop c.in-Err.ensures.status;
      printed = λ at. absurd (frame_never_0 c.in-Err.stop at);
      bad_hex = c.in-Err.ensures.bad_hex;
      silent = at_1_or_3 c.in-Err.stop c.in-Err.ensures.silent;
    })
