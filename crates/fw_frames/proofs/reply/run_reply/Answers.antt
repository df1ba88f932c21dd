use Rattle.std.proofs.Common.{refl, arith}
use Rattle.fw_frames.proofs.Statuses.{at_1_2_or_3, frame_never_0, not_1_2_or_3, status_of_reply}
use Rattle.fw_frames.proofs.reply.run_reply.Goals as goal

pub returns-in-Ok : goal.returns-in-Ok
returns-in-Ok g c = record {
  statuses = (0, omega arith, refl);
  printed =
      λ at.
      let printed = c.in-Ok.ensures.printed in
      (c.in-Some.opcode, c.in-Some.ensures, printed.0, printed.1, printed.2);
  bad_hex = λ at. absurd (cc at);
  unknown = λ at. absurd (cc at);
  silent = not_1_2_or_3;
}

pub returns-in-Err : goal.returns-in-Err
returns-in-Err g c = rw c.report-in-Err.ensures
    (record {
      statuses = status_of_reply c.in-Err.stop;
      printed = λ at. absurd (frame_never_0 c.in-Err.stop at);
      bad_hex = c.in-Err.ensures.bad_hex;
      unknown = λ at. absurd (c.in-Err.ensures.known at);
      silent = at_1_2_or_3 c.in-Err.stop c.in-Err.ensures.silent;
    })

pub returns-in_default : goal.returns-in_default
returns-in_default g c = rw c.report.ensures
    (record {
      statuses = (2, omega arith, refl);
      printed = λ at. absurd (cc at);
      bad_hex = λ at. absurd (cc at);
      unknown = λ at. c.in_default.ensures;
      silent = λ at. refl;
    })
