use Rattle.std.proofs.Common.{ap, arith, refl}
use Rattle.std.specs.Prelude.{Err}
use Rattle.fuse_protocol.specs.Agreement.{before_init}
use Rattle.frame_words.specs.Frames.{IsRequestText}
use Rattle.fw_frames.proofs.Statuses.{not_1_or_3}
use Rattle.fw_any.proofs.Statuses.{hex_ends}
use Rattle.fw_any.proofs.any_frame.run_any_frame.Goals as goal

pub returns-in-Err : goal.returns-in-Err
returns-in-Err g c = rw c.report_hex.ensures (hex_ends g.W.Write.contents (IsRequestText before_init) c.args.text.now
    c.args.out.now c.in-Err.fault
    (λ is frame fits spells. c.in-Err.ensures.bad (ap Err is) frame fits (rw c.as_bytes.ensures.value spells)))

pub returns-in-Ok-print_line : goal.returns-in-Ok-print_line
returns-in-Ok-print_line g c = record {
  statuses = (0, omega arith, refl);
  printed = λ at. (c.as_slice.result.now, rw (c.as_slice.ensures.value, ← c.as_bytes.ensures.value) c.in-Ok.ensures.value, c.in-Ok-print_line.ensures);
  bad_hex = λ at. absurd (cc at);
  silent = not_1_or_3;
}
