use Rattle.std.proofs.Common.{inr, refl}
use Rattle.fuse_protocol.specs.Agreement.{before_init}
use Rattle.frame_words.proofs.NoHeader.{no_opcode}
use Rattle.fuse_text.proofs.Writes.{OnOk-map}
use Rattle.frame_words.proofs.frames.write_known_head.Goals as goal

pub returns-in-Err : goal.returns-in-Err
returns-in-Err g c =
    OnOk-map _ _ c.write_all.result (λ wrote. (
      _,
      inr
          (no_opcode c.args.bytes.now c.in-Err.field-0 (c.in-Err.ensures.fault before_init), refl),
      wrote,
    ))
    c.write_all.ensures.bytes
