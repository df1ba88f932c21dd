use Rattle.std.proofs.Common.{subst}
use Rattle.std.specs.Prelude.{ℤ}
use Rattle.fk_wire.specs.Replies.{WrittenReply, empty_reply}
use Rattle.fuse_frames.proofs.Sayings.{same_error}
use Rattle.fk_drive.proofs.Sent.{taken_of}
use Rattle.fk_drive.proofs.sending.answer.Goals as goal

pub returns-in-Ok-clause-ok : goal.returns-in-Ok-clause-ok
returns-in-Ok-clause-ok g c =
    let bytes = c.frame_of_error.result in
    let written = c.in-Ok._result in (
      bytes,
      written,
      subst (λ (e : ℤ). WrittenReply (record { unique = c.args.unique; error = e; content = empty_reply }) bytes)
          (same_error c.args.error c.requires) c.frame_of_error.ensures,
      taken_of c.args.kernel.now bytes written c.write-written.new.self c.in-Ok.ensures.headless c.in-Ok.ensures.unawaited
          c.in-Ok.ensures.taken c.lemma_in_range.ensures,
    )

pub returns-in-Err-clause-err : goal.returns-in-Err-clause-err
returns-in-Err-clause-err g c =
    let bytes = c.frame_of_error.result in (
      bytes,
      subst (λ (e : ℤ). WrittenReply (record { unique = c.args.unique; error = e; content = empty_reply }) bytes)
          (same_error c.args.error c.requires) c.frame_of_error.ensures,
      c.in-Err.ensures.refusal,
    )
