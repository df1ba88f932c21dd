use Rattle.std.proofs.Common.{◌≡◌, ◌++◌, ◌+◌, ◌<◌, ◌^◌, ◌∙◌, append_assoc, arith, refl, sym, ap}
use Rattle.std.specs.Int.{w32, cast_unsigned}
use Rattle.std.proofs.lemmas.Int.{ints, to_z-of_z}
use Rattle.fk_wire.specs.Replies.{IsErrorNumber, IsAlone, reply_message}
use Rattle.fk_wire.specs.Fields.{bytes_of}
use Rattle.fk_wire.proofs.Frames.{reply_frame}
use Rattle.fk_wire.proofs.OneReply.{error_fits}
use Rattle.fk_wire.proofs.ReplyNames.{names_hold}
use Rattle.fk_wire.proofs.writing_reply.write_reply_at.Goals as goal
use Rattle.fk_wire.proofs.writing_reply.write_reply_at.Goals.{else-word-ne0-via-then-word-ne0+else-not-is_empty, else-word-ne0-via-else-word-ne0}

pub returns-clause-ok : goal.returns-clause-ok
returns-clause-ok g c =
    let error : IsErrorNumber c.args.reply.now.error = search (arith, ints) in
    let same : c.error_word-word.result ≡ cast_unsigned w32 c.args.reply.now.error =
    c.error_word-word.ensures ∙ ap (cast_unsigned w32)
    (to_z-of_z w32 c.args.reply.now.error (error_fits c.args.reply.now.error error)) in
    let word : cast_unsigned w32 c.args.reply.now.error < 2 ^ 32 = omega (arith, same, c.error_word-word.type_inv) in
    let alone : IsAlone (reply_message c.args.reply.now) = elim c.else-word-ne0.branch [
      | else-word-ne0-via-then-word-ne0+else-not-is_empty w ↦ λ _. w.if-not-is_empty.ensures.0 refl
      | else-word-ne0-via-else-word-ne0 w ↦ λ some. absurd (some (sym same ∙ w.if-word-ne0.false))
    ] in
    let len = bytes_of 4 (16 + c.reply_size-size.result) in
    let word' = bytes_of 4 c.error_word-word.result in
    let unique = bytes_of 8 c.args.reply.now.unique in
    let regroup : ((c.args.out.now.items ++ len) ++ word') ++ unique ≡ c.args.out.now.items ++ (len ++ word' ++ unique) =
    simp append_assoc in
    reply_frame c.args.minor (reply_message c.args.reply.now) c.args.out.now.items c.put_reply_body.new.out.items
    (16 + c.reply_size-size.result)
    (omega (arith, c.reply_size-size.ensures)) (omega arith) error (c.if-not-is_known_body.ensures.0 refl) alone
    (c.if-not-has_times.ensures.0 refl) (names_hold c.args.reply.now.body) word
    c.put_header.ensures.fits c.put_reply_body.ensures.fits
    (cc)
