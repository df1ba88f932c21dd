use Rattle.std.proofs.Common.{◌≡◌, ◌<◌, ◌^◌, ℕ, length, ap, ◌∙◌, arith}
use Rattle.std.specs.Int.{cast_unsigned, w32}
use Rattle.std.proofs.lemmas.Int.{to_z-of_z}
use Rattle.fk_wire.specs.Replies.{reply_message}
use Rattle.fk_wire.proofs.OneReply.{error_fits}
use Rattle.fk_wire.proofs.ReplyNames.{names_hold}
use Rattle.fuseworld_codec.proofs.Written.{whole_reply}
use Rattle.fuseworld_codec.proofs.reply_bytes.put_reply.Goals as goal

pub returns : goal.returns
returns c =
    let len : ℕ = length c.args.out.now in
    let same : c.error_word-word.result ≡ cast_unsigned w32 c.args.reply.now.error =
    c.error_word-word.ensures ∙ ap (cast_unsigned w32)
    (to_z-of_z w32 c.args.reply.now.error (error_fits c.args.reply.now.error c.requires.error)) in
    let word : cast_unsigned w32 c.args.reply.now.error < 2 ^ 32 = omega (arith, same, c.error_word-word.type_inv) in
    whole_reply c.args.version (reply_message c.args.reply.now) c.put_body.new.out len c.put_body.result
    (omega (arith, c.put_body.ensures.len, c.put_u64-place.ensures.len, c.put_u32-place-2.ensures.len, c.put_u32-place.ensures.len))
    (omega (arith, c.put_body.ensures.place, c.put_u64-place.ensures.place, c.put_u32-place-2.ensures.place, c.put_u32-place.ensures.place, c.requires.size))
    (omega (arith, c.requires.size)) (omega (arith, c.requires.fits.2, c.requires.size)) c.requires.error
    c.requires.known c.requires.fits.0 c.requires.fits.1 (names_hold c.args.reply.now.body) word (omega arith)
    c.put_body.ensures.fits (cc)
