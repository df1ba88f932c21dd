use Rattle.std.proofs.Common.{◌≡◌, Some, sym, ap, ◌∙◌}
use Rattle.std.specs.Int.{cast_unsigned, w32}
use Rattle.std.proofs.lemmas.Int.{to_z-of_z}
use Rattle.fk_wire.specs.Replies.{kind_of_content, reply_kind}
use Rattle.fk_wire.proofs.OneReply.{error_fits}
use Rattle.fuseworld_codec.proofs.ReplyKinds.{kind_known}
use Rattle.fuseworld_codec.proofs.reply_message.reply_of.Goals as goal

pub returns-in-Err-clause-none : goal.returns-in-Err-clause-none
returns-in-Err-clause-none c = λ place t goes says.
    let same : c.error_word.result ≡ cast_unsigned w32 c.args.r.now.error =
    c.error_word.ensures ∙ ap (cast_unsigned w32)
    (to_z-of_z w32 c.args.r.now.error (error_fits c.args.r.now.error c.requires)) in
    let zero : cast_unsigned w32 t.error ≡ 0 = cc (same, says.1, c.if-error_word-ne0.false) in
    let kind : kind_of_content t.content ≡ goes.0 = cc (goes.2, zero) in
    let known : reply_kind c.args.version c.args.opcode ≡ Some (kind_of_content t.content) =
    goes.1 ∙ ap Some (sym kind) in
    c.in-Err.ensures.none place t.content (kind_known c.args.version c.args.opcode t.content known) says.2
