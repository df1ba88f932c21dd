use Rattle.std.proofs.Common.{refl, sym, ◌∙◌}
use Rattle.std.proofs.lemmas.Result.{IfErr-weaker, on_ok_weaker}
use Rattle.fk_wire.specs.Requests.{opcode_of, request_content, request_message}
use Rattle.fk_wire.specs.Opcodes.{reply_kind_of}
use Rattle.fk_wire.specs.Replies.{reply_message}
use Rattle.callers.specs.Answered.{unreplied}
use Rattle.fk_wire.specs.ReplyFaults.{ReplyRefusalIs}
use Rattle.callers.specs.Answered.{AnswerFaultIs}
use Rattle.callers.proofs.Answering.{answered_by, none_there, some_there, unsent}
use Rattle.callers.proofs.server.answer.Goals as goal

pub returns-then-has_reply-clause-answered : goal.returns-then-has_reply-clause-answered
returns-then-has_reply-clause-answered g c =
    on_ok_weaker c.write_reply.result
    (answered_by c.args.frame.now c.args.out.now.items c.write_reply.new.out.items
    (request_message c.in_ok-request.request) (reply_message c.reply_to-reply.result)
    c.in_ok-request.ensures.ok c.reply_to-reply.ensures.reply c.reply_to-reply.ensures.goes)
    c.write_reply.ensures.ok

pub returns-else-has_reply-clause-answered : goal.returns-else-has_reply-clause-answered
returns-else-has_reply-clause-answered g c =
    unreplied (request_message c.in_ok-request.request) c.in_ok-request.ensures.ok
    (none_there (reply_kind_of (opcode_of (request_content c.in_ok-request.request.body)))
    (sym c.if-has_reply.false ∙ c.has_reply.ensures)) refl

pub returns-then-has_reply-clause-fault : goal.returns-then-has_reply-clause-fault
returns-then-has_reply-clause-fault g c =
    IfErr-weaker c.write_reply.result (ReplyRefusalIs (reply_message c.reply_to-reply.result))
    (AnswerFaultIs c.args.frame.now)
    (unsent c.args.frame.now (request_message c.in_ok-request.request) (reply_message c.reply_to-reply.result)
    c.in_ok-request.ensures.ok
    (some_there (reply_kind_of (opcode_of (request_content c.in_ok-request.request.body)))
    (sym c.has_reply.ensures ∙ c.if-has_reply.true))
    c.reply_to-reply.ensures.fits) c.write_reply.ensures.fault
