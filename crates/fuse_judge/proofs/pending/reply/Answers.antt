use Rattle.std.proofs.Common.{◌∙◌, sym}
use Rattle.fuse_sessions.specs.Waiting.{waiting}
use Rattle.fuse_sessions.specs.declared.act.Act.TheVariants.{Replies}
use Rattle.fuse_judge.proofs.PendingLaws.{pending_kept, pending_ended, pending_waiting, waits_is, reply_ends, reply_ends_none}
use Rattle.fuse_judge.proofs.pending.reply.Goals as goal

pub returns-then-not-reaches-clause-kept : goal.returns-then-not-reaches-clause-kept
returns-then-not-reaches-clause-kept g c = λ s are. pending_kept s (Replies c.args.unique c.args.taken) _ _ _ are
    (reply_ends_none c.args.unique c.args.taken (sym c.reaches.ensures ∙ c.if-not-reaches.true))

pub returns-then-not-reaches-clause-verdict : goal.returns-then-not-reaches-clause-verdict
returns-then-not-reaches-clause-verdict g c = λ s are numbers. c.fault_of_reply.ensures s
    (c.waits.ensures ∙ waits_is s c.args.unique _ (pending_waiting s _ _ _ are c.args.unique)) numbers

pub returns-clause-kept : goal.returns-clause-kept
returns-clause-kept g c = λ s are. pending_ended s (Replies c.args.unique c.args.taken) _ _ _ are c.args.unique _ _ _
    (reply_ends c.args.unique c.args.taken (sym c.reaches.ensures ∙ c.if-not-reaches.false))
    (c.end-waited.ensures.listed (waiting s) are.listed) (c.end-waited.ensures.interrupted s are.interrupted)

pub returns-clause-verdict : goal.returns-clause-verdict
returns-clause-verdict g c = λ s are numbers. c.fault_of_reply-2.ensures s
    (c.end-waited.ensures.waited ∙ waits_is s c.args.unique _ (pending_waiting s _ _ _ are c.args.unique)) numbers
