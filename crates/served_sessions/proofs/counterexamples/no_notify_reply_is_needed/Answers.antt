use Rattle.served_sessions.proofs.NotifyReplies.{no_notify_reply_is_needed}
use Rattle.served_sessions.proofs.counterexamples.no_notify_reply_is_needed.Goals as goal

pub returns : goal.returns
returns c = no_notify_reply_is_needed
