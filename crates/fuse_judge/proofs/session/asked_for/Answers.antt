use Rattle.std.proofs.Common.{sym}
use Rattle.fuse_judge.proofs.session.asked_for.Goals as goal

pub returns-in-Written : goal.returns-in-Written
returns-in-Written g c = λ s seen. rw c.in-Written.is
    (c.reply_number.result, rw c.in-Written.is at c.reply_number.ensures, sym (c.asked.ensures s seen))
