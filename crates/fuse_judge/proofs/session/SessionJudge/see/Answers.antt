use Rattle.std.specs.Option.{option_copied}
use Rattle.fuse_judge.proofs.TransferLaws.{acts_for, is_judged}
use Rattle.fuse_judge.proofs.session.SessionJudge.see.Goals as goal

pub returns-clause-judged : goal.returns-clause-judged
returns-clause-judged g c = rw (← c.self.view_is) (λ start before s right.
    let k = c.self.inside.known in
    let later = c.write_transfer.new.known in
    let acts = c.write_transfer.new.acts.items in
    is_judged start before s (record { judge = c.self.inside.judge; known = k }) (record { judge = c.see.new.self; known = later })
    c.args.transfer acts c.see.new.verdicts.items right
    (acts_for k s c.args.transfer (option_copied c.asked_for-asked.result) acts later
    (c.asked_for-asked.ensures s right.seen) c.in_ok-write_transfer.ensures)
    (rw c.deref.ensures.value at c.in_ok-see.ensures.verdicts s right.seen)
    (rw c.deref.ensures.value at c.in_ok-see.ensures.len)
    (rw c.deref.ensures.value at c.in_ok-see.ensures.seen s right.seen))
