use Rattle.fuse_spec.proofs.Tables.{get_gone_here}
use Rattle.name_judge.proofs.WaitLaws.{asked}
use Rattle.name_judge.proofs.waiting.ask.Goals as goal

pub put-requires-clause-absent : goal.put-requires-clause-absent
put-requires-clause-absent g c = rw c.remove-before.ensures.entries
    (get_gone_here c.reserve.new.self.entries c.args.unique)

pub returns : goal.returns
returns g c = λ s are. rw (c.put.ensures.entries, c.remove-before.ensures.entries, c.in_ok-reserve.ensures.entries)
    (asked s c.args.rows.now.entries c.args.unique c.args.waiting are)
