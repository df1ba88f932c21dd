use Rattle.std.proofs.Common.{◌++◌}
use Rattle.name_sessions.specs.ReplyNames.{changed_acts, listed_acts}
use Rattle.name_judge.specs.Kept.{asked_of}
use Rattle.name_judge.proofs.Results.{on_ok}
use Rattle.name_judge.proofs.ReplyLaws.{both_on}
use Rattle.name_judge.proofs.replies.see_done.Goals as goal

pub returns : goal.returns
returns g c = on_ok _ _ c.see_listed.result (λ right s are.
    let asked = asked_of c.args.asked in
    let changed = changed_acts asked.removed asked.made c.args.bytes.now in
    both_on s c.see_listed.new.tables changed (listed_acts asked.listed c.args.bytes.now)
    (right (s ++ changed) (c.in_ok-change.ensures s are))) c.see_listed.ensures
