use Rattle.std.proofs.Common.{sym, ◌∙◌}
use Rattle.fuse_spec.proofs.Tables.{get_gone_here}
use Rattle.fuse_judge.proofs.WaitingCounts.{as_many, none_removed, put_back}
use Rattle.fuse_judge.proofs.unanswered.count_rows.Goals as goal

pub put-requires-clause-absent : goal.put-requires-clause-absent
put-requires-clause-absent g c = rw c.remove.ensures.entries (get_gone_here c.args.rows.now.entries 0)

pub returns-in-Some-clause-count : goal.returns-in-Some-clause-count
returns-in-Some-clause-count g c = λ xs once.
    c.len-count.ensures ∙ as_many c.args.rows.now.entries xs c.remove.ensures.sorted once

pub returns-in-Some-clause-same : goal.returns-in-Some-clause-same
returns-in-Some-clause-same g c = rw (c.put.ensures.entries, c.remove.ensures.entries)
    (put_back c.args.rows.now.entries 0 c.remove.ensures.sorted c.in-Some.row
    (sym c.remove.ensures.value ∙ c.in-Some.is))

pub returns-in_default-clause-count : goal.returns-in_default-clause-count
returns-in_default-clause-count g c = λ xs once.
    c.len-count.ensures ∙ as_many c.args.rows.now.entries xs c.remove.ensures.sorted once

pub returns-in_default-clause-same : goal.returns-in_default-clause-same
returns-in_default-clause-same g c = rw c.remove.ensures.entries
    (none_removed c.args.rows.now.entries 0 c.remove.ensures.sorted (sym c.remove.ensures.value ∙ c.in_default.is))
