use Rattle.std.proofs.Common.{◌∙◌, ap, is_some, sym}
use Rattle.fuse_spec.proofs.Tables.{get_gone_here}
use Rattle.fuse_judge.proofs.PendingLaws.{ended_some, ended_absent, ended_none, removed_interrupted}
use Rattle.fuse_judge.proofs.pending.end.Goals as goal

pub returns-clause-waited : goal.returns-clause-waited
returns-clause-waited g c = ap is_some (sym c.in-Some.is ∙ c.remove.ensures.value)

pub returns-clause-listed : goal.returns-clause-listed
returns-clause-listed g c = λ xs are. rw c.remove.ensures.entries
    (ended_some xs c.args.pending.now.rows.entries c.args.unique c.args.pending.now.named.counts
    c.args.pending.now.used.counts are c.in-Some.row c.take_names.new.named.counts c.take_uses.new.used.counts
    (sym c.remove.ensures.value ∙ c.in-Some.is) c.take_names.ensures.counts c.take_uses.ensures.counts)

pub returns-clause-interrupted : goal.returns-clause-interrupted
returns-clause-interrupted g c = λ s are. rw c.remove.ensures.entries
    (removed_interrupted s c.args.pending.now.rows.entries c.args.unique are)

pub returns-clause-gone : goal.returns-clause-gone
returns-clause-gone g c = rw c.remove.ensures.entries
    (get_gone_here c.args.pending.now.rows.entries c.args.unique)

pub returns-in_default-clause-waited : goal.returns-in_default-clause-waited
returns-in_default-clause-waited g c = ap is_some (sym c.in_default.is ∙ c.remove.ensures.value)

pub returns-in_default-clause-listed : goal.returns-in_default-clause-listed
returns-in_default-clause-listed g c = λ xs are. rw c.remove.ensures.entries
    (ended_absent xs c.args.pending.now.rows.entries c.args.unique c.args.pending.now.named.counts
    c.args.pending.now.used.counts are (sym c.remove.ensures.value ∙ c.in_default.is))

pub returns-in_default-clause-interrupted : goal.returns-in_default-clause-interrupted
returns-in_default-clause-interrupted g c = λ s are. rw c.remove.ensures.entries
    (removed_interrupted s c.args.pending.now.rows.entries c.args.unique are)

pub returns-in_default-clause-gone : goal.returns-in_default-clause-gone
returns-in_default-clause-gone g c = rw c.remove.ensures.entries
    (get_gone_here c.args.pending.now.rows.entries c.args.unique)

pub returns-then-is_above-clause-waited : goal.returns-then-is_above-clause-waited
returns-then-is_above-clause-waited g c = ap is_some (sym (c.is_above.ensures c.if-is_above.true))

pub returns-then-is_above-clause-listed : goal.returns-then-is_above-clause-listed
returns-then-is_above-clause-listed g c = λ xs are.
    ended_none xs c.args.pending.now.rows.entries c.args.unique c.args.pending.now.named.counts
    c.args.pending.now.used.counts are (c.is_above.ensures c.if-is_above.true)

pub returns-then-is_above-clause-gone : goal.returns-then-is_above-clause-gone
returns-then-is_above-clause-gone g c = c.is_above.ensures c.if-is_above.true
