use Rattle.std.proofs.Common.{◌^◌, ◌∙◌, sym}
use Rattle.fuse_judge.proofs.HandleLaws.{one_more}
use Rattle.fuse_judge.proofs.OpenLaws.{opened_first, opened_again, opened_few, open_nodes_few}
use Rattle.fuse_judge.proofs.opens.open.Goals as goal

pub add-requires-clause-few : goal.add-requires-clause-few
add-requires-clause-few g c = rw c.handle_of-key.ensures
    (opened_few _ _ _ c.requires.few.1 (2 ^ 64) c.requires.few.2 c.args.file)

pub add-requires-then-was-eq0-clause-few : goal.add-requires-then-was-eq0-clause-few
add-requires-then-was-eq0-clause-few g c =
    open_nodes_few _ _ _ c.requires.few.1 (2 ^ 64) c.requires.few.2 c.args.file.nodeid

pub returns-then-was-eq0-clause-kept : goal.returns-then-was-eq0-clause-kept
returns-then-was-eq0-clause-kept g c = λ s are.
    opened_first s c.args.file _ c.add.new.self.counts _ are c.add-then-was-eq0.new.self.counts
    (one_more c.args.opens.now.counts.counts c.add.new.self.counts c.args.file (rw c.handle_of-key.ensures at c.add.ensures.counts))
    c.add-then-was-eq0.ensures.counts
    (sym (are.open_count c.args.file) ∙ sym (rw c.handle_of-key.ensures at c.count-was.ensures) ∙ c.if-was-eq0.true)

pub returns-else-was-eq0-clause-kept : goal.returns-else-was-eq0-clause-kept
returns-else-was-eq0-clause-kept g c = λ s are.
    opened_again s c.args.file _ c.add.new.self.counts _ are
    (one_more c.args.opens.now.counts.counts c.add.new.self.counts c.args.file (rw c.handle_of-key.ensures at c.add.ensures.counts))
    (λ e. c.if-was-eq0.false ((rw c.handle_of-key.ensures at c.count-was.ensures) ∙ are.open_count c.args.file ∙ e))
