use Rattle.std.proofs.Common.{◌∙◌, sym}
use Rattle.fuse_judge.proofs.HandleLaws.{one_fewer}
use Rattle.fuse_judge.proofs.OpenLaws.{released_last, released_not_last}
use Rattle.fuse_judge.proofs.opens.release.Goals as goal

pub returns-then-was-eq1-clause-kept : goal.returns-then-was-eq1-clause-kept
returns-then-was-eq1-clause-kept g c = λ s are.
    released_last s c.args.file _ c.take.new.self.counts _ are c.take-then-was-eq1.new.self.counts
    (one_fewer c.args.opens.now.counts.counts c.take.new.self.counts c.args.file (rw c.handle_of-key.ensures at c.take.ensures.counts))
    c.take-then-was-eq1.ensures.counts
    (sym (are.open_count c.args.file) ∙ sym (rw c.handle_of-key.ensures at c.count-was.ensures) ∙ c.if-was-eq1.true)

pub returns-else-was-eq1-clause-kept : goal.returns-else-was-eq1-clause-kept
returns-else-was-eq1-clause-kept g c = λ s are.
    released_not_last s c.args.file _ c.take.new.self.counts _ are
    (one_fewer c.args.opens.now.counts.counts c.take.new.self.counts c.args.file (rw c.handle_of-key.ensures at c.take.ensures.counts))
    (λ e. c.if-was-eq1.false ((rw c.handle_of-key.ensures at c.count-was.ensures) ∙ are.open_count c.args.file ∙ e))
