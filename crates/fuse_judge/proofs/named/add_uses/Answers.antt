use Rattle.std.proofs.Common.{arith}
use Rattle.fuse_sessions.specs.Waiting.{is_that}
use Rattle.fuse_judge.proofs.PendingLaws.{one_small}
use Rattle.fuse_judge.proofs.named.add_uses.Goals as goal

pub add_use-requires-2-clause-few : goal.add_use-requires-2-clause-few
add_use-requires-2-clause-few g c = λ q.
    let few = c.requires.few q in
    let more = c.add_use.ensures.counts q in
    let one = one_small (is_that q c.args.asked.now.uses) in
    omega (arith, few, more, one)
