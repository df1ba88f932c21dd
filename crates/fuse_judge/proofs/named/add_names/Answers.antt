use Rattle.std.proofs.Common.{◌≡◌, ◌+◌, arith, nat_eq}
use Rattle.fuse_judge.specs.Tallies.{count_in, one_if}
use Rattle.fuse_judge.proofs.PendingLaws.{one_small}
use Rattle.fuse_judge.proofs.named.add_names.Goals as goal

pub add-requires-2-clause-few : goal.add-requires-2-clause-few
add-requires-2-clause-few g c =
    let other = c.args.asked.now.other in
    let few = c.requires.few other in
    let more : count_in nat_eq c.add.new.self.counts other
    ≡ count_in nat_eq c.args.named.now.counts other + one_if (nat_eq c.args.asked.now.nodeid other) = c.add.ensures.counts other in
    let one = one_small (nat_eq c.args.asked.now.nodeid other) in
    omega (arith, few, more, one)
