use Rattle.std.proofs.Common.{[], arith}
use Rattle.fuse_judge.proofs.SeenSoFar.{room_for_none, seen_nothing}
use Rattle.fuse_judge.proofs.judge.Judge.new.Goals as goal

pub invariant_of-result : goal.invariant_of-result
invariant_of-result g c = (
  (
    [],
    seen_nothing c.no_flags.result _ _ _ _ _ _ _ c.no_flags.ensures c.new.ensures c.new-2.ensures c.new-3.ensures
        c.new-4.ensures c.new-5.ensures c.new-6.ensures c.new-7.ensures,
    omega arith,
  ),
  room_for_none _,
)

pub returns : goal.returns
returns g c = seen_nothing c.no_flags.result _ _ _ _ _ _ _ c.no_flags.ensures c.new.ensures c.new-2.ensures c.new-3.ensures
    c.new-4.ensures c.new-5.ensures c.new-6.ensures c.new-7.ensures
