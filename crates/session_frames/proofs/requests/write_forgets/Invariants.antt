use Rattle.std.proofs.Common.{◌≡◌, ◌++◌, length}
use Rattle.fuse_protocol.specs.Pairs.{pairs_in}
use Rattle.fuse_sessions.specs.RequestActs.{forgets_in}
use Rattle.session_frames.proofs.requests.write_forgets.Given as goal

abbrev pub invariant-pairs : goal.invariant-pairs
invariant-pairs g l = l.acts.items ++ forgets_in (pairs_in l.left) ≡ l.fn.acts.items ++ forgets_in (pairs_in l.fn.pairs)

abbrev pub decreases-pairs : goal.decreases-pairs
decreases-pairs g l = length (pairs_in l.left)
