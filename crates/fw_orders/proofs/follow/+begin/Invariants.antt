use Rattle.std.proofs.Common.{length}
use Rattle.fw_orders.proofs.follow.+begin.Given as goal

abbrev pub decreases-begin : goal.decreases-begin
decreases-begin g l = length l.calls.now
