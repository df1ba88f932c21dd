-- Each step takes a part or a choice.
use Rattle.std.proofs.Common.{◌+◌, length}
use Rattle.fw_orders.proofs.follow.+follow.Given as goal

abbrev pub decreases-follow : goal.decreases-follow
decreases-follow g l = length l.parts.now + length l.choices.now
