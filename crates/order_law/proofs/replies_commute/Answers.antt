use Rattle.order_law.proofs.Worlds.{replies_commute_holds}
use Rattle.order_law.proofs.replies_commute.Goals as goal

pub returns : goal.returns
returns c = replies_commute_holds
