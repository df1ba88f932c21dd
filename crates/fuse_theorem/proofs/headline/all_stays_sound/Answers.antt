use Rattle.fuse_theorem.proofs.WholeLists.AllCollected.{collected_all}
use Rattle.fuse_theorem.proofs.WholeLists.AllStaySound.{first_all, all_move}
use Rattle.fuse_theorem.proofs.headline.all_stays_sound.Goals as goal

pub returns-clause-at_first : goal.returns-clause-at_first
returns-clause-at_first g = first_all

pub returns-clause-always : goal.returns-clause-always
returns-clause-always g = λ w p all e o after happens. let went =
    all_move w p all e o after happens in (went.0, went.1, went.2.both.alike, went.2)

pub returns-clause-collecting : goal.returns-clause-collecting
returns-clause-collecting g = λ w p all. collected_all w p all
