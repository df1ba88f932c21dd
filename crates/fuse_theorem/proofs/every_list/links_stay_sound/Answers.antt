use Rattle.fuse_theorem.proofs.Requests.InterruptsNoted.{interrupt_noted}
use Rattle.fuse_theorem.proofs.Requests.LinksSound.{first_links, links_stay}
use Rattle.fuse_theorem.proofs.every_list.links_stay_sound.Goals as goal

pub returns-clause-at_first : goal.returns-clause-at_first
returns-clause-at_first g = first_links

pub returns-clause-always : goal.returns-clause-always
returns-clause-always g = λ w sound asked links e o after happens. links_stay w sound asked links e o after happens

pub returns-clause-interrupt : goal.returns-clause-interrupt
returns-clause-interrupt g =
    λ w p sound asked links same k r original there body_is. interrupt_noted w p sound asked links same k r original there body_is
