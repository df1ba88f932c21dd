use Rattle.fuse_theorem.proofs.OpenFiles.ReleasesStay.{first_releases, releases_stay_known}
use Rattle.fuse_theorem.proofs.every_list.releases_stay_known.Goals as goal

pub returns-clause-at_first : goal.returns-clause-at_first
returns-clause-at_first g = first_releases

pub returns-clause-always : goal.returns-clause-always
returns-clause-always g =
    λ w sound asked links nodes held old e o after happens. releases_stay_known w sound asked links nodes held old e o after happens
