use Rattle.fuse_theorem.proofs.Answers.NothingWaits.{none_called}
use Rattle.fuse_theorem.proofs.OpenFiles.OpensAtRest.{none_closing, opens_counted}
use Rattle.fuse_theorem.proofs.every_list.open_files_are_counted_at_rest.Goals as goal

pub returns-clause-closing : goal.returns-clause-closing
returns-clause-closing g = λ w p both releases way rest. none_closing w releases.files
    (none_called w both.world way rest p both.alike)

pub returns-clause-opens : goal.returns-clause-opens
returns-clause-opens g = λ w p both releases way balance rest fh. opens_counted w rest fh balance
    (none_closing w releases.files (none_called w both.world way rest p both.alike))
