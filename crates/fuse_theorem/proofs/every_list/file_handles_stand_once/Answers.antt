use Rattle.fuse_theorem.proofs.OpenFiles.OnceStays.{first_once, once_stays, once_at_rest}
use Rattle.fuse_theorem.proofs.every_list.file_handles_stand_once.Goals as goal

pub returns-clause-at_first : goal.returns-clause-at_first
returns-clause-at_first g = first_once

pub returns-clause-always : goal.returns-clause-always
returns-clause-always g =
    λ w p both releases opens old e o after happens. once_stays w p both releases opens old e o after happens

pub returns-clause-at_rest : goal.returns-clause-at_rest
returns-clause-at_rest g = λ w opens old rest fh. once_at_rest w opens old rest fh
