use Rattle.fuse_theorem.proofs.Answers.NothingWaits.{none_called, none_processing}
use Rattle.fuse_theorem.proofs.Requests.OnTheWay.{first_on_their_way, read_stay_on_their_way}
use Rattle.fuse_theorem.proofs.every_list.nothing_waits_at_rest.Goals as goal

pub returns-clause-at_first : goal.returns-clause-at_first
returns-clause-at_first g = first_on_their_way

pub returns-clause-always : goal.returns-clause-always
returns-clause-always g =
    λ w sound links old e o after happens. read_stay_on_their_way w sound links old e o after happens

pub returns-clause-processing : goal.returns-clause-processing
returns-clause-processing g = λ w sound way rest. none_processing w sound way rest

pub returns-clause-calls : goal.returns-clause-calls
returns-clause-calls g = λ w p sound same way rest. none_called w sound way rest p same
