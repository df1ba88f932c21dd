use Rattle.fuse_sessions.proofs.FaultlessLaws.{balance_law, one_file_law, one_kind_law}
use Rattle.fuse_sessions.proofs.faultless.faultless_sessions.Goals as goal

pub returns-clause-balances : goal.returns-clause-balances
returns-clause-balances c = balance_law

pub returns-clause-one_file : goal.returns-clause-one_file
returns-clause-one_file c = one_file_law

pub returns-clause-one_kind : goal.returns-clause-one_kind
returns-clause-one_kind c = one_kind_law
