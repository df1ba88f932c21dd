use Rattle.fuse_theorem.proofs.WholeLists.AllRecorded.{has_records}
use Rattle.fuse_theorem.proofs.headline.every_list_has_records.Goals as goal

pub returns-clause-some : goal.returns-clause-some
returns-clause-some g = λ w events. let recorded = has_records w events in (recorded.0, recorded.1, recorded.2)

pub returns-clause-not_memory : goal.returns-clause-not_memory
returns-clause-not_memory g = λ w events. has_records w events
