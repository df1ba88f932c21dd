use Rattle.fuse_text.proofs.Writes.{some_either}
use Rattle.fuse_text.proofs.stop.no_memory.Goals as goal

pub returns-clause-said : goal.returns-clause-said
returns-clause-said g c = some_either c.write_text.result _ _ _ c.write_text.ensures.ok c.write_text.ensures.refused
