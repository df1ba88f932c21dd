use Rattle.fs_files.specs.Listed.{dirents_in}
use Rattle.fs_files.proofs.replies.listed.Goals as goal

pub listed-requires-clause-written : goal.listed-requires-clause-written
listed-requires-clause-written g c = (dirents_in c.args.records.now, c.requires.some)

pub returns : goal.returns
returns g c = c.listed.ensures (dirents_in c.args.records.now) c.requires.some
