use Rattle.std.proofs.Common.{inr}
use Rattle.clap.specs.Words.{kind_of}
use Rattle.fuseworld.proofs.run_words.Goals as goal

pub returns-in-Err : goal.returns-in-Err
returns-in-Err c =
    let read = c.in-Err.ensures in
    (read.0, read.1, inr (kind_of c.in-Err.error, read.2, c.refuse.ensures))
