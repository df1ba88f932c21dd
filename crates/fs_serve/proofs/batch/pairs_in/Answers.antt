use Rattle.std.proofs.lemmas.List.{take_rest}
use Rattle.fs_serve.proofs.batch.pairs_in.Goals as goal

pub returns : goal.returns
returns c = take_rest c.args.frame.now 48
