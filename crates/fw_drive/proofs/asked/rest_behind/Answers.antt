use Rattle.std.proofs.lemmas.Bool.Decides.{Decides-eqb}
use Rattle.std.proofs.lemmas.Slice.Eq.{strip_prefix_is}
use Rattle.fw_drive.proofs.asked.rest_behind.Goals as goal

pub returns : goal.returns
returns c = strip_prefix_is Decides-eqb c.args.path.now c.args.directory.now c.strip_prefix.result c.strip_prefix.ensures.cases
