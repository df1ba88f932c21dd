use Rattle.std.proofs.Common.{rules}
use Rattle.fw_world.proofs.Sending.{result_written}
use Rattle.fw_world.proofs.envelopes.frame_result.Goals as goal

pub returns-clause-spells : goal.returns-clause-spells
returns-clause-spells g c =
    result_written c.write_result-written.result c.args.settled.result c.args.settled.unique c.write_result-written.new.out.items (search rules) (search rules) (search rules) (search rules)
