use Rattle.std.proofs.Common.{arith}
use Rattle.std.proofs.lemmas.Fmt.{length-decimal-le}
use Rattle.std.proofs.lemmas.Grind.{common_steps}
use Rattle.fw_script.proofs.records.put_start.Goals as goal

pub append-requires : goal.append-requires
append-requires c =
    let short = length-decimal-le 20 c.args.call (omega arith) (omega arith) c.ranges.call.fits in
    grind (arith, common_steps, short, c.put_call.ensures)
