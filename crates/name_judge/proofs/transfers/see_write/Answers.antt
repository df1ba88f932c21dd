use Rattle.std.proofs.Common.{rules}
use Rattle.name_judge.proofs.TransferLaws.{seen_written}
use Rattle.name_judge.proofs.transfers.see_write.Goals as goal

pub returns : goal.returns
returns g c = λ s are sure.
    seen_written s c.see_written.new.tables c.args.bytes.now c.args.taken
    (c.has_head.ensures.head.0 (search rules)) (c.in_ok-see_written.ensures s are)
