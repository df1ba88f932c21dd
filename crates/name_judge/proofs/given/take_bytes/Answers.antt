use Rattle.std.proofs.Common.{false}
use Rattle.name_judge.proofs.Bytes.{changed}
use Rattle.name_judge.proofs.given.take_bytes.Goals as goal

pub returns : goal.returns
returns g c =
    let updates = c.remove-was.ensures.updates in
    changed c.args.names.now.keys c.remove-was.new.self.keys c.args.bytes.now false updates.1 updates.3
