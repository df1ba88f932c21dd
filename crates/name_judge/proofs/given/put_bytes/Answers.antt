use Rattle.std.proofs.Common.{true}
use Rattle.name_judge.proofs.Bytes.{changed}
use Rattle.name_judge.proofs.given.put_bytes.Goals as goal

pub returns : goal.returns
returns g c =
    let updates = c.in_ok-_new.ensures.updates in
    changed c.args.names.now.keys c.insert.new.self.keys c.args.bytes.items true updates.1 updates.3
