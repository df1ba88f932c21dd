use Rattle.std.proofs.Common.{refl}
use Rattle.fk_wire.proofs.PairLists.{forgets_read}
use Rattle.fk_wire.proofs.bodies.batch_forget_body.Goals as goal

pub returns-clause-ok : goal.returns-clause-ok
returns-clause-ok c =
    let k = c.in_ok-pairs.ensures.ok in
    (refl, forgets_read c.args.bytes.now _ k.0 k.1)
