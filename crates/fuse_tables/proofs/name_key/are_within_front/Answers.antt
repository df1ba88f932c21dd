use Rattle.std.proofs.Common.{◌≤◌, arith, length}
use Rattle.std.proofs.lemmas.Grind.{common_steps}
use Rattle.fuse_tables.proofs.NameKeys.{same_short}
use Rattle.fuse_tables.proofs.name_key.are_within_front.Goals as goal

pub returns-then-len-right : goal.returns-then-len-right
returns-then-len-right c = λ is fronts.
    let short : length c.args.left.now ≤ 8 = grind (arith, common_steps) in
    same_short c.args.left.now c.args.right.now (λ k. let f = c.type_inv.left k in omega arith)
    (λ k. let f = c.type_inv.right k in omega arith) fronts c.if-len-right.true short
