use Rattle.std.proofs.Common.{ap, ◌∙◌, arith}
use Rattle.std.specs.Int.{bit_at}
use Rattle.std.proofs.lemmas.Nat.Bits.{bit_at-zero}
use Rattle.fuse_protocol.proofs.Masks.{none_below}
use Rattle.fuse_protocol.proofs.name_end.end_near.Goals as goal

pub overflow_add-result : goal.overflow_add-result
overflow_add-result c =
    let found = (c.ends_in-bits.ensures c.lowest.result).0 c.lowest.ensures.set in
    omega (arith, found.0, c.requires)

pub returns-then-bits-eq0 : goal.returns-then-bits-eq0
returns-then-bits-eq0 c k from inside =
    none_below c.args.other c.args.bytes.now c.args.place c.args.stop c.ends_in-bits.result c.args.stop c.ends_in-bits.ensures
    (λ n lt. ap (λ m. bit_at m n) c.if-bits-eq0.true ∙ bit_at-zero n) k from (omega (arith, inside)) inside

pub returns : goal.returns
returns c =
    let found = (c.ends_in-bits.ensures c.lowest.result).0 c.lowest.ensures.set in (
      omega arith,
      found.0,
      λ k from below. none_below c.args.other c.args.bytes.now c.args.place c.args.stop c.ends_in-bits.result c.lowest.result
          c.ends_in-bits.ensures c.lowest.ensures.below k from below (omega (arith, below, found.0)),
      found.1,
    )
