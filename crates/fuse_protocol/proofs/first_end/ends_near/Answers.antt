use Rattle.std.proofs.Common.{◌≡◌, ℕ, ◌+◌, get_or, ap, ◌∙◌, arith}
use Rattle.fk_fields.proofs.Names.{none_of_eight}
use Rattle.fk_fields.proofs.WholeNames.{eight_of_none}
use Rattle.fuse_protocol.specs.Ends.{is_end}
use Rattle.fuse_protocol.proofs.first_end.ends_near.Goals as goal

pub returns : goal.returns
returns c =
    let here : c.args.place ≡ c.args.place + 0 = omega arith in
    let end = λ (k : ℕ). is_end c.args.other (get_or c.args.bytes.now (c.args.place + k) 0) in
    let first = c.ends.ensures ∙ ap (λ (n : ℕ). is_end c.args.other (get_or c.args.bytes.now n 0)) here in (
      none_of_eight end _ _ _ _ _ _ _ _ first c.ends-2.ensures c.ends-3.ensures c.ends-4.ensures c.ends-5.ensures c.ends-6.ensures c.ends-7.ensures c.ends-8.ensures,
      eight_of_none end _ _ _ _ _ _ _ _ first c.ends-2.ensures c.ends-3.ensures c.ends-4.ensures c.ends-5.ensures c.ends-6.ensures c.ends-7.ensures c.ends-8.ensures,
    )
