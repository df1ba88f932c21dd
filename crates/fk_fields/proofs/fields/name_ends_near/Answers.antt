use Rattle.std.proofs.Common.{◌≡◌, ℕ, ◌+◌, get_or, ap, ◌∙◌, arith}
use Rattle.fk_fields.specs.Fields.{ends_name}
use Rattle.fk_fields.proofs.Names.{none_of_eight}
use Rattle.fk_fields.proofs.WholeNames.{eight_of_none}
use Rattle.fk_fields.proofs.fields.name_ends_near.Goals as goal

pub returns : goal.returns
returns c =
    let here : c.args.place ≡ c.args.place + 0 = omega arith in
    let ends = λ (k : ℕ). ends_name (get_or c.args.bytes.now (c.args.place + k) 0) in
    let first = c.ends_a_name.ensures ∙ ap (λ (n : ℕ). ends_name (get_or c.args.bytes.now n 0)) here in (
      none_of_eight ends _ _ _ _ _ _ _ _ first c.ends_a_name-2.ensures c.ends_a_name-3.ensures c.ends_a_name-4.ensures c.ends_a_name-5.ensures c.ends_a_name-6.ensures c.ends_a_name-7.ensures c.ends_a_name-8.ensures,
      eight_of_none ends _ _ _ _ _ _ _ _ first c.ends_a_name-2.ensures c.ends_a_name-3.ensures c.ends_a_name-4.ensures c.ends_a_name-5.ensures c.ends_a_name-6.ensures c.ends_a_name-7.ensures c.ends_a_name-8.ensures,
    )
