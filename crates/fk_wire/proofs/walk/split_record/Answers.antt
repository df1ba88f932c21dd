use Rattle.std.proofs.Common.{◌+◌, ℕ, arith, ap, ◌∙◌}
use Rattle.fk_wire.specs.RecordEnds.{padded}
use Rattle.fk_wire.proofs.FirstRecord.{name_len, whole_len, first_bytes, other_bytes}
use Rattle.fk_wire.proofs.walk.split_record.Goals as goal

pub u32_at-requires : goal.u32_at-requires
u32_at-requires c =
    let all = whole_len c.requires.0 c.requires.1 c.args.bytes.now c.requires.3 c.requires.4 in
    omega (arith, all)

pub split_at-requires : goal.split_at-requires
split_at-requires c =
    let all = whole_len c.requires.0 c.requires.1 c.args.bytes.now c.requires.3 c.requires.4 in
    let name = name_len c.requires.0 c.requires.1 c.args.bytes.now c.requires.3 c.requires.4 in
    let pad = c.padded_len-end.ensures ∙ ap padded (c.u32_at.ensures ∙ name) in
    omega (arith, all, pad)

pub returns : goal.returns
returns c d ds fits is =
    let name = name_len d ds c.args.bytes.now fits is in
    let pad = c.padded_len-end.ensures ∙ ap padded (c.u32_at.ensures ∙ name) in
    let end = ap (λ (n : ℕ). 24 + n) pad in (
      c.split_at.ensures.front ∙ first_bytes d ds c.args.bytes.now fits is _ end,
      c.split_at.ensures.back ∙ other_bytes d ds c.args.bytes.now fits is _ end,
    )
