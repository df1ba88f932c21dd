use Rattle.std.proofs.Common.{ap, sym, codes, ◌∙◌}
use Rattle.std.specs.Option.{option_map_or}
use Rattle.fuse_protocol.specs.Table.{name_of}
use Rattle.fw_check.proofs.OpcodeLaws.{opcode_none, opcode_some}
use Rattle.fw_check.proofs.rows.name_of_code.Goals as goal

pub returns-in-Some : goal.returns-in-Some
returns-in-Some c = c.name.ensures
    ∙ sym (ap (λ o. option_map_or name_of o (codes "unknown")) (opcode_some c.args.code c.in-Some.opcode c.in-Some.ensures))

pub returns-in-None : goal.returns-in-None
returns-in-None c = sym (ap (λ o. option_map_or name_of o (codes "unknown")) (opcode_none c.args.code c.in-None.ensures))
