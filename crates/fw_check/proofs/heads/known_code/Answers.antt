use Rattle.std.proofs.Common.{ap, sym}
use Rattle.std.specs.Prelude.{if◌then◌else◌, is_some}
use Rattle.fw_check.proofs.OpcodeLaws.{opcode_none, opcode_some}
use Rattle.fw_check.proofs.heads.known_code.Goals as goal

pub returns-in-Some : goal.returns-in-Some
returns-in-Some c = sym (ap (λ o. if is_some o then c.args.code else 0) (opcode_some c.args.code _ c.in-Some.ensures))

pub returns-in-None : goal.returns-in-None
returns-in-None c = sym (ap (λ o. if is_some o then c.args.code else 0) (opcode_none c.args.code c.in-None.ensures))
