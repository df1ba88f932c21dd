use Rattle.std.proofs.Common.{◌≡◌, ◌≢◌, ◌<◌, ℕ}
use Rattle.fuse_protocol.specs.declared.opcode.Opcode.{Opcode}
use Rattle.fuse_protocol.specs.Table.{code_of, name_of}
use Rattle.fw_any.proofs.opcode_name.any_opcode_of_name.Given as goal

abbrev pub invariant-loop-code : goal.invariant-loop-code
invariant-loop-code l = (k : ℕ) → k < l.code → (o : Opcode) → code_of o ≡ k → name_of o ≢ l.name
