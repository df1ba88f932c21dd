-- The numbers of opcodes.
use Rattle.std.proofs.Common.{◌<◌, lit<}
use Rattle.fuse_protocol.specs.declared.opcode.Opcode.{Opcode}
use Rattle.fuse_protocol.specs.declared.opcode.Opcode.TheVariants as op
use Rattle.fuse_protocol.specs.Table.{code_of}

-- the highest is 53
pub code_below : (o : Opcode) → code_of o < 54
code_below op.Lookup = lit< tt
code_below _ = lit< tt
