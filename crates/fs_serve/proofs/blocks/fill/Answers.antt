use Rattle.fs_serve.proofs.FilledReplies.{has_header}
use Rattle.std.proofs.Common.{arith}
use Rattle.fs_serve.proofs.blocks.fill.Goals as goal

pub u32_at-requires : goal.u32_at-requires
u32_at-requires c = let h = has_header c.args.opcode c.args.frame.now c.requires.0 c.requires.1 in omega (arith, h)
