use Rattle.std.proofs.Common.{refl, ◌∙◌}
use Rattle.fk_wire.specs.declared.opcode.Opcode.TheVariants as op
use Rattle.std.specs.Int.{w32}
use Rattle.std.proofs.lemmas.Int.{to_z-of_z}
use Rattle.fk_wire.proofs.OneReply.{error_fits}
use Rattle.fuse_frames.proofs.ReplyLemmas.{error_exact, error_goes, error_in_range}
use Rattle.fuse_frames.proofs.reply_room.ReplyBuffer.failed.Goals as goal

pub written-requires-clause-goes : goal.written-requires-clause-goes
written-requires-clause-goes g c =
    let z = c.negated.result in
    let same = to_z-of_z w32 z
    (error_fits z (error_in_range c.args.errno z c.requires.some c.requires.most c.negated.ensures)) in
    error_goes op.Release c.args.unique c.args.errno _ refl c.requires.some c.requires.most (same ∙ c.negated.ensures)

pub written-requires-clause-exact : goal.written-requires-clause-exact
written-requires-clause-exact g c =
    let z = c.negated.result in
    let same = to_z-of_z w32 z
    (error_fits z (error_in_range c.args.errno z c.requires.some c.requires.most c.negated.ensures)) in
    error_exact c.args.unique c.args.errno _ c.requires.some (same ∙ c.negated.ensures)
