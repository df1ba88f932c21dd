use Rattle.fuse_frames.specs.ReplyDecoding.{decoded_wire_of}
use Rattle.fk_kernel.proofs.CountersInRange.{stays_within, no_entry_said}
use Rattle.fk_kernel.proofs.kernel.KernelOf.walk_exceeds.Goals as goal

pub returns-in_default-clause-within : goal.returns-in_default-clause-within
returns-in_default-clause-within g c = λ stays.
    let now = c.args.self.now in
    stays_within now c.args.unique c.args.call c.requires.even c.requires.waits c.lemma_in_range.ensures c.requires.ends
    (decoded_wire_of c.args.said.now) c.requires.awaits (no_entry_said c.args.said.now c.in_default.not-Entry)
