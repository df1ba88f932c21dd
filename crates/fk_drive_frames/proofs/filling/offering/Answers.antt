use Rattle.std.proofs.Common.{◌∙◌}
use Rattle.std.specs.Int.Bits.{and_zero_r, bit_and}
use Rattle.std.proofs.lemmas.Nat.{and_assoc, and_or_apart}
use Rattle.fk_wire.specs.Requests.{known_flags}
use Rattle.fk_drive_frames.proofs.filling.offering.Goals as goal

pub returns-clause-kept : goal.returns-clause-kept
returns-clause-kept c = and_or_apart known_flags c.args.flags (bit_and c.args.offer 4294696958)
    (and_assoc known_flags c.args.offer 4294696958 ∙ and_zero_r c.args.offer)
