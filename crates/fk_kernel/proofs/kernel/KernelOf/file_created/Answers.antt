use Rattle.std.proofs.Common.{sym}
use Rattle.fk_kernel.proofs.CountsAfterReply.{entry_fits}
use Rattle.fk_kernel.proofs.kernel.KernelOf.file_created.Goals as goal

pub file_is_made-requires-clause-fits : goal.file_is_made-requires-clause-fits
file_is_made-requires-clause-fits g c = entry_fits c.args.self.now.nodes c.args.entry.now
    (sym c.in-Usable.ensures) c.requires.counts
