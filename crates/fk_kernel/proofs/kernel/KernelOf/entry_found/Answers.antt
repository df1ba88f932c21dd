use Rattle.std.proofs.Common.{sym, subst, ◌∙◌}
use Rattle.fk_kernel.specs.Entries.{Makes}
use Rattle.fk_kernel.proofs.CountsAfterReply.{entry_fits}
use Rattle.fk_kernel.proofs.CallStates.{makes_found}
use Rattle.fk_kernel.proofs.kernel.KernelOf.entry_found.Goals as goal

pub name_is_made-requires-clause-makes : goal.name_is_made-requires-clause-makes
name_is_made-requires-clause-makes g c =
    let aw = c.requires.awaits in
    subst Makes (sym aw.at) (makes_found aw.operation aw.state c.args.entry.now c.args.valid_ms aw.stands aw.goes
    (λ d w ws p e. c.looks_up.ensures.other c.if-looks_up.false d w ws p (aw.at ∙ e)))

pub walk_on-requires-clause-fits : goal.walk_on-requires-clause-fits
walk_on-requires-clause-fits g c = entry_fits c.args.self.now.nodes c.args.entry.now
    (sym c.in-Usable.ensures) c.requires.counts

pub name_is_made-requires-clause-fits : goal.name_is_made-requires-clause-fits
name_is_made-requires-clause-fits g c = entry_fits c.args.self.now.nodes c.args.entry.now
    (sym c.in-Usable.ensures) c.requires.counts
