use Rattle.fk_opens.proofs.Counted.{few_uses, opened_more}
use Rattle.fk_opens.proofs.open_files.OpenFiles.put.Goals as goal

pub add-requires-clause-small : goal.add-requires-clause-small
add-requires-clause-small g c = few_uses _ c.self.invariant c.args.opened.nodeid c.lemma_sound.ensures.few

pub invariant_of-self : goal.invariant_of-self
invariant_of-self g c =
    let absent = rw (← c.self.view_is) at c.requires.absent in
    rw c.put.ensures.entries (opened_more _ c.self.invariant _ c.args.number c.args.opened absent c.add.ensures.more)
