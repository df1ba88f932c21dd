use Rattle.fs_files.proofs.StaysKnown.{known_given}
use Rattle.fs_files.proofs.files.Files.give_node.Goals as goal

pub give-requires-clause-generation : goal.give-requires-clause-generation
give-requires-clause-generation g c = rw (← c.self.view_is, ← c.self-inside.view_is) at c.requires.generation

pub invariant_of-self : goal.invariant_of-self
invariant_of-self g c = rw c.give.ensures.table
    (known_given _ _ _ (rw (← c.self-inside.view_is) at c.self.invariant) c.args.file c.give.result.0 c.requires.file (rw (← c.self.view_is, ← c.self-inside.view_is) at c.requires.there))
