use Rattle.fs_files.proofs.StaysKnown.{known_opened}
use Rattle.fs_files.proofs.files.Files.open.Goals as goal

pub invariant_of-self : goal.invariant_of-self
invariant_of-self g c = rw c.open.ensures.table (known_opened _ _ _
    (rw (← c.self-inside.view_is) at c.self.invariant) c.args.file
    (rw (← c.self.view_is, ← c.self-inside.view_is) at c.requires.regular))
