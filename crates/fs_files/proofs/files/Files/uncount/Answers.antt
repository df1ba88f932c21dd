use Rattle.fs_files.proofs.StaysKnown.{known_back}
use Rattle.fs_files.proofs.files.Files.uncount.Goals as goal

pub invariant_of-self : goal.invariant_of-self
invariant_of-self g c = rw c.uncount.ensures (known_back _ _ _
    (rw (← c.self-inside.view_is) at c.self.invariant) c.args.entry.now)
