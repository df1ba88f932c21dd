use Rattle.fs_files.proofs.StaysKnown.{known_less}
use Rattle.fs_files.proofs.files.Files.forget.Goals as goal

pub invariant_of-self : goal.invariant_of-self
invariant_of-self g c = rw c.forget.ensures (known_less _ _ _
    (rw (← c.self-inside.view_is) at c.self.invariant) c.args.id c.args.count)
