use Rattle.fs_files.proofs.StaysKnown.{known_more}
use Rattle.fs_files.proofs.files.Files.count_again.Goals as goal

pub count_again-requires : goal.count_again-requires
count_again-requires g c = rw (← c.self.view_is, ← c.self-inside.view_is) at c.requires

pub invariant_of-self : goal.invariant_of-self
invariant_of-self g c = rw c.count_again.ensures
    (known_more _ _ _ (rw (← c.self-inside.view_is) at c.self.invariant) c.args.id)
