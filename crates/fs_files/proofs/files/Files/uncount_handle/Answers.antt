use Rattle.fs_files.proofs.StaysKnown.{known_handle_back}
use Rattle.fs_files.proofs.files.Files.uncount_handle.Goals as goal

pub invariant_of-self : goal.invariant_of-self
invariant_of-self g c = rw c.take_back.ensures.table
    (known_handle_back _ _ _ (rw (← c.self-inside.view_is) at c.self.invariant) c.args.fh)
