use Rattle.std.proofs.Common.{arith}
use Rattle.fs_files.proofs.StaysKnown.{known_handle_more}
use Rattle.fs_files.proofs.files.Files.count_handle_again.Goals as goal

pub again-requires : goal.again-requires
again-requires g c = λ x is. let low = (rw (← c.self.view_is, ← c.self-inside.view_is) at c.requires) c.args.fh x is in
    omega (arith, low)

pub invariant_of-self : goal.invariant_of-self
invariant_of-self g c = rw c.again.ensures.table
    (known_handle_more _ _ _ (rw (← c.self-inside.view_is) at c.self.invariant) c.args.fh)
