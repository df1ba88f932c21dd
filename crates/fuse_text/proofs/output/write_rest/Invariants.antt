use Rattle.std.proofs.Common.{◌≡◌, ℕ, List, ◌++◌, length}
use Rattle.std.specs.Io.KnownBytes.{Appends}
use Rattle.fuse_text.proofs.output.write_rest.Given as goal

-- what is gone from `rest` was written
abbrev pub invariant-loop-rest : goal.invariant-loop-rest
invariant-loop-rest g l = (done : List ℕ) × (l.text ≡ done ++ l.rest)
    × Appends (g.W.Write.contents l.initial.out) (g.W.Write.contents l.out) done

abbrev pub decreases-loop-rest : goal.decreases-loop-rest
decreases-loop-rest g l = length l.rest
