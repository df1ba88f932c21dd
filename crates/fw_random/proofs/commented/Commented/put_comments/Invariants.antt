use Rattle.std.proofs.Common.{◌≡◌, ℕ, List, ◌++◌, length}
use Rattle.std.specs.Io.KnownBytes.{Appends}
use Rattle.fw_random.specs.Comments.{commented, is_begun_behind}
use Rattle.fw_random.proofs.commented.Commented.put_comments.Given as goal

-- what is gone from `rest` was written, in comments
abbrev pub invariant-loop-rest : goal.invariant-loop-rest
invariant-loop-rest g l = (done : List ℕ) × (l.text ≡ done ++ l.rest)
    × Appends (g.W.Write.contents l.initial.self.writer) (g.W.Write.contents l.self.writer)
    (commented l.initial.self.is_begun done)
    × (l.self.is_begun ≡ is_begun_behind l.initial.self.is_begun done)

abbrev pub decreases-loop-rest : goal.decreases-loop-rest
decreases-loop-rest g l = length l.rest
