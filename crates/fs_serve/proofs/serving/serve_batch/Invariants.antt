use Rattle.std.proofs.Common.{◌≡◌, ◌++◌, ℕ, List, None, drop, length}
use Rattle.fs_serve.specs.Sending.{GoesOver}
use Rattle.fs_serve.specs.Serving.{ServesPairs}
use Rattle.fs_serve.proofs.serving.serve_batch.Given as goal

-- the pairs before `rest` are served, and the device hasn't end
abbrev pub invariant-loop-rest : goal.invariant-loop-rest
invariant-loop-rest g l = (pairs : List ℕ) × (drop 48 l.frame ≡ pairs ++ l.rest)
    × GoesOver g.D.Device.logs l.initial.device l.device None (λ log. ServesPairs l.frame l.initial.server pairs log l.server)

abbrev pub decreases-loop-rest : goal.decreases-loop-rest
decreases-loop-rest g l = length l.rest
