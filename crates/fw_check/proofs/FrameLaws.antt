-- The lines of a frame's faults, one after another.
use Rattle.std.proofs.Common.{◌≡◌, ◌+◌, ◌<◌, ◌++◌, min, ℕ, zero, suc, List, [], ◌∷◌, Option, length, take, get_or, add-one, append_assoc, append-nil, arith, refl, sym, ap, ◌∙◌}
use Rattle.fuse_sessions.specs.declared.act.Act.{Act}
use Rattle.fuse_sessions.specs.declared.fault.Fault.{Fault}
use Rattle.fw_check.specs.FrameLines.{frame_faults, frame_verdict}

next_suc : (number : ℕ) (acts : List Act) (verdicts : List (Option Fault)) (i : ℕ) (a : Act) (v : Option Fault)
    → i < length acts → i < length verdicts
    → frame_faults number (take (suc i) acts) (take (suc i) verdicts)
    ≡ frame_faults number (take i acts) (take i verdicts) ++ frame_verdict number (get_or acts i a) (get_or verdicts i v)
next_suc number [] verdicts i a v some other = absurd (omega arith)
next_suc number (x ∷ acts) [] i a v some other = absurd (omega arith)
next_suc number (x ∷ acts) (w ∷ verdicts) zero a v some other = append-nil (frame_verdict number x w)
next_suc number (x ∷ acts) (w ∷ verdicts) (suc i) a v some other =
    ap (λ (l : List ℕ). frame_verdict number x w ++ l) (next_suc number acts verdicts i a v (omega arith) (omega arith))
    ∙ sym (append_assoc (frame_verdict number x w) (frame_faults number (take i acts) (take i verdicts))
    (frame_verdict number (get_or acts i a) (get_or verdicts i v)))

-- one act more
pub next_faults : (number : ℕ) (acts : List Act) (verdicts : List (Option Fault)) (i : ℕ) (a : Act) (v : Option Fault)
    → i < length acts → i < length verdicts
    → frame_faults number (take (i + 1) acts) (take (i + 1) verdicts)
    ≡ frame_faults number (take i acts) (take i verdicts) ++ frame_verdict number (get_or acts i a) (get_or verdicts i v)
next_faults number acts verdicts i a v some other = rw add-one (next_suc number acts verdicts i a v some other)

-- the acts and verdicts past the shorter list have no lines
pub shorter_faults : (number : ℕ) (acts : List Act) (verdicts : List (Option Fault)) (n : ℕ)
    → n ≡ min (length acts) (length verdicts)
    → frame_faults number (take n acts) (take n verdicts) ≡ frame_faults number acts verdicts
shorter_faults number [] verdicts zero e = refl
shorter_faults number [] verdicts (suc n) e = absurd (omega arith)
shorter_faults number (a ∷ acts) [] zero e = refl
shorter_faults number (a ∷ acts) [] (suc n) e = absurd (omega arith)
shorter_faults number (a ∷ acts) (v ∷ verdicts) zero e = absurd (omega arith)
shorter_faults number (a ∷ acts) (v ∷ verdicts) (suc n) e =
    ap (λ (l : List ℕ). frame_verdict number a v ++ l) (shorter_faults number acts verdicts n (omega arith))
