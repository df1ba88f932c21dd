-- The lines of faults, one after another.
use Rattle.std.proofs.Common.{◌≡◌, ◌+◌, ◌<◌, ◌++◌, min, ℕ, zero, suc, List, [], ◌∷◌, Option, Some, None, length, take, get_or, add-one, append_assoc, append-nil, arith, refl, sym, ap, ◌∙◌}
use Rattle.fuse_sessions.specs.declared.act.Act.{Act}
use Rattle.fuse_sessions.specs.declared.fault.Fault.{Fault}
use Rattle.fw_check.specs.declared.options.CheckForm.{CheckForm}
use Rattle.fw_check.specs.declared.past.Trace.{Trace}
use Rattle.fw_check.specs.Forms.{fault_lines}
use Rattle.fw_check.specs.Running.{verdict_text}

first_line : (form : CheckForm) (number : ℕ) (past : List Trace) (a : Act) (v : Option Fault) (acts : List Act) (verdicts : List (Option Fault))
    → fault_lines form number past (a ∷ acts) (v ∷ verdicts) ≡ verdict_text form number past a v ++ fault_lines form number past acts verdicts
first_line form number past a (Some f) acts verdicts = refl
first_line form number past a None acts verdicts = refl

next_suc : (form : CheckForm) (number : ℕ) (past : List Trace) (acts : List Act) (verdicts : List (Option Fault)) (i : ℕ) (a : Act) (v : Option Fault)
    → i < length acts → i < length verdicts
    → fault_lines form number past (take (suc i) acts) (take (suc i) verdicts)
    ≡ fault_lines form number past (take i acts) (take i verdicts) ++ verdict_text form number past (get_or acts i a) (get_or verdicts i v)
next_suc form number past [] verdicts i a v some other = absurd (omega arith)
next_suc form number past (x ∷ acts) [] i a v some other = absurd (omega arith)
next_suc form number past (x ∷ acts) (w ∷ verdicts) zero a v some other =
    first_line form number past x w [] [] ∙ append-nil (verdict_text form number past x w)
next_suc form number past (x ∷ acts) (w ∷ verdicts) (suc i) a v some other =
    first_line form number past x w (take (suc i) acts) (take (suc i) verdicts)
    ∙ ap (λ (l : List ℕ). verdict_text form number past x w ++ l) (next_suc form number past acts verdicts i a v (omega arith) (omega arith))
    ∙ sym (append_assoc (verdict_text form number past x w) (fault_lines form number past (take i acts) (take i verdicts))
    (verdict_text form number past (get_or acts i a) (get_or verdicts i v)))
    ∙ ap (λ (l : List ℕ). l ++ verdict_text form number past (get_or acts i a) (get_or verdicts i v))
    (sym (first_line form number past x w (take i acts) (take i verdicts)))

-- one act more
pub next_line : (form : CheckForm) (number : ℕ) (past : List Trace) (acts : List Act) (verdicts : List (Option Fault)) (i : ℕ) (a : Act) (v : Option Fault)
    → i < length acts → i < length verdicts
    → fault_lines form number past (take (i + 1) acts) (take (i + 1) verdicts)
    ≡ fault_lines form number past (take i acts) (take i verdicts) ++ verdict_text form number past (get_or acts i a) (get_or verdicts i v)
next_line form number past acts verdicts i a v some other = rw add-one (next_suc form number past acts verdicts i a v some other)

-- the acts and verdicts past the shorter list have no lines
pub shorter_lines : (form : CheckForm) (number : ℕ) (past : List Trace) (acts : List Act) (verdicts : List (Option Fault)) (n : ℕ)
    → n ≡ min (length acts) (length verdicts)
    → fault_lines form number past (take n acts) (take n verdicts) ≡ fault_lines form number past acts verdicts
shorter_lines form number past [] verdicts zero e = refl
shorter_lines form number past [] verdicts (suc n) e = absurd (omega arith)
shorter_lines form number past (a ∷ acts) [] zero e = refl
shorter_lines form number past (a ∷ acts) [] (suc n) e = absurd (omega arith)
shorter_lines form number past (a ∷ acts) (v ∷ verdicts) zero e = absurd (omega arith)
shorter_lines form number past (a ∷ acts) (v ∷ verdicts) (suc n) e =
    first_line form number past a v (take n acts) (take n verdicts)
    ∙ ap (λ (l : List ℕ). verdict_text form number past a v ++ l) (shorter_lines form number past acts verdicts n (omega arith))
    ∙ sym (first_line form number past a v acts verdicts)
