-- The statuses of a run are those of its end, and others.
use Rattle.std.proofs.Common.{◌≡◌, ◌⊎◌, inl, inr, Bool, true, false, ℕ, zero, suc, List, [], ◌∷◌, arith, refl, subst, sym}
use Rattle.std.specs.Prelude.{Contains, Option, codes}
use Rattle.fuse_spec.specs.declared.Refusal.TheVariants as refusals
use Rattle.fuse_text.specs.Outputs.{AppendsSome}
use Rattle.fw_drive.specs.Findings.{end_status}
use Rattle.fw_drive.specs.Judging.{JudgingEnds, SaysFirstFault, bad_status, bad_text}
use Rattle.fw_drive.specs.Runs.{IsStopStatus, stop_status}
use Rattle.fw_drive.specs.declared.form.Form.{Form}
use Rattle.fw_drive.specs.declared.lines.BadScript.{BadScript}
use Rattle.fw_drive.specs.declared.lines.BadScript.TheVariants as bad
use Rattle.fw_drive.specs.declared.stop.Stop.{Stop}
use Rattle.fw_drive.specs.declared.stop.Stop.TheVariants as stops

pub among_all : (s : ℕ) → Contains (3 ∷ 4 ∷ 5 ∷ []) s → Contains (0 ∷ 1 ∷ 3 ∷ 4 ∷ 5 ∷ 6 ∷ []) s
among_all s (zero, low, is) = (2, omega arith, is)
among_all s (suc zero, low, is) = (3, omega arith, is)
among_all s (suc (suc zero), low, is) = (4, omega arith, is)
among_all s (suc (suc (suc k)), low, is) = absurd (omega (arith, low))

status_among : (stop : Stop) → Contains (3 ∷ 4 ∷ 5 ∷ []) (stop_status stop)
status_among stops.NoMemory = (0, omega arith, refl)
status_among stops.OutputRefused = (2, omega arith, refl)
status_among (stops.Refused refusals.NoMemory) = (0, omega arith, refl)
status_among (stops.Refused other) = (1, omega arith, refl)
status_among stops.ServerEnded = (1, omega arith, refl)
status_among stops.NoReply = (1, omega arith, refl)
status_among stops.DeviceFailed = (1, omega arith, refl)
status_among stops.TooMany = (1, omega arith, refl)

-- that of a run which ended before its script
pub stop_among : (stop : Stop) (s : ℕ) → IsStopStatus stop s → Contains (3 ∷ 4 ∷ 5 ∷ []) s
stop_among stop s (inl is) = subst (λ (n : ℕ). Contains (3 ∷ 4 ∷ 5 ∷ []) n) (sym is) (status_among stop)
stop_among stop s (inr (five, at)) = (2, omega arith, sym five)

-- that of a run is neither 0 nor 1
pub never_1 : (s : ℕ) → Contains (3 ∷ 4 ∷ 5 ∷ []) s → s ≡ 1 → ⊥
never_1 s (zero, low, is) one = omega (arith, is, one)
never_1 s (suc zero, low, is) one = omega (arith, is, one)
never_1 s (suc (suc zero), low, is) one = omega (arith, is, one)
never_1 s (suc (suc (suc k)), low, is) one = omega (arith, low)

pub never_0 : (s : ℕ) → Contains (3 ∷ 4 ∷ 5 ∷ []) s → s ≡ 0 → ⊥
never_0 s (zero, low, is) none = omega (arith, is, none)
never_0 s (suc zero, low, is) none = omega (arith, is, none)
never_0 s (suc (suc zero), low, is) none = omega (arith, is, none)
never_0 s (suc (suc (suc k)), low, is) none = omega (arith, low)

-- and no 6
pub or_6 : (s : ℕ) → Contains (3 ∷ 4 ∷ 5 ∷ []) s → (s ≡ 4) ⊎ (s ≡ 5) ⊎ (s ≡ 6) → (s ≡ 4) ⊎ (s ≡ 5)
or_6 s among (inl four) = inl four
or_6 s among (inr (inl five)) = inr five
or_6 s (zero, low, is) (inr (inr six)) = absurd (omega (arith, is, six))
or_6 s (suc zero, low, is) (inr (inr six)) = absurd (omega (arith, is, six))
or_6 s (suc (suc zero), low, is) (inr (inr six)) = absurd (omega (arith, is, six))
or_6 s (suc (suc (suc k)), low, is) (inr (inr six)) = absurd (omega (arith, low))

-- that of a run which came to its end is 0 or 6
pub end_among : (is_report_only told : Bool) (s : ℕ) → s ≡ end_status is_report_only told
    → Contains (0 ∷ 1 ∷ 3 ∷ 4 ∷ 5 ∷ 6 ∷ []) s
end_among true true s is = (0, omega arith, sym is)
end_among false true s is = (5, omega arith, sym is)
end_among is_report_only false s is = (0, omega arith, sym is)

pub end_not_1 : (is_report_only told : Bool) (s : ℕ) → s ≡ end_status is_report_only told → s ≡ 1 → ⊥
end_not_1 true true s is one = omega (arith, is, one)
end_not_1 false true s is one = omega (arith, is, one)
end_not_1 is_report_only false s is one = omega (arith, is, one)

pub end_not_3 : (is_report_only told : Bool) (s : ℕ) → s ≡ end_status is_report_only told → s ≡ 3 → ⊥
end_not_3 true true s is three = omega (arith, is, three)
end_not_3 false true s is three = omega (arith, is, three)
end_not_3 is_report_only false s is three = omega (arith, is, three)

-- that of a script which cannot be read is 1 or 3
pub unread_among : (s : ℕ) → Contains (1 ∷ 3 ∷ []) s → Contains (0 ∷ 1 ∷ 3 ∷ 4 ∷ 5 ∷ 6 ∷ []) s
unread_among s (zero, low, is) = (1, omega arith, is)
unread_among s (suc zero, low, is) = (2, omega arith, is)
unread_among s (suc (suc k), low, is) = absurd (omega (arith, low))

pub unread_never : (s : ℕ) → Contains (1 ∷ 3 ∷ []) s → (s ≡ 0) ⊎ (s ≡ 4) ⊎ (s ≡ 5) ⊎ (s ≡ 6) → ⊥
unread_never s (zero, low, is) (inl h) = omega (arith, is, h)
unread_never s (zero, low, is) (inr (inl h)) = omega (arith, is, h)
unread_never s (zero, low, is) (inr (inr (inl h))) = omega (arith, is, h)
unread_never s (zero, low, is) (inr (inr (inr h))) = omega (arith, is, h)
unread_never s (suc zero, low, is) (inl h) = omega (arith, is, h)
unread_never s (suc zero, low, is) (inr (inl h)) = omega (arith, is, h)
unread_never s (suc zero, low, is) (inr (inr (inl h))) = omega (arith, is, h)
unread_never s (suc zero, low, is) (inr (inr (inr h))) = omega (arith, is, h)
unread_never s (suc (suc k), low, is) h = omega (arith, low)

-- and so is that of one whose lines are not kept
pub bad_among : (b : BadScript) (s : ℕ) → s ≡ bad_status b → Contains (1 ∷ 3 ∷ []) s
bad_among (bad.BadLine number fault) s is = (0, omega arith, sym is)
bad_among bad.NoMemory s is = (1, omega arith, sym is)

pub bad_either : (b : BadScript) (s : ℕ) → s ≡ bad_status b → (s ≡ 1) ⊎ (s ≡ 3)
bad_either (bad.BadLine number fault) s is = inl is
bad_either bad.NoMemory s is = inr is

pub unread_either : (s : ℕ) → Contains (1 ∷ 3 ∷ []) s → (s ≡ 1) ⊎ (s ≡ 3)
unread_either s (zero, low, is) = inl (sym is)
unread_either s (suc zero, low, is) = inr (sym is)
unread_either s (suc (suc k), low, is) = absurd (omega (arith, low))

-- it is 1 for a line with a fault
pub bad_at_1 : (form : Form) (script : List ℕ) (b : BadScript) (s : ℕ) → s ≡ bad_status b → JudgingEnds form script b
    → (old new : Option (List ℕ)) → AppendsSome old new (bad_text b) → s ≡ 1 → SaysFirstFault form script old new
bad_at_1 form script (bad.BadLine number fault) s is ends old new said one = (number, fault, ends, said)
bad_at_1 form script bad.NoMemory s is ends old new said one = absurd (omega (arith, is, one))

-- and 3 where memory is out
pub bad_at_3 : (b : BadScript) (s : ℕ) → s ≡ bad_status b → (old new : Option (List ℕ))
    → AppendsSome old new (bad_text b) → s ≡ 3 → AppendsSome old new (codes "no memory\n")
bad_at_3 (bad.BadLine number fault) s is old new said three = absurd (omega (arith, is, three))
bad_at_3 bad.NoMemory s is old new said three = said
