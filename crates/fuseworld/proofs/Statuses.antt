-- Exit statuses.
use Rattle.std.proofs.Common.{◌≡◌, ◌⊎◌, ℕ, Bool, true, false, List, [], ◌∷◌, arith, inl, inr, refl, subst, sym}
use Rattle.std.specs.Prelude.{All, Contains}
use Rattle.fuseworld.specs.declared.capture.CaptureTask.{CaptureTask}
use Rattle.fuseworld.specs.declared.capture.CaptureTask.TheVariants as capture
use Rattle.fuseworld.specs.ServeStatuses.{captured_statuses, drive_statuses, served_statuses}
use Rattle.fuseworld.specs.Statuses.{capture_statuses}
use Rattle.std.proofs.lemmas.List.Elements.{All-cons, All-nil, All-get_or}

-- the statuses of a part are among those of the whole
among : (xs ys : List ℕ) (status : ℕ) → All (Contains ys) xs → Contains xs status → Contains ys status
among xs ys status all h = subst (Contains ys) h.2 (All-get_or (Contains ys) xs h.0 status h.1 all)

-- the statuses of a script
abbrev scripts : List ℕ
scripts = 0 ∷ 1 ∷ 3 ∷ 5 ∷ []

is_one : Contains scripts 1
is_one = (1, omega arith, refl)

is_three : Contains scripts 3
is_three = (2, omega arith, refl)

is_five : Contains scripts 5
is_five = (3, omega arith, refl)

-- 1, 3 and 5, of a side whose input or output ended
pub at_end : (status : ℕ) → Contains (1 ∷ 3 ∷ 5 ∷ []) status → Contains (0 ∷ 1 ∷ 3 ∷ 5 ∷ []) status
at_end status = among (1 ∷ 3 ∷ 5 ∷ []) scripts status
    (All-cons (Contains scripts) 1 (3 ∷ 5 ∷ []) is_one (All-cons (Contains scripts) 3 (5 ∷ []) is_three
    (All-cons (Contains scripts) 5 [] is_five (All-nil (Contains scripts)))))

-- 3 is one of a command on a capture
pub is_out_of_memory : (task : CaptureTask) (status : ℕ) → status ≡ 3 → Contains (capture_statuses task) status
is_out_of_memory capture.Decode status is = (2, omega arith, sym is)
is_out_of_memory (capture.Sequence around) status is = (2, omega arith, sym is)
is_out_of_memory (capture.Check o) status is = (2, omega arith, sym is)

pub is_unreadable : (task : CaptureTask) (status : ℕ) → status ≡ 1 → Contains (capture_statuses task) status
is_unreadable capture.Decode status is = (1, omega arith, sym is)
is_unreadable (capture.Sequence around) status is = (1, omega arith, sym is)
is_unreadable (capture.Check o) status is = (1, omega arith, sym is)

-- ---- `serve`

-- what is no fault's, of a device that is served
pub served : (check : Bool) (status : ℕ) → Contains (0 ∷ 3 ∷ 4 ∷ []) status → Contains (served_statuses check) status
served false status h = h
served true status h = among (0 ∷ 3 ∷ 4 ∷ []) (0 ∷ 3 ∷ 4 ∷ 6 ∷ []) status
    (All-cons (Contains (0 ∷ 3 ∷ 4 ∷ 6 ∷ [])) 0 (3 ∷ 4 ∷ []) (0, omega arith, refl)
    (All-cons (Contains (0 ∷ 3 ∷ 4 ∷ 6 ∷ [])) 3 (4 ∷ []) (1, omega arith, refl)
    (All-cons (Contains (0 ∷ 3 ∷ 4 ∷ 6 ∷ [])) 4 [] (2, omega arith, refl) (All-nil (Contains (0 ∷ 3 ∷ 4 ∷ 6 ∷ []))))))
    h

-- 6 is one where it is judged
pub served_with : (check : Bool) (status result : ℕ) → check ≡ true → Contains (0 ∷ 3 ∷ 4 ∷ []) status
    → (result ≡ status) ⊎ ((status ≡ 0) × (result ≡ 6)) → Contains (served_statuses check) result
served_with check status result is h (inl same) = subst (Contains (served_statuses check)) (sym same) (served check status h)
served_with check status result is h (inr six) =
    subst (λ (b : Bool). Contains (served_statuses b) result) (sym is) (3, omega arith, sym six.1)

-- with a capture
pub of_capture : (check : Bool) (status : ℕ) → Contains (served_statuses check) status
    → Contains (captured_statuses check) status
of_capture false status = among (0 ∷ 3 ∷ 4 ∷ []) (0 ∷ 1 ∷ 3 ∷ 4 ∷ []) status
    (All-cons (Contains (0 ∷ 1 ∷ 3 ∷ 4 ∷ [])) 0 (3 ∷ 4 ∷ []) (0, omega arith, refl)
    (All-cons (Contains (0 ∷ 1 ∷ 3 ∷ 4 ∷ [])) 3 (4 ∷ []) (2, omega arith, refl)
    (All-cons (Contains (0 ∷ 1 ∷ 3 ∷ 4 ∷ [])) 4 [] (3, omega arith, refl) (All-nil (Contains (0 ∷ 1 ∷ 3 ∷ 4 ∷ []))))))
of_capture true status = among (0 ∷ 3 ∷ 4 ∷ 6 ∷ []) (0 ∷ 1 ∷ 3 ∷ 4 ∷ 6 ∷ []) status
    (All-cons (Contains (0 ∷ 1 ∷ 3 ∷ 4 ∷ 6 ∷ [])) 0 (3 ∷ 4 ∷ 6 ∷ []) (0, omega arith, refl)
    (All-cons (Contains (0 ∷ 1 ∷ 3 ∷ 4 ∷ 6 ∷ [])) 3 (4 ∷ 6 ∷ []) (2, omega arith, refl)
    (All-cons (Contains (0 ∷ 1 ∷ 3 ∷ 4 ∷ 6 ∷ [])) 4 (6 ∷ []) (3, omega arith, refl)
    (All-cons (Contains (0 ∷ 1 ∷ 3 ∷ 4 ∷ 6 ∷ [])) 6 [] (4, omega arith, refl) (All-nil (Contains (0 ∷ 1 ∷ 3 ∷ 4 ∷ 6 ∷ [])))))))

-- 3 and 4 are among them
pub served_three : (check : Bool) (status : ℕ) → status ≡ 3 → Contains (served_statuses check) status
served_three false status is = (1, omega arith, sym is)
served_three true status is = (1, omega arith, sym is)

pub served_four : (check : Bool) (status : ℕ) → status ≡ 4 → Contains (served_statuses check) status
served_four false status is = (2, omega arith, sym is)
served_four true status is = (2, omega arith, sym is)

pub captured_three : (check : Bool) (status : ℕ) → status ≡ 3
    → Contains (captured_statuses check) status
captured_three false status is = (2, omega arith, sym is)
captured_three true status is = (2, omega arith, sym is)

-- ---- `drive`

-- what is judged is among them
pub driven_with : (status result : ℕ) → Contains drive_statuses status → (result ≡ status) ⊎ ((status ≡ 0) × (result ≡ 6))
    → Contains drive_statuses result
driven_with status result h (inl same) = subst (Contains drive_statuses) (sym same) h
driven_with status result h (inr six) = (5, omega arith, sym six.1)

-- 3 and 4 are
pub driven_three : (status : ℕ) → status ≡ 3 → Contains drive_statuses status
driven_three status is = (2, omega arith, sym is)

pub driven_four : (status : ℕ) → status ≡ 4 → Contains drive_statuses status
driven_four status is = (3, omega arith, sym is)

pub not_driven : (status : ℕ) → Contains (1 ∷ 3 ∷ []) status → Contains drive_statuses status
not_driven status h = among (1 ∷ 3 ∷ []) drive_statuses status
    (All-cons (Contains drive_statuses) 1 (3 ∷ []) (1, omega arith, refl)
    (All-cons (Contains drive_statuses) 3 [] (2, omega arith, refl) (All-nil (Contains drive_statuses))))
    h
