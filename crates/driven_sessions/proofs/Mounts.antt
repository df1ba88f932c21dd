-- How often a driven kernel mounts.
use Rattle.std.proofs.Common.{◌≡◌, ℕ, ◌+◌, List, [], ◌++◌, append-nil, append_assoc, refl, ap, sym, subst, arith}
use Rattle.fuse_device.specs.Transfers.{Transfer}
use Rattle.fk_drive.specs.Driving.{Driven, DriveStep, Drives, Runs, next, nothing}
use Rattle.fk_drive_theorem.specs.TakenOnce.{mounts_at, mounts_in}

-- It is so driven, and mounts so often.
abbrev pub DrivesMounting : (mounts : ℕ) → Driven → List Transfer → Driven → Type 0
DrivesMounting mounts old log new = (run : Drives old log new) × (mounts_in run ≡ mounts)

-- A step follows a run.
pub mounts_next : (n : ℕ) (a : Driven) (before : List Transfer) (mid : Driven) → DrivesMounting n a before mid
    → (log : List Transfer) (b : Driven) (step : DriveStep mid log b) → DrivesMounting (n + mounts_at step) a (before ++ log) b
mounts_next n a before mid (run, is) log b step = (next before mid run log b step, ap (λ (m : ℕ). m + mounts_at step) is)

-- One run follows another.
pub mounts_on : (n : ℕ) (a b c : Driven) (h k : List Transfer) → DrivesMounting n a h b → (two : Drives b k c)
    → DrivesMounting (n + mounts_in two) a (h ++ k) c
mounts_on n a b _ h _ one nothing =
    subst (λ (m : ℕ). DrivesMounting m a (h ++ []) b) (omega arith)
    (subst (λ (l : List Transfer). DrivesMounting n a l b) (sym (append-nil h)) one)
mounts_on n a b _ h _ one (next before mid two log new step) =
    subst (λ (l : List Transfer). DrivesMounting (n + (mounts_in two + mounts_at step)) a l new) (append_assoc h before log)
    (subst (λ (m : ℕ). DrivesMounting m a ((h ++ before) ++ log) new) (omega arith)
    (mounts_next (n + mounts_in two) a (h ++ before) mid (mounts_on n a b mid h before one two) log new step))

pub both_mount : (m n : ℕ) (a b c : Driven) (h k : List Transfer) → DrivesMounting m a h b → DrivesMounting n b k c
    → DrivesMounting (m + n) a (h ++ k) c
both_mount m n a b c h k one (two, is) =
    subst (λ (l : ℕ). DrivesMounting (m + l) a (h ++ k) c) is (mounts_on m a b c h k one two)

-- Steps of a kind in which the kernel does not mount.
pub none_mount : (Step : Driven → List Transfer → Driven → Type 0)
    → ((a : Driven) (log : List Transfer) (b : Driven) → Step a log b → (step : DriveStep a log b) × (mounts_at step ≡ 0))
    → (a : Driven) (log : List Transfer) (b : Driven) → Runs Step a log b → DrivesMounting 0 a log b
none_mount Step is a _ _ nothing = (nothing, refl)
none_mount Step is a _ _ (next before mid runs log b step) =
    let one = is mid log b step in
    let none = one.1 in
    subst (λ (m : ℕ). DrivesMounting m a (before ++ log) b) (omega (arith, none))
    (mounts_next 0 a before mid (none_mount Step is a before mid runs) log b one.0)
