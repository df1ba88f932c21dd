-- A call begins alike over open files that are alike under S: the same fault, the same walk, the same file.
use Rattle.std.proofs.Common.{◌≡◌, ℕ, ◌||◌, cond, Bool, true, false, List, Option, Some, None, Result, Ok, Err, refl, length}
use Rattle.std.specs.Prelude.{nat_lt}
use Rattle.fuse_spec.specs.Values.Maps.{Map, get}
use Rattle.fuse_spec.specs.Values.Numbers.{max_file, max_transfer}
use Rattle.fuse_spec.specs.Calls.Paths.{Name, path_words_of, parent_and_last}
use Rattle.fuse_spec.specs.Files.Operations.{Operation, OptionAlike, OperationAlike}
use Rattle.fuse_spec.specs.Calls.Calls.{Call}
use Rattle.fuse_spec.specs.Calls.Calls as call
use Rattle.fuse_spec.specs.Calls.Begins.{Beginning, faulty, sets_out, uses, closes, whole_path, parent_path, using, closing, beginning}
use Rattle.fuse_spec.specs.Claim.Denotes.{WalkPlanAlike}

module _ {F O G P : Type 0} (R : F → G → Type 0) (S : O → P → Type 0) where
  abbrev pub BeginningAlike : Beginning F O → Beginning G P → Type 0
  BeginningAlike (faulty e) (faulty f) = e ≡ f
  BeginningAlike (sets_out words x) (sets_out words' y) = (words ≡ words') × WalkPlanAlike R x y
  BeginningAlike (uses h a) (uses h' b) = (h ≡ h') × OperationAlike R S a b
  BeginningAlike (closes h o) (closes h' p) = (h ≡ h') × S o p
  BeginningAlike a b = ⊥

  whole_alike : (path : List ℕ) (f : List Name → Beginning F O) (g : List Name → Beginning G P)
      → ((words : List Name) → BeginningAlike (f words) (g words))
      → BeginningAlike (whole_path path f) (whole_path path g)
  whole_alike path f g on = by (path_words_of path)
    where
      by : (r : Result (List Name) ℕ) → BeginningAlike (elim r [ Err fault ↦ faulty fault | Ok words ↦ f words ])
          (elim r [ Err fault ↦ faulty fault | Ok words ↦ g words ])
      by (Err fault) = refl
      by (Ok words) = on words

  parent_alike : (path : List ℕ) (f : List Name → Name → Beginning F O) (g : List Name → Name → Beginning G P)
      → ((words : List Name) (name : Name) → BeginningAlike (f words name) (g words name))
      → BeginningAlike (parent_path path f) (parent_path path g)
  parent_alike path f g on = whole_alike path _ _ (λ words. by (parent_and_last words))
    where
      by : (o : Option (List Name × Name)) → BeginningAlike
          (elim o [ None ↦ faulty 22 | Some parts ↦ f parts.0 parts.1 ])
          (elim o [ None ↦ faulty 22 | Some parts ↦ g parts.0 parts.1 ])
      by None = refl
      by (Some parts) = on parts.0 parts.1

  using_alike : (open_call : ℕ) (a : Option O) (b : Option P) (offset size : ℕ) (f : O → Operation F O)
      (g : P → Operation G P) → OptionAlike S a b
      → ((o : O) (p : P) → S o p → OperationAlike R S (f o) (g p))
      → BeginningAlike (using open_call a offset size f) (using open_call b offset size g)
  using_alike open_call None None offset size f g h on = refl
  using_alike open_call (Some o) (Some p) offset size f g h on = by (nat_lt max_file offset || nat_lt max_transfer size)
    where
      by : (t : Bool) → BeginningAlike (cond t (faulty 22) (uses open_call (f o))) (cond t (faulty 22) (uses open_call (g p)))
      by true = refl
      by false = (refl, on o p h)
  using_alike open_call None (Some p) offset size f g h on = absurd h
  using_alike open_call (Some o) None offset size f g h on = absurd h

  closing_alike : (open_call : ℕ) (a : Option O) (b : Option P) → OptionAlike S a b
      → BeginningAlike (closing open_call a) (closing open_call b)
  closing_alike open_call None None h = refl
  closing_alike open_call (Some o) (Some p) h = (refl, h)
  closing_alike open_call None (Some p) h = absurd h
  closing_alike open_call (Some o) None h = absurd h

  -- Every call begins alike.
  pub beginning_alike : (opens : Map O) (others : Map P)
      → ((open_call : ℕ) → OptionAlike S (get opens open_call) (get others open_call)) → (c : Call)
      → BeginningAlike (beginning opens c) (beginning others c)
  beginning_alike opens others same (call.stat path) = whole_alike path _ _ (λ words. (refl, tt))
  beginning_alike opens others same (call.list path after) = whole_alike path _ _ (λ words. (refl, (tt, refl, refl)))
  beginning_alike opens others same (call.listplus path after) = whole_alike path _ _
      (λ words. (refl, (tt, refl, refl)))
  beginning_alike opens others same (call.opening path) = whole_alike path _ _ (λ words. (refl, tt))
  beginning_alike opens others same (call.mkdir path) = parent_alike path _ _ (λ words name. (refl, (tt, refl)))
  beginning_alike opens others same (call.create path) = parent_alike path _ _ (λ words name. (refl, (tt, refl)))
  beginning_alike opens others same (call.unlink path) = parent_alike path _ _ (λ words name. (refl, (tt, refl)))
  beginning_alike opens others same (call.rmdir path) = parent_alike path _ _ (λ words name. (refl, (tt, refl)))
  beginning_alike opens others same (call.rename old new) =
      parent_alike old _ _ (λ words from. parent_alike new _ _ (λ more to. (refl, (refl, refl, refl))))
  beginning_alike opens others same (call.link old new) =
      whole_alike old _ _ (λ words. parent_alike new _ _ (λ more name. (refl, (refl, refl))))
  beginning_alike opens others same (call.read open_call offset size) =
      using_alike open_call (get opens open_call) (get others open_call) offset size _ _ (same open_call) (λ o p s. (s, refl, refl))
  beginning_alike opens others same (call.write open_call offset bytes) =
      using_alike open_call (get opens open_call) (get others open_call) offset (length bytes) _ _ (same open_call)
      (λ o p s. (s, refl, refl))
  beginning_alike opens others same (call.close open_call) =
      closing_alike open_call (get opens open_call) (get others open_call) (same open_call)
