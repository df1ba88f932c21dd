-- Whether a walk that goes on finds a number for its next request.
use Rattle.std.proofs.Common.{◌≡◌, ℕ, ◌+◌, ◌^◌, ◌/◌, ◌-◌, ◌<◌, ◌≤◌, true, false, true≢false, List, Option, Some, None, refl, sym, arith}
use Rattle.std.specs.Prelude.{◌||◌, is_some, nat_lt}
use Rattle.std.proofs.lemmas.Bool.Decides.{nat_tests}
use Rattle.fuse_spec.specs.declared.Opened.{Opened}
use Rattle.fuse_spec.specs.Kernel.Kernel.{Kernel, asking_for}
use Rattle.fuse_spec.specs.Files.Operations.{Operation}
use Rattle.fuse_spec.specs.Kernel.Uniques.{numbers_left_from}
use Rattle.fuse_spec.specs.Calls.Paths.{Name}
use Rattle.fuse_spec.specs.Calls.Vfs.{Vfs, look, after_walk, walks_on}
use Rattle.fuse_spec.specs.Calls.Walks.{WalkPlan, Walked, looks_up, finds_none, asks, walk}
use Rattle.fuse_spec.specs.Kernel.Refusals.{is_kernel_past_end}
use Rattle.fk_kernel.proofs.Phases.{none_past_end}

ends : (unique call : ℕ) → (2 ^ 62 - unique) / 2 ≡ 0 → (nat_lt (2 ^ 62) (unique + 2) || nat_lt (2 ^ 62) call) ≡ true
ends unique call none = grind (arith, nat_tests)

-- one more request is past the end where no number is left
pub asks_past : (k : Kernel) (call : ℕ) (operation : Option (Operation ℕ Opened)) → is_some operation ≡ true
    → numbers_left_from k.queues.next ≡ 0 → is_kernel_past_end (asking_for k call operation) ≡ true
asks_past k call None some none = absurd (true≢false (sym some))
asks_past k call (Some operation) some none = ends k.queues.next k.vfs.next_call none

-- and is not where one is left
pub asks_within : (k : Kernel) (call : ℕ) (operation : Option (Operation ℕ Opened)) → k.queues.next ≤ 2 ^ 62
    → k.vfs.next_call ≤ 2 ^ 62 → (is_some operation ≡ true → 0 < numbers_left_from k.queues.next)
    → is_kernel_past_end (asking_for k call operation) ≡ false
asks_within k call None low few left = none_past_end k.queues.next k.vfs.next_call low few
asks_within k call (Some operation) low few left =
    let more : 0 < numbers_left_from k.queues.next = left refl in
    none_past_end (k.queues.next + 2) k.vfs.next_call (omega (arith, more)) few

pub asked_left : (unique call : ℕ) → (nat_lt (2 ^ 62) (unique + 2) || nat_lt (2 ^ 62) call) ≡ false
    → 0 < (2 ^ 62 - unique) / 2
asked_left unique call within = grind (arith, nat_tests)

-- a walk allocates no call's number
pub walk_numbers : (c : Vfs Opened) (call file : ℕ) (words : List Name) (plan : WalkPlan ℕ)
    → (walks_on c call file words plan).vfs.next_call ≡ c.next_call
walk_numbers c call file words plan = by (walk (look c) c.root file words plan)
  where
    by : (w : Walked ℕ Opened) → (after_walk c call w).vfs.next_call ≡ c.next_call
    by (looks_up directory word more left) = refl
    by finds_none = refl
    by (asks operation) = refl
