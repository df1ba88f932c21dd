-- What an accepted event was not refused for.
use Rattle.std.proofs.Common.{◌≡◌, ℕ, ◌+◌, ◌≤◌, ◌^◌, Bool, true, false, not, ◌||◌, Ok, refl, ap, arith}
use Rattle.std.specs.Prelude.{nat_lt}
use Rattle.std.proofs.lemmas.Bool.Decides.{nat_tests}
use Rattle.fuse_spec.specs.declared.Refusal.{Refusal}
use Rattle.fuse_spec.specs.declared.Refusal.TheVariants as refusal
use Rattle.fuse_spec.specs.Values.Numbers.{counter_end}
use Rattle.fuse_spec.specs.Kernel.Uniques.{IsNextNumber}
use Rattle.fuse_spec.specs.World.Worlds.{World}
use Rattle.fuse_spec.specs.World.Events.{Outcome}
use Rattle.fuse_spec.specs.Kernel.Refusals as kernel
use Rattle.fuse_spec.specs.Kernel.Refusals.{unless, is_kernel_past_end}
use Rattle.fuse_spec.specs.World.Steps.{Stepped, is_past, going}

pub record NotRefused (condition : Bool) (stepped : Stepped) (o : Outcome) (w : World) : Type 0 where
  pub passed : condition ≡ false
  pub rest : stepped ≡ Ok (o, w)

pub unless_ok : (condition : Bool) (refusal : Refusal) (stepped : Stepped) (o : Outcome) (w : World)
    → unless condition refusal stepped ≡ Ok (o, w) → NotRefused condition stepped o w
unless_ok true refusal stepped o w e = absurd (cc)
unless_ok false refusal stepped o w e = record { passed = refl; rest = e }

-- .. and what it leads to
pub record Leads (outcome : Outcome) (after : World) (o : Outcome) (w : World) : Type 0 where
  pub outcome_is : outcome ≡ o
  pub after_is : after ≡ w

abbrev pub accepted : Outcome → World → Stepped
accepted outcome after = Ok (outcome, after)

pub ok_is : (outcome : Outcome) (after : World) (o : Outcome) (w : World) → accepted outcome after ≡ Ok (o, w)
    → Leads outcome after o w
ok_is outcome after o w e =
    let pair : (outcome, after) ≡ (o, w) = cc in
    record { outcome_is = ap (λ (x : Outcome × World). x.0) pair; after_is = ap (λ (x : Outcome × World). x.1) pair }

pub record Went (outcome : Outcome) (after : World) (o : Outcome) (w : World) : Type 0 where
  pub within : is_past after ≡ false
  pub leads : Leads outcome after o w

pub going_ok : (outcome : Outcome) (after : World) (o : Outcome) (w : World) → going outcome after ≡ Ok (o, w)
    → Went outcome after o w
going_ok outcome after o w e =
    let parts = unless_ok (is_past after) refusal.Exhausted (Ok (outcome, after)) o w e in
    record { within = parts.passed; leads = ok_is outcome after o w parts.rest }

first_false : (a b : Bool) → (a || b) ≡ false → a ≡ false
first_false true b e = e
first_false false b e = refl

-- no number of a request is past the end
pub next_within : (w : World) → is_past w ≡ false → w.kernel.queues.next ≤ 2 ^ 62
next_within w within =
    let kernel_low = first_false (kernel.is_kernel_past w.kernel) _ within in
    let numbers_low = first_false (is_kernel_past_end w.kernel) _ kernel_low in
    let low = first_false (nat_lt counter_end w.kernel.queues.next) _ numbers_low in
    grind (arith, nat_tests, low)

pub after_next : (n : ℕ) → IsNextNumber n → n + 2 ≤ 2 ^ 62 → IsNextNumber (n + 2)
after_next n number high =
    let even = number.even in
    let low = number.low in
    record { even = omega (arith, even); low = omega (arith, low); high = high }

-- what is not refused holds
pub is_not : (b : Bool) → not b ≡ false → b ≡ true
is_not true e = refl
is_not false e = absurd (cc)
