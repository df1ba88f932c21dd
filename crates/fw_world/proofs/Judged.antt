-- Where one thing comes of what an event finds, or a refusal, so does another: both are judged alike.
use Rattle.std.proofs.Common.{◌≡◌, Bool, true, false, List, [], ◌∷◌, Option, Some, None, Ok, Err, refl}
use Rattle.std.specs.Prelude.{Result}
use Rattle.fuse_spec.specs.declared.Refusal.{Refusal}
use Rattle.fuse_spec.specs.Kernel.Refusals.{unless, found, first_found, refusal_in, accepted}

-- ---- a condition that refuses

pub passed : {A : Type 0} (c : Bool) (a : Refusal) (x : Result A Refusal) → refusal_in (unless c a x) ≡ None
    → (c ≡ false) × (refusal_in x ≡ None)
passed true a x e = absurd (cc e)
passed false a x e = (refl, e)

pub unless_ok : {A B : Type 0} (c : Bool) (a : Refusal) (x : Result A Refusal) (y : Result B Refusal) (z : B)
    → refusal_in (unless c a x) ≡ None → y ≡ Ok z → unless c a y ≡ Ok z
unless_ok true a x y z e is = absurd (cc e)
unless_ok false a x y z e is = is

pub unless_refused : {A B : Type 0} (c : Bool) (a : Refusal) (x : Result A Refusal) (y : Result B Refusal) (r : Refusal)
    → refusal_in (unless c a x) ≡ Some r → (refusal_in x ≡ Some r → y ≡ Err r) → unless c a y ≡ Err r
unless_refused true a x y r e rest = cc e
unless_refused false a x y r e rest = rest e

-- ---- what is found

-- what is there, and is not refused
pub record Finds {A B : Type 0} (o : Option A) (f : A → Result B Refusal) : Type 0 where
  pub it : A
  pub there : o ≡ Some it
  pub unrefused : refusal_in (f it) ≡ None

pub finds : {A B : Type 0} (o : Option A) (f : A → Result B Refusal) → refusal_in (found o f) ≡ None → Finds o f
finds None f e = absurd (cc e)
finds (Some it) f e = record { it = it; there = refl; unrefused = e }

pub found_refused : {A B C : Type 0} (o : Option A) (f : A → Result B Refusal) (g : A → Result C Refusal) (r : Refusal)
    → refusal_in (found o f) ≡ Some r → ((it : A) → refusal_in (f it) ≡ Some r → g it ≡ Err r) → found o g ≡ Err r
found_refused None f g r e rest = cc e
found_refused (Some it) f g r e rest = rest it e

pub first_refused : {A B C : Type 0} (xs : List A) (f : A → Result B Refusal) (g : A → Result C Refusal) (r : Refusal)
    → refusal_in (first_found xs f) ≡ Some r → ((x : A) → refusal_in (f x) ≡ Some r → g x ≡ Err r)
    → first_found xs g ≡ Err r
first_refused [] f g r e rest = cc e
first_refused (x ∷ xs) f g r e rest = rest x e

-- What is accepted is not refused.
pub not_refused : {A : Type 0} (y : Result A Refusal) (r : Refusal) → refusal_in accepted ≡ Some r → y ≡ Err r
not_refused y r e = absurd (cc e)
