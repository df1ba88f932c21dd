-- The next record of a listing.
use Rattle.std.proofs.Common.{◌≡◌, ℕ, Bool, true, false, zero, suc, ◌+◌, ◌-◌, ◌≤◌, ◌⊎◌, inl, inr, List, [], ◌∷◌, length, refl, ap, ◌∙◌, arith}
use Rattle.std.proofs.lemmas.Grind.{common_steps}
use Rattle.fuse_replies.specs.RecordPlaces.{front, record_end, is_whole, places_from, record_places}

-- A record that is whole ends in the bytes, and its entry and its head are whole too.
pub whole : (plus : Bool) (place : ℕ) (bytes : List ℕ) → is_whole plus place bytes ≡ true
    → (place + (front plus + 24) ≤ length bytes) × (record_end plus place bytes ≤ length bytes)
whole plus place bytes e = (grind (arith, common_steps, e), grind (arith, common_steps, e))

cases : (b : Bool) → (b ≡ true) ⊎ (b ≡ false)
cases true = inl refl
cases false = inr refl

-- Behind the end there is none.
pub past_end : (plus : Bool) (place : ℕ) (bytes : List ℕ) → length bytes ≤ place → is_whole plus place bytes ≡ false
past_end plus place bytes h = elim (cases (is_whole plus place bytes)) [
  | inl e ↦ absurd (omega (arith, h, (whole plus place bytes e).0))
  | inr e ↦ e
]

-- So many places are enough, and more give no others.
enough : (plus : Bool) (most more place : ℕ) (bytes : List ℕ) → length bytes ≤ place + most
    → length bytes ≤ place + more → places_from plus most place bytes ≡ places_from plus more place bytes
unfolding places_from
enough plus zero zero place bytes h k = refl
enough plus zero (suc more) place bytes h k = rw (past_end plus place bytes (omega (arith, h))) refl
enough plus (suc most) zero place bytes h k = rw (past_end plus place bytes (omega (arith, k))) refl
enough plus (suc most) (suc more) place bytes h k = elim (cases (is_whole plus place bytes)) [
  | inl e ↦ rw e (ap (λ (l : List ℕ). place ∷ l)
      (enough plus most more (record_end plus place bytes) bytes (omega (arith, h)) (omega (arith, k))))
  | inr e ↦ rw e refl
]

-- Where no whole record begins there are no more.
pub no_record : (plus : Bool) (place : ℕ) (bytes : List ℕ) → is_whole plus place bytes ≡ false
    → record_places plus place bytes ≡ []
unfolding record_places places_from
no_record plus place bytes e =
    enough plus (length bytes - place) (suc (length bytes)) place bytes (omega arith) (omega arith) ∙ rw e refl

-- Where one begins it is the first, and the others follow it.
pub one_record : (plus : Bool) (place : ℕ) (bytes : List ℕ) → is_whole plus place bytes ≡ true
    → record_places plus place bytes ≡ place ∷ record_places plus (record_end plus place bytes) bytes
unfolding record_places places_from
one_record plus place bytes e =
    let rest : places_from plus (length bytes) (record_end plus place bytes) bytes
    ≡ places_from plus (length bytes - record_end plus place bytes) (record_end plus place bytes) bytes =
    enough plus (length bytes) (length bytes - record_end plus place bytes) (record_end plus place bytes) bytes
    (omega arith) (omega arith) in
    enough plus (length bytes - place) (suc (length bytes)) place bytes (omega arith) (omega arith)
    ∙ rw e (ap (λ (l : List ℕ). place ∷ l) rest)
