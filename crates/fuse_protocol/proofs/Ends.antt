-- The bytes before the first that ends a name.
use Rattle.std.proofs.Common.{◌≡◌, ◌≢◌, ℕ, ◌<◌, ◌≤◌, List, length, take, get_or, ap, ◌∙◌, subst, arith, false}
use Rattle.std.proofs.lemmas.List.{get_or-take, length-take-le, get_or_default}
use Rattle.fuse_protocol.specs.Ends.{is_end, HasNoEnd}

pub not_end : (other b : ℕ) → is_end other b ≡ false → (b ≢ 0) × (b ≢ other)
not_end other b e = (
  (λ z. let h : is_end other 0 ≡ false = subst (λ (y : ℕ). is_end other y ≡ false) z e in absurd cc),
  (λ z. grind (arith, z, e)),
)

-- What a place says at one default it says at any.
pub plain_at : (other : ℕ) (bytes : List ℕ) (k d : ℕ) → k < length bytes → is_end other (get_or bytes k 0) ≡ false
    → (get_or bytes k d ≢ 0) × (get_or bytes k d ≢ other)
plain_at other bytes k d lt e =
    not_end other (get_or bytes k d) (ap (is_end other) (get_or_default bytes k d 0 lt) ∙ e)

-- Bytes of which none ends a name up to a place.
pub none_before : (other : ℕ) (bytes : List ℕ) (end : ℕ) → end ≤ length bytes
    → ((k : ℕ) → k < end → is_end other (get_or bytes k 0) ≡ false) → HasNoEnd other (take end bytes)
none_before other bytes end within before = λ k d lt.
    let count : length (take end bytes) ≡ end = length-take-le end bytes within in
    let inside : k < end = omega (arith, lt, count) in
    rw (get_or-take end bytes k d inside) (plain_at other bytes k d (omega arith) (before k inside))

-- The same of all of them.
pub none_at_all : (other : ℕ) (bytes : List ℕ) (end : ℕ) → length bytes ≤ end
    → ((k : ℕ) → k < end → is_end other (get_or bytes k 0) ≡ false) → HasNoEnd other bytes
none_at_all other bytes end all before = λ k d lt. plain_at other bytes k d lt (before k (omega arith))
