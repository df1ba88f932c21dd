-- Whether all bytes are such as names have, and a name that ends before the frame's last byte.
use Rattle.std.proofs.Common.{◌≡◌, ℕ, ◌+◌, ◌-◌, ◌≤◌, ◌<◌, List, [], ◌∷◌, ◌++◌, length, take, drop, get_or, refl, sym, ap, ◌∙◌, arith, add-one, inl, inr}
use Rattle.std.specs.Prelude.{◌≢◌, ◌↔◌, All, Bool, ◌||◌, not, true, false, IsTrue}
use Rattle.std.proofs.lemmas.List.{get_or_default, get_or-drop, length-drop, length-take-le}
use Rattle.std.proofs.lemmas.Bool.{cases_lt}
use Rattle.std.proofs.Math.Seq.{take-suc, get_or-append_seam}
use Rattle.fk_fields.specs.Fields.{IsName, ends_name, bytes_at, named, ReadsAs}
use Rattle.fk_fields.proofs.Names.{not_end, no_end, ending, name_is}

-- a test that fails of eight bytes fails of them together
pub eight_of_none : (p : ℕ → Bool) (a b c d e f g h : Bool) → a ≡ p 0 → b ≡ p 1 → c ≡ p 2 → d ≡ p 3 → e ≡ p 4 → f ≡ p 5
    → g ≡ p 6 → h ≡ p 7 → ((k : ℕ) → k < 8 → p k ≡ false) → (a || b || c || d || e || f || g || h) ≡ false
eight_of_none p a b c d e f g h ea eb ec ed ee ef eg eh none =
    rw (
      ea ∙ none 0 (omega arith),
      eb ∙ none 1 (omega arith),
      ec ∙ none 2 (omega arith),
      ed ∙ none 3 (omega arith),
      ee ∙ none 4 (omega arith),
      ef ∙ none 5 (omega arith),
      eg ∙ none 6 (omega arith),
      eh ∙ none 7 (omega arith),
    ) refl

is_false : (r : Bool) → IsTrue (not r) → r ≡ false
is_false true h = absurd cc
is_false false h = refl

is_true_of : (r : Bool) → r ≡ false → IsTrue (not r)
is_true_of true e = absurd cc
is_true_of false e = refl

-- No byte ends a name before a place, and none of the last eight does.
pub plain_whole : (xs : List ℕ) (place : ℕ) (r : Bool) → 8 ≤ length xs → length xs - place ≤ 8
    → ((k : ℕ) → k < place → ends_name (get_or xs k 0) ≡ false)
    → ((r ≡ false) ↔ ((k : ℕ) → k < 8 → ends_name (get_or xs (length xs - 8 + k) 0) ≡ false))
    → IsTrue (not r) ↔ All (λ b. (b ≢ 0) × (b ≢ 47)) xs
plain_whole xs place r long low before near =
    let quiet : IsTrue (not r) → (k : ℕ) → k < length xs → ends_name (get_or xs k 0) ≡ false =
    λ h k lt. elim (cases_lt k place) [
      | inl early ↦ before k early
      | inr late ↦
          let there : length xs - 8 + (k - (length xs - 8)) ≡ k = omega (arith, late, low, long) in
          ap (λ (n : ℕ). ends_name (get_or xs n 0)) (sym there) ∙ near.0 (is_false r h) (k - (length xs - 8))
          (omega (arith, lt, long))
    ] in (
      λ h k d lt. rw (get_or_default xs k d 0 lt) (not_end (get_or xs k 0) (quiet h k lt)),
      λ all. is_true_of r (near.1 (λ k lt. let at = all (length xs - 8 + k) 0 (omega (arith, lt, long)) in
          no_end (get_or xs (length xs - 8 + k) 0) at.0 at.1)),
    )

-- ---- a name to the frame's end

before_last : (place : ℕ) (bytes name : List ℕ) → ReadsAs place (named name ∷ []) bytes
    → take (length bytes - 1 - place) (drop place bytes) ≡ name
before_last place bytes name h =
    let count : length bytes - 1 - place ≡ length bytes - (place + 1) = omega arith in
    rw count (name_is place bytes name h)

pub nul_last : (place : ℕ) (bytes name : List ℕ) → ReadsAs place (named name ∷ []) bytes
    → get_or bytes (length bytes - 1) 0 ≡ 0
nul_last place bytes name h =
    let at : length bytes - 1 ≡ place + length name = omega (arith, h.2) in
    rw at (sym (get_or-drop place bytes (length name) 0) ∙ ap (λ (xs : List ℕ). get_or xs (length name) 0)
    (ending place bytes name h) ∙ get_or-append_seam name 0 [] 0)

pub name_before_last : (place : ℕ) (bytes name : List ℕ) → ReadsAs place (named name ∷ []) bytes
    → IsName (take (length bytes - 1 - place) (drop place bytes))
name_before_last place bytes name h = rw (before_last place bytes name h) h.0

pub reads_name : (place : ℕ) (bytes : List ℕ) → place < length bytes → get_or bytes (length bytes - 1) 0 ≡ 0
    → IsName (take (length bytes - 1 - place) (drop place bytes))
    → ReadsAs place (named (take (length bytes - 1 - place) (drop place bytes)) ∷ []) bytes
unfolding bytes_at
reads_name place bytes room nul good =
    let end = length bytes - 1 - place in
    let field = drop place bytes in
    let inside : end < length field = omega (arith, length-drop place bytes, room) in
    let count : length (take end field) ≡ end = length-take-le end field (omega (arith, inside)) in
    let last : place + end ≡ length bytes - 1 = omega (arith, room) in
    let zero : get_or field end 0 ≡ 0 = get_or-drop place bytes end 0 ∙ ap (λ (n : ℕ). get_or bytes n 0) last ∙ nul in
    let one : take (end + 1) field ≡ take end field ++ 0 ∷ [] =
    rw add-one (take-suc field end 0 inside ∙ ap (λ (b : ℕ). take end field ++ b ∷ []) zero) in
    (good, rw count one, rw count (omega (arith, room)))
