-- Which bytes end a name, as the bits of a mask.
use Rattle.std.proofs.Common.{◌≡◌, ℕ, zero, suc, ◌+◌, ◌-◌, ◌<◌, ◌≤◌, Bool, true, false, cond, eqb, List, [], ◌∷◌, length, get_or, map, refl, sym, ap, ◌∙◌, arith}
use Rattle.std.specs.Prelude.{◌↔◌, ◌||◌, max, bit_or}
use Rattle.std.specs.Int.{bit_at}
use Rattle.std.specs.Simd.Lanes.{mask_l}
use Rattle.std.proofs.lemmas.Simd.{bit_mask_l}
use Rattle.std.proofs.lemmas.Nat.Bits.{bit_at_or}
use Rattle.fuse_protocol.specs.Ends.{is_end}

tells : (b : Bool) → (cond {A = ℕ} b 1 0 ≡ 1) ↔ (b ≡ true)
tells true = (λ h. refl, λ h. refl)
tells false = (λ h. absurd (omega arith), λ h. absurd cc)

either_of : (a b : Bool) → max (cond {A = ℕ} a 1 0) (cond {A = ℕ} b 1 0) ≡ cond {A = ℕ} (a || b) 1 0
either_of true true = refl
either_of true false = refl
either_of false true = refl
either_of false false = refl

both_at : (p q : ℕ → Bool) (xs : List ℕ) (k : ℕ)
    → (get_or (map p xs) k false || get_or (map q xs) k false) ≡ get_or (map (λ b. p b || q b) xs) k false
both_at p q [] k = refl
both_at p q (x ∷ xs) zero = refl
both_at p q (x ∷ xs) (suc k) = both_at p q xs k

at_place : (p : ℕ → Bool) (xs : List ℕ) (k : ℕ)
    → (get_or (map p xs) k false ≡ true) ↔ ((k < length xs) × (p (get_or xs k 0) ≡ true))
at_place p [] k = (λ h. absurd cc, λ h. let q : k < 0 = h.0 in absurd (omega arith))
at_place p (x ∷ xs) zero = (λ h. (grind arith, h), λ h. h.1)
at_place p (x ∷ xs) (suc k) =
    let more = at_place p xs k in (
      λ h. let q = more.0 h in let l : k < length xs = q.0 in (grind arith, q.1),
      λ h. let l : suc k < length (x ∷ xs) = h.0 in more.1 (grind arith, h.1),
    )

-- Two masks, of the NUL bytes and of the others, have a bit for each byte that ends a name.
pub ends_bit : (other : ℕ) (xs : List ℕ) (k : ℕ)
    → (bit_at (bit_or (mask_l (map (λ b. eqb b 0) xs)) (mask_l (map (λ b. eqb b other) xs))) k ≡ 1)
    ↔ ((k < length xs) × (is_end other (get_or xs k 0) ≡ true))
ends_bit other xs k =
    let nul = λ (b : ℕ). eqb b 0 in
    let same = λ (b : ℕ). eqb b other in
    let each : bit_at (bit_or (mask_l (map nul xs)) (mask_l (map same xs))) k
    ≡ max (cond {A = ℕ} (get_or (map nul xs) k false) 1 0) (cond {A = ℕ} (get_or (map same xs) k false) 1 0) =
    bit_at_or (mask_l (map nul xs)) (mask_l (map same xs)) k
    ∙ (λ i. max (bit_mask_l (map nul xs) k i) (bit_mask_l (map same xs) k i)) in
    let whole : bit_at (bit_or (mask_l (map nul xs)) (mask_l (map same xs))) k
    ≡ cond {A = ℕ} (get_or (map (is_end other) xs) k false) 1 0 =
    each ∙ either_of (get_or (map nul xs) k false) (get_or (map same xs) k false)
    ∙ ap (λ (b : Bool). cond {A = ℕ} b 1 0) (both_at nul same xs k) in
    let told = tells (get_or (map (is_end other) xs) k false) in
    let place = at_place (is_end other) xs k in
    (λ h. place.0 (told.0 (sym whole ∙ h)), λ h. whole ∙ told.1 (place.1 h))

false_unless : (b : Bool) → (b ≡ true → ⊥) → b ≡ false
false_unless true h = absurd (h refl)
false_unless false h = refl

-- Where no bit is set below a place, no byte before it ends a name.
pub none_below : (other : ℕ) (bytes : List ℕ) (place stop bits low : ℕ)
    → ((k : ℕ) → (bit_at bits k ≡ 1) ↔ ((place + k < stop) × (is_end other (get_or bytes (place + k) 0) ≡ true)))
    → ((k : ℕ) → k < low → bit_at bits k ≡ 0)
    → (k : ℕ) → place ≤ k → k < place + low → k < stop → is_end other (get_or bytes k 0) ≡ false
none_below other bytes place stop bits low marks clear k from below inside =
    let here : place + (k - place) ≡ k = omega (arith, from) in
    false_unless (is_end other (get_or bytes k 0)) (λ ends.
    let zero_bit : bit_at bits (k - place) ≡ 0 = clear (k - place) (omega (arith, from, below)) in
    let set : bit_at bits (k - place) ≡ 1 = (marks (k - place)).1
    (omega (arith, here, inside), ap (λ (n : ℕ). is_end other (get_or bytes n 0)) here ∙ ends) in
    absurd (omega (arith, zero_bit, set)))
