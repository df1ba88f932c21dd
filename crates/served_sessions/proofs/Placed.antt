-- Numbers at places of a frame that is read by its beginning, or in parts.
use Rattle.std.proofs.Common.{◌≡◌, ◌≤◌, ℕ, ◌+◌, ◌-◌, List, ◌∷◌, ◌++◌, length, take, drop, drop-drop, refl, sym, ◌∙◌, ap, subst, arith, length-append, length-drop, length-take}
use Rattle.std.proofs.lemmas.List.{drop-take}
use Rattle.byteorder.specs.Endian.{little_bytes, little_from}
use Rattle.byteorder.specs.Numbers.{little_from-append, little_from-take}
use Rattle.fk_fields.specs.Fields.{number_at}

-- A number stands where it stood, in bytes that were taken from a place on.
taken_from : (front start most place width : ℕ) (bytes : List ℕ) → start ≡ front + place → place + width ≤ most
    → little_from 0 width (drop place (take most (drop front bytes))) ≡ little_from 0 width (drop start bytes)
taken_from front start most place width bytes start_is fits =
    let rest : ℕ = most - place in
    let parts : place + rest ≡ most = omega (arith, fits) in
    let enough : 0 + width ≤ rest = omega (arith, fits) in
    let one : drop place (take most (drop front bytes)) ≡ take rest (drop place (drop front bytes)) =
    subst (λ (n : ℕ). drop place (take n (drop front bytes)) ≡ take rest (drop place (drop front bytes))) parts
    (drop-take place rest (drop front bytes)) in
    let two : drop place (drop front bytes) ≡ drop start bytes =
    drop-drop place front bytes ∙ ap (λ (n : ℕ). drop n bytes) (sym start_is) in
    ap (little_from 0 width) one ∙ little_from-take 0 width rest (drop place (drop front bytes)) enough
    ∙ ap (little_from 0 width) two

pub number_from : (front start most place width : ℕ) (bytes : List ℕ) → start ≡ front + place → place + width ≤ most
    → number_at place width (take most (drop front bytes)) ≡ number_at start width bytes
unfolding number_at
number_from front start most place width bytes start_is fits = taken_from front start most place width bytes start_is fits

-- The first 56 bytes of a longer INIT, with 56 as their len: its opcode, its number and its flags are the same.
module _ (bytes : List ℕ) where
  abbrev first : List ℕ
  first = 56 ∷ 0 ∷ 0 ∷ 0 ∷ take 52 (drop 4 bytes)

  pub same_opcode_of_init : number_at 4 4 (56 ∷ 0 ∷ 0 ∷ 0 ∷ take 52 (drop 4 bytes)) ≡ number_at 4 4 bytes
  unfolding number_at
  same_opcode_of_init = taken_from 4 4 52 0 4 bytes refl (omega arith)

  pub same_unique_of_init : number_at 8 8 (56 ∷ 0 ∷ 0 ∷ 0 ∷ take 52 (drop 4 bytes)) ≡ number_at 8 8 bytes
  unfolding number_at
  same_unique_of_init = taken_from 4 8 52 4 8 bytes refl (omega arith)

  pub same_flags_of_init : number_at 52 4 (56 ∷ 0 ∷ 0 ∷ 0 ∷ take 52 (drop 4 bytes)) ≡ number_at 52 4 bytes
  unfolding number_at
  same_flags_of_init = taken_from 4 52 52 48 4 bytes refl (omega arith)

-- A part of a longer frame has its opcode.
pub same_opcode_of_part : (len count : ℕ) (bytes pairs : List ℕ) → 40 ≤ length bytes
    → number_at 4 4 (little_bytes 4 len ++ take 36 (drop 4 bytes) ++ little_bytes 4 count ++ take 4 (drop 44 bytes) ++ pairs)
    ≡ number_at 4 4 bytes
unfolding number_at
same_opcode_of_part len count bytes pairs long =
    let whole : List ℕ = take 36 (drop 4 bytes) in
    let second : List ℕ = whole ++ little_bytes 4 count in
    let third : List ℕ = second ++ take 4 (drop 44 bytes) in
    let first_long : 4 ≤ length whole = omega (arith, length-take 36 (drop 4 bytes), length-drop 4 bytes, long) in
    let second_long : 4 ≤ length second = omega (arith, length-append whole (little_bytes 4 count), first_long) in
    let third_long : 4 ≤ length third = omega (arith, length-append second (take 4 (drop 44 bytes)), second_long) in
    little_from-append 4 third pairs third_long ∙ little_from-append 4 second (take 4 (drop 44 bytes)) second_long
    ∙ little_from-append 4 whole (little_bytes 4 count) first_long ∙ taken_from 4 4 36 0 4 bytes refl (omega arith)
