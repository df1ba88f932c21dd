-- Names up to the first NUL byte.
use Rattle.std.proofs.Common.{◌≡◌, ◌≢◌, ℕ, suc, ◌+◌, ◌≤◌, ◌<◌, Bool, true, false, List, [], ◌∷◌, ◌++◌, length, take, drop, get_or, refl, sym, ap, subst, ◌∙◌, arith, append_assoc, All}
use Rattle.std.specs.Prelude.{nat_lt}
use Rattle.std.proofs.lemmas.Bool.Decides.{nat_tests}
use Rattle.std.proofs.lemmas.List.{drop_at, get_or_append_left, length-append, take-append-drop, take_at}
use Rattle.std.proofs.Math.Seq.{drop-cons, get_or-append_seam}
use Rattle.fs_serve.specs.LongNames.{AreLongNames, AreTwoNames, EndsInLongNames, HasTwoNames}

module _ (bytes : List ℕ) (end : ℕ) (within : end ≤ length bytes)
    (before : (k : ℕ) → k < end → get_or bytes k 0 ≢ 0) (at : end < length bytes → get_or bytes end 0 ≡ 0) where
  -- A name before a NUL byte ends at the first one.
  front_length : (old rest : List ℕ) → All (λ b. b ≢ 0) old → bytes ≡ old ++ 0 ∷ rest → length old ≡ end
  front_length old rest plain is = by (nat_lt (length old) end) refl (nat_lt end (length old)) refl
    where
      nul : get_or bytes (length old) 0 ≡ 0
      nul = ap (λ (l : List ℕ). get_or l (length old) 0) is ∙ get_or-append_seam old 0 rest 0

      long : length bytes ≡ length old + length (0 ∷ rest)
      long = ap length is ∙ length-append old (0 ∷ rest)

      by : (b : Bool) → nat_lt (length old) end ≡ b → (d : Bool) → nat_lt end (length old) ≡ d → length old ≡ end
      by true lt d gt = absurd (before (length old) (grind (arith, nat_tests, lt)) nul)
      by false lt true gt =
          let inside : end < length old = grind (arith, nat_tests, gt) in
          let there : get_or bytes end 0 ≡ get_or old end 0 =
          ap (λ (l : List ℕ). get_or l end 0) is ∙ get_or_append_left old (0 ∷ rest) 0 end inside in
          absurd (plain end 0 inside (sym there ∙ at (omega (arith, long, inside))))
      by false lt false gt = grind (arith, nat_tests, lt, gt)

  pub front_is : (old rest : List ℕ) → All (λ b. b ≢ 0) old → bytes ≡ old ++ 0 ∷ rest
      → (take end bytes ≡ old) × (drop (end + 1) bytes ≡ rest) × (end < length bytes)
  front_is old rest plain is =
      let len = front_length old rest plain is in
      let long : length bytes ≡ length old + length (0 ∷ rest) = ap length is ∙ length-append old (0 ∷ rest) in (
        ap (take end) is ∙ take_at old (0 ∷ rest) end len,
        ap (drop (end + 1)) (is ∙ sym (append_assoc old (0 ∷ []) rest))
            ∙ drop_at (old ++ 0 ∷ []) rest (end + 1) (omega (arith, len, length-append old (0 ∷ []))),
        omega (arith, long, len),
      )

snoc_same : (xs ys : List ℕ) → xs ++ 0 ∷ [] ≡ ys ++ 0 ∷ [] → xs ≡ ys
snoc_same xs ys e =
    let both = ap length e in
    let len : length ys ≡ length xs = omega (arith, both, length-append xs (0 ∷ []), length-append ys (0 ∷ [])) in
    sym (take_at xs (0 ∷ []) (length xs) refl) ∙ ap (take (length xs)) e ∙ take_at ys (0 ∷ []) (length xs) len

module _ (bytes : List ℕ) (end : ℕ) (within : end ≤ length bytes)
    (before : (k : ℕ) → k < end → get_or bytes k 0 ≢ 0) (at : end < length bytes → get_or bytes end 0 ≡ 0) where
  abbrev found : (two : HasTwoNames bytes)
      → (take end bytes ≡ two.old) × (drop (end + 1) bytes ≡ two.new ++ 0 ∷ []) × (end < length bytes)
  found two = front_is bytes end within before at two.old (two.new ++ 0 ∷ []) two.plain two.ends

  pub no_end : end ≡ length bytes → HasTwoNames bytes → ⊥
  no_end none two = let inside = (found two).2 in absurd (omega (arith, none, inside))

  pub no_last : ((name : List ℕ) → drop (end + 1) bytes ≢ name ++ 0 ∷ []) → HasTwoNames bytes → ⊥
  no_last none two = none two.new (found two).1

  pub two_names : (new : List ℕ) → end ≢ length bytes → drop (end + 1) bytes ≡ new ++ 0 ∷ []
      → AreTwoNames bytes (take end bytes) new
  two_names new more is =
      let inside : end < length bytes = omega (arith, within, more) in
      let next : suc end ≡ end + 1 = omega arith in record {
        ends = sym (take-append-drop end bytes) ∙ ap (λ (l : List ℕ). take end bytes ++ l) (drop-cons bytes end 0 inside
            ∙ ap (λ (n : ℕ). n ∷ drop (suc end) bytes) (at inside)
            ∙ ap (λ (n : ℕ). 0 ∷ drop n bytes) next ∙ ap (λ (l : List ℕ). 0 ∷ l) is);
        alone = λ two. (sym (found two).0, snoc_same two.new new (sym (found two).1 ∙ is));
      }

abbrev pub two_of : {bytes : List ℕ} → EndsInLongNames bytes → HasTwoNames bytes
two_of ends = record {
  old = ends.old;
  new = ends.new;
  plain = λ i d lt. (ends.are.old_is.plain i d lt).0;
  ends = ends.ends;
}

-- Bytes end in long names where those that are found are long.
pub long_found : (bytes old new : List ℕ) → AreTwoNames bytes old new → (AreLongNames old new → EndsInLongNames bytes)
    × (EndsInLongNames bytes → AreLongNames old new)
long_found bytes old new are = (
  (λ long. record { old = old; new = new; are = long; ends = are.ends }),
  (λ ends.
      let two : HasTwoNames bytes = two_of ends in
      let same = are.alone two in
      subst (λ (o : List ℕ). AreLongNames o new) same.0
      (subst (λ (n : List ℕ). AreLongNames ends.old n) same.1 ends.are)),
)
