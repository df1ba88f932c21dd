-- The time at a rank of ascending times.
use Rattle.std.proofs.Common.{◌≡◌, ℕ, zero, suc, ◌+◌, ◌-◌, ◌<◌, ◌≤◌, Bool, true, false, true≢false, cond, List, [], ◌∷◌, Option, Some, None, length, min, refl, sym, ◌∙◌, ap, arith, rules, get_or, nat_le}
use Rattle.std.specs.Prelude.{IfSome, Contains, filter}
use Rattle.std.specs.List.Sorted.{IsNonDecreasing, IsPermutation}
use Rattle.std.specs.Option.{option_map_or}
use Rattle.std.proofs.lemmas.List.Sorted.{Contains-permutation, IsPermutation-sym, sum_by-IsPermutation}
use Rattle.std.proofs.lemmas.List.{get_or_default}
use Rattle.std.proofs.lemmas.List.Sums.{sum_by-cons}
use Rattle.fw_check.specs.Summary.{at_rank, no_longer, smallest}

abbrev one : Bool → ℕ
one b = cond b 1 0

next : (n : ℕ) (ns : List ℕ) (t : ℕ) → no_longer (n ∷ ns) t ≡ one (nat_le n t) + no_longer ns t
next n ns t = sum_by-cons (λ x. one (nat_le x t)) n ns

is_no_longer : (n t : ℕ) → n ≤ t → one (nat_le n t) ≡ 1
is_no_longer n t le = by (nat_le n t) refl
  where
    by : (b : Bool) → nat_le n t ≡ b → one b ≡ 1
    by true e = refl
    by false e = absurd (true≢false (grind (arith, rules)))

is_longer : (n t : ℕ) → t < n → one (nat_le n t) ≡ 0
is_longer n t lt = by (nat_le n t) refl
  where
    by : (b : Bool) → nat_le n t ≡ b → one b ≡ 0
    by true e = absurd (true≢false (grind (arith, rules)))
    by false e = refl

at_most_one : (b : Bool) → one b ≤ 1
at_most_one true = omega arith
at_most_one false = omega arith

later : (n : ℕ) (ns : List ℕ) → IsNonDecreasing (n ∷ ns) → IsNonDecreasing ns
later n ns up = λ i j d le lt. up (suc i) (suc j) d (omega (arith, le)) (omega (arith, lt))

-- in ascending times as many are no longer as stand up to it
enough : (ns : List ℕ) (k t : ℕ) → IsNonDecreasing ns → k < length ns → get_or ns k 0 ≤ t → k + 1 ≤ no_longer ns t
enough [] k t up within le = absurd (omega (arith, within))
enough (n ∷ ns) zero t up within le =
    let all = next n ns t in
    let here = is_no_longer n t le in omega (arith, all, here)
enough (n ∷ ns) (suc k) t up within le =
    let all = next n ns t in
    let below = up 0 (suc k) 0 (omega arith) (omega (arith, within)) in
    let here = is_no_longer n t (omega (arith, below, le)) in
    let rest = enough ns k t (later n ns up) (omega (arith, within)) le in omega (arith, all, here, rest)

-- fewer are no longer than less
too_few : (ns : List ℕ) (k t : ℕ) → IsNonDecreasing ns → k < length ns → t < get_or ns k 0 → no_longer ns t ≤ k
too_few [] k t up within less = absurd (omega (arith, within))
too_few (n ∷ []) zero t up within less =
    let all = next n [] t in
    let here = is_longer n t less in omega (arith, all, here)
too_few (n ∷ m ∷ ns) zero t up within less =
    let all = next n (m ∷ ns) t in
    let here = is_longer n t less in
    let above = up 0 1 0 (omega arith) (omega arith) in
    let rest = too_few (m ∷ ns) zero t (later n (m ∷ ns) up) (omega arith) (omega (arith, above, less)) in omega (arith, all, here, rest)
too_few (n ∷ ns) (suc k) t up within less =
    let all = next n ns t in
    let here = at_most_one (nat_le n t) in
    let rest = too_few ns k t (later n ns up) (omega (arith, within)) less in omega (arith, all, here, rest)

-- a number that passes and than which no less passes is the smallest that does
module _ (p : ℕ → Bool) (m : ℕ) (passes : p m ≡ true) (least : (n : ℕ) → p n ≡ true → m ≤ n) where
  above : (ns : List ℕ) → IfSome (smallest (filter p ns)) (λ n. m ≤ n)
  above [] = tt
  above (n ∷ ns) = by (p n) refl (above ns)
    where
      with_one : (o : Option ℕ) → m ≤ n → IfSome o (λ x. m ≤ x) → m ≤ option_map_or (min n) o n
      with_one None le h = le
      with_one (Some x) le h = omega (arith, le, h)

      by : (b : Bool) → p n ≡ b → IfSome (smallest (filter p ns)) (λ x. m ≤ x)
          → IfSome (smallest (cond b (n ∷ filter p ns) (filter p ns))) (λ x. m ≤ x)
      by true e rest = with_one (smallest (filter p ns)) (least n e) rest
      by false e rest = rest

  smallest_is : (ns : List ℕ) (k : ℕ) → k < length ns → get_or ns k m ≡ m → smallest (filter p ns) ≡ Some m
  smallest_is [] k within is = absurd (omega (arith, within))
  smallest_is (n ∷ ns) zero within is =
      ap (λ x. smallest (cond (p x) (x ∷ filter p ns) (filter p ns))) is
      ∙ ap (λ b. smallest (cond b (m ∷ filter p ns) (filter p ns))) passes
      ∙ ap Some (by (smallest (filter p ns)) (above ns))
    where
      by : (o : Option ℕ) → IfSome o (λ x. m ≤ x) → option_map_or (min m) o m ≡ m
      by None h = refl
      by (Some x) h = omega (arith, h)
  smallest_is (n ∷ ns) (suc k) within is = by (p n) refl (smallest_is ns k (omega (arith, within)) is)
    where
      by : (b : Bool) → p n ≡ b → smallest (filter p ns) ≡ Some m → smallest (cond b (n ∷ filter p ns) (filter p ns)) ≡ Some m
      by true e rest =
          let le = least n e in
          let min_is : min n m ≡ m = omega (arith, le) in
          ap (λ o. Some (option_map_or (min n) o n)) rest ∙ ap Some min_is
      by false e rest = rest

pub at_rank_is : (all ns : List ℕ) (rank : ℕ) → IsPermutation all ns → IsNonDecreasing ns → 0 < rank → rank ≤ length ns
    → at_rank rank all ≡ Some (get_or ns (rank - 1) 0)
at_rank_is all ns rank same up some within = smallest_is (λ t. nat_le rank (no_longer all t)) m passes least all place.0 place.1 place.2
  where
    m : ℕ
    m = get_or ns (rank - 1) 0

    count : (t : ℕ) → no_longer all t ≡ no_longer ns t
    count t = sym (sum_by-IsPermutation (λ n. one (nat_le n t)) all ns same)

    passes : nat_le rank (no_longer all m) ≡ true
    passes = let many = enough ns (rank - 1) m up (omega (arith, some, within)) (omega arith) in
        let same_count = count m in
        grind (arith, rules)

    least : (t : ℕ) → nat_le rank (no_longer all t) ≡ true → m ≤ t
    least t e = by (nat_le m t) refl
      where
        by : (b : Bool) → nat_le m t ≡ b → m ≤ t
        by true is = grind (arith, rules)
        by false is =
            let less : t < m = grind (arith, rules) in
            let few = too_few ns (rank - 1) t up (omega (arith, some, within)) less in
            let same_count = count t in
            absurd (true≢false (sym e ∙ grind (arith, rules)))

    place : Contains all m
    place = Contains-permutation ns all m (IsPermutation-sym all ns same) (rank - 1, omega (arith, some, within), search (rules, get_or_default))
