-- Which files have a name, as names come and go.
use Rattle.std.proofs.Common.{◌≡◌, ℕ, ◌+◌, ◌≤◌, Bool, true, false, true≢false, not, ◌||◌, cond, List, [], ◌∷◌, ◌++◌, Some, nat_eq, count_by, find, filter, option_map, refl, sym, subst, arith, All, get_or}
use Rattle.std.proofs.lemmas.Bool.Decides.{nat_tests}
use Rattle.std.proofs.lemmas.List.Elements.{All-nil, All-cons, All-head, All-tail}
use Rattle.fuse_spec.specs.Files.Trees.{Named}
use Rattle.fuse_spec.proofs.QueueCounts.{count_by-cons, count_by-push}
use Rattle.fuse_theorem.proofs.Calls.Finding.{same_is}

-- whether a name leads to the file, or it is the root
abbrev pub is_named : List Named → ℕ → Bool
is_named names file = not (nat_eq (cond (nat_eq file 0) 1 (count_by (λ (n : Named). nat_eq n.file file) names)) 0)

abbrev named_by : Bool → ℕ → Bool
named_by root count = not (nat_eq (cond root 1 count) 0)

more_named : (root : Bool) (a b : ℕ) → a ≤ b → named_by root a ≡ true → named_by root b ≡ true
more_named true a b le h = refl
more_named false a b le h = grind (arith, nat_tests, le, h)

pub count_filter : {X : Type 0} (p q : X → Bool) (xs : List X) → count_by p (filter q xs) ≤ count_by p xs
count_filter p q [] = omega arith
count_filter p q (x ∷ xs) = by (q x) (count_filter p q xs)
  where
    counted : count_by p (x ∷ xs) ≡ cond (p x) 1 0 + count_by p xs
    counted = count_by-cons p x xs

    by : (b : Bool) → count_by p (filter q xs) ≤ count_by p xs
        → count_by p (cond b (x ∷ filter q xs) (filter q xs)) ≤ count_by p (x ∷ xs)
    by true rest = let left = count_by-cons p x (filter q xs) in rw (counted, left) (omega (arith, rest))
    by false rest = rw counted (omega (arith, rest))

-- a file that has a name among fewer has one
pub named_before : (q : Named → Bool) (names : List Named) (file : ℕ) → is_named (filter q names) file ≡ true
    → is_named names file ≡ true
named_before q names file h = more_named (nat_eq file 0) _ _
    (count_filter (λ (n : Named). nat_eq n.file file) q names) h

-- a file that has a name after one more is made had one, or is the file of that name
pub named_push : (names : List Named) (x : Named) (file : ℕ) → is_named (names ++ x ∷ []) file ≡ true
    → (is_named names file || nat_eq x.file file) ≡ true
named_push names x file h = by (nat_eq x.file file) (nat_eq file 0)
    (rw (count_by-push (λ (n : Named). nat_eq n.file file) names x) at h)
  where
    either : (b : Bool) → (b || true) ≡ true
    either true = refl
    either false = refl

    first : (b : Bool) → b ≡ true → (b || false) ≡ true
    first true e = refl
    first false e = absurd (true≢false (sym e))

    by : (b root : Bool) → named_by root (count_by (λ (n : Named). nat_eq n.file file) names + cond b 1 0) ≡ true
        → (named_by root (count_by (λ (n : Named). nat_eq n.file file) names) || b) ≡ true
    by true root h = either (named_by root (count_by (λ (n : Named). nat_eq n.file file) names))
    by false root h = first (named_by root (count_by (λ (n : Named). nat_eq n.file file) names))
        (more_named root (count_by (λ (n : Named). nat_eq n.file file) names + 0)
        (count_by (λ (n : Named). nat_eq n.file file) names) (omega arith) h)

-- the file of each name is named
pub each_named : (names : List Named) → All (λ (n : Named). is_named names n.file ≡ true) names
each_named [] = All-nil (λ (n : Named). is_named [] n.file ≡ true)
each_named (x ∷ names) =
    All-cons (λ (n : Named). is_named (x ∷ names) n.file ≡ true) x names
    (named_by_count (nat_eq x.file 0) (rw counted (mine (same_is x.file))))
    (λ i d lt. more_named (nat_eq (get_or names i d).file 0) _ _ (later (get_or names i d)) (each_named names i d lt))
  where
    counted : count_by (λ (n : Named). nat_eq n.file x.file) (x ∷ names)
        ≡ cond (nat_eq x.file x.file) 1 0 + count_by (λ (n : Named). nat_eq n.file x.file) names
    counted = count_by-cons (λ (n : Named). nat_eq n.file x.file) x names

    mine : nat_eq x.file x.file ≡ true → 1 ≤ cond (nat_eq x.file x.file) 1 0 + count_by
        (λ (n : Named). nat_eq n.file x.file) names
    mine e = rw e (omega arith)

    named_by_count : {n : ℕ} (root : Bool) → 1 ≤ n → named_by root n ≡ true
    named_by_count true le = refl
    named_by_count false le = grind (arith, nat_tests, le)

    later : (y : Named) → count_by (λ (n : Named). nat_eq n.file y.file) names ≤ count_by
        (λ (n : Named). nat_eq n.file y.file) (x ∷ names)
    later y = let more = count_by-cons (λ (n : Named). nat_eq n.file y.file) x names in rw more (omega arith)

-- the file that a name leads to is named
pub found_named : (whole : List Named) (test : Named → Bool) (names : List Named) (file : ℕ)
    → All (λ (n : Named). is_named whole n.file ≡ true) names
    → option_map (λ (n : Named). n.file) (find test names) ≡ Some file → is_named whole file ≡ true
found_named whole test [] file h found = absurd (cc)
found_named whole test (n ∷ names) file h found =
    by (test n) found (λ f. found_named whole test names file
    (All-tail (λ (m : Named). is_named whole m.file ≡ true) n names h) f)
  where
    by : (b : Bool) → option_map (λ (m : Named). m.file) (cond b (Some n) (find test names)) ≡ Some file
        → (option_map (λ (m : Named). m.file) (find test names) ≡ Some file → is_named whole file ≡ true)
        → is_named whole file ≡ true
    by true f rest = let same : n.file ≡ file = cc in
        subst (λ (x : ℕ). is_named whole x ≡ true) same (All-head
        (λ (m : Named). is_named whole m.file ≡ true) n names h)
    by false f rest = rest f
