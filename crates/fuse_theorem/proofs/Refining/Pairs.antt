-- Names in a list, with their files.
use Rattle.std.proofs.Common.{◌≡◌, ℕ, ◌-◌, Bool, true, false, cond, List, [], ◌∷◌, Option, Some, None, map, option_map, suc, refl, ap, sym, subst, ◌+◌, ◌∙◌, arith, All}
use Rattle.std.specs.Prelude.{Contains, nat_le, sum_by}
use Rattle.std.proofs.lemmas.List.Sums.{sum_by-cons}
use Rattle.std.proofs.lemmas.List.Elements.{All-nil, All-cons, All-head, All-tail}
use Rattle.fuse_spec.specs.Calls.Paths.{is_dots}
use Rattle.fuse_spec.specs.Files.Operations.{Dirent, DirentPlus, listed_by, first_listed, files_listed, pair_with, Reply, found, missing, created, opened, attributes, listed, listed_plus, content, written, agreed, done, failed, reply_with, files_in_reply, OptionAlike, PairsAlike}
use Rattle.fuse_spec.specs.Files.Trees.{Tree, Named, record_length, pair_length, pair_of, fitting_pairs}

-- ---- the same names, with the files named in another way

module _ {F G : Type 0} (f : F → G) where
  pub listed_with : (pair : DirentPlus F) → listed_by (pair_with f pair) ≡ option_map f (listed_by pair)
  listed_with pair = by (is_dots pair.dirent.name) pair.file
    where
      by : (b : Bool) (o : Option F) → cond b None (option_map f o) ≡ option_map f (cond b None o)
      by true o = refl
      by false o = refl

  first_with : (o : Option F) (files : List F) → first_listed (option_map f o) (map f files) ≡ map f (first_listed o files)
  first_with None files = refl
  first_with (Some x) files = refl

  pub listed_files_with : (pairs : List (DirentPlus F)) → files_listed (map (pair_with f) pairs) ≡ map f (files_listed pairs)
  listed_files_with [] = refl
  listed_files_with (pair ∷ pairs) =
      (λ i. first_listed (listed_with pair i) (listed_files_with pairs i)) ∙ first_with (listed_by pair) (files_listed pairs)

  -- What a reply names is named so in the other way.
  pub files_with : {O P : Type 0} (g : O → P) (reply : Reply F O)
      → files_in_reply (reply_with f g reply) ≡ map f (files_in_reply reply)
  files_with g (found x v) = refl
  files_with g (missing v) = refl
  files_with g (created x v o) = refl
  files_with g (opened o) = refl
  files_with g (attributes a) = refl
  files_with g (listed xs) = refl
  files_with g (listed_plus pairs) = listed_files_with pairs
  files_with g (content xs) = refl
  files_with g (written n) = refl
  files_with g (agreed a b flags) = refl
  files_with g done = refl
  files_with g (failed e) = refl

-- ---- names with the same files

module _ {X : Type 0} where
  first_in : (x : X) (xs : List X) → Contains (x ∷ xs) x
  first_in x xs = (0, omega arith, refl)

  rest_in : (y : X) (xs : List X) (x : X) → Contains xs x → Contains (y ∷ xs) x
  rest_in y xs x (k, lt, is) = (suc k, omega (arith, lt), is)

  later_in : (o : Option X) (xs : List X) (x : X) → Contains xs x → Contains (first_listed o xs) x
  later_in None xs x at = at
  later_in (Some y) xs x at = rest_in y xs x at

module _ {F G : Type 0} (R R' : F → G → Type 0) where
  listed_more : (a : Option F) (b : Option G) (rest : List F)
      → ((x : F) (y : G) → Contains (first_listed a rest) x → R x y → R' x y) → OptionAlike R a b → OptionAlike R' a b
  listed_more None None rest more h = h
  listed_more (Some x) (Some y) rest more h = more x y (first_in x rest) h
  listed_more None (Some y) rest more h = absurd h
  listed_more (Some x) None rest more h = absurd h

  -- What holds of the files that are listed alone.
  pub pairs_more : (xs : List (DirentPlus F)) (ys : List (DirentPlus G))
      → ((x : F) (y : G) → Contains (files_listed xs) x → R x y → R' x y) → PairsAlike R xs ys → PairsAlike R' xs ys
  pairs_more [] [] more h = h
  pairs_more (x ∷ xs) (y ∷ ys) more h = (
    (listed_more (listed_by x) (listed_by y) (files_listed xs) more h.0.0, h.0.1, h.0.2),
    pairs_more xs ys (λ a b at r. more a b (later_in (listed_by x) (files_listed xs) a at) r) h.1,
  )
  pairs_more [] (y ∷ ys) more h = absurd h
  pairs_more (x ∷ xs) [] more h = absurd h

-- Where each file that is listed is named right, the names are alike.
module _ {F G : Type 0} (R : G → F → Type 0) (f : F → G) where
  option_named : (o : Option F) (rest : List F) → All (λ x. R (f x) x) (first_listed o rest)
      → OptionAlike R (option_map f o) o
  option_named None rest h = tt
  option_named (Some x) rest h = All-head (λ y. R (f y) y) x rest h

  listed_rest : (P : F → Type 0) (o : Option F) (rest : List F) → All P (first_listed o rest) → All P rest
  listed_rest P None rest h = h
  listed_rest P (Some x) rest h = All-tail P x rest h

  pub pairs_named : (pairs : List (DirentPlus F)) → All (λ x. R (f x) x) (files_listed pairs)
      → PairsAlike R (map (pair_with f) pairs) pairs
  pairs_named [] h = tt
  pairs_named (pair ∷ pairs) h = (
    (
      subst (λ (o : Option G). OptionAlike R o (listed_by pair)) (sym (listed_with f pair))
          (option_named (listed_by pair) (files_listed pairs) h),
      refl,
      refl,
    ),
    pairs_named pairs (listed_rest (λ x. R (f x) x) (listed_by pair) (files_listed pairs) h),
  )

-- Names that are alike are listed alike.
module _ {F G : Type 0} (R : F → G → Type 0) where
  pub dirents_same : (xs : List (DirentPlus F)) (ys : List (DirentPlus G)) → PairsAlike R xs ys
      → map (λ (x : DirentPlus F). x.dirent) xs ≡ map (λ (y : DirentPlus G). y.dirent) ys
  dirents_same [] [] h = refl
  dirents_same (x ∷ xs) (y ∷ ys) h = λ i. h.0.2 i ∷ dirents_same xs ys h.1 i
  dirents_same [] (y ∷ ys) h = absurd h
  dirents_same (x ∷ xs) [] h = absurd h

  pub lengths_same : (xs : List (DirentPlus F)) (ys : List (DirentPlus G)) → PairsAlike R xs ys
      → sum_by pair_length xs ≡ sum_by pair_length ys
  lengths_same [] [] h = refl
  lengths_same (x ∷ xs) (y ∷ ys) h =
      let first = ap (λ (d : Dirent). 128 + record_length d) h.0.2 in
      let rest = lengths_same xs ys h.1 in
      let a = sum_by-cons pair_length x xs in
      let b = sum_by-cons pair_length y ys in
      omega (arith, first, rest, a, b)
  lengths_same [] (y ∷ ys) h = absurd h
  lengths_same (x ∷ xs) [] h = absurd h

-- ---- the names that a tree lists

module _ (P : ℕ → Type 0) where
  listed_one : (b : Bool) (x : ℕ) (files : List ℕ) → P x → All P files → All P (first_listed (cond b None (Some x)) files)
  listed_one true x files h rest = rest
  listed_one false x files h rest = All-cons P x files h rest

  pub listed_all : (valid : ℕ) (tree : Tree) (names : List Named) → All (λ (n : Named). P n.file) names
      → All P (files_listed (map (pair_of valid tree) names))
  listed_all valid tree [] h = All-nil P
  listed_all valid tree (n ∷ names) h =
      listed_one (is_dots n.name) n.file (files_listed (map (pair_of valid tree) names))
      (All-head (λ (m : Named). P m.file) n names h) (listed_all valid tree names
      (All-tail (λ (m : Named). P m.file) n names h))

  first_of : (o : Option ℕ) (files kept : List ℕ) → All P (first_listed o files) → (All P files → All P kept)
      → All P (first_listed o kept)
  first_of None files kept h rest = rest h
  first_of (Some x) files kept h rest = All-cons P x kept (All-head P x files h) (rest (All-tail P x files h))

  pub fitting_listed : (room : ℕ) (pairs : List (DirentPlus ℕ)) → All P (files_listed pairs)
      → All P (files_listed (fitting_pairs room pairs))
  fitting_listed room [] h = h
  fitting_listed room (pair ∷ pairs) h = by (nat_le (pair_length pair) room)
      (fitting_listed (room - pair_length pair) pairs)
    where
      by : (b : Bool) → (All P (files_listed pairs) → All P (files_listed (fitting_pairs (room - pair_length pair) pairs)))
          → All P (files_listed (cond b (pair ∷ fitting_pairs (room - pair_length pair) pairs) []))
      by true rest = first_of (listed_by pair) (files_listed pairs)
          (files_listed (fitting_pairs (room - pair_length pair) pairs)) h rest
      by false rest = All-nil P
