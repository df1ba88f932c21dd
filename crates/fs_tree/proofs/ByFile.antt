-- The directories of the names of each file, as names come and go.
use Rattle.std.proofs.Common.{◌≡◌, ℕ, ◌+◌, ◌<◌, Bool, true, false, not, cond, List, [], ◌∷◌, ◌++◌, map, filter, find, count_by, Some, refl, sym, ap, ◌∙◌, nat_eq, length, slice_get, arith}
use Rattle.std.specs.Option.{option_map}
use Rattle.std.proofs.lemmas.List.{map-append, append-nil}
use Rattle.std.proofs.lemmas.List.Sums.{length-filter}
use Rattle.std.proofs.lemmas.Grind.{common_steps}
use Rattle.fuse_spec.specs.Values.Maps.{get}
use Rattle.fuse_spec.specs.Files.Trees.{Named}
use Rattle.fs_tree.specs.Stored.{AreKeysBelow, IsRising, AreByFile, parent_of}
use Rattle.fs_tree.specs.Views.{named_of}
use Rattle.fs_tree.specs.declared.rows.Row.{Row}
use Rattle.fs_tree.proofs.ListLemmas.{filter-map}
use Rattle.fs_tree.proofs.ByDirectory.{filter-append, filter-swap, length-map}
use Rattle.fs_tree.proofs.ByCookie.{filter-apart}
use Rattle.fs_tree.proofs.FileRows.{is_eq-nat_cmp}
use Rattle.fs_tree.proofs.Keeping.{IsRising-where}
use Rattle.fs_tree.proofs.CookieRows.{put-undone}

-- ---- what is read

first-found : (p : Named → Bool) (names : List Named)
    → option_map (λ e. e.1) (slice_get (map parent_of (filter p names)) 0)
    ≡ option_map (λ n. n.directory) (find p names)
first-found p [] = refl
first-found p (n ∷ names) = by (p n) (first-found p names)
  where
    by : (b : Bool) → option_map (λ e. e.1) (slice_get (map parent_of (filter p names)) 0)
        ≡ option_map (λ n. n.directory) (find p names)
        → option_map (λ e. e.1) (slice_get (map parent_of (cond b (n ∷ filter p names) (filter p names))) 0)
        ≡ option_map (λ n. n.directory) (cond b (Some n) (find p names))
    by true rest = refl
    by false rest = rest

module _ (parents : ℕ → List (ℕ × ℕ)) (names : List Named) (by_file : AreByFile parents names) where
  pub count-in : (file : ℕ) → length (parents file) ≡ count_by (λ n. nat_eq n.file file) names
  count-in file = ap length (by_file file) ∙ length-map parent_of
      (filter (λ n. nat_eq n.file file) names) ∙ length-filter (λ n. nat_eq n.file file) names

  pub parent-in : (file : ℕ) → option_map (λ e. e.1) (slice_get (parents file) 0)
      ≡ option_map (λ n. n.directory) (find (λ n. nat_eq n.file file) names)
  parent-in file = ap (λ l. option_map (λ e. e.1) (slice_get l 0)) (by_file file) ∙ first-found
      (λ n. nat_eq n.file file) names

-- ---- cookies below the next

below-mapped : (low next : ℕ) (names : List Named) → IsRising low names next → AreKeysBelow next (map parent_of names)
below-mapped low next [] rising = tt
below-mapped low next (n ∷ names) rising = (
  first (n.cookie) names rising.1,
  below-mapped (n.cookie + 1) next names rising.1,
)
  where
    first : (s : ℕ) (names : List Named) → IsRising (s + 1) names next → s < next
    first s [] rising = omega (arith, rising)
    first s (m ∷ names) rising = let rest = first m.cookie names rising.1 in omega (arith, rising.0)

pub below-parents : (low next : ℕ) (parents : ℕ → List (ℕ × ℕ)) (names : List Named) → AreByFile parents names
    → IsRising low names next → (file : ℕ) → AreKeysBelow next (parents file)
below-parents low next parents names by_file rising file =
    rw (by_file file) (below-mapped low next (filter (λ n. nat_eq n.file file) names)
    (IsRising-where (λ n. nat_eq n.file file) low next names rising))

-- ---- what changes

-- the same parents
pub AreByFile-same : (parents after : ℕ → List (ℕ × ℕ)) (names : List Named) → ((k : ℕ) → after k ≡ parents k)
    → AreByFile parents names → AreByFile after names
AreByFile-same parents after names same by_file = λ k. same k ∙ by_file k

-- a name put last
pub AreByFile-pushed : (parents after : ℕ → List (ℕ × ℕ)) (names : List Named) (n : Named)
    → ((k : ℕ) → after k ≡ cond (nat_eq n.file k) (parents k ++ (n.cookie, n.directory) ∷ []) (parents k))
    → AreByFile parents names → AreByFile after (names ++ n ∷ [])
AreByFile-pushed parents after names n is by_file = λ k.
    is k ∙ by k (nat_eq n.file k) ∙ sym (map-append parent_of (filter (λ m. nat_eq m.file k) names)
    (cond (nat_eq n.file k) (n ∷ []) []))
    ∙ ap (map parent_of) (sym (filter-append (λ m. nat_eq m.file k) names (n ∷ [])))
  where
    by : (k : ℕ) (b : Bool) → cond b (parents k ++ (n.cookie, n.directory) ∷ []) (parents k)
        ≡ map parent_of (filter (λ m. nat_eq m.file k) names) ++ map parent_of (cond b (n ∷ []) [])
    by k true = ap (λ l. l ++ parent_of n ∷ []) (by_file k)
    by k false = by_file k ∙ sym (append-nil (map parent_of (filter (λ m. nat_eq m.file k) names)))

-- a name put last that goes again
pub AreByFile-undone : (parents put after : ℕ → List (ℕ × ℕ)) (names : List Named) (file cookie directory : ℕ)
    → ((k : ℕ) → put k ≡ cond (nat_eq file k) (parents k ++ (cookie, directory) ∷ []) (parents k))
    → ((k : ℕ) → after k ≡ cond (nat_eq file k) (filter (λ e. not (nat_eq e.0 cookie)) (put k)) (put k))
    → ((k : ℕ) → AreKeysBelow cookie (parents k)) → AreByFile parents names → AreByFile after names
AreByFile-undone parents put after names file cookie directory is_put is below by_file = λ k.
    is k ∙ ap (λ l. cond (nat_eq file k) (filter (λ e. not (nat_eq e.0 cookie)) l) l) (is_put k) ∙ by k
    (nat_eq file k) ∙ by_file k
  where
    by : (k : ℕ) (b : Bool) → cond b (filter (λ e. not (nat_eq e.0 cookie))
        (cond b (parents k ++ (cookie, directory) ∷ []) (parents k)))
        (cond b (parents k ++ (cookie, directory) ∷ []) (parents k)) ≡ parents k
    by k true = put-undone (parents k) cookie directory (below k)
    by k false = refl

-- a name taken away
pub AreByFile-removed : (parents after : ℕ → List (ℕ × ℕ)) (low next : ℕ) (names : List Named) (n : Named) (cookie : ℕ)
    → ((k : ℕ) → after k ≡ cond (nat_eq n.file k) (filter (λ e. not (nat_eq e.0 cookie)) (parents k)) (parents k))
    → IsRising low names next → find (λ m. nat_eq m.cookie cookie) names ≡ Some n
    → AreByFile parents names → AreByFile after (filter (λ m. not (nat_eq m.cookie cookie)) names)
AreByFile-removed parents after low next names n cookie is rising found by_file =
    λ k. is k ∙ by k (nat_eq n.file k) refl
  where
    by : (k : ℕ) (b : Bool) → nat_eq n.file k ≡ b → cond b (filter (λ e. not (nat_eq e.0 cookie)) (parents k))
        (parents k) ≡ map parent_of (filter (λ m. nat_eq m.file k) (filter (λ m. not (nat_eq m.cookie cookie)) names))
    by k true e =
        ap (filter (λ e. not (nat_eq e.0 cookie))) (by_file k)
        ∙ sym (filter-map parent_of (λ m. not (nat_eq m.cookie cookie)) (λ e. not (nat_eq e.0 cookie)) (λ m. refl)
        (filter (λ m. nat_eq m.file k) names))
        ∙ ap (map parent_of) (filter-swap (λ m. not (nat_eq m.cookie cookie)) (λ m. nat_eq m.file k) names)
    by k false e = by_file k ∙ ap (map parent_of) (sym
        (filter-apart (λ m. nat_eq m.file k) cookie low next names n rising found e))

-- ---- rows

module _ {A : Type 0} where
  -- the name that a row shows is found by its cookie
  pub row-found : (cookie : ℕ) (es : List (ℕ × Row A)) (r : Row A) → get es cookie ≡ Some r
      → find (λ n. nat_eq n.cookie cookie) (map named_of es) ≡ Some (named_of (cookie, r))
  row-found cookie [] r found = cc
  row-found cookie (e ∷ es) r found = by (nat_eq cookie e.0) refl (rw (is_eq-nat_cmp cookie e.0) at found)
      (row-found cookie es r)
    where
      by : (b : Bool) → nat_eq cookie e.0 ≡ b → cond b (Some e.1) (get es cookie) ≡ Some r
          → (get es cookie ≡ Some r
          → find (λ n. nat_eq n.cookie cookie) (map named_of es) ≡ Some (named_of (cookie, r)))
          → cond (nat_eq e.0 cookie) (Some (named_of e)) (find (λ n. nat_eq n.cookie cookie) (map named_of es))
          ≡ Some (named_of (cookie, r))
      by true same found rest =
          let back : nat_eq e.0 cookie ≡ true = grind (arith, common_steps, same) in
          let key : e.0 ≡ cookie = grind (arith, common_steps, same) in
          let row : e.1 ≡ r = some_row e.1 r found in
          rw (back, key, row) refl
        where
          some_row : (x y : Row A) → Some x ≡ Some y → x ≡ y
          some_row x y e = cc
      by false other found rest = let back : nat_eq e.0 cookie ≡ false =
          grind (arith, common_steps, other) in rw back (rest found)

  pub below-rows : (low next : ℕ) (es : List (ℕ × Row A)) → IsRising low (map named_of es) next → AreKeysBelow next es
  below-rows low next [] rising = tt
  below-rows low next (e ∷ es) rising = (first e.0 es rising.1, below-rows (e.0 + 1) next es rising.1)
    where
      first : (s : ℕ) (es : List (ℕ × Row A)) → IsRising (s + 1) (map named_of es) next → s < next
      first s [] rising = omega (arith, rising)
      first s (m ∷ es) rising = let rest = first m.0 es rising.1 in omega (arith, rising.0)
