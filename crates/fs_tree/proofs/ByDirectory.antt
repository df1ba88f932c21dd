-- The names by directory, as names come and go.
use Rattle.std.proofs.Common.{◌≡◌, ℕ, suc, Bool, true, false, not, cond, ◌&&◌, List, [], ◌∷◌, ◌++◌, map, filter, find, Some, None, refl, sym, ap, subst, ◌∙◌, nat_eq, nat_lt, length, arith}
use Rattle.std.specs.Option.{option_map}
use Rattle.std.proofs.lemmas.List.{map-append, append-nil}
use Rattle.std.proofs.lemmas.Grind.{common_steps}
use Rattle.fuse_spec.specs.Values.Maps.{Map}
use Rattle.fuse_spec.specs.Files.Trees.{Content, Named, is_at, same_name}
use Rattle.fs_tree.specs.Stored.{Entry, in_directory, lead_in, listed_names, AreByDirectory}
use Rattle.fs_tree.proofs.ListLemmas.{filter-map}

module _ {E : Type 0} where
  pub filter-append : (p : E → Bool) (xs ys : List E) → filter p (xs ++ ys) ≡ filter p xs ++ filter p ys
  filter-append p [] ys = refl
  filter-append p (x ∷ xs) ys = by (p x) (filter-append p xs ys)
    where
      by : (b : Bool) → filter p (xs ++ ys) ≡ filter p xs ++ filter p ys
          → cond b (x ∷ filter p (xs ++ ys)) (filter p (xs ++ ys)) ≡ cond b (x ∷ filter p xs) (filter p xs)
          ++ filter p ys
      by true rest = ap (λ l. x ∷ l) rest
      by false rest = rest

  pub filter-swap : (p q : E → Bool) (xs : List E) → filter p (filter q xs) ≡ filter q (filter p xs)
  filter-swap p q [] = refl
  filter-swap p q (x ∷ xs) = by (p x) (q x) refl refl (filter-swap p q xs)
    where
      by : (b c : Bool) → p x ≡ b → q x ≡ c → filter p (filter q xs) ≡ filter q (filter p xs)
          → filter p (cond c (x ∷ filter q xs) (filter q xs)) ≡ filter q (cond b (x ∷ filter p xs) (filter p xs))
      by true true e f rest = rw (e, f) (ap (λ l. x ∷ l) rest)
      by true false e f rest = rw f rest
      by false true e f rest = rw e rest
      by false false e f rest = rest

  -- where none is found, none goes
  pub filter-none : (p : E → Bool) (xs : List E) → find p xs ≡ None → filter (λ x. not (p x)) xs ≡ xs
  filter-none p [] none = refl
  filter-none p (x ∷ xs) none = by (p x) none (filter-none p xs)
    where
      by : (b : Bool) → cond b (Some x) (find p xs) ≡ None → (find p xs ≡ None → filter (λ x. not (p x)) xs ≡ xs)
          → cond (not b) (x ∷ filter (λ x. not (p x)) xs) (filter (λ x. not (p x)) xs) ≡ x ∷ xs
      by true none rest = cc
      by false none rest = ap (λ l. x ∷ l) (rest none)

  -- a search by two tests is a search among those that pass the first
  find-filter : (p q : E → Bool) (xs : List E) → find (λ x. p x && q x) xs ≡ find q (filter p xs)
  find-filter p q [] = refl
  find-filter p q (x ∷ xs) = by (p x) (find-filter p q xs)
    where
      by : (b : Bool) → find (λ x. p x && q x) xs ≡ find q (filter p xs)
          → cond (b && q x) (Some x) (find (λ x. p x && q x) xs) ≡ find q (cond b (x ∷ filter p xs) (filter p xs))
      by true rest = ap (cond (q x) (Some x)) rest
      by false rest = rest

find-mapped : (dir : ℕ) (name : List ℕ) (es : List Entry)
    → option_map (λ n. n.file) (find (λ n. same_name n.name name) (map (in_directory dir) es))
    ≡ option_map (λ e. e.file) (find (λ e. same_name e.name name) es)
find-mapped dir name [] = refl
find-mapped dir name (e ∷ es) = by (same_name e.name name) (find-mapped dir name es)
  where
    by : (b : Bool) → option_map (λ n. n.file) (find (λ n. same_name n.name name) (map (in_directory dir) es))
        ≡ option_map (λ e. e.file) (find (λ e. same_name e.name name) es)
        → option_map (λ n. n.file) (cond b (Some (in_directory dir e))
        (find (λ n. same_name n.name name) (map (in_directory dir) es)))
        ≡ option_map (λ e. e.file) (cond b (Some e) (find (λ e. same_name e.name name) es))
    by true rest = refl
    by false rest = rest

cookie-mapped : (dir : ℕ) (name : List ℕ) (es : List Entry)
    → option_map (λ n. n.cookie) (find (λ n. same_name n.name name) (map (in_directory dir) es))
    ≡ option_map (λ e. e.cookie) (find (λ e. same_name e.name name) es)
cookie-mapped dir name [] = refl
cookie-mapped dir name (e ∷ es) = by (same_name e.name name) (cookie-mapped dir name es)
  where
    by : (b : Bool) → option_map (λ n. n.cookie) (find (λ n. same_name n.name name) (map (in_directory dir) es))
        ≡ option_map (λ e. e.cookie) (find (λ e. same_name e.name name) es)
        → option_map (λ n. n.cookie) (cond b (Some (in_directory dir e))
        (find (λ n. same_name n.name name) (map (in_directory dir) es)))
        ≡ option_map (λ e. e.cookie) (cond b (Some e) (find (λ e. same_name e.name name) es))
    by true rest = refl
    by false rest = rest

pub length-map : {E F : Type 0} (f : E → F) (es : List E) → length (map f es) ≡ length es
length-map f [] = refl
length-map f (e ∷ es) = ap (λ n. suc n) (length-map f es)

same_number : (a b : ℕ) → nat_eq a b ≡ true → a ≡ b
same_number a b e = grind (arith, common_steps, e)

apart_too : (a b : ℕ) → nat_eq a b ≡ false → nat_eq b a ≡ false
apart_too a b e = grind (arith, common_steps, e)

same_too : (a b : ℕ) → nat_eq a b ≡ true → nat_eq b a ≡ true
same_too a b e = grind (arith, common_steps, e)

-- ---- what is read

module _ (entries : ℕ → List Entry) (names : List Named) (by_dir : AreByDirectory entries names) where
  pub file-in : (dir : ℕ) (name : List ℕ) → option_map (λ e. e.file) (find (λ e. same_name e.name name) (entries dir))
      ≡ option_map (λ n. n.file) (find (is_at dir name) names)
  file-in dir name =
      sym (find-mapped dir name (entries dir)) ∙ ap (λ l. option_map (λ n. n.file)
      (find (λ n. same_name n.name name) l)) (by_dir dir)
      ∙ ap (option_map (λ n. n.file)) (sym (find-filter (λ n. nat_eq n.directory dir)
      (λ n. same_name n.name name) names))

  pub cookie-in : (dir : ℕ) (name : List ℕ) → option_map (λ e. e.cookie)
      (find (λ e. same_name e.name name) (entries dir)) ≡ option_map (λ n. n.cookie) (find (is_at dir name) names)
  cookie-in dir name =
      sym (cookie-mapped dir name (entries dir)) ∙ ap (λ l. option_map (λ n. n.cookie)
      (find (λ n. same_name n.name name) l)) (by_dir dir)
      ∙ ap (option_map (λ n. n.cookie)) (sym (find-filter (λ n. nat_eq n.directory dir)
      (λ n. same_name n.name name) names))

  pub length-in : (dir : ℕ) → length (entries dir) ≡ length (filter (λ n. nat_eq n.directory dir) names)
  length-in dir = sym (length-map (in_directory dir) (entries dir)) ∙ ap length (by_dir dir)

-- which directory it is does not matter to the records
records-in : (files : Map Content) (after d e : ℕ) (es : List Entry)
    → map (lead_in files) (filter (λ n. nat_lt after n.cookie) (map (in_directory d) es))
    ≡ map (lead_in files) (filter (λ n. nat_lt after n.cookie) (map (in_directory e) es))
records-in files after d e [] = refl
records-in files after d e (x ∷ es) = by (nat_lt after x.cookie) (records-in files after d e es)
  where
    by : (b : Bool) → map (lead_in files) (filter (λ n. nat_lt after n.cookie) (map (in_directory d) es))
        ≡ map (lead_in files) (filter (λ n. nat_lt after n.cookie) (map (in_directory e) es))
        → map (lead_in files) (cond b (in_directory d x ∷ filter (λ n. nat_lt after n.cookie)
        (map (in_directory d) es)) (filter (λ n. nat_lt after n.cookie) (map (in_directory d) es)))
        ≡ map (lead_in files) (cond b (in_directory e x ∷ filter (λ n. nat_lt after n.cookie)
        (map (in_directory e) es)) (filter (λ n. nat_lt after n.cookie) (map (in_directory e) es)))
    by true rest = ap (λ l. lead_in files (in_directory e x) ∷ l) rest
    by false rest = rest

pub listed-in : (entries : ℕ → List Entry) (names : List Named) → AreByDirectory entries names
    → (files : Map Content) (dir after : ℕ)
    → map (lead_in files) (filter (λ n. nat_lt after n.cookie) (map (in_directory 0) (entries dir)))
    ≡ listed_names files dir after names
listed-in entries names by_dir files dir after =
    records-in files after 0 dir (entries dir) ∙ ap (λ l. map (lead_in files) (filter (λ n. nat_lt after n.cookie) l))
    (by_dir dir)

-- ---- what changes

-- the names in the directories, without one
abbrev pub less : ℕ → List ℕ → (ℕ → List Entry) → ℕ → List Entry
less dir name entries k = cond (nat_eq dir k) (filter (λ e. not (same_name e.name name)) (entries k)) (entries k)

-- and with one more
abbrev pub more : ℕ → Entry → (ℕ → List Entry) → ℕ → List Entry
more dir e entries k = cond (nat_eq dir k) (entries k ++ e ∷ []) (entries k)

module _ (dir : ℕ) (name : List ℕ) where
  elsewhere : (k : ℕ) → nat_eq dir k ≡ false → (es : List Entry)
      → filter (λ n. not (is_at dir name n)) (map (in_directory k) es) ≡ map (in_directory k) es
  elsewhere k other [] = refl
  elsewhere k other (e ∷ es) = rw (apart_too dir k other) (ap (λ l. in_directory k e ∷ l) (elsewhere k other es))

  here : (k : ℕ) → nat_eq dir k ≡ true → (es : List Entry)
      → map (in_directory k) (filter (λ e. not (same_name e.name name)) es)
      ≡ filter (λ n. not (is_at dir name n)) (map (in_directory k) es)
  here k same es = filter-map (in_directory k) (λ e. not (same_name e.name name)) (λ n. not (is_at dir name n))
      (λ e. ap (λ b. not (b && same_name e.name name)) (same_too dir k same)) es

  pub AreByDirectory-less : (entries : ℕ → List Entry) (names : List Named) → AreByDirectory entries names
      → AreByDirectory (less dir name entries) (filter (λ n. not (is_at dir name n)) names)
  AreByDirectory-less entries names by_dir = λ k.
      by k (nat_eq dir k) refl ∙ ap (filter (λ n. not (is_at dir name n))) (by_dir k) ∙ filter-swap
      (λ n. not (is_at dir name n)) (λ n. nat_eq n.directory k) names
    where
      by : (k : ℕ) (b : Bool) → nat_eq dir k ≡ b → map (in_directory k)
          (cond b (filter (λ e. not (same_name e.name name)) (entries k)) (entries k))
          ≡ filter (λ n. not (is_at dir name n)) (map (in_directory k) (entries k))
      by k true e = here k e (entries k)
      by k false e = sym (elsewhere k e (entries k))

  pub AreByDirectory-more : (file cookie : ℕ) (entries : ℕ → List Entry) (names : List Named)
      → AreByDirectory entries names
      → AreByDirectory (more dir (record { name = name; file = file; cookie = cookie }) entries)
      (names ++ record { directory = dir; name = name; file = file; cookie = cookie } ∷ [])
  AreByDirectory-more file cookie entries names by_dir =
      λ k. by k (nat_eq dir k) refl ∙ sym (filter-append (λ n. nat_eq n.directory k) names _)
    where
      by : (k : ℕ) (b : Bool) → nat_eq dir k ≡ b
          → map (in_directory k) (cond b (entries k ++ record { name = name; file = file; cookie = cookie } ∷ [])
          (entries k))
          ≡ filter (λ n. nat_eq n.directory k) names ++ cond b
          (record { directory = dir; name = name; file = file; cookie = cookie } ∷ []) []
      by k true e = let same = same_number dir k e in rw same
          (map-append (in_directory k) (entries k) _ ∙ ap (λ l. l
          ++ record { directory = k; name = name; file = file; cookie = cookie } ∷ []) (by_dir k))
      by k false e = by_dir k ∙ sym (append-nil (filter (λ n. nat_eq n.directory k) names))

-- the same entries
pub AreByDirectory-same : (entries more : ℕ → List Entry) (names : List Named) → ((k : ℕ) → more k ≡ entries k)
    → AreByDirectory entries names → AreByDirectory more names
AreByDirectory-same entries more names same by_dir = λ k. ap (map (in_directory k)) (same k) ∙ by_dir k

-- a name that goes after another came, or before
pub moved-filter : (p q : Named → Bool) (names : List Named) (n : Named) → p n ≡ true
    → filter p (filter q names ++ n ∷ []) ≡ filter q (filter p names) ++ n ∷ []
moved-filter p q names n passes = filter-append p (filter q names) (n ∷ []) ∙ rw passes
    (ap (λ l. l ++ n ∷ []) (filter-swap p q names))

-- a name taken away
pub AreByDirectory-removed : (dir : ℕ) (name : List ℕ) (entries after : ℕ → List Entry) (names : List Named)
    → ((k : ℕ) → after k ≡ less dir name entries k) → AreByDirectory entries names
    → AreByDirectory after (filter (λ n. not (is_at dir name n)) names)
AreByDirectory-removed dir name entries after names is by_dir =
    AreByDirectory-same (less dir name entries) after (filter (λ n. not (is_at dir name n)) names) is
    (AreByDirectory-less dir name entries names by_dir)

put_is : (b : Bool) (es kept : List Entry) (e : Entry)
    → cond b (kept ++ e ∷ []) es ≡ cond b (cond b kept es ++ e ∷ []) (cond b kept es)
put_is true es kept e = refl
put_is false es kept e = refl

-- a name put anew, last
pub AreByDirectory-put : (dir : ℕ) (name : List ℕ) (file cookie : ℕ) (entries after : ℕ → List Entry)
    (names : List Named)
    → ((k : ℕ) → after k ≡ cond (nat_eq dir k) (filter (λ e. not (same_name e.name name)) (entries k)
    ++ record { name = name; file = file; cookie = cookie } ∷ []) (entries k))
    → AreByDirectory entries names
    → AreByDirectory after (filter (λ n. not (is_at dir name n)) names
    ++ record { directory = dir; name = name; file = file; cookie = cookie } ∷ [])
AreByDirectory-put dir name file cookie entries after names is by_dir =
    AreByDirectory-same (more dir (record { name = name; file = file; cookie = cookie })
    (less dir name entries)) after _
    (λ k. is k ∙ put_is (nat_eq dir k) (entries k) (filter (λ e. not (same_name e.name name)) (entries k))
    (record { name = name; file = file; cookie = cookie }))
    (AreByDirectory-more dir name file cookie (less dir name entries) (filter (λ n. not (is_at dir name n)) names)
    (AreByDirectory-less dir name entries names by_dir))

-- a name put that is not there
pub AreByDirectory-added : (dir : ℕ) (name : List ℕ) (file cookie : ℕ) (entries after : ℕ → List Entry)
    (names : List Named)
    → ((k : ℕ) → after k ≡ cond (nat_eq dir k) (filter (λ e. not (same_name e.name name)) (entries k)
    ++ record { name = name; file = file; cookie = cookie } ∷ []) (entries k))
    → AreByDirectory entries names → find (is_at dir name) names ≡ None
    → AreByDirectory after (names ++ record { directory = dir; name = name; file = file; cookie = cookie } ∷ [])
AreByDirectory-added dir name file cookie entries after names is by_dir absent =
    subst (λ l. AreByDirectory after (l ++ record { directory = dir; name = name; file = file; cookie = cookie } ∷ []))
    (filter-none (is_at dir name) names absent)
    (AreByDirectory-put dir name file cookie entries after names is by_dir)

-- a file moved from one name to another
pub AreByDirectory-moved : (d : ℕ) (old : List ℕ) (e : ℕ) (new : List ℕ) (file cookie : ℕ)
    (entries put after : ℕ → List Entry) (names : List Named)
    → ((k : ℕ) → put k ≡ cond (nat_eq e k) (filter (λ x. not (same_name x.name new)) (entries k)
    ++ record { name = new; file = file; cookie = cookie } ∷ []) (entries k))
    → ((k : ℕ) → after k ≡ less d old put k)
    → AreByDirectory entries names → (nat_eq e d && same_name new old) ≡ false
    → AreByDirectory after (filter (λ n. not (is_at e new n)) (filter (λ n. not (is_at d old n)) names)
    ++ record { directory = e; name = new; file = file; cookie = cookie } ∷ [])
AreByDirectory-moved d old e new file cookie entries put after names is_put is by_dir other =
    subst (AreByDirectory after) (moved-filter (λ n. not (is_at d old n)) (λ n. not (is_at e new n)) names
    (record { directory = e; name = new; file = file; cookie = cookie }) (ap not other))
    (AreByDirectory-removed d old put after _ is (AreByDirectory-put e new file cookie entries put names is_put by_dir))
