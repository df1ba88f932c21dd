-- What is true of a stored tree stays true as it changes.
use Rattle.std.proofs.Common.{◌≡◌, ℕ, ◌+◌, ◌≤◌, ◌<◌, ◌^◌, Bool, true, false, not, cond, List, [], ◌∷◌, ◌++◌, Option, Some, None, is_some, IsSome, filter, find, count_by, length, refl, sym, ap, arith, Less, Equal, Greater, length-append}
use Rattle.std.specs.Ordering.{nat_cmp, is_eq}
use Rattle.std.specs.declared.cmp.Ordering.{Ordering}
use Rattle.std.specs.FinMap.Entries.{by_order}
use Rattle.std.specs.Cmp.{ranked}
use Rattle.std.proofs.lemmas.List.Sums.{count_by-le-length, length-filter}
use Rattle.fuse_spec.specs.Values.Maps.{Map, get, put}
use Rattle.fuse_spec.specs.Files.Trees.{Content, Named, kind_of}
use Rattle.std.specs.Option.{option_map}
use Rattle.std.specs.Prelude.{IsTrue}
use Rattle.fuse_spec.specs.declared.Kind.{Kind}
use Rattle.fuse_spec.specs.declared.Kind.TheVariants.{Directory, Regular, Other}
use Rattle.fs_tree.specs.Outcomes.{is_kind_regular}
use Rattle.fs_tree.specs.Stored.{AreKeysBelow, IsRising, IsTreeKept}
use Rattle.fs_tree.proofs.FileRows.{there-content}

-- ---- inodes

module _ {V : Type 0} where
  pub AreBelow-more : (next more : ℕ) (es : List (ℕ × V)) → next ≤ more → AreKeysBelow next es → AreKeysBelow more es
  AreBelow-more next more [] le below = tt
  AreBelow-more next more (e ∷ es) le below = (omega (arith, below.0), AreBelow-more next more es le below.1)

  pub AreBelow-put : (next key : ℕ) (v : V) (es : List (ℕ × V)) → key < next → AreKeysBelow next es
      → AreKeysBelow next (put es key v)
  AreBelow-put next key v [] lt below = (lt, tt)
  AreBelow-put next key v (e ∷ es) lt below = by (nat_cmp key e.0) (AreBelow-put next key v es lt below.1)
    where
      by : (r : Ordering) → AreKeysBelow next (put es key v)
          → AreKeysBelow next (by_order r ((key, v) ∷ e ∷ es) ((e.0, v) ∷ es) (e ∷ put es key v))
      by Less rest = (lt, below)
      by Equal rest = (below.0, below.1)
      by Greater rest = (below.0, rest)

  pub AreBelow-where : (next : ℕ) (p : ℕ × V → Bool) (es : List (ℕ × V)) → AreKeysBelow next es
      → AreKeysBelow next (filter p es)
  AreBelow-where next p [] below = tt
  AreBelow-where next p (e ∷ es) below = by (p e) (AreBelow-where next p es below.1)
    where
      by : (b : Bool) → AreKeysBelow next (filter p es) → AreKeysBelow next (cond b (e ∷ filter p es) (filter p es))
      by true rest = (below.0, rest)
      by false rest = rest

  pub key_below : (next key : ℕ) (es : List (ℕ × V)) → AreKeysBelow next es → IsSome (get es key) → key < next
  key_below next key [] below there = cc
  key_below next key (e ∷ es) below there = by (nat_cmp key e.0) refl there (key_below next key es below.1)
    where
      by : (r : Ordering) → nat_cmp key e.0 ≡ r → IsSome (cond (is_eq r) (Some e.1) (get es key))
          → (IsSome (get es key) → key < next) → key < next
      by Less q there rest = rest there
      by Equal q there rest = let same = ranked key e.0 Equal (sym q) in omega (arith, below.0)
      by Greater q there rest = rest there

  -- the next inode has no file
  pub unborn : (next : ℕ) (es : List (ℕ × V)) → AreKeysBelow next es → get es next ≡ None
  unborn next es below = by (get es next) refl
    where
      by : (there : Option V) → get es next ≡ there → there ≡ None
      by None is = refl
      by (Some v) is = let low = key_below next next es below (ap is_some is) in absurd (omega (arith, low))

-- ---- cookies

pub IsRising-lower : (low lower next : ℕ) (names : List Named) → lower ≤ low → IsRising low names next
    → IsRising lower names next
IsRising-lower low lower next [] le rising = omega arith
IsRising-lower low lower next (n ∷ names) le rising = (omega (arith, rising.0), rising.1)

-- one more name, under the next cookie
pub IsRising-push : (low next : ℕ) (names : List Named) (n : Named) → n.cookie ≡ next → IsRising low names next
    → IsRising low (names ++ n ∷ []) (next + 1)
IsRising-push low next [] n is rising = (omega arith, omega arith)
IsRising-push low next (m ∷ names) n is rising = (rising.0, IsRising-push (m.cookie + 1) next names n is rising.1)

-- some names less
pub IsRising-where : (p : Named → Bool) (low next : ℕ) (names : List Named) → IsRising low names next
    → IsRising low (filter p names) next
IsRising-where p low next [] rising = rising
IsRising-where p low next (n ∷ names) rising =
    by (p n) (IsRising-where p (n.cookie + 1) next names rising.1)
  where
    by : (b : Bool) → IsRising (n.cookie + 1) (filter p names) next
        → IsRising low (cond b (n ∷ filter p names) (filter p names)) next
    by true rest = (rising.0, rest)
    by false rest = IsRising-lower (n.cookie + 1) low next (filter p names) (omega (arith, rising.0)) rest

-- ---- how many names there are

module _ {E : Type 0} (p : E → Bool) where
  pub length-where : (xs : List E) → length (filter p xs) ≤ length xs
  length-where xs = rw (length-filter p xs) (count_by-le-length p xs)

  -- one that is found is one less
  pub length-without : (xs : List E) (x : E) → find p xs ≡ Some x → length (filter (λ e. not (p e)) xs) + 1 ≤ length xs
  length-without [] x found = cc
  length-without (y ∷ ys) x found = by (p y) found (length-without ys x) (length-filter (λ e. not (p e)) ys)
      (count_by-le-length (λ e. not (p e)) ys)
    where
      by : (b : Bool) → cond b (Some y) (find p ys) ≡ Some x
          → (find p ys ≡ Some x → length (filter (λ e. not (p e)) ys) + 1 ≤ length ys)
          → length (filter (λ e. not (p e)) ys) ≡ count_by (λ e. not (p e)) ys
          → count_by (λ e. not (p e)) ys ≤ length ys
          → length (cond (not b) (y ∷ filter (λ e. not (p e)) ys) (filter (λ e. not (p e)) ys)) + 1 ≤ length (y ∷ ys)
      by true found rest same few = omega arith
      by false found rest same few = let less = rest found in omega arith

-- ---- the whole

module _ (files : Map Content) (names : List Named) (inodes cookies : ℕ)
    (kept : IsTreeKept files names inodes cookies) where
  -- one more name
  pub kept-named : (n : Named) → n.cookie ≡ cookies → length names < 4096 → cookies < 2 ^ 62
      → IsTreeKept files (names ++ n ∷ []) inodes (cookies + 1)
  kept-named n is few fits =
      record {
        born = kept.born;
        rising = IsRising-push 1 cookies names n is kept.rising;
        few = rw length-append (omega arith);
        inodes_fit = kept.inodes_fit;
        cookies_fit = omega arith;
      }

  -- some names less
  pub kept-where : (p : Named → Bool) → IsTreeKept files (filter p names) inodes cookies
  kept-where p =
      record {
        born = kept.born;
        rising = IsRising-where p 1 cookies names kept.rising;
        few = let less = length-where p names in let few = kept.few in omega arith;
        inodes_fit = kept.inodes_fit;
        cookies_fit = kept.cookies_fit;
      }

  -- one more file
  pub kept-born : (c : Content) → inodes < 2 ^ 62 → IsTreeKept (put files inodes c) names (inodes + 1) cookies
  kept-born c fits =
      record {
        born = AreBelow-put (inodes + 1) inodes c files (omega arith)
            (AreBelow-more inodes (inodes + 1) files (omega arith) kept.born);
        rising = kept.rising;
        few = kept.few;
        inodes_fit = omega arith;
        cookies_fit = kept.cookies_fit;
      }

  -- some files less
  pub kept-less : (p : ℕ × Content → Bool) → IsTreeKept (filter p files) names inodes cookies
  kept-less p =
      record {
        born = AreBelow-where inodes p files kept.born;
        rising = kept.rising;
        few = kept.few;
        inodes_fit = kept.inodes_fit;
        cookies_fit = kept.cookies_fit;
      }

  -- other bytes in a regular file
  pub kept-written : (file : ℕ) (c : Content) → kind_of (get files file) ≡ Regular
      → IsTreeKept (put files file c) names inodes cookies
  kept-written file c regular =
      record {
        born = AreBelow-put inodes file c files (key_below inodes file files kept.born
            (there-content (get files file) regular)) kept.born;
        rising = kept.rising;
        few = kept.few;
        inodes_fit = kept.inodes_fit;
        cookies_fit = kept.cookies_fit;
      }

-- a name that leads to a file is one less
fewer-found : (p : Named → Bool) (names : List Named) (file : ℕ) (o : Option Named) → find p names ≡ o
    → option_map (λ n. n.file) o ≡ Some file → length (filter (λ m. not (p m)) names) + 1 ≤ length names
fewer-found p names file None found at = cc
fewer-found p names file (Some n) found at = length-without p names n found

-- a file moved from one name to another
pub kept-moved : (files : Map Content) (names : List Named) (inodes cookies : ℕ) → IsTreeKept files names inodes cookies
    → (p q : Named → Bool) (n : Named) (file : ℕ) → n.cookie ≡ cookies
    → option_map (λ m. m.file) (find p names) ≡ Some file → cookies < 2 ^ 62
    → IsTreeKept files (filter (λ m. not (q m)) (filter (λ m. not (p m)) names) ++ n ∷ []) inodes (cookies + 1)
kept-moved files names inodes cookies kept p q n file is at fits =
    let fewer = fewer-found p names file (find p names) refl at in
    let few = kept.few in
    let less = length-where (λ m. not (q m)) (filter (λ m. not (p m)) names) in
    let one = kept-where files names inodes cookies kept (λ m. not (p m)) in
    let both = kept-where files (filter (λ m. not (p m)) names) inodes cookies one (λ m. not (q m)) in
    kept-named files (filter (λ m. not (q m)) (filter (λ m. not (p m)) names)) inodes cookies both n is
    (omega arith) fits

-- a file that is tested to be regular is
pub regular_kind : (k : Kind) → IsTrue (is_kind_regular k) → k ≡ Regular
regular_kind Directory is = cc
regular_kind Regular is = refl
regular_kind Other is = cc
