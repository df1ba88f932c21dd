-- Files by inode, kept in a map in rising inode.
use Rattle.std.proofs.Common.{◌≡◌, ℕ, ◌<◌, Bool, true, false, cond, List, [], ◌∷◌, map, Option, Some, None, refl, sym, ap, ◌∙◌, arith, Less, Equal, Greater, Result, Ok, Err, IsSome, IsOk, OnErr, T, nat_eq, nat_lt}
use Rattle.std.specs.Option.{option_map}
use Rattle.std.specs.declared.cmp.Ordering.{Ordering}
use Rattle.std.specs.Ordering.{nat_cmp, is_eq}
use Rattle.std.specs.FinMap.{is_sorted}
use Rattle.std.specs.FinMap.Entries.{by_order}
use Rattle.std.specs.Cmp.{nat_cmp_is}
use Rattle.std.proofs.lemmas.Grind.{common_steps}
use Rattle.fuse_spec.specs.Values.Maps.{get, put, remove}
use Rattle.fuse_spec.specs.Files.Trees.{Content, kind_of}
use Rattle.fuse_tables.proofs.Maps.{get-put, is_put, same_rows, sorted_put}
use Rattle.fuse_spec.specs.declared.Kind.TheVariants.{Regular}
use Rattle.fs_tree.specs.Stored.{AreKeysBelow}
use Rattle.fs_tree.specs.Views.{content_in, viewed_file}
use Rattle.fs_tree.specs.declared.files.Content.{Content as Stored}

same_key : (a b : ℕ) → nat_eq a b ≡ true → a ≡ b
same_key a b e = grind (arith, common_steps, e)

-- the two tests of a key are one
pub is_eq-nat_cmp : (x y : ℕ) → is_eq (nat_cmp x y) ≡ nat_eq x y
is_eq-nat_cmp x y = by (nat_lt x y) refl (nat_eq x y) refl
  where
    by : (lower : Bool) → nat_lt x y ≡ lower → (same : Bool) → nat_eq x y ≡ same
        → is_eq (cond lower Less (cond same Equal Greater)) ≡ same
    by true l true s = absurd (grind (arith, common_steps, l, s))
    by true l false s = refl
    by false l true s = refl
    by false l false s = refl

some_none : {X : Type 0} {x : X} → Some x ≡ None → ⊥
some_none e = cc

pub none_some : {X : Type 0} (o : Option X) → o ≡ None → IsSome o → ⊥
none_some None e there = cc
none_some (Some x) e there = some_none e

pub is_ok-stored : {X T E : Type 0} (o : Option X) (r : Result T E) → OnErr r (o ≡ None) → IsSome o → IsOk r
is_ok-stored o (Ok x) absent there = refl
is_ok-stored o (Err e) absent there = absurd (none_some o absent there)

-- a file of this kind is there
pub there-content : (o : Option Content) → kind_of o ≡ Regular → IsSome o
there-content None kind = cc
there-content (Some content) kind = refl

some_before : {V W : Type 0} (h : V → W) (o : Option V) → IsSome (option_map h o) → IsSome o
some_before h None there = there
some_before h (Some x) there = refl

none_before : {V W : Type 0} (h : V → W) (o : Option V) → option_map h o ≡ None → o ≡ None
none_before h None none = refl
none_before h (Some x) none = absurd (some_none none)

-- ---- a map of files, seen as rows

module _ {V : Type 0} where
  both : (b : Bool) (v w : V) (o : Option V) → cond b (Some w) (cond b (Some v) o) ≡ cond b (Some w) o
  both true v w o = refl
  both false v w o = refl

  -- of two files put under one inode the second stays
  pub put-twice : (es : List (ℕ × V)) (key : ℕ) (v w : V) → T (is_sorted nat_cmp es)
      → put (put es key v) key w ≡ put es key w
  put-twice es key v w sorted =
      let once = sorted_put es key v sorted in
      same_rows (put (put es key v) key w) (put es key w) (sorted_put (put es key v) key w once)
      (sorted_put es key w sorted)
      (λ q. get-put (put es key v) key w q ∙ ap (cond (nat_eq key q) (Some w)) (get-put es key v q)
      ∙ both (nat_eq key q) v w (get es q) ∙ sym (get-put es key w q))

  -- a file put as it is
  put-kept : (es : List (ℕ × V)) (key : ℕ) (v : V) → T (is_sorted nat_cmp es) → get es key ≡ Some v
      → put es key v ≡ es
  put-kept es key v sorted there = sym (is_put es es key v sorted sorted (λ q. by (nat_eq key q) q refl))
    where
      by : (b : Bool) (q : ℕ) → nat_eq key q ≡ b → get es q ≡ cond b (Some v) (get es q)
      by true q same = ap (get es) (sym (same_key key q same)) ∙ there
      by false q other = refl

module _ {V W : Type 0} (h : V → W) where
  abbrev seen : ℕ × V → ℕ × W
  seen e = (e.0, h e.1)

  pub get-seen : (es : List (ℕ × V)) (key : ℕ) → get (map seen es) key ≡ option_map h (get es key)
  get-seen [] key = refl
  get-seen (e ∷ es) key = by (is_eq (nat_cmp key e.0)) (get-seen es key)
    where
      by : (b : Bool) → get (map seen es) key ≡ option_map h (get es key)
          → cond b (Some (h e.1)) (get (map seen es) key) ≡ option_map h (cond b (Some e.1) (get es key))
      by true rest = refl
      by false rest = rest

  pub absent-seen : (es : List (ℕ × V)) (key : ℕ) → get (map seen es) key ≡ None → get es key ≡ None
  absent-seen es key none = none_before h (get es key) (sym (get-seen es key) ∙ none)

  -- a file put, in place of another or not
  pub put-seen : (es : List (ℕ × V)) (key : ℕ) (v : V) → map seen (put es key v) ≡ put (map seen es) key (h v)
  put-seen [] key v = refl
  put-seen (e ∷ es) key v = by (nat_cmp key e.0) (put-seen es key v)
    where
      by : (r : Ordering) → map seen (put es key v) ≡ put (map seen es) key (h v)
          → map seen (by_order r ((key, v) ∷ e ∷ es) ((e.0, v) ∷ es) (e ∷ put es key v))
          ≡ by_order r ((key, h v) ∷ seen e ∷ map seen es) ((e.0, h v) ∷ map seen es)
          (seen e ∷ put (map seen es) key (h v))
      by Less rest = refl
      by Equal rest = refl
      by Greater rest = ap (λ l. seen e ∷ l) rest

  -- a file written with a value that stands for the same
  pub same-seen : (es : List (ℕ × V)) (key : ℕ) (old new : V) → T (is_sorted nat_cmp es) → h new ≡ h old
      → get es key ≡ Some old → map seen (put es key new) ≡ map seen es
  same-seen es key old new sorted same there = put-seen es key new ∙ ap (put (map seen es) key) same
      ∙ sym (put-seen es key old) ∙ ap (map seen) (put-kept es key old sorted there)

module _ {V : Type 0} where
  -- a file put behind all others, and taken away again
  pub put-undone : (es : List (ℕ × V)) (key : ℕ) (v : V) → AreKeysBelow key es → remove (put es key v) key ≡ es
  put-undone [] key v below = let one : nat_eq key key ≡ true = grind (arith, common_steps) in rw one refl
  put-undone (e ∷ es) key v below =
      let lower : e.0 < key = below.0 in
      let other : nat_eq e.0 key ≡ false = grind (arith, common_steps, lower) in
      rw (← nat_cmp_is key e.0 Greater (omega arith), other) (ap (λ l. e ∷ l) (put-undone es key v below.1))

module _ {A : Type 0} where
  pub there-kind : (es : List (ℕ × Stored A)) (file : ℕ) → kind_of (get (map viewed_file es) file) ≡ Regular
      → IsSome (get es file)
  there-kind es file kind = some_before content_in (get es file)
      (there-content (option_map content_in (get es file)) (ap kind_of (sym (get-seen content_in es file)) ∙ kind))
