-- The names in one directory by cookie, and their links by name.
use Rattle.std.proofs.Common.{◌≡◌, ℕ, ◌+◌, ◌<◌, ◌≤◌, Bool, true, false, not, cond, ◌&&◌, List, [], ◌∷◌, ◌++◌, map, filter, find, Option, Some, None, refl, sym, ap, subst, ◌∙◌, nat_eq, nat_lt, nat_le, ◌-◌, arith, Less, Equal, Greater}
use Rattle.std.specs.Option.{option_map}
use Rattle.std.specs.Ordering.{nat_cmp, is_lt}
use Rattle.std.specs.Cmp.{ranked}
use Rattle.std.specs.Cmp.Lexicographic.{texts_ties}
use Rattle.std.specs.List.{AllByRecursion}
use Rattle.std.specs.List.Sorted.{IsStrictlySortedBy}
use Rattle.std.specs.Map.{lookup, keys_of, KeepsOthers}
use Rattle.std.specs.BTreeMap.{insert_entry}
use Rattle.std.proofs.lemmas.List.{map-append, append-nil, append_assoc}
use Rattle.std.proofs.lemmas.Grind.{common_steps}
use Rattle.fuse_spec.specs.Files.Operations.{Dirent, first_listed, listed_by}
use Rattle.fuse_spec.specs.Files.Trees.{same_name, record_length}
use Rattle.fuse_tables.specs.NameKeys.{is_named}
use Rattle.fs_tree.specs.Stored.{Entry, AreBefore, AreKeysBelow, AreNamedOnce, IsRising, files_led, fitting_with, in_directory, lead_pair, without_key}
use Rattle.fs_tree.specs.EntryViews.{leaf_entry, link_of, entry_link, link_in, AreLinked}
use Rattle.fs_tree.specs.declared.entries.NamedFile.{NamedFile}
use Rattle.fs_tree.specs.declared.entries.Link.{Link}
use Rattle.fs_tree.proofs.ListLemmas.{filter-map}
use Rattle.fs_tree.proofs.ByDirectory.{filter-append, filter-none}
use Rattle.fs_tree.proofs.EntryRows.{same_name-swap}
use Rattle.fs_tree.proofs.ByCookie.{same_name-equal, find-where-none, find-append-none, find-gone}
use Rattle.fs_tree.proofs.CookieRows.{put-last, put-undone}

some_entry : (x y : Entry) → Some x ≡ Some y → x ≡ y
some_entry x y e = cc

same_itself : (a : List ℕ) → same_name a a ≡ true
same_itself [] = refl
same_itself (x ∷ xs) = let itself : nat_eq x x ≡ true = grind (arith, common_steps) in rw (itself, same_itself xs) refl

other_cookie : (a b : ℕ) → a < b → nat_eq a b ≡ false
other_cookie a b lower = grind (arith, common_steps)

other_back : (a b : ℕ) → a < b → nat_eq b a ≡ false
other_back a b lower = grind (arith, common_steps)

-- ---- what is read

pub file-of : (o : Option Link) (f : Option Entry) → option_map link_of o ≡ option_map entry_link f
    → option_map (λ l. l.file) o ≡ option_map (λ e. e.file) f
file-of None None same = refl
file-of None (Some e) same = cc
file-of (Some l) None same = cc
file-of (Some l) (Some e) same = ap (λ o. option_map (λ p. p.0) o) same

pub cookie-of : (o : Option Link) (f : Option Entry) → option_map link_of o ≡ option_map entry_link f
    → option_map (λ l. l.cookie) o ≡ option_map (λ e. e.cookie) f
cookie-of None None same = refl
cookie-of None (Some e) same = cc
cookie-of (Some l) None same = cc
cookie-of (Some l) (Some e) same = ap (λ o. option_map (λ p. p.1) o) same

-- ---- searches

module _ {E : Type 0} (p q : E → Bool) where
  -- what the one finds stays where what the other finds goes
  pub find-kept : ((x : E) → p x ≡ true → q x ≡ false) → (xs : List E) → find p (filter (λ x. not (q x)) xs) ≡ find p xs
  find-kept apart [] = refl
  find-kept apart (x ∷ xs) = by (p x) refl (q x) refl (find-kept apart xs)
    where
      by : (b : Bool) → p x ≡ b → (c : Bool) → q x ≡ c → find p (filter (λ x. not (q x)) xs) ≡ find p xs
          → find p (cond (not c) (x ∷ filter (λ x. not (q x)) xs) (filter (λ x. not (q x)) xs))
          ≡ cond b (Some x) (find p xs)
      by true e true f rest = absurd (true_false (sym f ∙ apart x e))
        where
          true_false : true ≡ false → ⊥
          true_false e = cc
      by true e false f rest = rw e refl
      by false e true f rest = rest
      by false e false f rest = rw e rest

module _ {E : Type 0} (p : E → Bool) where
  pub find-append-other : (xs : List E) (x : E) → p x ≡ false → find p (xs ++ x ∷ []) ≡ find p xs
  find-append-other [] x fails = rw fails refl
  find-append-other (y ∷ ys) x fails = ap (cond (p y) (Some y)) (find-append-other ys x fails)

  pub find-append-last : (xs : List E) (x : E) → find p xs ≡ None → p x ≡ true → find p (xs ++ x ∷ []) ≡ Some x
  find-append-last [] x none passes = rw passes refl
  find-append-last (y ∷ ys) x none passes = by (p y) none (find-append-last ys x)
    where
      by : (b : Bool) → cond b (Some y) (find p ys) ≡ None
          → (find p ys ≡ None → p x ≡ true → find p (ys ++ x ∷ []) ≡ Some x)
          → cond b (Some y) (find p (ys ++ x ∷ [])) ≡ Some x
      by true none rest = cc
      by false none rest = rest none passes

-- ---- names, each once

pub AreNamedOnce-where : (p : Entry → Bool) (es : List Entry) → AreNamedOnce es → AreNamedOnce (filter p es)
AreNamedOnce-where p [] once = tt
AreNamedOnce-where p (e ∷ es) once = by (p e) (AreNamedOnce-where p es once.1)
  where
    by : (b : Bool) → AreNamedOnce (filter p es) → AreNamedOnce (cond b (e ∷ filter p es) (filter p es))
    by true rest = (find-where-none (λ d. same_name d.name e.name) p es once.0, rest)
    by false rest = rest

pub AreNamedOnce-push : (es : List Entry) (x : Entry) → AreNamedOnce es → find (λ d. same_name d.name x.name) es ≡ None
    → AreNamedOnce (es ++ x ∷ [])
AreNamedOnce-push [] x once absent = (refl, tt)
AreNamedOnce-push (e ∷ es) x once absent = by (same_name e.name x.name) refl absent (AreNamedOnce-push es x once.1)
  where
    by : (b : Bool) → same_name e.name x.name ≡ b → cond b (Some e) (find (λ d. same_name d.name x.name) es) ≡ None
        → (find (λ d. same_name d.name x.name) es ≡ None → AreNamedOnce (es ++ x ∷ []))
        → AreNamedOnce (e ∷ es ++ x ∷ [])
    by true s absent rest = cc
    by false s absent rest = (
      find-append-none (λ d. same_name d.name e.name) es x once.0
          (same_name-swap x.name e.name ∙ s),
      rest absent,
    )

pub AreNamedOnce-put : (es : List Entry) (x : Entry) → AreNamedOnce es
    → AreNamedOnce (filter (λ e. not (same_name e.name x.name)) es ++ x ∷ [])
AreNamedOnce-put es x once =
    AreNamedOnce-push (filter (λ e. not (same_name e.name x.name)) es) x
    (AreNamedOnce-where (λ e. not (same_name e.name x.name)) es once) (find-gone (λ e. same_name e.name x.name) es)

-- ---- cookies

module _ {A : Type 0} where
  kept-above : (cookie : ℕ) (es : List (ℕ × NamedFile A)) → AllByRecursion (λ y. nat_cmp cookie y ≡ Less) (keys_of es)
      → filter (λ e. not (nat_eq e.cookie cookie)) (map leaf_entry es) ≡ map leaf_entry es
  kept-above cookie [] above = refl
  kept-above cookie (e ∷ es) above =
      let lower : cookie < e.0 = ranked cookie e.0 Less (sym above.0) in
      rw (other_back cookie e.0 lower) (ap (λ l. leaf_entry e ∷ l) (kept-above cookie es above.1))

  above-found : (p : Entry → Bool) (cookie : ℕ) (es : List (ℕ × NamedFile A)) (x : Entry)
      → AllByRecursion (λ y. nat_cmp cookie y ≡ Less) (keys_of es) → find p (map leaf_entry es) ≡ Some x
      → cookie < x.cookie
  above-found p cookie [] x above found = cc
  above-found p cookie (e ∷ es) x above found = by (p (leaf_entry e)) found (above-found p cookie es x above.1)
    where
      by : (b : Bool) → cond b (Some (leaf_entry e)) (find p (map leaf_entry es)) ≡ Some x
          → (find p (map leaf_entry es) ≡ Some x → cookie < x.cookie) → cookie < x.cookie
      by true found rest = let one : leaf_entry e ≡ x = some_entry (leaf_entry e) x found in
          subst (λ d. cookie < d.cookie) one (ranked cookie e.0 Less (sym above.0))
      by false found rest = rest found

  -- a name is left out by its cookie
  pub name-cookie : (name : List ℕ) (es : List (ℕ × NamedFile A)) (x : Entry) → IsStrictlySortedBy nat_cmp (keys_of es)
      → AreNamedOnce (map leaf_entry es) → find (λ e. same_name e.name name) (map leaf_entry es) ≡ Some x
      → filter (λ e. not (nat_eq e.cookie x.cookie)) (map leaf_entry es)
      ≡ filter (λ e. not (same_name e.name name)) (map leaf_entry es)
  unfolding IsStrictlySortedBy
  name-cookie name [] x sorted once found = cc
  name-cookie name (e ∷ es) x sorted once found = by (same_name e.1.name.items name) refl found
      (name-cookie name es x sorted.1 once.1)
    where
      by : (b : Bool) → same_name e.1.name.items name ≡ b
          → cond b (Some (leaf_entry e)) (find (λ e. same_name e.name name) (map leaf_entry es)) ≡ Some x
          → (find (λ e. same_name e.name name) (map leaf_entry es) ≡ Some x
          → filter (λ e. not (nat_eq e.cookie x.cookie)) (map leaf_entry es)
          ≡ filter (λ e. not (same_name e.name name)) (map leaf_entry es))
          → filter (λ e. not (nat_eq e.cookie x.cookie)) (map leaf_entry (e ∷ es))
          ≡ cond (not b) (leaf_entry e ∷ filter (λ e. not (same_name e.name name)) (map leaf_entry es))
          (filter (λ e. not (same_name e.name name)) (map leaf_entry es))
      by true s found rest =
          let one : leaf_entry e ≡ x = some_entry (leaf_entry e) x found in
          let at_name : e.1.name.items ≡ name = same_name-equal e.1.name.items name s in
          let none : find (λ d. same_name d.name name) (map leaf_entry es) ≡ None =
          subst (λ n. find (λ d. same_name d.name n) (map leaf_entry es) ≡ None) at_name once.0 in
          let itself : nat_eq e.0 e.0 ≡ true = grind (arith, common_steps) in
          let gone : filter (λ d. not (nat_eq d.cookie e.0)) (map leaf_entry (e ∷ es)) ≡ map leaf_entry es =
          rw itself (kept-above e.0 es sorted.0) in
          subst (λ y. filter (λ d. not (nat_eq d.cookie y.cookie)) (map leaf_entry (e ∷ es))
          ≡ filter (λ d. not (same_name d.name name)) (map leaf_entry es)) one
          (gone ∙ sym (filter-none (λ d. same_name d.name name) (map leaf_entry es) none))
      by false s found rest =
          let other : nat_eq e.0 x.cookie ≡ false = other_cookie e.0 x.cookie
          (above-found (λ d. same_name d.name name) e.0 es x sorted.0 found) in
          rw other (ap (λ l. leaf_entry e ∷ l) (rest found))

  pub below-entries : (next : ℕ) (es : List (ℕ × NamedFile A)) → AreBefore next (map leaf_entry es) → AreKeysBelow next es
  below-entries next [] before = tt
  below-entries next (e ∷ es) before = (before.0, below-entries next es before.1)

before-found : (p : Entry → Bool) (next : ℕ) (es : List Entry) (x : Entry) → AreBefore next es → find p es ≡ Some x
    → x.cookie < next
before-found p next [] x before found = cc
before-found p next (e ∷ es) x before found = by (p e) found (before-found p next es x before.1)
  where
    by : (b : Bool) → cond b (Some e) (find p es) ≡ Some x → (find p es ≡ Some x → x.cookie < next) → x.cookie < next
    by true found rest = let one : e ≡ x = some_entry e x found in subst (λ d. d.cookie < next) one before.0
    by false found rest = rest found

-- in a directory the cookies are below the next
pub before-rising : (dir low next : ℕ) (es : List Entry) → IsRising low (map (in_directory dir) es) next
    → AreBefore next es
before-rising dir low next [] rising = tt
before-rising dir low next (e ∷ es) rising = (
  first e.cookie es rising.1,
  before-rising dir (e.cookie + 1) next es rising.1,
)
  where
    first : (s : ℕ) (es : List Entry) → IsRising (s + 1) (map (in_directory dir) es) next → s < next
    first s [] rising = omega (arith, rising)
    first s (d ∷ es) rising = let rest = first d.cookie es rising.1 in omega (arith, rising.0)

apart_names : (name other : List ℕ) → same_name name other ≡ false → (e : Entry) → same_name e.name other ≡ true
    → same_name e.name name ≡ false
apart_names name other apart e at = ap (λ n. same_name n name)
    (same_name-equal e.name other at) ∙ same_name-swap other name ∙ apart

-- ---- links

-- the order of names ties exactly where they are the same
one_name : (a b : List ℕ) → is_named a b ≡ true → a ≡ b
one_name a b tied = same_name-equal a b (texts_ties a b ∙ tied)

-- another name leads where it led
others-kept : (name other : List ℕ) (old new : List (List ℕ × Link)) → KeepsOthers is_named (is_named name) old new
    → same_name name other ≡ false → lookup (is_named other) new ≡ lookup (is_named other) old
unfolding KeepsOthers
others-kept name other old new kept apart =
    kept (is_named other) (λ x y at. ap (λ n. is_named n y) (one_name other x at))
    (λ k at. ap (λ n. is_named other n) (sym (one_name name k at)) ∙ sym (texts_ties other name)
    ∙ same_name-swap other name ∙ apart)

pub AreLinked-removed : (name : List ℕ) (old new : List (List ℕ × Link)) (es : List Entry)
    → KeepsOthers is_named (is_named name) old new → lookup (is_named name) new ≡ None
    → AreLinked old es → AreLinked new (filter (λ e. not (same_name e.name name)) es)
AreLinked-removed name old new es kept none linked = λ n. by n (same_name name n) refl
  where
    by : (n : List ℕ) (b : Bool) → same_name name n ≡ b
        → link_in new n ≡ option_map entry_link (find (λ e. same_name e.name n)
        (filter (λ e. not (same_name e.name name)) es))
    by n true at =
        let one : name ≡ n = same_name-equal name n at in
        subst (λ m. link_in new m ≡ option_map entry_link
        (find (λ e. same_name e.name m) (filter (λ e. not (same_name e.name name)) es))) one
        (ap (option_map link_of) none ∙ sym (ap (option_map entry_link) (find-gone (λ e. same_name e.name name) es)))
    by n false apart =
        ap (option_map link_of) (others-kept name n old new kept apart) ∙ linked n
        ∙ sym (ap (option_map entry_link) (find-kept (λ e. same_name e.name n) (λ e. same_name e.name name)
        (apart_names name n apart) es))

pub AreLinked-put : (x : Entry) (l : Link) (old new : List (List ℕ × Link)) (es : List Entry) → l.file ≡ x.file
    → l.cookie ≡ x.cookie → KeepsOthers is_named (is_named x.name) old new → lookup (is_named x.name) new ≡ Some l
    → AreLinked old es → AreLinked new (filter (λ e. not (same_name e.name x.name)) es ++ x ∷ [])
AreLinked-put x l old new es same_file same_cookie kept here linked = λ n. by n (same_name x.name n) refl
  where
    by : (n : List ℕ) (b : Bool) → same_name x.name n ≡ b
        → link_in new n ≡ option_map entry_link (find (λ e. same_name e.name n)
        (filter (λ e. not (same_name e.name x.name)) es ++ x ∷ []))
    by n true at =
        let one : x.name ≡ n = same_name-equal x.name n at in
        let last = find-append-last (λ e. same_name e.name x.name) (filter (λ e. not (same_name e.name x.name)) es) x
        (find-gone (λ e. same_name e.name x.name) es) (same_itself x.name) in
        subst (λ m. link_in new m ≡ option_map entry_link
        (find (λ e. same_name e.name m) (filter (λ e. not (same_name e.name x.name)) es ++ x ∷ []))) one
        (ap (option_map link_of) here ∙ rw (same_file, same_cookie) refl ∙ sym (ap (option_map entry_link) last))
    by n false apart =
        ap (option_map link_of) (others-kept x.name n old new kept apart) ∙ linked n
        ∙ sym (ap (option_map entry_link) (find-append-other (λ e. same_name e.name n)
        (filter (λ e. not (same_name e.name x.name)) es) x apart
        ∙ find-kept (λ e. same_name e.name n) (λ e. same_name e.name x.name) (apart_names x.name n apart) es))

module _ {A : Type 0} (name : List ℕ) (es : List (ℕ × NamedFile A)) (once : AreNamedOnce (map leaf_entry es))
    (sorted : IsStrictlySortedBy nat_cmp (keys_of es)) where
  gone-by : (o : Option Entry) → find (λ e. same_name e.name name) (map leaf_entry es) ≡ o
      → map leaf_entry (without_key (option_map (λ e. e.cookie) o) es)
      ≡ filter (λ e. not (same_name e.name name)) (map leaf_entry es)
  gone-by None found = sym (filter-none (λ e. same_name e.name name) (map leaf_entry es) found)
  gone-by (Some x) found = filter-map leaf_entry (λ e. not (nat_eq e.0 x.cookie)) (λ e. not (nat_eq e.cookie x.cookie))
      (λ e. refl) es ∙ name-cookie name es x sorted once found

  -- a name goes by its cookie
  pub removed-entries : map leaf_entry (without_key (option_map (λ e. e.cookie)
      (find (λ e. same_name e.name name) (map leaf_entry es))) es)
      ≡ filter (λ e. not (same_name e.name name)) (map leaf_entry es)
  removed-entries = gone-by (find (λ e. same_name e.name name) (map leaf_entry es)) refl

  put-by : (cookie : ℕ) (leaf : NamedFile A) → AreBefore cookie (map leaf_entry es) → (o : Option Entry)
      → find (λ e. same_name e.name name) (map leaf_entry es) ≡ o
      → without_key (option_map (λ e. e.cookie) o) (es ++ (cookie, leaf) ∷ [])
      ≡ without_key (option_map (λ e. e.cookie) o) es ++ (cookie, leaf) ∷ []
  put-by cookie leaf before None found = refl
  put-by cookie leaf before (Some x) found =
      let lower : x.cookie < cookie = before-found (λ e. same_name e.name name) cookie
      (map leaf_entry es) x before found in
      let other : nat_eq cookie x.cookie ≡ false = other_back x.cookie cookie lower in
      filter-append (λ e. not (nat_eq e.0 x.cookie)) es ((cookie, leaf) ∷ []) ∙ rw other refl

  -- a name put last, and the one before it taken away
  pub put-entries : (cookie : ℕ) (leaf : NamedFile A) → AreBefore cookie (map leaf_entry es)
      → map leaf_entry (without_key (option_map (λ e. e.cookie) (find (λ e. same_name e.name name) (map leaf_entry es)))
      (insert_entry nat_cmp es cookie leaf)) ≡ filter (λ e. not (same_name e.name name)) (map leaf_entry es)
      ++ leaf_entry (cookie, leaf) ∷ []
  put-entries cookie leaf before =
      ap (λ l. map leaf_entry (without_key (option_map (λ e. e.cookie)
      (find (λ e. same_name e.name name) (map leaf_entry es))) l))
      (put-last es cookie leaf (below-entries cookie es before))
      ∙ ap (map leaf_entry) (put-by cookie leaf before (find (λ e. same_name e.name name) (map leaf_entry es)) refl)
      ∙ map-append leaf_entry (without_key (option_map (λ e. e.cookie)
      (find (λ e. same_name e.name name) (map leaf_entry es))) es) ((cookie, leaf) ∷ [])
      ∙ ap (λ l. l ++ leaf_entry (cookie, leaf) ∷ []) removed-entries

-- a name put last that goes again
pub unput-entries : {A : Type 0} (es : List (ℕ × NamedFile A)) (cookie : ℕ) (leaf : NamedFile A)
    → AreBefore cookie (map leaf_entry es)
    → map leaf_entry (without_key (Some cookie) (insert_entry nat_cmp es cookie leaf)) ≡ map leaf_entry es
unput-entries es cookie leaf before =
    let below = below-entries cookie es before in
    ap (λ l. map leaf_entry (without_key (Some cookie) l)) (put-last es cookie leaf below)
    ∙ ap (map leaf_entry) (put-undone es cookie leaf below)

-- ---- listing

is_lt-nat_cmp : (a b : ℕ) → is_lt (nat_cmp a b) ≡ nat_lt a b
is_lt-nat_cmp a b = by (nat_lt a b) (nat_eq a b)
  where
    by : (lower same : Bool) → is_lt (cond lower Less (cond same Equal Greater)) ≡ lower
    by true same = refl
    by false true = refl
    by false false = refl

and_true : (b : Bool) → (b && true) ≡ b
and_true true = refl
and_true false = refl

module _ {A : Type 0} where
  -- the names over a cookie
  pub names-after : (after : ℕ) (es : List (ℕ × NamedFile A))
      → map (in_directory 0) (map leaf_entry (filter (λ e. is_lt (nat_cmp after e.0) && true) es))
      ≡ filter (λ n. nat_lt after n.cookie) (map (in_directory 0) (map leaf_entry es))
  names-after after [] = refl
  names-after after (e ∷ es) = rw (and_true (is_lt (nat_cmp after e.0)), is_lt-nat_cmp after e.0)
      (by (nat_lt after e.0) (names-after after es))
    where
      by : (b : Bool) → map (in_directory 0) (map leaf_entry (filter (λ e. is_lt (nat_cmp after e.0) && true) es))
          ≡ filter (λ n. nat_lt after n.cookie) (map (in_directory 0) (map leaf_entry es))
          → map (in_directory 0) (map leaf_entry (cond b (e ∷ filter (λ e. is_lt (nat_cmp after e.0) && true) es)
          (filter (λ e. is_lt (nat_cmp after e.0) && true) es)))
          ≡ cond b (in_directory 0 (leaf_entry e) ∷ filter (λ n. nat_lt after n.cookie)
          (map (in_directory 0) (map leaf_entry es))) (filter (λ n. nat_lt after n.cookie)
          (map (in_directory 0) (map leaf_entry es)))
      by true rest = ap (λ l. in_directory 0 (leaf_entry e) ∷ l) rest
      by false rest = rest

module _ (more : ℕ) (rest : List (ℕ × Dirent)) (r : ℕ × Dirent) (room len : ℕ)
    (is : more + record_length r.1 ≡ len) where
  -- one record more that fits
  pub fitting-more : (done : List (ℕ × Dirent)) → nat_le len room ≡ true
      → done ++ fitting_with more room (r ∷ rest) ≡ (done ++ r ∷ []) ++ fitting_with more (room - len) rest
  fitting-more done fits = rw (is, fits) (sym (append_assoc done (r ∷ []) (fitting_with more (room - len) rest)))

  -- none more
  pub fitting-end : (done : List (ℕ × Dirent)) → nat_le len room ≡ false
      → done ++ fitting_with more room (r ∷ rest) ≡ done
  fitting-end done fails = rw (is, fails) (append-nil done)

  -- so of the files that they lead to
  pub files-more : (done : List ℕ) → nat_le len room ≡ true
      → done ++ files_led (fitting_with more room (r ∷ rest)) ≡ done
      ++ first_listed (listed_by (lead_pair 0 r)) (files_led (fitting_with more (room - len) rest))
  files-more done fits = rw (is, fits) refl

  pub files-end : (done : List ℕ) → nat_le len room ≡ false
      → done ++ files_led (fitting_with more room (r ∷ rest)) ≡ done
  files-end done fails = rw (is, fails) (append-nil done)

pub over : (len room : ℕ) → room < len → nat_le len room ≡ false
over len room long = grind (arith, common_steps)

pub under : (len room : ℕ) → len ≤ room → nat_le len room ≡ true
under len room short = grind (arith, common_steps)

-- one file more
pub told-append : (o : Option ℕ) (files : List ℕ) → first_listed o [] ++ files ≡ first_listed o files
told-append None files = refl
told-append (Some file) files = refl
