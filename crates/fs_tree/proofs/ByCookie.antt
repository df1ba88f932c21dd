-- Names in rising cookie, as they come and go one by one.
use Rattle.std.proofs.Common.{◌≡◌, ℕ, ◌+◌, ◌≤◌, ◌<◌, Bool, true, false, not, cond, ◌&&◌, List, [], ◌∷◌, ◌++◌, filter, find, Option, Some, None, refl, sym, ap, subst, ◌∙◌, arith, nat_eq}
use Rattle.std.specs.Option.{option_map}
use Rattle.std.proofs.lemmas.Grind.{common_steps}
use Rattle.fuse_spec.specs.Files.Trees.{Named, is_at, same_name}
use Rattle.fs_tree.specs.Stored.{IsRising, AreOnce, without_cookie}
use Rattle.fs_tree.proofs.ByDirectory.{filter-append, filter-swap, filter-none}
use Rattle.fs_tree.proofs.EntryRows.{same_name-swap}
use Rattle.fs_tree.proofs.Keeping.{IsRising-where}

other_cookie : (a b : ℕ) → a < b → nat_eq b a ≡ false
other_cookie a b lower = grind (arith, common_steps)

other_lower : (a b : ℕ) → a < b → nat_eq a b ≡ false
other_lower a b lower = grind (arith, common_steps)

one_cookie : (a b : ℕ) → nat_eq a b ≡ true → a ≡ b
one_cookie a b e = grind (arith, common_steps, e)

some_same : {X : Type 0} (x y : X) → Some x ≡ Some y → x ≡ y
some_same x y e = cc

-- names that are the same are equal
pub same_name-equal : (a b : List ℕ) → same_name a b ≡ true → a ≡ b
same_name-equal [] [] same = refl
same_name-equal [] (y ∷ ys) same = cc
same_name-equal (x ∷ xs) [] same = cc
same_name-equal (x ∷ xs) (y ∷ ys) same = by (nat_eq x y) refl same (same_name-equal xs ys)
  where
    by : (b : Bool) → nat_eq x y ≡ b → (b && same_name xs ys) ≡ true → (same_name xs ys ≡ true → xs ≡ ys)
        → x ∷ xs ≡ y ∷ ys
    by true e same rest = let first = one_cookie x y e in let others = rest same in rw (first, others) refl
    by false e same rest = cc

nat_eq-swap : (a b : ℕ) → nat_eq a b ≡ nat_eq b a
nat_eq-swap a b = grind (arith, common_steps)

is_at-swap : (m n : Named) → is_at m.directory m.name n ≡ is_at n.directory n.name m
is_at-swap m n = rw (nat_eq-swap n.directory m.directory, same_name-swap n.name m.name) refl

-- ---- searches

module _ {E : Type 0} where
  -- what is found among all is no other that was passed
  pub find-where-none : (p q : E → Bool) (xs : List E) → find p xs ≡ None → find p (filter q xs) ≡ None
  find-where-none p q [] none = refl
  find-where-none p q (x ∷ xs) none = by (p x) refl (q x) none (find-where-none p q xs)
    where
      by : (b : Bool) → p x ≡ b → (c : Bool) → cond b (Some x) (find p xs) ≡ None
          → (find p xs ≡ None → find p (filter q xs) ≡ None) → find p (cond c (x ∷ filter q xs) (filter q xs)) ≡ None
      by true e c none rest = cc
      by false e true none rest = rw e (rest none)
      by false e false none rest = rest none

  pub find-append-none : (p : E → Bool) (xs : List E) (x : E) → find p xs ≡ None → p x ≡ false
      → find p (xs ++ x ∷ []) ≡ None
  find-append-none p [] x none fails = rw fails refl
  find-append-none p (y ∷ ys) x none fails = by (p y) none (find-append-none p ys x)
    where
      by : (b : Bool) → cond b (Some y) (find p ys) ≡ None
          → (find p ys ≡ None → p x ≡ false → find p (ys ++ x ∷ []) ≡ None)
          → cond b (Some y) (find p (ys ++ x ∷ [])) ≡ None
      by true none rest = cc
      by false none rest = rest none fails

-- ---- cookies

-- a cookie below all others is not among them
pub rising-kept : (cookie low next : ℕ) (names : List Named) → cookie < low → IsRising low names next
    → filter (λ n. not (nat_eq n.cookie cookie)) names ≡ names
rising-kept cookie low next [] lower rising = refl
rising-kept cookie low next (n ∷ names) lower rising =
    let above : cookie < n.cookie = omega (arith, rising.0) in
    rw (other_cookie cookie n.cookie above) (ap (λ l. n ∷ l)
    (rising-kept cookie (n.cookie + 1) next names (omega (arith, rising.0)) rising.1))

low_next : (low next : ℕ) (names : List Named) → IsRising low names next → low ≤ next
low_next low next [] rising = rising
low_next low next (n ∷ names) rising = let rest = low_next (n.cookie + 1) next names rising.1 in omega (arith, rising.0)

found-from : (p : Named → Bool) (low next : ℕ) (names : List Named) (n : Named) → IsRising low names next
    → find p names ≡ Some n → low ≤ n.cookie
found-from p low next [] n rising found = cc
found-from p low next (m ∷ names) n rising found = by (p m) found (found-from p (m.cookie + 1) next names n rising.1)
  where
    by : (b : Bool) → cond b (Some m) (find p names) ≡ Some n → (find p names ≡ Some n → m.cookie + 1 ≤ n.cookie)
        → low ≤ n.cookie
    by true found rest = let one : m ≡ n = some_same m n found in subst (λ x. low ≤ x.cookie) one rising.0
    by false found rest = let above = rest found in omega (arith, rising.0)

found-before : (p : Named → Bool) (low next : ℕ) (names : List Named) (n : Named) → IsRising low names next
    → find p names ≡ Some n → n.cookie < next
found-before p low next [] n rising found = cc
found-before p low next (m ∷ names) n rising found =
    by (p m) found (found-before p (m.cookie + 1) next names n rising.1)
  where
    by : (b : Bool) → cond b (Some m) (find p names) ≡ Some n → (find p names ≡ Some n → n.cookie < next)
        → n.cookie < next
    by true found rest =
        let one : m ≡ n = some_same m n found in
        let last = low_next (m.cookie + 1) next names rising.1 in
        subst (λ x. x.cookie < next) one (omega arith)
    by false found rest = rest found

-- where a name goes that some test does not pass, what passes stays
pub filter-apart : (p : Named → Bool) (cookie low next : ℕ) (names : List Named) (n : Named) → IsRising low names next
    → find (λ m. nat_eq m.cookie cookie) names ≡ Some n → p n ≡ false
    → filter p (filter (λ m. not (nat_eq m.cookie cookie)) names) ≡ filter p names
filter-apart p cookie low next [] n rising found fails = cc
filter-apart p cookie low next (m ∷ names) n rising found fails =
    by (nat_eq m.cookie cookie) refl found (filter-apart p cookie (m.cookie + 1) next names n rising.1)
  where
    other : (b : Bool) → filter p (filter (λ m. not (nat_eq m.cookie cookie)) names) ≡ filter p names
        → cond b (m ∷ filter p (filter (λ m. not (nat_eq m.cookie cookie)) names))
        (filter p (filter (λ m. not (nat_eq m.cookie cookie)) names)) ≡ cond b (m ∷ filter p names) (filter p names)
    other true rest = ap (λ l. m ∷ l) rest
    other false rest = rest

    by : (b : Bool) → nat_eq m.cookie cookie ≡ b → cond b (Some m) (find (λ m. nat_eq m.cookie cookie) names) ≡ Some n
        → (find (λ m. nat_eq m.cookie cookie) names ≡ Some n → p n ≡ false
        → filter p (filter (λ m. not (nat_eq m.cookie cookie)) names) ≡ filter p names)
        → filter p (cond (not b) (m ∷ filter (λ m. not (nat_eq m.cookie cookie)) names)
        (filter (λ m. not (nat_eq m.cookie cookie)) names)) ≡ filter p (m ∷ names)
    by true e found rest =
        let one : m ≡ n = some_same m n found in
        let fails_here : p m ≡ false = ap p one ∙ fails in
        let lower : cookie < m.cookie + 1 = let at = one_cookie m.cookie cookie e in omega arith in
        rw fails_here (ap (filter p) (rising-kept cookie (m.cookie + 1) next names lower rising.1))
    by false e found rest = other (p m) (rest found fails)

-- ---- places

pub AreOnce-where : (p : Named → Bool) (names : List Named) → AreOnce names → AreOnce (filter p names)
AreOnce-where p [] once = tt
AreOnce-where p (n ∷ names) once = by (p n) (AreOnce-where p names once.1)
  where
    by : (b : Bool) → AreOnce (filter p names) → AreOnce (cond b (n ∷ filter p names) (filter p names))
    by true rest = (find-where-none (is_at n.directory n.name) p names once.0, rest)
    by false rest = rest

pub AreOnce-push : (names : List Named) (n : Named) → AreOnce names → find (is_at n.directory n.name) names ≡ None
    → AreOnce (names ++ n ∷ [])
AreOnce-push [] n once absent = (refl, tt)
AreOnce-push (m ∷ names) n once absent = by (is_at n.directory n.name m) refl absent (AreOnce-push names n once.1)
  where
    by : (b : Bool) → is_at n.directory n.name m ≡ b → cond b (Some m) (find (is_at n.directory n.name) names) ≡ None
        → (find (is_at n.directory n.name) names ≡ None → AreOnce (names ++ n ∷ [])) → AreOnce (m ∷ names ++ n ∷ [])
    by true e absent rest = cc
    by false e absent rest = (
      find-append-none (is_at m.directory m.name) names n once.0 (is_at-swap m n ∙ e),
      rest absent,
    )

-- none is at a place from which all have gone
pub find-gone : {E : Type 0} (p : E → Bool) (names : List E) → find p (filter (λ n. not (p n)) names) ≡ None
find-gone p [] = refl
find-gone p (n ∷ names) = by (p n) refl (find-gone p names)
  where
    by : (b : Bool) → p n ≡ b → find p (filter (λ n. not (p n)) names) ≡ None
        → find p (cond (not b) (n ∷ filter (λ n. not (p n)) names) (filter (λ n. not (p n)) names)) ≡ None
    by true e rest = rest
    by false e rest = rw e rest

both_true : (a b : Bool) → (a && b) ≡ true → (a ≡ true) × (b ≡ true)
both_true true b h = (refl, h)
both_true false b h = cc

-- a place is left out by its cookie
place-cookie : (dir : ℕ) (name : List ℕ) (low next : ℕ) (names : List Named) (n : Named) → IsRising low names next
    → AreOnce names → find (is_at dir name) names ≡ Some n
    → filter (λ m. not (nat_eq m.cookie n.cookie)) names ≡ filter (λ m. not (is_at dir name m)) names
place-cookie dir name low next [] n rising once found = cc
place-cookie dir name low next (m ∷ names) n rising once found =
    by (is_at dir name m) refl found (place-cookie dir name (m.cookie + 1) next names n rising.1 once.1)
  where
    by : (b : Bool) → is_at dir name m ≡ b → cond b (Some m) (find (is_at dir name) names) ≡ Some n
        → (find (is_at dir name) names ≡ Some n → filter (λ m. not (nat_eq m.cookie n.cookie)) names
        ≡ filter (λ m. not (is_at dir name m)) names)
        → filter (λ m. not (nat_eq m.cookie n.cookie)) (m ∷ names)
        ≡ cond (not b) (m ∷ filter (λ m. not (is_at dir name m)) names) (filter (λ m. not (is_at dir name m)) names)
    by true e found rest =
        let one : m ≡ n = some_same m n found in
        let both = both_true (nat_eq m.directory dir) (same_name m.name name) e in
        let at_dir = one_cookie m.directory dir both.0 in
        let at_name = same_name-equal m.name name both.1 in
        let none : find (is_at dir name) names ≡ None = subst (λ d. find (is_at d name) names ≡ None) at_dir
        (subst (λ s. find (is_at m.directory s) names ≡ None) at_name once.0) in
        let itself : nat_eq m.cookie m.cookie ≡ true = grind (arith, common_steps) in
        let gone : filter (λ x. not (nat_eq x.cookie m.cookie)) (m ∷ names) ≡ names =
        rw itself (rising-kept m.cookie (m.cookie + 1) next names (omega arith) rising.1) in
        subst (λ x. filter (λ y. not (nat_eq y.cookie x.cookie)) (m ∷ names)
        ≡ filter (λ m. not (is_at dir name m)) names) one (gone ∙ sym (filter-none (is_at dir name) names none))
    by false e found rest =
        let above = found-from (is_at dir name) (m.cookie + 1) next names n rising.1 found in
        let other : nat_eq m.cookie n.cookie ≡ false = other_lower m.cookie n.cookie (omega arith) in
        rw other (ap (λ l. m ∷ l) (rest found))

-- what a look-up of a place found goes by its cookie
pub without-found : (dir : ℕ) (name : List ℕ) (low next : ℕ) (names : List Named) (o : Option Named)
    → IsRising low names next → AreOnce names → find (is_at dir name) names ≡ o
    → without_cookie (option_map (λ n. n.cookie) o) names ≡ filter (λ m. not (is_at dir name m)) names
without-found dir name low next names None rising once found = sym (filter-none (is_at dir name) names found)
without-found dir name low next names (Some n) rising once found =
    place-cookie dir name low next names n rising once found

pub without-where : (o : Option ℕ) (p : Named → Bool) (names : List Named)
    → without_cookie o (filter p names) ≡ filter p (without_cookie o names)
without-where None p names = refl
without-where (Some s) p names = filter-swap (λ n. not (nat_eq n.cookie s)) p names

-- a name put last is not the one that goes
abbrev pub IsOther : ℕ → Option ℕ → Type 0
IsOther cookie None = Unit {0}
IsOther cookie (Some s) = nat_eq cookie s ≡ false

pub other-found : (p : Named → Bool) (low next : ℕ) (names : List Named) (o : Option Named) → IsRising low names next
    → find p names ≡ o → IsOther next (option_map (λ n. n.cookie) o)
other-found p low next names None rising found = tt
other-found p low next names (Some n) rising found =
    other_cookie n.cookie next (found-before p low next names n rising found)

pub without-push : (o : Option ℕ) (names : List Named) (n : Named) → IsOther n.cookie o
    → without_cookie o (names ++ n ∷ []) ≡ without_cookie o names ++ n ∷ []
without-push None names n other = refl
without-push (Some s) names n other = filter-append (λ m. not (nat_eq m.cookie s)) names (n ∷ []) ∙ rw other refl

pub IsRising-without : (o : Option ℕ) (low next : ℕ) (names : List Named) → IsRising low names next
    → IsRising low (without_cookie o names) next
IsRising-without None low next names rising = rising
IsRising-without (Some s) low next names rising = IsRising-where (λ n. not (nat_eq n.cookie s)) low next names rising

-- a name put last that goes again
pub push-undone : (low : ℕ) (names : List Named) (n : Named) → IsRising low names n.cookie
    → without_cookie (Some n.cookie) (names ++ n ∷ []) ≡ names
push-undone low [] n rising = let itself : nat_eq n.cookie n.cookie ≡ true =
    grind (arith, common_steps) in rw itself refl
push-undone low (m ∷ names) n rising =
    let last = low_next (m.cookie + 1) n.cookie names rising.1 in
    let other : nat_eq m.cookie n.cookie ≡ false = other_lower m.cookie n.cookie (omega arith) in
    rw other (ap (λ l. m ∷ l) (push-undone (m.cookie + 1) names n rising.1))

-- a file moved from one place to another
pub moved-cookies : (d : ℕ) (old : List ℕ) (e : ℕ) (new : List ℕ) (names : List Named) (n : Named)
    → IsRising 1 names n.cookie → AreOnce names
    → without_cookie (option_map (λ n. n.cookie) (find (is_at e new) names))
    (without_cookie (option_map (λ n. n.cookie) (find (is_at d old) names)) (names ++ n ∷ []))
    ≡ filter (λ m. not (is_at e new m)) (filter (λ m. not (is_at d old m)) names) ++ n ∷ []
moved-cookies d old e new names n rising once =
    let gone = find (is_at d old) names in
    let there = find (is_at e new) names in
    let first = without-push (option_map (λ n. n.cookie) gone) names n
    (other-found (is_at d old) 1 n.cookie names gone rising refl) ∙ ap (λ l. l ++ n ∷ [])
    (without-found d old 1 n.cookie names gone rising once refl) in
    let second = without-push (option_map (λ n. n.cookie) there) (filter (λ m. not (is_at d old m)) names) n
    (other-found (is_at e new) 1 n.cookie names there rising refl) in
    let third = without-where (option_map (λ n. n.cookie) there) (λ m. not (is_at d old m)) names ∙ ap
    (filter (λ m. not (is_at d old m))) (without-found e new 1 n.cookie names there rising once refl) ∙ filter-swap
    (λ m. not (is_at d old m)) (λ m. not (is_at e new m)) names in
    ap (without_cookie (option_map (λ n. n.cookie) there)) first ∙ second ∙ ap (λ l. l ++ n ∷ []) third

-- the place to which a file moved has no other name
pub AreOnce-moved : (p : Named → Bool) (names : List Named) (n : Named) → AreOnce names
    → AreOnce (filter (λ m. not (is_at n.directory n.name m)) (filter p names) ++ n ∷ [])
AreOnce-moved p names n once =
    AreOnce-push (filter (λ m. not (is_at n.directory n.name m)) (filter p names)) n
    (AreOnce-where (λ m. not (is_at n.directory n.name m)) (filter p names) (AreOnce-where p names once))
    (find-gone (is_at n.directory n.name) (filter p names))
