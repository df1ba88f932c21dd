-- What stands of a session, with one act more, and how much that is.
use Rattle.std.proofs.Common.{◌≡◌, ℕ, ◌+◌, ◌-◌, ◌<◌, Bool, true, false, true≢false, ◌&&◌, ◌||◌, cond, map, List, [], ◌∷◌, ◌++◌, Some, None, length, refl, sym, ◌∙◌, ap, arith, rules, nat_eq, nat_lt, inl, inr, ◌⊎◌, append_assoc, add-one, get_or, take}
use Rattle.std.specs.Prelude.{is_some, sum_by, filter}
use Rattle.std.specs.Cmp.{IsEquivalence, and_equiv, on_equiv, bool_eq_equiv, nat_eq_equiv}
use Rattle.std.specs.Bool.{beq}
use Rattle.std.specs.List.{flat_map, list_any}
use Rattle.std.specs.Map.{lookup}
use Rattle.std.specs.Set.{distinct_count, is_member, unique_keys}
use Rattle.std.proofs.Math.Seq.{take-suc}
use Rattle.std.proofs.lemmas.List.{length-map}
use Rattle.std.proofs.lemmas.List.Folds.{list_any-append}
use Rattle.std.proofs.lemmas.List.Sums.{sum_by-cons}
use Rattle.std.proofs.lemmas.Map.Made.{is_member-filter}
use Rattle.fuse_sessions.specs.declared.act.Act.{Act}
use Rattle.fuse_sessions.specs.declared.act.Act.TheVariants.{Gives, Opens}
use Rattle.fuse_sessions.specs.declared.act.OpenFile.{OpenFile}
use Rattle.fuse_sessions.specs.declared.act.OpenKind.{OpenKind}
use Rattle.fuse_sessions.specs.declared.act.OpenKind.TheVariants as kind
use Rattle.fuse_sessions.specs.Counts.{forgets_of, gives_most, most_count}
use Rattle.fuse_sessions.specs.OpenFiles.{opened, opens_this, releases_this}
use Rattle.fuse_sessions.specs.Sessions.{Session, left}
use Rattle.fuse_sessions.specs.Waiting.{same_kind, same_open}
use Rattle.fuse_sessions.proofs.Laws.{left-more}
use Rattle.fw_check.specs.declared.file_key.FileKey.{FileKey}
use Rattle.fw_check.specs.declared.held.Step.{Step}
use Rattle.fw_check.specs.declared.held.Step.TheVariants as step
use Rattle.fw_check.specs.Held.{Does, Holds, IsStep, any_of}
use Rattle.fw_check.specs.Standing.{file_of, given_by, is_directory, key_of, kind_of, opened_by, same_key}

-- ---- one act more

module _ {K : Type 0} (eq : K → K → Bool) (gives takes : K → Act → ℕ) where
  balance : (s : Session) (a : Act) (q : K) → (gives q a ≡ 0) ⊎ (takes q a ≡ 0)
      → left (gives q) (takes q) (s ++ a ∷ []) ≡ left (gives q) (takes q) s + gives q a - takes q a
  balance s a q one = left-more (gives q) (takes q) s a one

  more_by : (b : Bool) (n gift back : ℕ) → gift ≡ cond b 1 0 → back ≡ 0 → n + gift - back ≡ cond b (n + 1) n
  more_by true n gift back is none = omega (arith, is, none)
  more_by false n gift back is none = omega (arith, is, none)

  less_by : (b : Bool) (n less gift back : ℕ) → gift ≡ 0 → back ≡ cond b less 0 → n + gift - back ≡ cond b (n - less) n
  less_by true n less gift back none is = omega (arith, is, none)
  less_by false n less gift back none is = omega (arith, is, none)

  -- what an act gives and takes back is a step of the counts
  pub step_of : (s : Session) (a : Act) (one : Step K) → Does eq one (λ q. gives q a) (λ q. takes q a)
      → IsStep eq one (λ q. left (gives q) (takes q) s) (λ q. left (gives q) (takes q) (s ++ a ∷ []))
  step_of s a step.Nothing does = λ q.
      let same = balance s a q (inl (does q).0) in
      omega (arith, same, (does q).0, (does q).1)
  step_of s a (step.More key) does = λ q.
      balance s a q (inr (does q).1) ∙ more_by (eq key q) (left (gives q) (takes q) s) _ _ (does q).0 (does q).1
  step_of s a (step.Less key less) does = λ q.
      balance s a q (inl (does q).0) ∙ less_by (eq key q) (left (gives q) (takes q) s) less _ _ (does q).0 (does q).1

-- the acts that were passed, with the next one
pub next_act : (s acts : Session) (i : ℕ) (a : Act) → i < length acts
    → (s ++ take i acts) ++ get_or acts i a ∷ [] ≡ s ++ take (i + 1) acts
next_act s acts i a within = append_assoc s (take i acts) (get_or acts i a ∷ [])
    ∙ ap (λ l. s ++ l) (sym (rw add-one (take-suc acts i a within)))

same_number : (a b : ℕ) → nat_eq a b ≡ true → a ≡ b
same_number a b e = grind (arith, rules)

-- ---- open files as keys

pub file_keys : IsEquivalence same_key
file_keys = and_equiv (on_equiv (λ (k : FileKey). k.is_directory) bool_eq_equiv)
    (and_equiv (on_equiv (λ (k : FileKey). k.nodeid) nat_eq_equiv) (on_equiv (λ (k : FileKey). k.fh) nat_eq_equiv))

-- files are the same where their keys are
pub as_keys : (a b : OpenFile) → same_open a b ≡ same_key (key_of a) (key_of b)
as_keys a b = by a.kind b.kind (nat_eq a.nodeid b.nodeid && nat_eq a.fh b.fh)
  where
    by : (j k : OpenKind) (rest : Bool) → (same_kind j k && rest) ≡ (beq (is_directory j) (is_directory k) && rest)
    by kind.File kind.File rest = refl
    by kind.File kind.Directory rest = refl
    by kind.Directory kind.File rest = refl
    by kind.Directory kind.Directory rest = refl

pub key_back : (k : FileKey) → key_of (file_of k) ≡ k
key_back k = ap (λ b. record { is_directory = b; nodeid = k.nodeid; fh = k.fh }) (by k.is_directory)
  where
    by : (b : Bool) → is_directory (kind_of b) ≡ b
    by true = refl
    by false = refl

pub file_back : (f : OpenFile) → file_of (key_of f) ≡ f
file_back f = ap (λ k. record { kind = k; nodeid = f.nodeid; fh = f.fh }) (by f.kind)
  where
    by : (k : OpenKind) → kind_of (is_directory k) ≡ k
    by kind.File = refl
    by kind.Directory = refl

-- equal keys are one
left_of : (a b : Bool) → (a && b) ≡ true → a ≡ true
left_of true b e = refl
left_of false b e = e

right_of : (a b : Bool) → (a && b) ≡ true → b ≡ true
right_of true b e = e
right_of false b e = absurd (true≢false (sym e))

same_side : (a b : Bool) → beq a b ≡ true → a ≡ b
same_side true true e = refl
same_side true false e = absurd (true≢false (sym e))
same_side false true e = absurd (true≢false (sym e))
same_side false false e = refl

abbrev make : Bool → ℕ → ℕ → FileKey
make d n f = record { is_directory = d; nodeid = n; fh = f }

same_file_key : (a b : FileKey) → same_key a b ≡ true → a ≡ b
same_file_key a b e =
    let rest = right_of (beq a.is_directory b.is_directory) _ e in
    let sides : a.is_directory ≡ b.is_directory = same_side _ _ (left_of _ (nat_eq a.nodeid b.nodeid && nat_eq a.fh b.fh) e) in
    let nodes : a.nodeid ≡ b.nodeid = same_number _ _ (left_of _ (nat_eq a.fh b.fh) rest) in
    let numbers : a.fh ≡ b.fh = same_number _ _ (right_of (nat_eq a.nodeid b.nodeid) _ rest) in
    made a.is_directory b.is_directory a.nodeid b.nodeid a.fh b.fh sides nodes numbers
  where
    made : (d d' : Bool) (n n' f f' : ℕ) → d ≡ d' → n ≡ n' → f ≡ f' → make d n f ≡ make d' n' f'
    made d d' n n' f f' e g h = rw (e, g, h) refl

-- whether a file has a key
pub has_key : (a : OpenFile) (k : FileKey) → same_open a (file_of k) ≡ same_key (key_of a) k
has_key a k = as_keys a (file_of k) ∙ ap (same_key (key_of a)) (key_back k)

-- ---- how much stands

first_no : (a b : Bool) → (a || b) ≡ false → a ≡ false
first_no true b e = e
first_no false b e = refl

second_no : (a b : Bool) → (a || b) ≡ false → b ≡ false
second_no true b e = absurd (true≢false e)
second_no false b e = e

-- what was never given has nothing left
module _ {X : Type 0} (by : Act → List X) (gives takes : Act → ℕ) (test : X → Bool)
    (quiet : (a : Act) → list_any test (by a) ≡ false → gives a ≡ 0) where
  parts : (a : Act) (s : Session) → list_any test (flat_map by (a ∷ s)) ≡ false
      → (list_any test (by a) || list_any test (flat_map by s)) ≡ false
  parts a s none = sym (list_any-append test (by a) (flat_map by s)) ∙ none

  given_none : (s : Session) → list_any test (flat_map by s) ≡ false → sum_by gives s ≡ 0
  given_none [] none = refl
  given_none (a ∷ s) none =
      let here : gives a ≡ 0 = quiet a (first_no _ _ (parts a s none)) in
      let later : sum_by gives s ≡ 0 = given_none s (second_no (list_any test (by a)) _ (parts a s none)) in
      let first : sum_by gives (a ∷ s) ≡ gives a + sum_by gives s = sum_by-cons gives a s in
      omega (arith, first, here, later)

  pub left_none : (s : Session) → list_any test (flat_map by s) ≡ false → left gives takes s ≡ 0
  left_none [] none = refl
  left_none (a ∷ s) none =
      let all = given_none (a ∷ s) none in
      let later = left_none s (second_no (list_any test (by a)) _ (parts a s none)) in
      omega (arith, all, later)

-- what is left of a key, and whether it is among those that were given and have some left
some_left : (n : ℕ) → is_some (any_of n) ≡ nat_lt 0 n
some_left n = by (nat_lt 0 n)
  where
    by : (b : Bool) → is_some (cond b (Some n) None) ≡ b
    by true = refl
    by false = refl

both : (a b : Bool) → (a ≡ false → b ≡ false) → b ≡ (a && b)
both true b h = refl
both false b h = h refl

none_left : (n : ℕ) → n ≡ 0 → nat_lt 0 n ≡ false
none_left n is = rw is refl

-- nodes

no_gift : (q : ℕ) (a : Act) → list_any (nat_eq q) (given_by a) ≡ false → gives_most q a ≡ 0
no_gift q (Gives node file is_certain) none = ap (λ b. cond b 1 0) (nat_eq_equiv.symm node q ∙ first_no (nat_eq q node) false none)
no_gift q a none = refl

pub node_members : (s : Session) (rows : List (ℕ × ℕ)) → Holds nat_eq rows (most_count s) → (q : ℕ)
    → is_some (lookup (nat_eq q) rows)
    ≡ is_member nat_eq (filter (λ node. nat_lt 0 (most_count s node)) (flat_map given_by s)) q
node_members s rows held q = ap is_some (held q) ∙ some_left (most_count s q)
    ∙ both (is_member nat_eq (flat_map given_by s) q) (nat_lt 0 (most_count s q))
    (λ none. none_left (most_count s q) (left_none given_by (gives_most q) (forgets_of q) (nat_eq q) (no_gift q) s none))
    ∙ sym (is_member-filter nat_eq_equiv (λ node. nat_lt 0 (most_count s node)) q
    (λ x e. ap (λ n. nat_lt 0 (most_count s n)) (same_number q x e)) (flat_map given_by s))

-- files

member_keys : (files : List OpenFile) (f : OpenFile)
    → is_member same_open files f ≡ is_member same_key (map key_of files) (key_of f)
member_keys [] f = refl
member_keys (g ∷ files) f = ap (λ b. b || is_member same_open files f) (as_keys f g)
    ∙ ap (λ b. same_key (key_of f) (key_of g) || b) (member_keys files f)

-- keys count once where their files do
same_unique : (files : List OpenFile) → map key_of (unique_keys same_open files) ≡ unique_keys same_key (map key_of files)
same_unique [] = refl
same_unique (f ∷ files) =
    by (is_member same_open files f) (same_unique files)
    ∙ ap (λ b. cond b (unique_keys same_key (map key_of files)) (key_of f ∷ unique_keys same_key (map key_of files)))
    (member_keys files f)
  where
    by : (b : Bool) → map key_of (unique_keys same_open files) ≡ unique_keys same_key (map key_of files)
        → map key_of (cond b (unique_keys same_open files) (f ∷ unique_keys same_open files))
        ≡ cond b (unique_keys same_key (map key_of files)) (key_of f ∷ unique_keys same_key (map key_of files))
    by true later = later
    by false later = ap (λ ks. key_of f ∷ ks) later

pub as_many_files : (files : List OpenFile) → distinct_count same_key (map key_of files) ≡ distinct_count same_open files
as_many_files files = ap length (sym (same_unique files)) ∙ length-map (unique_keys same_open files) key_of

-- the keys of the files that pass a test are the keys that do
keys_kept : (p : OpenFile → Bool) (files : List OpenFile)
    → map key_of (filter p files) ≡ filter (λ k. p (file_of k)) (map key_of files)
keys_kept p [] = refl
keys_kept p (f ∷ files) = by (p f) (keys_kept p files) ∙ ap (λ b. cond b (key_of f ∷ filter (λ k. p (file_of k)) (map key_of files))
    (filter (λ k. p (file_of k)) (map key_of files))) (ap p (sym (file_back f)))
  where
    by : (b : Bool) → map key_of (filter p files) ≡ filter (λ k. p (file_of k)) (map key_of files)
        → map key_of (cond b (f ∷ filter p files) (filter p files))
        ≡ cond b (key_of f ∷ filter (λ k. p (file_of k)) (map key_of files)) (filter (λ k. p (file_of k)) (map key_of files))
    by true later = ap (λ ks. key_of f ∷ ks) later
    by false later = later

any_key : (k : FileKey) (files : List OpenFile)
    → is_member same_key (map key_of files) k ≡ list_any (λ f. same_key k (key_of f)) files
any_key k [] = refl
any_key k (f ∷ files) = ap (λ b. same_key k (key_of f) || b) (any_key k files)

no_opening : (k : FileKey) (a : Act) → list_any (λ f. same_key k (key_of f)) (opened_by a) ≡ false
    → opens_this (file_of k) a ≡ 0
no_opening k (Opens file) none = ap (λ b. cond b 1 0)
    (has_key file k ∙ file_keys.symm (key_of file) k ∙ first_no (same_key k (key_of file)) false none)
no_opening k a none = refl

pub file_members : (s : Session) (rows : List (FileKey × ℕ)) → Holds same_key rows (λ key. opened s (file_of key))
    → (k : FileKey) → is_some (lookup (same_key k) rows)
    ≡ is_member same_key (map key_of (filter (λ file. nat_lt 0 (opened s file)) (flat_map opened_by s))) k
file_members s rows held k = ap is_some (held k) ∙ some_left (opened s (file_of k))
    ∙ both (is_member same_key (map key_of (flat_map opened_by s)) k) (nat_lt 0 (opened s (file_of k)))
    (λ none. none_left (opened s (file_of k)) (left_none opened_by (opens_this (file_of k)) (releases_this (file_of k))
    (λ f. same_key k (key_of f)) (no_opening k) s (sym (any_key k (flat_map opened_by s)) ∙ none)))
    ∙ sym (is_member-filter file_keys (λ key. nat_lt 0 (opened s (file_of key))) k
    (λ x e. ap (λ key. nat_lt 0 (opened s (file_of key))) (same_file_key k x e)) (map key_of (flat_map opened_by s)))
    ∙ ap (λ ks. is_member same_key ks k) (sym (keys_kept (λ file. nat_lt 0 (opened s file)) (flat_map opened_by s)))
