-- A directory is within another one, by this many steps up, exactly where its parents lead there.
use Rattle.std.proofs.Common.{◌≡◌, ◌&&◌, ℕ, zero, suc, ◌≤◌, Bool, true, false, true≢false, not, cond, List, [], ◌∷◌, Option, Some, None, nat_eq, find, filter, length, refl, ap, sym, subst, ◌∙◌, arith, Contains, ◌⊎◌, inl, inr, ◌↔◌, eq-eqb}
use Rattle.std.proofs.lemmas.Bool.Decides.{nat_tests}
use Rattle.std.proofs.lemmas.List.Elements.{All-contains}
use Rattle.fuse_spec.specs.Values.Numbers.{enotdir, eisdir, einval, enotempty}
use Rattle.fuse_spec.specs.Calls.Paths.{Name}
use Rattle.fuse_spec.specs.Files.Operations.{rename}
use Rattle.fuse_spec.specs.Files.Trees.{Tree, Named, file_at, is_directory, is_nameless, is_within, is_below}
use Rattle.fuse_spec.specs.Files.FileOperations.{Check, first_refusal, refusal, is_dir, is_file, is_filled, replaces}
use Rattle.fuse_spec.specs.Files.TreeShape.{IsBelow, is_top, is_in, IsShaped, IsInTree}
use Rattle.fs_tree.proofs.Keeping.{length-without}
use Rattle.fs_tree.proofs.ByCookie.{find-gone}
use Rattle.fs_tree.proofs.NameLinks.{find-kept}
use Rattle.fs_tree.proofs.Counting.{found_passes, found_there, none_passes, only_one}

same_number : (a b : ℕ) → nat_eq a b ≡ true → a ≡ b
same_number a b e = grind (arith, nat_tests, e)

-- the first name of a file
abbrev first_of : List Named → ℕ → Option Named
first_of names file = find (λ n. nat_eq n.file file) names

-- the names of the other files
abbrev others : List Named → ℕ → List Named
others names file = filter (λ n. not (nat_eq n.file file)) names

-- one step up, and on from there
abbrev onward : ℕ → List Named → ℕ → Option Named → Bool
onward steps names top found = elim found [ None ↦ false | Some n ↦ is_within steps names top n.directory ]

abbrev Within : ℕ → List Named → ℕ → ℕ → Type 0
Within steps names top dir = is_within steps names top dir ≡ true

module _ (top : ℕ) where
  -- The way goes on up from the directory of a name.
  abbrev Goes : ℕ → List Named → ℕ → Type 0
  Goes steps names dir = (n : Named) × (first_of names dir ≡ Some n) × Within steps names top n.directory

  -- at the top, however many steps are left
  here : (steps : ℕ) (names : List Named) (dir : ℕ) → nat_eq dir top ≡ true → Within steps names top dir
  here zero names dir e = e
  here (suc steps) names dir e = rw e refl

  up : (steps : ℕ) (names : List Named) (dir : ℕ) → Goes steps names dir → Within (suc steps) names top dir
  up steps names dir goes = by (nat_eq dir top) (ap (onward steps names top) goes.1 ∙ goes.2)
    where
      by : (b : Bool) → onward steps names top (first_of names dir) ≡ true
          → cond b true (onward steps names top (first_of names dir)) ≡ true
      by true rest = refl
      by false rest = rest

  -- a way ends here or goes on
  split : (steps : ℕ) (names : List Named) (dir : ℕ) → Within (suc steps) names top dir
      → (nat_eq dir top ≡ true) ⊎ ((nat_eq dir top ≡ false) × Goes steps names dir)
  split steps names dir within = by (nat_eq dir top) refl (first_of names dir) refl within
    where
      by : (b : Bool) → nat_eq dir top ≡ b → (o : Option Named) → first_of names dir ≡ o
          → cond b true (onward steps names top o) ≡ true → (nat_eq dir top ≡ true)
          ⊎ ((nat_eq dir top ≡ false) × Goes steps names dir)
      by true e o at rest = inl e
      by false e None at rest = absurd (true≢false (sym rest))
      by false e (Some n) at rest = inr (e, (n, at, rest))

  -- one more step does no harm
  more : (steps : ℕ) (names : List Named) (dir : ℕ) → Within steps names top dir → Within (suc steps) names top dir
  more zero names dir within = here 1 names dir within
  more (suc steps) names dir within = elim (split steps names dir within) [
    | inl e ↦ here (suc (suc steps)) names dir e
    | inr goes ↦ up (suc steps) names dir (goes.1.0, goes.1.1, more steps names goes.1.0.directory goes.1.2)
  ]

  -- the first name of a file, where another file's names are gone
  kept_first : (names : List Named) (file dir : ℕ) → nat_eq dir file ≡ false
      → first_of (others names file) dir ≡ first_of names dir
  kept_first names file dir apart = find-kept (λ n. nat_eq n.file dir) (λ n. nat_eq n.file file)
      (λ n passes. grind (arith, nat_tests, passes, apart)) names

  was_first : (names : List Named) (file dir : ℕ) (n : Named) → first_of (others names file) dir ≡ Some n
      → first_of names dir ≡ Some n
  was_first names file dir n at = by (nat_eq dir file) refl
    where
      none_some : None ≡ Some n → ⊥
      none_some e = cc

      by : (b : Bool) → nat_eq dir file ≡ b → first_of names dir ≡ Some n
      by true e =
          let same = same_number dir file e in
          absurd (none_some (sym (find-gone (λ m. nat_eq m.file dir) names) ∙ subst
          (λ f. first_of (others names f) dir ≡ Some n) (sym same) at))
      by false e = sym (kept_first names file dir e) ∙ at

  -- a way among fewer names is one among all
  regain : (steps : ℕ) (names : List Named) (file dir : ℕ) → Within steps (others names file) top dir
      → Within steps names top dir
  regain zero names file dir within = within
  regain (suc steps) names file dir within = elim (split steps (others names file) dir within) [
    | inl e ↦ here (suc steps) names dir e
    | inr goes ↦ up steps names dir (
      goes.1.0,
      was_first names file dir goes.1.0 goes.1.1,
      regain steps names file goes.1.0.directory goes.1.2,
    )
  ]

  -- a way leads past the names of a file, or on from that file
  avoid : (steps : ℕ) (names : List Named) (file dir : ℕ) → Within steps names top dir
      → Within steps (others names file) top dir ⊎ Within steps names top file
  avoid zero names file dir within = inl within
  avoid (suc steps) names file dir within = elim (split steps names dir within) [
    | inl e ↦ inl (here (suc steps) (others names file) dir e)
    | inr goes ↦ past (nat_eq dir file) refl goes.1 (avoid steps names file goes.1.0.directory goes.1.2)
  ]
    where
      past : (b : Bool) → nat_eq dir file ≡ b → (goes : Goes steps names dir)
          → Within steps (others names file) top goes.0.directory ⊎ Within steps names top file
          → Within (suc steps) (others names file) top dir ⊎ Within (suc steps) names top file
      past true e goes rest = inr (subst (Within (suc steps) names top) (same_number dir file e) within)
      past false e goes (inl h) = inl (up steps (others names file) dir
          (goes.0, kept_first names file dir e ∙ goes.1, h))
      past false e goes (inr h) = inr (more steps names file h)

  -- no way needs more steps than there are names
  abbrev Short : ℕ → Type 0
  Short size = (steps : ℕ) (names : List Named) (dir : ℕ) → length names ≤ size → Within steps names top dir
      → Within size names top dir

  shorter : (size : ℕ) → Short size → Short (suc size)
  shorter size short zero names dir few within = here (suc size) names dir within
  shorter size short (suc steps) names dir few within = elim (split steps names dir within) [
    | inl e ↦ here (suc size) names dir e
    | inr goes ↦ elim (avoid steps names dir goes.1.0.directory goes.1.2) [
      | inl h ↦
          let fewer = length-without (λ m. nat_eq m.file dir) names goes.1.0 goes.1.1 in
          let less : length (others names dir) ≤ size = omega (arith, fewer, few) in
          up size names dir (
            goes.1.0,
            goes.1.1,
            regain size names dir goes.1.0.directory
                (short steps (others names dir) goes.1.0.directory less h),
          )
      | inr h ↦ shorter size short steps names dir few h
    ]
  ]

  none_left : Short zero
  none_left zero names dir few within = within
  none_left (suc steps) [] dir few within = elim (split steps [] dir within) [
    | inl e ↦ e
    | inr goes ↦ absurd
        (cc (goes.1.1))
  ]
  none_left (suc steps) (n ∷ names) dir few within = absurd (omega (arith, few))

  short : (size : ℕ) → Short size
  short zero = none_left
  short (suc size) = shorter size (short size)

module _ (tree : Tree) (top : ℕ) where
  -- this many steps up follow parents
  leads : (steps dir : ℕ) → Within steps tree.names top dir → IsBelow tree top dir
  leads zero dir within = is_top dir (same_number dir top within)
  leads (suc steps) dir within = elim (split top steps tree.names dir within) [
    | inl e ↦ is_top dir (same_number dir top e)
    | inr goes ↦
        let n = goes.1.0 in
        is_in n dir (found_there (λ m. nat_eq m.file dir) tree.names n goes.1.1)
        (same_number n.file dir (found_passes (λ m. nat_eq m.file dir) tree.names n goes.1.1))
        (leads steps n.directory goes.1.2)
  ]

  module _ (shaped : IsShaped tree) where
    -- a directory has no other name
    first_is : (n : Named) (dir : ℕ) → Contains tree.names n → n.file ≡ dir → is_directory tree dir ≡ true
        → first_of tree.names dir ≡ Some n
    first_is n dir there at directory = by (first_of tree.names dir) refl
      where
        by : (o : Option Named) → first_of tree.names dir ≡ o → o ≡ Some n
        by None none = absurd (true≢false (sym (eq-eqb n.file dir at) ∙ All-contains
            (λ m. nat_eq m.file dir ≡ false) tree.names n (none_passes (λ m. nat_eq m.file dir) tree.names none) there))
        by (Some m) found =
            let one = only_one (λ k. nat_eq k.file dir) tree.names m (shaped.one_name dir directory) found in
            ap Some (sym (All-contains (λ k. nat_eq k.file dir ≡ true → k ≡ m) tree.names n one there
            (eq-eqb n.file dir at)))

    -- the parents of a directory are followed by some steps up
    steps_up : (dir : ℕ) → IsBelow tree top dir → is_directory tree dir ≡ true
        → (steps : ℕ) × Within steps tree.names top dir
    steps_up dir (is_top _ at) directory = (0, eq-eqb dir top at)
    steps_up dir (is_in n _ there at below) directory =
        let stands = All-contains (IsInTree tree) tree.names n shaped.names there in
        let rest = steps_up n.directory below stands.directory in
        (suc rest.0, up top rest.0 tree.names dir (n, first_is n dir there at directory, rest.1))

    pub below_exactly : (dir : ℕ) → is_directory tree dir ≡ true → (is_below tree top dir ≡ true) ↔ IsBelow tree top dir
    below_exactly dir directory = (
      leads (length tree.names) dir,
      λ below. let way = steps_up dir below directory in
          short top (length tree.names) way.0 tree.names dir (omega arith) way.1,
    )

-- ---- a rename into the moved directory or below it

-- what a rename is refused for after it
abbrev replacing : Tree → Option ℕ → Option ℕ → List Check
replacing tree moved there =
    (replaces moved there && (is_dir tree moved && is_file tree there), enotdir) ∷
    (replaces moved there && (is_file tree moved && is_dir tree there), eisdir) ∷
    (replaces moved there && is_filled tree there, enotempty) ∷ []

other_error : (a b : ℕ) → nat_eq a b ≡ false → Some a ≡ Some b → ⊥
other_error a b apart e = let same : a ≡ b = cc in true≢false (sym (eq-eqb a b same) ∙ apart)

other_errors : (a b c : Bool) → first_refusal ((a, enotdir) ∷ (b, eisdir) ∷ (c, enotempty) ∷ []) ≡ Some einval → ⊥
other_errors true b c e = other_error enotdir einval refl e
other_errors false true c e = other_error eisdir einval refl e
other_errors false false true e = other_error enotempty einval refl e
other_errors false false false e = absurd (cc)

module _ (tree : Tree) (shaped : IsShaped tree) (from to moved : ℕ) (old new : Name)
    (from_is : is_directory tree from ≡ true) (to_is : is_directory tree to ≡ true)
    (at : file_at tree from old ≡ Some moved) (named : is_nameless tree to ≡ false) where
  comes_to : refusal tree (rename from old to new)
      ≡ cond (is_directory tree moved && is_below tree moved to) (Some einval)
      (first_refusal (replacing tree (Some moved) (file_at tree to new)))
  comes_to = rw (from_is, to_is, at, named) refl

  pub refused_below : (refusal tree (rename from old to new) ≡ Some einval) ↔
      ((is_directory tree moved ≡ true) × IsBelow tree moved to)
  refused_below = (
    λ refused. into (is_directory tree moved) refl (is_below tree moved to) refl (sym comes_to ∙ refused),
    λ below. comes_to ∙ rw (below.0, (below_exactly tree moved shaped to to_is).1 below.1) refl,
  )
    where
      into : (b : Bool) → is_directory tree moved ≡ b → (c : Bool) → is_below tree moved to ≡ c
          → cond (b && c) (Some einval) (first_refusal (replacing tree (Some moved) (file_at tree to new)))
          ≡ Some einval → (is_directory tree moved ≡ true) × IsBelow tree moved to
      into true d true e refused = (d, (below_exactly tree moved shaped to to_is).0 e)
      into true d false e refused = absurd (other_errors _ _ _ refused)
      into false d c e refused = absurd (other_errors _ _ _ refused)
