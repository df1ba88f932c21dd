-- What is true of every tree stays true.
use Rattle.std.proofs.Common.{◌≡◌, ◌≢◌, ℕ, ◌+◌, ◌≤◌, Bool, true, false, true≢false, not, cond, ◌&&◌, List, Option, Some, None, IsSome, is_some, nat_eq, filter, count_by, refl, ap, sym, subst, ◌∙◌, arith, All, inl, inr, eq-eqb}
use Rattle.std.proofs.lemmas.Bool.{cases_eq}
use Rattle.std.proofs.lemmas.Bool.Decides.{nat_tests}
use Rattle.std.proofs.lemmas.List.Sums.{length-filter}
use Rattle.std.proofs.lemmas.List.Elements.{All-nil, All-push, All-filter, All-contains}
use Rattle.std.specs.FinMap.{nat_cmp-IsAntisymmetric}
use Rattle.std.specs.FinMap.Entries.{find-where_key}
use Rattle.std.specs.Ordering.{nat_cmp}
use Rattle.fuse_spec.specs.Values.Maps.{Map, get, put, remove}
use Rattle.fuse_spec.specs.Calls.Paths.{Name}
use Rattle.fuse_spec.specs.declared.Kind.TheVariants.{Regular}
use Rattle.fuse_spec.specs.Files.Trees.{Tree, Named, Content, a_directory, a_file, is_at, same_name, kind_of, is_kind_directory, is_directory, is_nameless, is_empty, with_name}
use Rattle.fuse_spec.specs.Files.TreeShape.{IsShaped, IsInTree, names_leading_to}
use Rattle.fuse_spec.proofs.Tables.{tie_no, get_put_here, get_put_there, get_gone_there, get_gone}
use Rattle.fuse_spec.proofs.QueueCounts.{count_by-push}
use Rattle.fs_tree.specs.Outcomes.{discarded, only_root, without_nameless}
use Rattle.fs_tree.proofs.ByCookie.{same_name-equal}
use Rattle.fs_tree.proofs.Counting.{found_passes, found_there, none_counted, each_counted, one_found, count_where}

pub same_number : (a b : ℕ) → nat_eq a b ≡ true → a ≡ b
same_number a b e = grind (arith, nat_tests, e)

pub other_number : (a b : ℕ) → a ≢ b → nat_eq a b ≡ false
other_number a b apart = by (nat_eq a b) refl
  where
    by : (c : Bool) → nat_eq a b ≡ c → c ≡ false
    by true e = absurd (apart (same_number a b e))
    by false e = refl

-- ---- trees, apart from whether their directories have names

-- The name stands in a directory of the tree, and leads to a file of the tree that is not the root.
abbrev pub Lies : Tree → Named → Type 0
Lies tree n = (is_directory tree n.directory ≡ true) × IsSome (get tree.files n.file) × (n.file ≢ 0)

-- The directory of the name is not nameless.
abbrev pub IsInNamed : Tree → Named → Type 0
IsInNamed tree n = is_nameless tree n.directory ≡ false

-- What is true of every tree, but that no name is in a nameless directory.
pub record Sound (tree : Tree) : Type 0 where
  pub root : is_directory tree 0 ≡ true
  pub one_name : (file : ℕ) → is_directory tree file ≡ true → names_leading_to tree file ≤ 1
  pub names : All (Lies tree) tree.names
  pub once : (directory : ℕ) (name : Name) → count_by (is_at directory name) tree.names ≤ 1
  pub unborn : (file : ℕ) → tree.next_inode ≤ file → get tree.files file ≡ None

pub sound : (tree : Tree) → IsShaped tree → Sound tree
sound tree shaped = record {
  root = shaped.root;
  one_name = shaped.one_name;
  names = λ i d lt. let n = shaped.names i d lt in (n.directory, n.file, n.not_root);
  once = shaped.once;
  unborn = shaped.unborn;
}

pub whole : (tree : Tree) → Sound tree → All (IsInNamed tree) tree.names → IsShaped tree
whole tree s named = record {
  root = s.root;
  one_name = s.one_name;
  names = λ i d lt. let n = s.names i d lt in record {
    directory = n.0;
    named = named i d lt;
    file = n.1;
    not_root = n.2;
  };
  once = s.once;
  unborn = s.unborn;
}

-- some names less
pub fewer : (tree : Tree) (q : Named → Bool) → Sound tree → Sound (record tree { names = filter q tree.names })
fewer tree q s = record {
  root = s.root;
  one_name = λ file is. let few = count_where (λ n. nat_eq n.file file) q tree.names in let one =
      s.one_name file is in omega (arith, few, one);
  names = All-filter q (Lies tree) tree.names s.names;
  once = λ d name. let few = count_where (is_at d name) q tree.names in let one =
      s.once d name in omega (arith, few, one);
  unborn = s.unborn;
}

pub both_true : (a b : Bool) → (a && b) ≡ true → (a ≡ true) × (b ≡ true)
both_true true b e = (refl, e)
both_true false b e = absurd (cc)

-- one name more, where none stands, of a file that is no directory with a name
module _ (tree : Tree) (s : Sound tree) (d : ℕ) (name : Name) (file : ℕ) (is_dir : is_directory tree d ≡ true)
    (there : IsSome (get tree.files file)) (other : file ≢ 0)
    (free_file : is_directory tree file ≡ true → names_leading_to tree file ≡ 0)
    (free : count_by (is_at d name) tree.names ≡ 0) where
  one_name_more : (x : ℕ) → is_directory tree x ≡ true → names_leading_to (with_name tree d name file) x ≤ 1
  one_name_more x is = by (nat_eq file x) refl
    where
      counted : names_leading_to (with_name tree d name file) x ≡ names_leading_to tree x + cond (nat_eq file x) 1 0
      counted = count_by-push (λ n. nat_eq n.file x) tree.names
          (record { directory = d; name = name; file = file; cookie = tree.next_cookie })

      by : (b : Bool) → nat_eq file x ≡ b → names_leading_to (with_name tree d name file) x ≤ 1
      by true e =
          let same = same_number file x e in
          let none : names_leading_to tree x ≡ 0 = subst (λ y. names_leading_to tree y ≡ 0) same
          (free_file (subst (λ y. is_directory tree y ≡ true) (sym same) is)) in
          rw (counted, e) (omega (arith, none))
      by false e = let one = s.one_name x is in rw (counted, e) (omega (arith, one))

  once_more : (e : ℕ) (other_name : Name) → count_by (is_at e other_name) (with_name tree d name file).names ≤ 1
  once_more e other_name = by (nat_eq d e && same_name name other_name) refl
    where
      counted : count_by (is_at e other_name) (with_name tree d name file).names
          ≡ count_by (is_at e other_name) tree.names + cond (nat_eq d e && same_name name other_name) 1 0
      counted = count_by-push (is_at e other_name) tree.names
          (record { directory = d; name = name; file = file; cookie = tree.next_cookie })

      by : (b : Bool) → (nat_eq d e && same_name name other_name) ≡ b
          → count_by (is_at e other_name) (with_name tree d name file).names ≤ 1
      by true at =
          let both = both_true _ _ at in
          let place = same_number d e both.0 in
          let text = same_name-equal name other_name both.1 in
          let none : count_by (is_at e other_name) tree.names ≡ 0 =
          subst (λ (x : ℕ). count_by (is_at x other_name) tree.names ≡ 0) place
          (subst (λ (x : Name). count_by (is_at d x) tree.names ≡ 0) text free) in
          rw (counted, at) (omega (arith, none))
      by false at = let one = s.once e other_name in rw (counted, at) (omega (arith, one))

  pub one_more : Sound (with_name tree d name file)
  one_more = record {
    root = s.root;
    one_name = one_name_more;
    names = All-push (Lies tree) tree.names (record {
      directory = d;
      name = name;
      file = file;
      cookie = tree.next_cookie;
    }) s.names (is_dir, there, other);
    once = once_more;
    unborn = s.unborn;
  }

-- ---- files that have names

-- a file with as many names or more is named as before
pub still_named : (tree after : Tree) (x : ℕ) → names_leading_to tree x ≤ names_leading_to after x → is_nameless tree x ≡ false
    → is_nameless after x ≡ false
still_named tree after x le named = by (nat_eq x 0) named
  where
    by : (b : Bool) → nat_eq (cond b 1 (names_leading_to tree x)) 0 ≡ false → nat_eq (cond b 1 (names_leading_to after x)) 0 ≡ false
    by true e = refl
    by false e = grind (arith, nat_tests, le, e)

pub has_name : (tree : Tree) (x : ℕ) → 1 ≤ names_leading_to tree x → is_nameless tree x ≡ false
has_name tree x some = by (nat_eq x 0)
  where
    by : (b : Bool) → nat_eq (cond b 1 (names_leading_to tree x)) 0 ≡ false
    by true = refl
    by false = grind (arith, nat_tests, some)

nameless_none : (tree : Tree) (x : ℕ) → is_nameless tree x ≡ true → names_leading_to tree x ≡ 0
nameless_none tree x e = by (nat_eq x 0) e
  where
    by : (b : Bool) → nat_eq (cond b 1 (names_leading_to tree x)) 0 ≡ true → names_leading_to tree x ≡ 0
    by true e = absurd (cc)
    by false e = same_number _ _ e

-- the file of each name is named
pub each_named : (tree : Tree) → All (λ n. is_nameless tree n.file ≡ false) tree.names
each_named tree i d lt = has_name tree _ (each_counted (λ m. nat_eq m.file _) tree.names i d lt (eq-eqb _ _ refl))

module _ (tree : Tree) (shaped : IsShaped tree) where
  -- no name is in a nameless directory
  pub nameless_empty : (file : ℕ) → is_nameless tree file ≡ true → is_empty tree file ≡ true
  nameless_empty file nameless = rw (
    length-filter (λ n. nat_eq n.directory file) tree.names,
    none_counted (λ n. nat_eq n.directory file) tree.names none,
  ) refl
    where
      none : All (λ n. nat_eq n.directory file ≡ false) tree.names
      none i d lt = other_number _ file (λ same. true≢false
          (sym nameless ∙ subst (λ x. is_nameless tree x ≡ false) same (shaped.names i d lt).named))

-- ---- other files

-- the files change, and those that are named are directories as before
module _ (tree : Tree) (shaped : IsShaped tree) (files : Map Content) (inodes : ℕ)
    (same : (x : ℕ) → is_nameless tree x ≡ false → (is_some (get files x) ≡ is_some (get tree.files x))
    × (is_kind_directory (kind_of (get files x)) ≡ is_directory tree x))
    (free : (x : ℕ) → inodes ≤ x → get files x ≡ None) where
  pub refiled : IsShaped (record tree { files = files; next_inode = inodes })
  refiled = record {
    root = (same 0 refl).1 ∙ shaped.root;
    one_name = λ x is. by x is (is_nameless tree x) refl;
    names = λ i d lt.
        let n = shaped.names i d lt in
        let there = (same _ (each_named tree i d lt)).0 in
        record {
          directory = (same _ n.named).1 ∙ n.directory;
          named = n.named;
          file = there ∙ n.file;
          not_root = n.not_root;
        };
    once = shaped.once;
    unborn = free;
  }
    where
      by : (x : ℕ) → is_kind_directory (kind_of (get files x)) ≡ true → (b : Bool) → is_nameless tree x ≡ b
          → names_leading_to tree x ≤ 1
      by x is true e = let none = nameless_none tree x e in omega (arith, none)
      by x is false e = shaped.one_name x (sym (same x e).1 ∙ is)

-- what is said of the file at a key, where the look-up is the same
same_here : (files was : Map Content) (x : ℕ) → get files x ≡ get was x
    → (is_some (get files x) ≡ is_some (get was x)) ×
    (is_kind_directory (kind_of (get files x)) ≡ is_kind_directory (kind_of (get was x)))
same_here files was x e = (ap is_some e, ap (λ (o : Option Content). is_kind_directory (kind_of o)) e)

none_some : (o : Option Content) → o ≡ None → IsSome o → ⊥
none_some None e there = absurd (cc)
none_some (Some c) e there = absurd (cc)

none_left : (b : Bool) (o : Option Content) → o ≡ None → cond b o None ≡ None
none_left true o e = e
none_left false o e = refl

pub directory_there : (o : Option Content) → is_kind_directory (kind_of o) ≡ true → IsSome o
directory_there None is = absurd (cc)
directory_there (Some c) is = refl

module _ (tree : Tree) (shaped : IsShaped tree) where
  -- a file that is there was born
  born : (x : ℕ) → IsSome (get tree.files x) → x ≢ tree.next_inode
  born x there e = none_some (get tree.files x) (shaped.unborn x (omega (arith, e))) there

  -- a file that is named is there
  pub named_there : (x : ℕ) → is_nameless tree x ≡ false → IsSome (get tree.files x)
  named_there x named = by (nat_eq x 0) refl named
    where
      by : (b : Bool) → nat_eq x 0 ≡ b → nat_eq (cond b 1 (names_leading_to tree x)) 0 ≡ false → IsSome (get tree.files x)
      by true e h = subst (λ y. IsSome (get tree.files y)) (sym (same_number x 0 e))
          (directory_there (get tree.files 0) shaped.root)
      by false e h =
          let some : 1 ≤ names_leading_to tree x = grind (arith, nat_tests, h) in
          let found = one_found (λ n. nat_eq n.file x) tree.names some in
          let stands = All-contains (IsInTree tree) tree.names found.0 shaped.names
          (found_there (λ n. nat_eq n.file x) tree.names found.0 found.1) in
          subst (λ y. IsSome (get tree.files y)) (same_number found.0.file x
          (found_passes (λ n. nat_eq n.file x) tree.names found.0 found.1)) stands.file

  -- the coming file has no name
  pub coming_nameless : names_leading_to tree tree.next_inode ≡ 0
  coming_nameless = none_counted (λ n. nat_eq n.file tree.next_inode) tree.names
      (λ i d lt. other_number _ tree.next_inode (born _ (shaped.names i d lt).file))

  -- one file more
  pub with_file : (content : Content) → IsShaped (record tree {
    files = put tree.files tree.next_inode content;
    next_inode = tree.next_inode + 1;
  })
  with_file content =
      refiled tree shaped (put tree.files tree.next_inode content) (tree.next_inode + 1)
      (λ x named. same_here (put tree.files tree.next_inode content) tree.files x
      (get_put_there tree.files tree.next_inode content x (born x (named_there x named))))
      (λ x le. get_put_there tree.files tree.next_inode content x
      (λ e. absurd (omega (arith, le, e))) ∙ shaped.unborn x (omega (arith, le)))

  -- a named file is a directory as before
  pub still_directory : (content : Content) (x : ℕ) → is_nameless tree x ≡ false
      → is_kind_directory (kind_of (get (put tree.files tree.next_inode content) x)) ≡ is_directory tree x
  still_directory content x named = (same_here (put tree.files tree.next_inode content) tree.files x
      (get_put_there tree.files tree.next_inode content x (born x (named_there x named)))).1

  -- other bytes in a regular file
  pub with_bytes : (file : ℕ) (bytes : List ℕ) → kind_of (get tree.files file) ≡ Regular
      → IsShaped (record tree { files = put tree.files file (a_file bytes) })
  with_bytes file bytes regular = refiled tree shaped (put tree.files file (a_file bytes)) tree.next_inode
      (λ x named. same x) free
    where
      there : (o : Option Content) → kind_of o ≡ Regular → (true ≡ is_some o) × (false ≡ is_kind_directory (kind_of o))
      there None e = absurd (cc)
      there (Some c) e = (refl, sym (ap is_kind_directory e))

      same : (x : ℕ) → (is_some (get (put tree.files file (a_file bytes)) x) ≡ is_some (get tree.files x))
          × (is_kind_directory (kind_of (get (put tree.files file (a_file bytes)) x)) ≡ is_directory tree x)
      same x = elim (cases_eq x file) [
        | inl e ↦
            let now = ap (get (put tree.files file (a_file bytes))) e ∙ get_put_here tree.files file (a_file bytes) in
            let was = there (get tree.files x) (ap (λ y. kind_of (get tree.files y)) e ∙ regular) in
            (ap is_some now ∙ was.0, ap (λ (o : Option Content). is_kind_directory (kind_of o)) now ∙ was.1)
        | inr ne ↦ same_here (put tree.files file (a_file bytes)) tree.files x
            (get_put_there tree.files file (a_file bytes) x ne)
      ]

      free : (x : ℕ) → tree.next_inode ≤ x → get (put tree.files file (a_file bytes)) x ≡ None
      free x le = elim (cases_eq x file) [
        | inl e ↦ let none = shaped.unborn x le in absurd
            (none_some (get tree.files x) none (sym (there (get tree.files x)
            (ap (λ y. kind_of (get tree.files y)) e ∙ regular)).0))
        | inr ne ↦ get_put_there tree.files file (a_file bytes) x ne ∙ shaped.unborn x le
      ]

  -- a nameless file less
  pub without_nameless_file : (file : ℕ) → is_nameless tree file ≡ true
      → IsShaped (record tree { files = remove tree.files file })
  without_nameless_file file nameless =
      refiled tree shaped (remove tree.files file) tree.next_inode
      (λ x named. same_here (remove tree.files file) tree.files x
      (get_gone_there tree.files file x (λ same. true≢false
      (sym nameless ∙ subst (λ y. is_nameless tree y ≡ false) same named))))
      (λ x le. get_gone tree.files file x ∙ none_left (not (nat_eq x file)) (get tree.files x) (shaped.unborn x le))

  pub without_file : (file : ℕ) → IsShaped (discarded tree file)
  without_file file = by (is_nameless tree file) refl
    where
      by : (b : Bool) → is_nameless tree file ≡ b → IsShaped
          (record tree { files = cond b (remove tree.files file) tree.files })
      by true e = without_nameless_file file e
      by false e = shaped

  -- all nameless files less
  pub without_files : IsShaped (without_nameless tree)
  without_files = refiled tree shaped left tree.next_inode
      (λ x named. same_here left tree.files x (left_is x ∙ ap (λ b. cond (not b) (get tree.files x) None) named))
      (λ x le. left_is x ∙ none_left (not (is_nameless tree x)) (get tree.files x) (shaped.unborn x le))
    where
      left : Map Content
      left = filter (λ e. not (is_nameless tree e.0)) tree.files

      left_is : (x : ℕ) → get left x ≡ cond (not (is_nameless tree x)) (get tree.files x) None
      left_is x = find-where_key nat_cmp (λ y. not (is_nameless tree y)) x
          (λ y t. ap (λ z. not (is_nameless tree z)) (sym (nat_cmp-IsAntisymmetric x y t))) tree.files

-- the tree with the root alone
pub root_shaped : IsShaped only_root
root_shaped = record {
  root = refl;
  one_name = λ file is. omega arith;
  names = All-nil (IsInTree only_root);
  once = λ d name. omega arith;
  unborn = λ file le. ap (λ b. cond b (Some a_directory) None) (tie_no file 0 (λ z. absurd (omega (arith, le, z))));
}
