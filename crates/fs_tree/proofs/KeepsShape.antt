-- Each operation keeps what is true of every tree.
use Rattle.std.proofs.Common.{◌≡◌, ◌≢◌, ℕ, ◌+◌, ◌≤◌, ◌<◌, Bool, true, false, true≢false, not, cond, ◌&&◌, List, [], ◌∷◌, Option, Some, None, IsSome, is_some, nat_eq, nat_le, find, filter, length, count_by, option_map, refl, ap, sym, subst, ◌∙◌, arith, All, Contains, ◌⊎◌, inl, inr, eq-eqb}
use Rattle.std.proofs.lemmas.Bool.Decides.{nat_tests}
use Rattle.std.proofs.lemmas.List.Elements.{All-push, All-filter, All-contains, All-contains_itself}
use Rattle.std.proofs.lemmas.List.Sums.{length-filter}
use Rattle.fuse_spec.specs.Values.Maps.{get, put}
use Rattle.fuse_spec.specs.Values.Numbers.{eperm, enoent, eexist, enotdir, eisdir, einval, enospc, enotempty, max_names}
use Rattle.fuse_spec.specs.Calls.Paths.{Name}
use Rattle.fuse_spec.specs.Files.Operations.{lookup, getattr, mkdir, create, unlink, rmdir, rename, link, opening, readdir, readdirplus, read, write}
use Rattle.fuse_spec.specs.Files.Trees.{Tree, Named, Content, a_directory, a_file, is_at, file_at, file_bytes, overwritten, is_directory, is_nameless, is_empty, with_name, without_name, with_inode}
use Rattle.fuse_spec.specs.Files.FileOperations.{FileOperation, Check, first_refusal, refusal, making, is_dir, is_file, is_filled, is_same, is_moved_below, replaces, renamed, tree_or, tree_unrefused, tree_after}
use Rattle.fuse_spec.specs.Files.TreeShape.{IsShaped, IsInTree, WritesRegular, names_leading_to}
use Rattle.fuse_spec.proofs.Tables.{get_put_here}
use Rattle.fuse_spec.proofs.QueueCounts.{count_by-push}
use Rattle.fs_tree.proofs.Counting.{found_passes, found_there, none_passes, none_counted, each_fails, only_one, count_where, count_kept, count_fewer, all_gone}
use Rattle.fs_tree.proofs.Shaping.{Sound, Lies, IsInNamed, sound, whole, fewer, one_more, still_named, has_name, named_there, coming_nameless, with_file, with_bytes, still_directory, directory_there, both_true, same_number, other_number}

-- the first check does not refuse, nor do the others
abbrev Passes : Check → List Check → Type 0
Passes check rest = (check.0 ≡ false) × (first_refusal rest ≡ None)

passes : (check : Check) (rest : List Check) → first_refusal (check ∷ rest) ≡ None → Passes check rest
passes check rest free = by check.0 free
  where
    by : (b : Bool) → cond b (Some check.1) (first_refusal rest) ≡ None → (b ≡ false) × (first_refusal rest ≡ None)
    by true f = absurd (cc)
    by false f = (refl, f)

is_true : (b : Bool) → not b ≡ false → b ≡ true
is_true true e = refl
is_true false e = absurd (cc)

found_at : (o : Option ℕ) → not (is_some o) ≡ false → (file : ℕ) × (o ≡ Some file)
found_at None e = absurd (cc)
found_at (Some file) e = (file, refl)

none_at : (o : Option Named) → is_some (option_map (λ n. n.file) o) ≡ false → o ≡ None
none_at None e = refl
none_at (Some n) e = absurd (cc)

-- the name that leads to a file
name_at : (o : Option Named) (file : ℕ) → option_map (λ n. n.file) o ≡ Some file
    → (n : Named) × (o ≡ Some n) × (n.file ≡ file)
name_at None file at = absurd (cc)
name_at (Some n) file at = (n, refl, cc)

-- ---- names that come

module _ (tree : Tree) (shaped : IsShaped tree) (d : ℕ) (name : Name) (is_dir : is_directory tree d ≡ true)
    (named : is_nameless tree d ≡ false) (absent : is_some (file_at tree d name) ≡ false) where
  no_name : count_by (is_at d name) tree.names ≡ 0
  no_name = none_counted (is_at d name) tree.names
      (none_passes (is_at d name) tree.names (none_at (find (is_at d name) tree.names) absent))

  -- a name more
  named_once : (file : ℕ) → IsSome (get tree.files file) → file ≢ 0
      → (is_directory tree file ≡ true → names_leading_to tree file ≡ 0) → IsShaped (with_name tree d name file)
  named_once file there other free = whole after (one_more tree
      (sound tree shaped) d name file is_dir there other free no_name)
      (All-push (IsInNamed after) tree.names new olds (still d named))
    where
      after : Tree
      after = with_name tree d name file

      new : Named
      new = record { directory = d; name = name; file = file; cookie = tree.next_cookie }

      still : (x : ℕ) → is_nameless tree x ≡ false → is_nameless after x ≡ false
      still x h = let counted = count_by-push (λ n. nat_eq n.file x) tree.names new in
          still_named tree after x (omega (arith, counted)) h

      olds : All (IsInNamed after) tree.names
      olds i e lt = still _ (shaped.names i e lt).named

-- a file more
made : (tree : Tree) → IsShaped tree → (d : ℕ) (name : Name) (content : Content) → is_directory tree d ≡ true
    → is_nameless tree d ≡ false → is_some (file_at tree d name) ≡ false → IsShaped (with_inode tree d name content)
made tree shaped d name content is_dir named absent =
    named_once grown kept d name is_dir_still named absent tree.next_inode
    (rw (get_put_here tree.files tree.next_inode content) refl)
    (λ e. true≢false (sym (is_some_root (get tree.files 0)
    (directory_there (get tree.files 0) shaped.root)) ∙ ap is_some (shaped.unborn 0 (omega (arith, e)))))
    (λ is. coming_nameless tree shaped)
  where
    grown : Tree
    grown = record tree { files = put tree.files tree.next_inode content; next_inode = tree.next_inode + 1 }

    kept : IsShaped grown
    kept = with_file tree shaped content

    is_some_root : (o : Option Content) → IsSome o → is_some o ≡ true
    is_some_root o there = there

    is_dir_still : is_directory grown d ≡ true
    is_dir_still = still_directory tree shaped content d named ∙ is_dir

-- ---- names that go

module _ (tree : Tree) (shaped : IsShaped tree) (d : ℕ) (name : Name) where
  -- no name at this place is of the file
  abbrev pub Apart : ℕ → Type 0
  Apart x = All (λ n. is_at d name n ≡ true → nat_eq n.file x ≡ false) tree.names

  pub apart_from : (file x : ℕ) → file_at tree d name ≡ Some file → x ≢ file → Apart x
  apart_from file x at other =
      let found = name_at (find (is_at d name) tree.names) file at in
      λ i e lt here.
      let same = only_one (is_at d name) tree.names found.0 (shaped.once d name) found.1 i e lt here in
      other_number _ x (λ is. other (sym is ∙ ap (λ n. n.file) same ∙ found.2))

  pub apart_where : (x : ℕ) → find (is_at d name) tree.names ≡ None → Apart x
  apart_where x none = λ i e lt here. absurd (true≢false (sym here ∙ none_passes (is_at d name) tree.names none i e lt))

  -- the name of a file goes in which there is none
  unnamed : (file : ℕ) → file_at tree d name ≡ Some file → All (λ n. n.directory ≢ file) tree.names
      → IsShaped (without_name tree d name)
  unnamed file at empty = whole after (fewer tree (λ n. not (is_at d name n)) (sound tree shaped))
      (All-filter (λ n. not (is_at d name n)) (IsInNamed after) tree.names still)
    where
      after : Tree
      after = without_name tree d name

      still_of : (x : ℕ) → x ≢ file → is_nameless tree x ≡ false → is_nameless after x ≡ false
      still_of x other h =
          let kept = count_kept (λ n. nat_eq n.file x) (is_at d name) tree.names (apart_from file x at other) in
          let le : names_leading_to tree x ≤ names_leading_to after x = omega (arith, kept) in
          still_named tree after x le h

      still : All (IsInNamed after) tree.names
      still i e lt = still_of _ (empty i e lt) (shaped.names i e lt).named

-- no name is in a directory that is empty, nor in a file that is no directory
none_in : (tree : Tree) (dir : ℕ) → is_empty tree dir ≡ true → All (λ n. n.directory ≢ dir) tree.names
none_in tree dir empty =
    let none : length (filter (λ n. nat_eq n.directory dir) tree.names) ≡ 0 = same_number _ _ empty in
    let counted = length-filter (λ n. nat_eq n.directory dir) tree.names in
    λ i e lt same. true≢false (sym (eq-eqb _ dir same) ∙ each_fails (λ n. nat_eq n.directory dir) tree.names
    (sym counted ∙ none) i e lt)

none_in_file : (tree : Tree) → IsShaped tree → (file : ℕ) → is_directory tree file ≡ false
    → All (λ n. n.directory ≢ file) tree.names
none_in_file tree shaped file is i e lt same = true≢false
    (sym (shaped.names i e lt).directory ∙ ap (is_directory tree) same ∙ is)

-- ---- names that move

module _ (tree : Tree) (shaped : IsShaped tree) (d : ℕ) (old : Name) (e : ℕ) (new : Name) (file : ℕ)
    (at : file_at tree d old ≡ Some file) (is_dir : is_directory tree e ≡ true)
    (named : is_nameless tree e ≡ false) where
  abbrev once : Tree
  once = without_name tree d old

  abbrev gone : Tree
  gone = without_name once e new

  abbrev after : Tree
  after = with_name gone e new file

  abbrev row : Named
  row = record { directory = e; name = new; file = file; cookie = tree.next_cookie }

  moved_name : (n : Named) × (find (is_at d old) tree.names ≡ Some n) × (n.file ≡ file)
  moved_name = name_at (find (is_at d old) tree.names) file at

  moved_lies : Lies tree moved_name.0
  moved_lies = let n = All-contains (IsInTree tree) tree.names moved_name.0 shaped.names
      (found_there (is_at d old) tree.names moved_name.0 moved_name.1) in (n.directory, n.file, n.not_root)

  -- a directory that moves has no other name
  nameless_between : is_directory tree file ≡ true → names_leading_to gone file ≡ 0
  nameless_between is =
      let one = shaped.one_name file is in
      let less = count_fewer (λ n. nat_eq n.file file) (is_at d old) tree.names moved_name.0 moved_name.1
      (eq-eqb _ file moved_name.2) in
      let few = count_where (λ n. nat_eq n.file file) (λ n. not (is_at e new n)) once.names in
      omega (arith, one, less, few)

  moved_sound : Sound after
  moved_sound =
      one_more gone (fewer once (λ n. not (is_at e new n))
      (fewer tree (λ n. not (is_at d old n)) (sound tree shaped))) e new file is_dir
      (subst (λ x. IsSome (get tree.files x)) moved_name.2 moved_lies.1)
      (λ z. moved_lies.2 (moved_name.2 ∙ z)) nameless_between (all_gone (is_at e new) once.names)

  -- a file keeps a name, if it is not the one that is replaced
  keeps_name : (x : ℕ) → Apart tree shaped e new x → is_nameless tree x ≡ false → is_nameless after x ≡ false
  keeps_name x apart h = by (nat_eq file x) refl
    where
      counted : names_leading_to after x ≡ names_leading_to gone x + cond (nat_eq file x) 1 0
      counted = count_by-push (λ n. nat_eq n.file x) gone.names row

      by : (b : Bool) → nat_eq file x ≡ b → is_nameless after x ≡ false
      by true is = has_name after x (rw (counted, is) (omega arith))
      by false is =
          let first = count_kept (λ n. nat_eq n.file x) (is_at d old) tree.names
          (apart_from tree shaped d old file x at (λ same. true≢false (sym (eq-eqb file x (sym same)) ∙ is))) in
          let then = count_kept (λ n. nat_eq n.file x) (is_at e new) once.names
          (All-filter (λ n. not (is_at d old n)) (λ n. is_at e new n ≡ true
          → nat_eq n.file x ≡ false) tree.names apart) in
          still_named tree after x (omega (arith, counted, first, then)) h

  -- a move, where no name is in what is replaced
  move : ((x : ℕ) → is_nameless tree x ≡ false → (x ≡ e) ⊎ ((n : Named) × Contains tree.names n × (n.directory ≡ x))
      → Apart tree shaped e new x) → IsShaped after
  move apart = whole after moved_sound (All-push (IsInNamed after) gone.names row
      (All-filter (λ n. not (is_at e new n)) (IsInNamed after) once.names
      (All-filter (λ n. not (is_at d old n)) (IsInNamed after) tree.names olds))
      (keeps_name e (apart e named (inl refl)) named))
    where
      olds : All (IsInNamed after) tree.names
      olds i a lt = keeps_name _ (apart _ (shaped.names i a lt).named
          (inr (_, All-contains_itself tree.names i a lt, refl))) (shaped.names i a lt).named

  -- nothing is replaced
  move_freely : find (is_at e new) tree.names ≡ None → IsShaped after
  move_freely none = move (λ x h place. apart_where tree shaped e new x none)

  -- an empty file is replaced
  replace : (there : ℕ) → file_at tree e new ≡ Some there → is_empty tree there ≡ true → IsShaped after
  replace there is empty = move (λ x h place. apart_from tree shaped e new there x is (other x place))
    where
      other : (x : ℕ) → (x ≡ e) ⊎ ((n : Named) × Contains tree.names n × (n.directory ≡ x)) → x ≢ there
      other x (inl same) z =
          let found = name_at (find (is_at e new) tree.names) there is in
          let place = both_true _ _ (found_passes (is_at e new) tree.names found.0 found.1) in
          All-contains (λ n. n.directory ≢ there) tree.names found.0 (none_in tree there empty)
          (found_there (is_at e new) tree.names found.0 found.1) (same_number _ e place.0 ∙ sym same ∙ z)
      other x (inr named) z = All-contains (λ n. n.directory ≢ there) tree.names named.0
          (none_in tree there empty) named.1 (named.2 ∙ z)

-- ---- each operation

module _ (tree : Tree) (shaped : IsShaped tree) where
  -- a file more, by mkdir or create
  pub make : (d : ℕ) (name : Name) (content : Content)
      → first_refusal ((not (is_directory tree d), enotdir) ∷ (is_nameless tree d, enoent) ∷ making tree d name) ≡ None
      → IsShaped (with_inode tree d name content)
  make d name content free =
      let first = passes (not (is_directory tree d), enotdir)
      ((is_nameless tree d, enoent) ∷ making tree d name) free in
      let second = passes (is_nameless tree d, enoent) (making tree d name) first.1 in
      let third = passes (is_some (file_at tree d name), eexist)
      ((nat_le max_names (length tree.names), enospc) ∷ []) second.1 in
      made tree shaped d name content (is_true _ first.0) second.0 third.0

  -- There is room for its name.
  pub has_room : (d : ℕ) (name : Name) → refusal tree (mkdir d name) ≡ None → length tree.names < max_names
  has_room d name free =
      let first = passes (not (is_directory tree d), enotdir) ((is_nameless tree d, enoent) ∷ making tree d name) free in
      let second = passes (is_nameless tree d, enoent) (making tree d name) first.1 in
      let third = passes (is_some (file_at tree d name), eexist)
      ((nat_le max_names (length tree.names), enospc) ∷ []) second.1 in
      let fourth = passes (nat_le max_names (length tree.names), enospc) [] third.1 in
      below (length tree.names) max_names fourth.0
    where
      below : (n most : ℕ) → nat_le most n ≡ false → n < most
      below n most e = grind (arith, nat_tests, e)

  pub unlinked : (d : ℕ) (name : Name) → refusal tree (unlink d name) ≡ None → IsShaped (without_name tree d name)
  unlinked d name free =
      let rest = (is_dir tree (file_at tree d name), eisdir) ∷ [] in
      let first = passes (not (is_directory tree d), enotdir)
      ((not (is_some (file_at tree d name)), enoent) ∷ rest) free in
      let second = passes (not (is_some (file_at tree d name)), enoent) rest first.1 in
      let third = passes (is_dir tree (file_at tree d name), eisdir) [] second.1 in
      let found = found_at (file_at tree d name) second.0 in
      unnamed tree shaped d name found.0 found.1 (none_in_file tree shaped found.0 (rw found.1 at third.0))

  pub removed : (d : ℕ) (name : Name) → refusal tree (rmdir d name) ≡ None → IsShaped (without_name tree d name)
  removed d name free =
      let last = (is_filled tree (file_at tree d name), enotempty) ∷ [] in
      let rest = (is_file tree (file_at tree d name), enotdir) ∷ last in
      let first = passes (not (is_directory tree d), enotdir)
      ((not (is_some (file_at tree d name)), enoent) ∷ rest) free in
      let second = passes (not (is_some (file_at tree d name)), enoent) rest first.1 in
      let third = passes (is_file tree (file_at tree d name), enotdir) last second.1 in
      let fourth = passes (is_filled tree (file_at tree d name), enotempty) [] third.1 in
      let found = found_at (file_at tree d name) second.0 in
      unnamed tree shaped d name found.0 found.1 (none_in tree found.0 (is_true _ (rw found.1 at fourth.0)))

  pub linked : (file d : ℕ) (name : Name) → refusal tree (link file d name) ≡ None
      → IsShaped (with_name tree d name file)
  linked file d name free =
      let rest = (is_nameless tree file, enoent) ∷ making tree d name in
      let first = passes (not (is_directory tree d), enotdir)
      ((is_nameless tree d, enoent) ∷ (is_directory tree file, eperm) ∷ rest) free in
      let second = passes (is_nameless tree d, enoent) ((is_directory tree file, eperm) ∷ rest) first.1 in
      let third = passes (is_directory tree file, eperm) rest second.1 in
      let fourth = passes (is_nameless tree file, enoent) (making tree d name) third.1 in
      let fifth = passes (is_some (file_at tree d name), eexist)
      ((nat_le max_names (length tree.names), enospc) ∷ []) fourth.1 in
      named_once tree shaped d name (is_true _ first.0) second.0 fifth.0 file (named_there tree shaped file fourth.0)
      (λ z. true≢false (sym (ap (is_directory tree) z ∙ shaped.root) ∙ third.0))
      (λ is. absurd (true≢false (sym is ∙ third.0)))

  renames : (d : ℕ) (old : Name) (e : ℕ) (new : Name) → refusal tree (rename d old e new) ≡ None
      → IsShaped (tree_unrefused tree (rename d old e new))
  renames d old e new free =
      let moved = file_at tree d old in
      let there = file_at tree e new in
      let last = (replaces moved there && is_filled tree there, enotempty) ∷ [] in
      let rest_two = (replaces moved there && (is_file tree moved && is_dir tree there), eisdir) ∷ last in
      let rest_three = (replaces moved there && (is_dir tree moved && is_file tree there), enotdir) ∷ rest_two in
      let rest_four = (is_moved_below tree moved e, einval) ∷ rest_three in
      let rest_five = (is_nameless tree e, enoent) ∷ rest_four in
      let first = passes (not (is_directory tree d && is_directory tree e), enotdir)
      ((not (is_some moved), enoent) ∷ rest_five) free in
      let second = passes (not (is_some moved), enoent) rest_five first.1 in
      let third = passes (is_nameless tree e, enoent) rest_four second.1 in
      let fourth = passes (is_moved_below tree moved e, einval) rest_three third.1 in
      let fifth = passes (
        replaces moved there && (is_dir tree moved && is_file tree there),
        enotdir,
      ) rest_two fourth.1 in
      let sixth = passes (replaces moved there && (is_file tree moved && is_dir tree there), eisdir) last fifth.1 in
      let seventh = passes (replaces moved there && is_filled tree there, enotempty) [] sixth.1 in
      let found = found_at moved second.0 in
      let directories = both_true _ _ (is_true _ first.0) in
      let filled : (replaces (Some found.0) there && is_filled tree there) ≡ false =
      ap (λ o. replaces o there && is_filled tree there) (sym found.1) ∙ seventh.0 in
      rw found.1 (by found.0 found.1 directories.1 third.0 there refl (is_same (Some found.0) there) refl filled)
    where
      by : (file : ℕ) → file_at tree d old ≡ Some file → is_directory tree e ≡ true → is_nameless tree e ≡ false
          → (o : Option ℕ) → file_at tree e new ≡ o → (same : Bool) → is_same (Some file) o ≡ same
          → (replaces (Some file) o && is_filled tree o) ≡ false
          → IsShaped (cond same tree (renamed tree d old e new (Some file)))
      by file at is named o there true q free_there = shaped
      by file at is named None there false q free_there =
          move_freely tree shaped d old e new file at is named
          (none_at (find (is_at e new) tree.names) (ap is_some there))
      by file at is named (Some t) there false q free_there =
          replace tree shaped d old e new file at is named t there (is_true _ (rw q at free_there))

  -- a rename onto another file or none
  pub moves : (d : ℕ) (old : Name) (e : ℕ) (new : Name) (file : ℕ) → file_at tree d old ≡ Some file
      → is_same (file_at tree d old) (file_at tree e new) ≡ false → refusal tree (rename d old e new) ≡ None
      → IsShaped (renamed tree d old e new (Some file))
  moves d old e new file at apart free = rw (apart, at) at (renames d old e new free)

  unrefused : (operation : FileOperation) → refusal tree operation ≡ None → WritesRegular tree operation
      → IsShaped (tree_unrefused tree operation)
  unrefused (lookup d name) free regular = shaped
  unrefused (getattr file) free regular = shaped
  unrefused (mkdir d name) free regular = make d name a_directory free
  unrefused (create d name) free regular = make d name (a_file []) free
  unrefused (unlink d name) free regular = unlinked d name free
  unrefused (rmdir d name) free regular = removed d name free
  unrefused (rename d old e new) free regular = renames d old e new free
  unrefused (link file d name) free regular = linked file d name free
  unrefused (opening file) free regular = shaped
  unrefused (readdir d offset size) free regular = shaped
  unrefused (readdirplus d offset size) free regular = shaped
  unrefused (read file offset size) free regular = shaped
  unrefused (write file offset []) free regular = shaped
  unrefused (write file offset (b ∷ bytes)) free regular =
      with_bytes tree shaped file (overwritten (file_bytes (get tree.files file)) offset (b ∷ bytes)) regular

  pub keeps : (operation : FileOperation) → WritesRegular tree operation → IsShaped (tree_after tree operation)
  keeps operation regular = by (refusal tree operation) refl
    where
      by : (o : Option ℕ) → refusal tree operation ≡ o → IsShaped (tree_or tree (tree_unrefused tree operation) o)
      by None free = unrefused operation free regular
      by (Some errno) free = shaped

-- the tree after a rename onto another file or none
pub renamed_is : (tree : Tree) (d : ℕ) (old : Name) (e : ℕ) (new : Name) (file : ℕ) (names : List Named)
    → file_at tree d old ≡ Some file → is_same (file_at tree d old) (file_at tree e new) ≡ false
    → names ≡ (renamed tree d old e new (Some file)).names
    → record { files = tree.files; names = names; next_inode = tree.next_inode; next_cookie = tree.next_cookie + 1 }
    ≡ tree_unrefused tree (rename d old e new)
renamed_is tree d old e new file names at apart are = rw (apart, at, are) refl

-- a file that a rename moves has the old name, and the new name leads to no file or to another one
pub moved_apart : (tree : Tree) (d : ℕ) (old : Name) (e : ℕ) (new : Name) (moved : Option ℕ) (file : ℕ)
    → moved ≡ cond (is_same (file_at tree d old) (file_at tree e new)) None (file_at tree d old) → moved ≡ Some file
    → (file_at tree d old ≡ Some file) × (is_same (file_at tree d old) (file_at tree e new) ≡ false)
moved_apart tree d old e new moved file is some =
    by (file_at tree d old) (is_same (file_at tree d old) (file_at tree e new)) (sym is ∙ some)
  where
    by : (at : Option ℕ) (same : Bool) → cond same None at ≡ Some file → (at ≡ Some file) × (same ≡ false)
    by at true none = absurd (cc)
    by at false is_file = (is_file, refl)
