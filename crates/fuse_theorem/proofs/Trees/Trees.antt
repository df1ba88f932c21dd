-- The same operation on a tree, and on the tree less files that it doesn't touch: the same is replied, and the names
-- stay the same.
use Rattle.std.proofs.Common.{◌≡◌, ℕ, ◌+◌, Bool, true, false, cond, not, ◌&&◌, List, [], ◌∷◌, Option, Some, None, map, length, min, take, drop, refl, ap, ◌∙◌}
use Rattle.std.specs.Prelude.{nat_eq, nat_lt, find, filter, option_map, is_some}
use Rattle.fuse_spec.specs.Values.Maps.{Map, get}
use Rattle.fuse_spec.specs.Calls.Paths.{Name}
use Rattle.fuse_spec.specs.Files.Operations.{lookup, getattr, mkdir, create, unlink, rmdir, rename, link, opening, readdir, readdirplus, read, write, attributes, listed, listed_plus, content, Dirent, DirentPlus}
use Rattle.fuse_spec.specs.Files.Trees.{Tree, Named, Content, file_at, kind_of, file_bytes, is_kind_directory, is_directory, is_below, is_nameless, record_of, fitting, pair_of, fitting_pairs, is_at, links}
use Rattle.fuse_spec.specs.declared.Validity.{Validity}
use Rattle.fuse_spec.specs.Files.FileOperations.{FileOperation, making, first_refusal, refusal, reply_by, reply_or, reply_unrefused, tree_after, tree_or, tree_unrefused, renamed, is_same, is_file, is_dir, is_filled, is_moved_below, replaces}
use Rattle.fuse_spec.specs.Values.Numbers as number

-- the tree with other files
abbrev pub with_files : Tree → Map Content → Tree
with_files tree files = record tree { files = files }

module _ (tree : Tree) (files : Map Content) where
  -- The file is the same in both.
  abbrev pub Same : ℕ → Type 0
  Same file = get files file ≡ get tree.files file

  -- Each named file is.
  abbrev pub AllSame : List Named → Type 0
  AllSame [] = Unit {0}
  AllSame (n ∷ names) = Same n.file × AllSame names

  -- a file that is the same in both is a directory in both
  dir_same : (file : ℕ) → Same file → is_directory (with_files tree files) file ≡ is_directory tree file
  dir_same file e = ap (λ (o : Option Content). is_kind_directory (kind_of o)) e

  -- what a name leads to
  abbrev Leads : Option ℕ → Type 0
  Leads None = Unit {0}
  Leads (Some file) = Same file

  lead_by : (n : Named) (o : Option Named) (b : Bool) → Same n.file → Leads (option_map (λ n. n.file) o)
      → Leads (option_map (λ n. n.file) (cond b (Some n) o))
  lead_by n o true h k = h
  lead_by n o false h k = k

  leads : (dir : ℕ) (name : Name) (names : List Named) → AllSame names
      → Leads (option_map (λ n. n.file) (find (is_at dir name) names))
  leads dir name [] h = tt
  leads dir name (n ∷ names) h = lead_by n (find (is_at dir name) names) (is_at dir name n) h.0
      (leads dir name names h.1)

  is_dir_same : (o : Option ℕ) → Leads o → is_dir (with_files tree files) o ≡ is_dir tree o
  is_dir_same None h = refl
  is_dir_same (Some file) h = dir_same file h

  is_file_same : (o : Option ℕ) → Leads o → is_file (with_files tree files) o ≡ is_file tree o
  is_file_same None h = refl
  is_file_same (Some file) h = ap not (dir_same file h)

  moved_same : (o : Option ℕ) (newdir : ℕ) → Leads o
      → is_moved_below (with_files tree files) o newdir ≡ is_moved_below tree o newdir
  moved_same None newdir h = refl
  moved_same (Some file) newdir h = ap (λ (b : Bool). b && is_below tree file newdir) (dir_same file h)

  filled_same : (o : Option ℕ) → is_filled (with_files tree files) o ≡ is_filled tree o
  filled_same None = refl
  filled_same (Some file) = refl

  -- The files that the operation names are the same in both.
  abbrev pub DeedSame : FileOperation → Type 0
  DeedSame (lookup d name) = Same d
  DeedSame (getattr file) = Same file
  DeedSame (mkdir d name) = Same d
  DeedSame (create d name) = Same d
  DeedSame (unlink d name) = Same d
  DeedSame (rmdir d name) = Same d
  DeedSame (rename d old e new) = Same d × Same e
  DeedSame (link file d name) = Same file × Same d
  DeedSame (opening file) = Same file
  DeedSame (readdir d after size) = Same d
  DeedSame (readdirplus d after size) = Same d
  DeedSame (read file offset size) = Same file
  DeedSame (write file offset bytes) = Same file

  module _ (named : AllSame tree.names) where
    -- The same refuses.
    pub refusal_same : (operation : FileOperation) → DeedSame operation
        → refusal (with_files tree files) operation ≡ refusal tree operation
    refusal_same (lookup d name) h = λ i. first_refusal ((not (dir_same d h i), number.enotdir) ∷ [])
    refusal_same (getattr file) h = refl
    refusal_same (mkdir d name) h = λ i. first_refusal
        ((not (dir_same d h i), number.enotdir) ∷ (is_nameless tree d, number.enoent) ∷ making tree d name)
    refusal_same (create d name) h = λ i. first_refusal
        ((not (dir_same d h i), number.enotdir) ∷ (is_nameless tree d, number.enoent) ∷ making tree d name)
    refusal_same (unlink d name) h = λ i.
        first_refusal ((not (dir_same d h i), number.enotdir) ∷ (not (is_some (file_at tree d name)), number.enoent) ∷
        (is_dir_same (file_at tree d name) (leads d name tree.names named) i, number.eisdir) ∷ [])
    refusal_same (rmdir d name) h = λ i.
        first_refusal ((not (dir_same d h i), number.enotdir) ∷ (not (is_some (file_at tree d name)), number.enoent) ∷
        (is_file_same (file_at tree d name) (leads d name tree.names named) i, number.enotdir)
        ∷ (filled_same (file_at tree d name) i, number.enotempty) ∷ [])
    refusal_same (link file d name) h = λ i.
        first_refusal ((not (dir_same d h.1 i), number.enotdir) ∷ (is_nameless tree d, number.enoent) ∷
        (dir_same file h.0 i, number.eperm) ∷ (is_nameless tree file, number.enoent) ∷ making tree d name)
    refusal_same (rename d old e new) h =
        let moved = file_at tree d old in
        let there = file_at tree e new in
        let m = leads d old tree.names named in
        let t = leads e new tree.names named in
        λ i.
        first_refusal ((not (dir_same d h.0 i && dir_same e h.1 i), number.enotdir) ∷
        (not (is_some moved), number.enoent) ∷ (is_nameless tree e, number.enoent)
        ∷ (moved_same moved e m i, number.einval) ∷ (
          replaces moved there
              && (is_dir_same moved m i && is_file_same there t i),
          number.enotdir,
        )
        ∷ (replaces moved there && (is_file_same moved m i && is_dir_same there t i), number.eisdir) ∷
        (replaces moved there && filled_same there i, number.enotempty) ∷ [])
    refusal_same (opening file) h = λ i. first_refusal ((dir_same file h i, number.eisdir) ∷ [])
    refusal_same (readdir d after size) h = λ i. first_refusal ((not (dir_same d h i), number.enotdir) ∷ [])
    refusal_same (readdirplus d after size) h = λ i. first_refusal ((not (dir_same d h i), number.enotdir) ∷ [])
    refusal_same (read file offset size) h = refl
    refusal_same (write file offset bytes) h = refl

    one_record : (n : Named) → Same n.file → record_of (with_files tree files) n ≡ record_of tree n
    one_record n h = λ i. record { ino = n.file + 1; offset = n.cookie; kind = kind_of (h i); name = n.name }

    one_pair : (valid_ms : ℕ) (n : Named) → Same n.file
        → pair_of valid_ms (with_files tree files) n ≡ pair_of valid_ms tree n
    one_pair valid_ms n h = λ i. record { file = Some n.file; valid = valid_ms; dirent = one_record n h i }

    module _ {X : Type 0} (f g : Named → X) (one : (n : Named) → Same n.file → f n ≡ g n) where
      more_records : (n : Named) (xs : List Named) (b : Bool) → Same n.file → map f xs ≡ map g xs
          → map f (cond b (n ∷ xs) xs) ≡ map g (cond b (n ∷ xs) xs)
      more_records n xs true h e = λ i. one n h i ∷ e i
      more_records n xs false h e = e

      filter_same : (p q : Named → Bool) (names : List Named) → AllSame names
          → map f (filter p (filter q names)) ≡ map g (filter p (filter q names))
      filter_same p q [] h = refl
      filter_same p q (n ∷ names) h = keep (q n) (p n) (filter_same p q names h.1)
        where
          keep : (b c : Bool) → map f (filter p (filter q names)) ≡ map g (filter p (filter q names))
              → map f (filter p (cond b (n ∷ filter q names) (filter q names)))
              ≡ map g (filter p (cond b (n ∷ filter q names) (filter q names)))
          keep true c e = more_records n (filter p (filter q names)) (p n) h.0 e
          keep false c e = e

    unrefused_same : (valid : Validity) (operation : FileOperation) → DeedSame operation
        → reply_unrefused valid (with_files tree files) operation ≡ reply_unrefused valid tree operation
    unrefused_same valid (lookup d name) h = refl
    unrefused_same valid (getattr file) h = λ i. attributes
        (record { kind = kind_of (h i); ino = file + 1; size = length (file_bytes (h i)); nlink = links tree file })
    unrefused_same valid (mkdir d name) h = refl
    unrefused_same valid (create d name) h = refl
    unrefused_same valid (unlink d name) h = refl
    unrefused_same valid (rmdir d name) h = refl
    unrefused_same valid (rename d old e new) h = refl
    unrefused_same valid (link file d name) h = refl
    unrefused_same valid (opening file) h = refl
    unrefused_same valid (readdir d after size) h =
        ap (λ (xs : List Dirent). listed (fitting (min size number.max_transfer) xs))
        (filter_same (record_of (with_files tree files)) (record_of tree) one_record (λ n. nat_lt after n.cookie)
        (λ n. nat_eq n.directory d) tree.names named)
    unrefused_same valid (readdirplus d after size) h =
        ap (λ (xs : List (DirentPlus ℕ)). listed_plus (fitting_pairs (min size number.max_transfer) xs))
        (filter_same (pair_of valid.found_ms (with_files tree files)) (pair_of valid.found_ms tree)
        (λ n same. one_pair valid.found_ms n same) (λ n. nat_lt after n.cookie)
        (λ n. nat_eq n.directory d) tree.names named)
    unrefused_same valid (read file offset size) h =
        λ i. content (take (min size number.max_transfer) (drop offset (file_bytes (h i))))
    unrefused_same valid (write file offset bytes) h = refl

    -- The same is replied.
    pub replied_same : (valid : Validity) (operation : FileOperation) → DeedSame operation
        → reply_by valid (with_files tree files) operation ≡ reply_by valid tree operation
    replied_same valid operation h = λ i. reply_or (unrefused_same valid operation h i) (refusal_same operation h i)

    -- The names, the next inode and the next cookie of a tree.
    abbrev Numbered : Tree → List Named × ℕ × ℕ
    Numbered t = (t.names, t.next_inode, t.next_cookie)

    numbers_unrefused : (operation : FileOperation) → Numbered (tree_unrefused (with_files tree files) operation)
        ≡ Numbered (tree_unrefused tree operation)
    numbers_unrefused (lookup d name) = refl
    numbers_unrefused (getattr file) = refl
    numbers_unrefused (mkdir d name) = refl
    numbers_unrefused (create d name) = refl
    numbers_unrefused (unlink d name) = refl
    numbers_unrefused (rmdir d name) = refl
    numbers_unrefused (rename d old e new) = by (is_same (file_at tree d old) (file_at tree e new)) (file_at tree d old)
      where
        by : (b : Bool) (o : Option ℕ) → Numbered (cond b (with_files tree files)
            (renamed (with_files tree files) d old e new o)) ≡ Numbered (cond b tree (renamed tree d old e new o))
        by true o = refl
        by false None = refl
        by false (Some file) = refl
    numbers_unrefused (link file d name) = refl
    numbers_unrefused (opening file) = refl
    numbers_unrefused (readdir d after size) = refl
    numbers_unrefused (readdirplus d after size) = refl
    numbers_unrefused (read file offset size) = refl
    numbers_unrefused (write file offset []) = refl
    numbers_unrefused (write file offset (b ∷ bytes)) = refl

    -- The names and the next numbers are the same afterwards.
    pub numbers_same : (operation : FileOperation) → DeedSame operation
        → Numbered (tree_after (with_files tree files) operation) ≡ Numbered (tree_after tree operation)
    numbers_same operation h = ap (λ (o : Option ℕ). Numbered
        (tree_or (with_files tree files) (tree_unrefused (with_files tree files) operation) o))
        (refusal_same operation h) ∙ by (refusal tree operation)
      where
        by : (o : Option ℕ) → Numbered (tree_or (with_files tree files)
            (tree_unrefused (with_files tree files) operation) o)
            ≡ Numbered (tree_or tree (tree_unrefused tree operation) o)
        by None = numbers_unrefused operation
        by (Some errno) = refl
