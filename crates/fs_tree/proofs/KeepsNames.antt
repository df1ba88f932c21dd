-- Each operation leaves every file a name that has one, but for the file from which it takes a name for good.
use Rattle.std.proofs.Common.{◌≡◌, ℕ, ◌+◌, Bool, true, false, not, cond, [], ◌∷◌, Option, Some, None, IsSome, is_some, nat_eq, find, option_map, refl, ap, sym, subst, ◌∙◌, arith, ◌⊎◌, inl, inr, eq-eqb}
use Rattle.std.proofs.lemmas.Bool.{cases_eq}
use Rattle.std.proofs.lemmas.List.Elements.{All-filter}
use Rattle.fuse_spec.specs.Values.Maps.{get, put}
use Rattle.fuse_spec.specs.Calls.Paths.{Name}
use Rattle.fuse_spec.specs.Files.Operations.{lookup, getattr, mkdir, create, unlink, rmdir, rename, link, opening, readdir, readdirplus, read, write}
use Rattle.fuse_spec.specs.Files.Trees.{Tree, Named, Content, a_directory, a_file, file_bytes, file_at, is_at, is_nameless, overwritten, with_inode, with_name, without_name}
use Rattle.fuse_spec.specs.Files.FileOperations.{FileOperation, is_same, renamed, tree_unrefused}
use Rattle.fuse_spec.specs.Files.TreeShape.{IsShaped, WritesRegular}
use Rattle.fuse_spec.proofs.Tables.{get_put_there}
use Rattle.fuse_spec.proofs.QueueCounts.{count_by-push}
use Rattle.fs_tree.specs.Outcomes.{unlinked_by}
use Rattle.fs_tree.proofs.Counting.{count_kept}
use Rattle.fs_tree.proofs.FileRows.{there-content}
use Rattle.fs_tree.proofs.KeepsShape.{Apart, apart_from, apart_where}
use Rattle.fs_tree.proofs.Shaping.{has_name, still_named}

-- The file is named, or it was there before, and is named as it was.
abbrev pub KeepsName : (old new : Tree) → ℕ → Type 0
KeepsName old new x = (is_nameless new x ≡ false)
    ⊎ (IsSome (get old.files x) × (is_nameless old x ≡ false → is_nameless new x ≡ false))

-- ---- one more name

module _ (tree : Tree) (d : ℕ) (name : Name) (file : ℕ) where
  abbrev row : Named
  row = record { directory = d; name = name; file = file; cookie = tree.next_cookie }

  named_more : (x : ℕ) → is_nameless tree x ≡ false → is_nameless (with_name tree d name file) x ≡ false
  named_more x named = let counted = count_by-push (λ n. nat_eq n.file x) tree.names row in
      still_named tree (with_name tree d name file) x (omega (arith, counted)) named

  now_named : is_nameless (with_name tree d name file) file ≡ false
  now_named = let counted = count_by-push (λ n. nat_eq n.file file) tree.names row in
      has_name (with_name tree d name file) file (rw (counted, eq-eqb file file refl) (omega arith))

born : (tree : Tree) (d : ℕ) (name : Name) (content : Content) (x : ℕ)
    → IsSome (get (with_inode tree d name content).files x) → KeepsName tree (with_inode tree d name content) x
born tree d name content x there = elim (cases_eq x tree.next_inode) [
  | inl e ↦ inl (subst (λ (y : ℕ). is_nameless (with_inode tree d name content) y ≡ false) (sym e)
      (now_named grown d name tree.next_inode))
  | inr ne ↦ inr (
    sym (ap is_some (get_put_there tree.files tree.next_inode content x ne)) ∙ there,
    named_more grown d name tree.next_inode x,
  )
]
  where
    grown : Tree
    grown = record tree { files = put tree.files tree.next_inode content; next_inode = tree.next_inode + 1 }

-- ---- a name less

module _ (tree : Tree) (shaped : IsShaped tree) (d : ℕ) (name : Name) (x : ℕ)
    (other : file_at tree d name ≡ Some x → ⊥) where
  is_apart : Apart tree shaped d name x
  is_apart = by (find (is_at d name) tree.names) refl
    where
      by : (o : Option Named) → find (is_at d name) tree.names ≡ o → Apart tree shaped d name x
      by None none = apart_where tree shaped d name x none
      by (Some n) found =
          let at : file_at tree d name ≡ Some n.file = ap (option_map (λ m. m.file)) found in
          apart_from tree shaped d name n.file x at (λ same. other (at ∙ ap Some (sym same)))

  named_less : is_nameless tree x ≡ false → is_nameless (without_name tree d name) x ≡ false
  named_less named = let kept = count_kept (λ n. nat_eq n.file x) (is_at d name) tree.names is_apart in
      still_named tree (without_name tree d name) x (omega (arith, kept)) named

-- ---- a name that moves

module _ (tree : Tree) (shaped : IsShaped tree) (d : ℕ) (old : Name) (e : ℕ) (new : Name) (file x : ℕ)
    (at : file_at tree d old ≡ Some file) (other : file_at tree e new ≡ Some x → ⊥) where
  abbrev once : Tree
  once = without_name tree d old

  abbrev gone : Tree
  gone = without_name once e new

  named_moved : is_nameless tree x ≡ false → is_nameless (with_name gone e new file) x ≡ false
  named_moved named = elim (cases_eq x file) [
    | inl same ↦ subst (λ (y : ℕ). is_nameless (with_name gone e new file) y ≡ false) (sym same)
        (now_named gone e new file)
    | inr ne ↦
        let first = named_less tree shaped d old x (λ is. ne (some_file (sym is ∙ at))) named in
        let left = All-filter (λ n. not (is_at d old n))
        (λ n. is_at e new n ≡ true → nat_eq n.file x ≡ false) tree.names (is_apart tree shaped e new x other) in
        let kept = count_kept (λ n. nat_eq n.file x) (is_at e new) once.names left in
        named_more gone e new file x (still_named once gone x (omega (arith, kept)) first)
  ]
    where
      some_file : Some x ≡ Some file → x ≡ file
      some_file is = cc

-- ---- every operation

module _ (tree : Tree) (shaped : IsShaped tree) (x : ℕ) where
  as_before : IsSome (get tree.files x) → KeepsName tree tree x
  as_before there = inr (there, λ named. named)

  pub keeps_name : (operation : FileOperation) → WritesRegular tree operation
      → (unlinked_by tree operation ≡ Some x → ⊥) → IsSome (get (tree_unrefused tree operation).files x)
      → KeepsName tree (tree_unrefused tree operation) x
  keeps_name (lookup d name) regular other there = as_before there
  keeps_name (getattr file) regular other there = as_before there
  keeps_name (mkdir d name) regular other there = born tree d name a_directory x there
  keeps_name (create d name) regular other there = born tree d name (a_file []) x there
  keeps_name (unlink d name) regular other there = inr (there, named_less tree shaped d name x other)
  keeps_name (rmdir d name) regular other there = inr (there, named_less tree shaped d name x other)
  keeps_name (link file d name) regular other there = inr (there, named_more tree d name file x)
  keeps_name (rename d old e new) regular other there =
      by (is_same (file_at tree d old) (file_at tree e new)) (file_at tree d old) refl there
    where
      by : (b : Bool) (moved : Option ℕ) → file_at tree d old ≡ moved
          → IsSome (get (cond b tree (renamed tree d old e new moved)).files x)
          → KeepsName tree (cond b tree (renamed tree d old e new moved)) x
      by true moved at there = as_before there
      by false None at there = as_before there
      by false (Some file) at there = inr (there, named_moved tree shaped d old e new file x at other)
  keeps_name (readdir d after size) regular other there = as_before there
  keeps_name (readdirplus d after size) regular other there = as_before there
  keeps_name (opening file) regular other there = as_before there
  keeps_name (read file offset size) regular other there = as_before there
  keeps_name (write file offset []) regular other there = as_before there
  keeps_name (write file offset (b ∷ bytes)) regular other there = inr (was, λ named. named)
    where
      was : IsSome (get tree.files x)
      was = elim (cases_eq x file) [
        | inl e ↦ subst (λ (y : ℕ). IsSome (get tree.files y)) (sym e) (there-content (get tree.files file) regular)
        | inr ne ↦ sym (ap is_some (get_put_there tree.files file
            (a_file (overwritten (file_bytes (get tree.files file)) offset (b ∷ bytes))) x ne)) ∙ there
      ]
