-- Nodes stay of files of the tree, and file handles of regular ones.
use Rattle.std.proofs.Common.{◌≡◌, ◌≢◌, ℕ, ◌<◌, ◌^◌, Bool, true, false, cond, not, nat_eq, List, [], ◌∷◌, Option, Some, None, Result, Ok, Err, refl, sym, ap, subst, ◌∙◌, arith, inl, inr}
use Rattle.std.specs.Prelude.{IfOk, OnErr, IsSome, IsTrue, is_some}
use Rattle.std.proofs.lemmas.Bool.{cases_eq}
use Rattle.std.proofs.lemmas.Option.{none-some}
use Rattle.fuse_spec.specs.Values.Maps.{Map, get, put, remove}
use Rattle.fuse_spec.specs.declared.Entry.{Entry}
use Rattle.fuse_spec.specs.declared.Kind.TheVariants.{Regular}
use Rattle.fuse_spec.specs.declared.Validity.{Validity}
use Rattle.fuse_spec.specs.Server.Copies.{row_back}
use Rattle.fuse_spec.specs.Server.Nodes.{HeldNode, NodeTable, HandleTable, FileHandle, given, taken_back, row_more, handle_back, handle_more, handle_opened, file_of, file_in, is_file_of, is_open, root_row}
use Rattle.fuse_spec.specs.Server.Performs.{file_operation_of, is_open_for}
use Rattle.fuse_spec.specs.Server.Server.{is_file_held}
use Rattle.fuse_spec.specs.declared.Opened.{Opened}
use Rattle.fuse_spec.specs.Files.FileOperations.{FileOperation, is_same, renamed, tree_unrefused}
use Rattle.fuse_spec.specs.Files.Operations as operation
use Rattle.fuse_spec.specs.Files.Trees.{Content, Tree, a_directory, a_file, file_bytes, file_at, is_directory, is_kind_directory, is_nameless, kind_of, overwritten, with_inode}
use Rattle.fuse_spec.specs.Files.TreeShape.{IsShaped, WritesRegular}
use Rattle.fuse_spec.proofs.Tables.{get_gone_there, get_put_here, get_put_there}
use Rattle.fs_tree.specs.Outcomes.{is_kind_regular, discarded, is_regular}
use Rattle.fs_tree.proofs.FileRows.{there-content}
use Rattle.fs_tree.proofs.Keeping.{regular_kind}
use Rattle.fs_tree.proofs.Shaping.{directory_there, same_number}
use Rattle.fs_files.specs.Bounds.{AreKnown, AreRegular, AreThere, IsThere, KeepsFiles}
use Rattle.fs_files.specs.Performing.{Operates}
use Rattle.fs_files.specs.Values.{FilesState, server_of}
use Rattle.fs_files.specs.declared.replies.Outcome.{Outcome}
use Rattle.fs_files.proofs.DiscardingUnheld.{unheld, unopened}
use Rattle.fs_files.proofs.Bounds.{back_each, given_each, more_each, handle_more_each, opened_each, row_back_each, taken_each}

-- ---- nodes and file handles

-- where no file has a node and none a file handle
pub nothing_known : (tree : Tree) (nodes : NodeTable) (handles : HandleTable) → nodes.rows ≡ [] → handles.handles ≡ []
    → AreKnown tree nodes handles
nothing_known tree nodes handles none empty = record {
  low = λ id row is. absurd (none-some row (ap (λ (m : Map HeldNode). get m id) (sym none) ∙ is));
  there = λ id row is. absurd (none-some row (ap (λ (m : Map HeldNode). get m id) (sym none) ∙ is));
  regular = λ fh h is. absurd (none-some h (ap (λ (m : Map FileHandle). get m fh) (sym empty) ∙ is));
}

module _ (tree : Tree) (nodes : NodeTable) (handles : HandleTable) (old : AreKnown tree nodes handles) where
  pub known_less : (id n : ℕ) → AreKnown tree (taken_back nodes id n) handles
  known_less id n = record {
    low = taken_each (λ row. row.file < 2 ^ 62) nodes id n (λ row is. is) old.low;
    there = taken_each (λ row. IsThere tree row.file) nodes id n (λ row is. is) old.there;
    regular = old.regular;
  }

  pub known_back : (g : Entry) → AreKnown tree (row_back nodes g) handles
  known_back g = record {
    low = row_back_each (λ row. row.file < 2 ^ 62) nodes g (λ row is. is) old.low;
    there = row_back_each (λ row. IsThere tree row.file) nodes g (λ row is. is) old.there;
    regular = old.regular;
  }

  pub known_more : (id : ℕ) → AreKnown tree (row_more nodes id) handles
  known_more id = record {
    low = more_each (λ row. row.file < 2 ^ 62) (λ row. row.file < 2 ^ 62) nodes id (λ row is. is)
        (λ row is. is) old.low;
    there = more_each (λ row. IsThere tree row.file) (λ row. IsThere tree row.file) nodes id (λ row is. is)
        (λ row is. is) old.there;
    regular = old.regular;
  }

  pub known_given : (file id : ℕ) → file < 2 ^ 62 → IsThere tree file → AreKnown tree (given nodes file id) handles
  known_given file id low there = record {
    low = given_each (λ row. row.file < 2 ^ 62) (λ row. row.file < 2 ^ 62) nodes file id (λ row is. is)
        (λ row is. is) low old.low;
    there = given_each (λ row. IsThere tree row.file) (λ row. IsThere tree row.file) nodes file id (λ row is. is)
        (λ row is. is) there old.there;
    regular = old.regular;
  }

  pub known_handle_back : (fh : ℕ) → AreKnown tree nodes (handle_back handles fh)
  known_handle_back fh = record {
    low = old.low;
    there = old.there;
    regular = back_each (λ h. IsTrue (is_regular tree h.file)) handles fh (λ h is. is) old.regular;
  }

  pub known_handle_more : (fh : ℕ) → AreKnown tree nodes (handle_more handles fh)
  known_handle_more fh = record {
    low = old.low;
    there = old.there;
    regular = handle_more_each (λ h. IsTrue (is_regular tree h.file)) (λ h. IsTrue (is_regular tree h.file)) handles fh
        (λ h is. is) (λ h is. is) old.regular;
  }

  pub known_opened : (file : ℕ) → IsTrue (is_regular tree file) → AreKnown tree nodes (handle_opened handles file)
  known_opened file regular = record {
    low = old.low;
    there = old.there;
    regular = opened_each (λ h. IsTrue (is_regular tree h.file)) (λ h. IsTrue (is_regular tree h.file)) handles file
        (λ h is. is) regular old.regular;
  }

-- ---- files

-- a regular file is there
pub regular_there : (tree : Tree) (file : ℕ) → IsTrue (is_regular tree file) → IsThere tree file
regular_there tree file is = there-content (get tree.files file) (regular_kind (kind_of (get tree.files file)) is)

-- a file that is there and no directory is regular
not_directory : (o : Option Content) → IsSome o → is_kind_directory (kind_of o) ≡ false
    → IsTrue (is_kind_regular (kind_of o))
not_directory None there not = absurd (cc)
not_directory (Some a_directory) there not = absurd (cc)
not_directory (Some (a_file bytes)) there not = refl

pub regular_file : (tree : Tree) (file : ℕ) → IsThere tree file → is_directory tree file ≡ false
    → IsTrue (is_regular tree file)
regular_file tree file there not = not_directory (get tree.files file) there not

-- the file of a node is there, as the root is
pub file_there : (tree : Tree) (nodes : NodeTable) → IsShaped tree → AreThere tree nodes → (id : ℕ)
    → IsThere tree (file_of nodes id)
file_there tree nodes shaped known id = by (nat_eq id 1) (get nodes.rows id) refl
  where
    root : IsThere tree 0
    root = directory_there (get tree.files 0) shaped.root

    by : (b : Bool) (o : Option HeldNode) → get nodes.rows id ≡ o → IsThere tree (file_in (cond b (Some root_row) o))
    by true o e = root
    by false None e = root
    by false (Some row) e = known id row e

-- a file that was put is there
pub put_there : (tree : Tree) (file : ℕ) (c : Content) → IsSome (get (put tree.files file c) file)
put_there tree file c = ap is_some (get_put_here tree.files file c)

pub put_regular : (tree : Tree) (file : ℕ) (bytes : List ℕ)
    → IsTrue (is_kind_regular (kind_of (get (put tree.files file (a_file bytes)) file)))
put_regular tree file bytes = ap (λ (o : Option Content). is_kind_regular (kind_of o))
    (get_put_here tree.files file (a_file bytes))

-- what is written is regular, as file handles are of regular files
same_kind : (file : ℕ) (tree : Tree) (handles : HandleTable) → AreRegular tree handles → (fh : ℕ)
    → is_open handles fh file ≡ true → kind_of (get tree.files file) ≡ Regular
same_kind file tree handles known fh is_opened = by (get handles.handles fh) refl is_opened
  where
    by : (o : Option FileHandle) → get handles.handles fh ≡ o → is_file_of file o ≡ true
        → kind_of (get tree.files file) ≡ Regular
    by None e is = absurd (cc)
    by (Some h) e is = regular_kind (kind_of (get tree.files file))
        (subst (λ (f : ℕ). IsTrue (is_regular tree f)) (same_number h.file file is) (known fh h e))

pub writes_regular : (files : FilesState) (v : Validity) → AreRegular files.tree files.handles
    → (o : operation.Operation ℕ Opened) → is_open_for (server_of files v) o ≡ true
    → WritesRegular files.tree (file_operation_of files.nodes o)
writes_regular files v known (operation.lookup d name) is = tt
writes_regular files v known (operation.getattr node) is = tt
writes_regular files v known (operation.mkdir d name) is = tt
writes_regular files v known (operation.create d name) is = tt
writes_regular files v known (operation.unlink d name) is = tt
writes_regular files v known (operation.rmdir d name) is = tt
writes_regular files v known (operation.link node d name) is = tt
writes_regular files v known (operation.rename d old e new) is = tt
writes_regular files v known (operation.readdir d after size) is = tt
writes_regular files v known (operation.readdirplus d after size) is = tt
writes_regular files v known (operation.opening node) is = tt
writes_regular files v known (operation.read o offset size) is = tt
writes_regular files v known (operation.write o offset bytes) is =
    same_kind (file_of files.nodes o.nodeid) files.tree files.handles known o.fh is

-- ---- trees that keep their files

same_files : (old new : Tree) → new.files ≡ old.files → KeepsFiles old new
same_files old new e = record {
  there = λ file is. subst (λ (m : Map Content). IsSome (get m file)) (sym e) is;
  kind = λ file is. ap (λ (m : Map Content). kind_of (get m file)) e;
}

not_there : (o : Option Content) → o ≡ None → IsSome o → ⊥
not_there None e there = absurd (cc)
not_there (Some c) e there = absurd (cc)

module _ (tree : Tree) (shaped : IsShaped tree) where
  is_old : (file : ℕ) → IsThere tree file → file ≢ tree.next_inode
  is_old file there e = not_there (get tree.files file) (shaped.unborn file (omega (arith, e))) there

  keeps_inode : (directory : ℕ) (name : List ℕ) (c : Content) → KeepsFiles tree (with_inode tree directory name c)
  keeps_inode directory name c = record {
    there = λ file is. ap is_some (get_put_there tree.files tree.next_inode c file (is_old file is)) ∙ is;
    kind = λ file is. ap kind_of (get_put_there tree.files tree.next_inode c file (is_old file is));
  }

  keeps_written : (file : ℕ) (bytes : List ℕ) → kind_of (get tree.files file) ≡ Regular
      → KeepsFiles tree (record tree { files = put tree.files file (a_file bytes) })
  keeps_written file bytes regular = record { there = λ x is. (at x is).0; kind = λ x is. (at x is).1 }
    where
      now : Map Content
      now = put tree.files file (a_file bytes)

      at : (x : ℕ) → IsThere tree x → IsSome (get now x) × (kind_of (get now x) ≡ kind_of (get tree.files x))
      at x is = elim (cases_eq x file) [
        | inl e ↦
            let here : get now x ≡ Some (a_file bytes) = ap (get now) e ∙ get_put_here tree.files file (a_file bytes) in
            (ap is_some here, ap kind_of here ∙ sym (ap (λ (y : ℕ). kind_of (get tree.files y)) e ∙ regular))
        | inr ne ↦
            let same = get_put_there tree.files file (a_file bytes) x ne in
            (ap is_some same ∙ is, ap kind_of same)
      ]

  -- no operation takes a file out of the tree, or makes another kind of it
  pub keeps_files : (o : FileOperation) → WritesRegular tree o → KeepsFiles tree (tree_unrefused tree o)
  keeps_files (operation.lookup d name) regular = same_files tree tree refl
  keeps_files (operation.getattr file) regular = same_files tree tree refl
  keeps_files (operation.mkdir d name) regular = keeps_inode d name a_directory
  keeps_files (operation.create d name) regular = keeps_inode d name (a_file [])
  keeps_files (operation.unlink d name) regular = same_files tree (tree_unrefused tree (operation.unlink d name)) refl
  keeps_files (operation.rmdir d name) regular = same_files tree (tree_unrefused tree (operation.rmdir d name)) refl
  keeps_files (operation.link file d name) regular =
      same_files tree (tree_unrefused tree (operation.link file d name)) refl
  keeps_files (operation.rename d old e new) regular =
      by (is_same (file_at tree d old) (file_at tree e new)) (file_at tree d old)
    where
      by : (b : Bool) (moved : Option ℕ) → KeepsFiles tree (cond b tree (renamed tree d old e new moved))
      by true moved = same_files tree tree refl
      by false None = same_files tree tree refl
      by false (Some file) = same_files tree (renamed tree d old e new (Some file)) refl
  keeps_files (operation.readdir d after size) regular = same_files tree tree refl
  keeps_files (operation.readdirplus d after size) regular = same_files tree tree refl
  keeps_files (operation.opening file) regular = same_files tree tree refl
  keeps_files (operation.read file offset size) regular = same_files tree tree refl
  keeps_files (operation.write file offset []) regular = same_files tree tree refl
  keeps_files (operation.write file offset (b ∷ bytes)) regular =
      keeps_written file (overwritten (file_bytes (get tree.files file)) offset (b ∷ bytes)) regular

  -- whether or not memory ran out
  pub keeps_result : {A E : Type 0} (v : Validity) (o : FileOperation) → WritesRegular tree o
      → (new : Tree) (r : Result (Outcome A) E) → IfOk r (λ outcome. Operates v tree o outcome new)
      → OnErr r (new ≡ tree) → KeepsFiles tree new
  keeps_result v o regular new (Ok outcome) ok err =
      subst (λ (t : Tree). KeepsFiles tree t) (sym ok.tree_is) (keeps_files o regular)
  keeps_result v o regular new (Err e) ok err = same_files tree new (ap (λ (t : Tree). t.files) err)

-- what is known stays so
pub known_kept : (old new : Tree) (nodes : NodeTable) (handles : HandleTable) → KeepsFiles old new
    → AreKnown old nodes handles → AreKnown new nodes handles
known_kept old new nodes handles keeps known = record {
  low = known.low;
  there = λ id row is. keeps.there row.file (known.there id row is);
  regular = λ fh h is.
      let regular = known.regular fh h is in
      ap is_kind_regular (keeps.kind h.file (regular_there old h.file regular)) ∙ regular;
}

-- ---- a file that nothing holds goes

pub known_discarded : (files : FilesState) (v : Validity) → AreKnown files.tree files.nodes files.handles → (file : ℕ)
    → is_file_held (server_of files v) file ≡ false → AreKnown (discarded files.tree file) files.nodes files.handles
known_discarded files v known file none = record {
  low = known.low;
  there = λ id row is. ap is_some (left_is row.file (unheld files v file none id row is)) ∙ known.there id row is;
  regular = λ fh h is. ap (λ (o : Option Content). is_kind_regular (kind_of o))
      (left_is h.file (unopened files v file none fh h is)) ∙ known.regular fh h is;
}
  where
    left_is : (x : ℕ) → x ≢ file → get (discarded files.tree file).files x ≡ get files.tree.files x
    left_is x ne = by (is_nameless files.tree file)
      where
        by : (b : Bool) → get (cond b (remove files.tree.files file) files.tree.files) x ≡ get files.tree.files x
        by true = get_gone_there files.tree.files file x ne
        by false = refl
