-- Each file that nothing holds keeps a name, but for the one that loses its last holder or its last name.
use Rattle.std.proofs.Common.{◌≡◌, ◌≢◌, ℕ, ◌+◌, ◌-◌, ◌≤◌, Bool, true, false, true≢false, cond, List, [], ◌∷◌, Option, Some, None, is_some, refl, sym, ap, subst, ◌∙◌, arith, T, ◌⊎◌, inl, inr}
use Rattle.std.specs.Prelude.{nat_lt, option_map}
use Rattle.std.specs.FinMap.{is_sorted}
use Rattle.std.specs.Ordering.{nat_cmp}
use Rattle.std.proofs.lemmas.Bool.{cases_eq}
use Rattle.std.proofs.lemmas.Option.{none-some, same_Some}
use Rattle.fuse_spec.specs.Values.Maps.{Map, get, put, remove}
use Rattle.fuse_spec.specs.declared.Entry.{Entry}
use Rattle.fuse_spec.specs.declared.Opened.{Opened}
use Rattle.fuse_spec.specs.declared.Minor.{Minor}
use Rattle.fuse_spec.specs.declared.Validity.{Validity}
use Rattle.fuse_spec.specs.Server.Copies.{row_back, rows_counted, handles_counted}
use Rattle.fuse_spec.specs.Files.FileOperations.{FileOperation, refusal, tree_or, tree_unrefused}
use Rattle.fuse_spec.specs.Kernel.Messages.{RequestBody, init, asks, release, forget, batch_forget, interrupt}
use Rattle.fuse_spec.specs.Server.Nodes.{HeldNode, NodeTable, IsUnheld, is_held, given, given_row, all_given, taken_back, rows_less, row_more, rows_more, FileHandle, HandleTable, is_open, file_of, handle_opened, all_opened, handle_back, handles_less, handle_more, handles_more}
use Rattle.fuse_spec.specs.Files.Operations.{Operation}
use Rattle.fuse_spec.specs.Server.Performs.{file_operation_of, is_open_for, is_still_held}
use Rattle.fuse_spec.specs.Server.Server.{HeldRequest}
use Rattle.fuse_spec.specs.Files.Trees.{Tree, a_directory, is_nameless}
use Rattle.fuse_spec.specs.Files.TreeShape.{IsShaped}
use Rattle.fuse_spec.proofs.Tables.{tie_no, get_put_here, get_put_there, get_gone_here, get_gone_there}
use Rattle.fuse_tables.proofs.Maps.{sorted_put, sorted_remove}
use Rattle.fs_tree.specs.Outcomes.{only_root, unlinked_by}
use Rattle.fs_tree.proofs.KeepsNames.{keeps_name}
use Rattle.fs_files.specs.Bounds.{AreKnown, AreNamed, AreNamedBut, IsThere, IsUnopened}
use Rattle.fs_files.specs.Performing.{handles_by, handles_said, unlinked_or_released, tree_by, tree_said}
use Rattle.fs_files.specs.Values.{FilesState, no_handles, no_nodes, server_at}
use Rattle.fs_files.proofs.StaysKnown.{writes_regular}

-- ---- values of a map that are of a file

module _ {X : Type 0} (file : X → ℕ) (x : ℕ) where
  -- none is of the file
  abbrev Lacks : Map X → Type 0
  Lacks m = (q : ℕ) (v : X) → get m q ≡ Some v → file v ≢ x

  put_over : (m : Map X) (k : ℕ) (v old : X) → get m k ≡ Some old → file v ≡ file old → Lacks (put m k v) → Lacks m
  put_over m k v old at same lacks q w is e = elim (cases_eq q k) [
    | inl here ↦ lacks k v (get_put_here m k v) (same ∙ ap file
        (same_Some old w (sym at ∙ ap (get m) (sym here) ∙ is)) ∙ e)
    | inr ne ↦ lacks q w (get_put_there m k v q ne ∙ is) e
  ]

  put_new : (m : Map X) (k : ℕ) (v : X) → get m k ≡ None → Lacks (put m k v) → Lacks m
  put_new m k v none lacks q w is e = elim (cases_eq q k) [
    | inl here ↦ absurd (none-some w (sym none ∙ ap (get m) (sym here) ∙ is))
    | inr ne ↦ lacks q w (get_put_there m k v q ne ∙ is) e
  ]

  gone_other : (m : Map X) (k : ℕ) (old : X) → get m k ≡ Some old → (file old ≡ x → ⊥) → Lacks (remove m k) → Lacks m
  gone_other m k old at other lacks q w is e = elim (cases_eq q k) [
    | inl here ↦ absurd (other (ap file (same_Some old w (sym at ∙ ap (get m) (sym here) ∙ is)) ∙ e))
    | inr ne ↦ lacks q w (get_gone_there m k q ne ∙ is) e
  ]

module _ {X : Type 0} (m : Map X) (k q : ℕ) (none : get m q ≡ None) where
  none_put : (v old : X) → get m k ≡ Some old → get (put m k v) q ≡ None
  none_put v old at = elim (cases_eq q k) [
    | inl here ↦ absurd (none-some old (sym none ∙ ap (get m) here ∙ at))
    | inr ne ↦ get_put_there m k v q ne ∙ none
  ]

  none_gone : get (remove m k) q ≡ None
  none_gone = elim (cases_eq q k) [
    | inl here ↦ ap (get (remove m k)) here ∙ get_gone_here m k
    | inr ne ↦ get_gone_there m k q ne ∙ none
  ]

-- ---- nodes

abbrev row_file : HeldNode → ℕ
row_file row = row.file

module _ (t : NodeTable) (x : ℕ) where
  given_lacks : (file id : ℕ) → IsUnheld (given t file id) x → IsUnheld t x
  given_lacks file id lacks = by (get t.rows id) refl lacks
    where
      by : (o : Option HeldNode) → get t.rows id ≡ o → Lacks row_file x (put t.rows id (given_row t file o))
          → Lacks row_file x t.rows
      by None none l = put_new row_file x t.rows id (given_row t file None) none l
      by (Some row) at l = put_over row_file x t.rows id (record row { count = row.count + 1 }) row at refl l

  more_lacks : (id : ℕ) → IsUnheld (row_more t id) x → IsUnheld t x
  more_lacks id lacks = by (get t.rows id) refl lacks
    where
      by : (o : Option HeldNode) → get t.rows id ≡ o → Lacks row_file x (rows_more t.rows id o)
          → Lacks row_file x t.rows
      by None none l = l
      by (Some row) at l = put_over row_file x t.rows id (record row { count = row.count + 1 }) row at refl l

  less_lacks : (id n : ℕ) → (option_map row_file (get t.rows id) ≡ Some x → ⊥) → IsUnheld (taken_back t id n) x
      → IsUnheld t x
  less_lacks id n other lacks = by (get t.rows id) refl lacks
    where
      of_row : (row : HeldNode) → get t.rows id ≡ Some row → (b : Bool)
          → Lacks row_file x (cond b (put t.rows id (record row { count = row.count - n })) (remove t.rows id))
          → Lacks row_file x t.rows
      of_row row at true l = put_over row_file x t.rows id (record row { count = row.count - n }) row at refl l
      of_row row at false l = gone_other row_file x t.rows id row at
          (λ e. other (ap (option_map row_file) at ∙ ap Some e)) l

      by : (o : Option HeldNode) → get t.rows id ≡ o → Lacks row_file x (rows_less t.rows id n o)
          → Lacks row_file x t.rows
      by None none l = l
      by (Some row) at l = of_row row at (nat_lt n row.count) l

module _ (t : NodeTable) (sorted : T (is_sorted nat_cmp t.rows)) where
  more_sorted : (id : ℕ) → T (is_sorted nat_cmp (row_more t id).rows)
  more_sorted id = by (get t.rows id)
    where
      by : (o : Option HeldNode) → T (is_sorted nat_cmp (rows_more t.rows id o))
      by None = sorted
      by (Some row) = sorted_put t.rows id (record row { count = row.count + 1 }) sorted

  less_sorted : (id n : ℕ) → T (is_sorted nat_cmp (taken_back t id n).rows)
  less_sorted id n = by (get t.rows id)
    where
      of_row : (row : HeldNode) (b : Bool) → T (is_sorted nat_cmp
          (cond b (put t.rows id (record row { count = row.count - n })) (remove t.rows id)))
      of_row row true = sorted_put t.rows id (record row { count = row.count - n }) sorted
      of_row row false = sorted_remove t.rows id sorted

      by : (o : Option HeldNode) → T (is_sorted nat_cmp (rows_less t.rows id n o))
      by None = sorted
      by (Some row) = of_row row (nat_lt n row.count)

-- ---- file handles

abbrev handle_file : FileHandle → ℕ
handle_file h = h.file

module _ (t : HandleTable) (x : ℕ) where
  opened_lacks : (file : ℕ) → get t.handles t.next_fh ≡ None → IsUnopened (handle_opened t file) x → IsUnopened t x
  opened_lacks file none lacks = put_new handle_file x t.handles t.next_fh
      (record { file = file; count = 1 }) none lacks

  again_lacks : (fh : ℕ) → IsUnopened (handle_more t fh) x → IsUnopened t x
  again_lacks fh lacks = by (get t.handles fh) refl lacks
    where
      by : (o : Option FileHandle) → get t.handles fh ≡ o → Lacks handle_file x (handles_more t.handles fh o)
          → Lacks handle_file x t.handles
      by None none l = l
      by (Some h) at l = put_over handle_file x t.handles fh (record h { count = h.count + 1 }) h at refl l

  back_lacks : (fh : ℕ) → (option_map handle_file (get t.handles fh) ≡ Some x → ⊥) → IsUnopened (handle_back t fh) x
      → IsUnopened t x
  back_lacks fh other lacks = by (get t.handles fh) refl lacks
    where
      of_handle : (h : FileHandle) → get t.handles fh ≡ Some h → (b : Bool)
          → Lacks handle_file x (cond b (put t.handles fh (record h { count = h.count - 1 })) (remove t.handles fh))
          → Lacks handle_file x t.handles
      of_handle h at true l = put_over handle_file x t.handles fh (record h { count = h.count - 1 }) h at refl l
      of_handle h at false l = gone_other handle_file x t.handles fh h at
          (λ e. other (ap (option_map handle_file) at ∙ ap Some e)) l

      by : (o : Option FileHandle) → get t.handles fh ≡ o → Lacks handle_file x (handles_less t.handles fh o)
          → Lacks handle_file x t.handles
      by None none l = l
      by (Some h) at l = of_handle h at (nat_lt 1 h.count) l

module _ (t : HandleTable) (sorted : T (is_sorted nat_cmp t.handles))
    (coming : (fh : ℕ) → t.next_fh ≤ fh → get t.handles fh ≡ None) where
  again_sorted : (fh : ℕ) → T (is_sorted nat_cmp (handle_more t fh).handles)
  again_sorted fh = by (get t.handles fh)
    where
      by : (o : Option FileHandle) → T (is_sorted nat_cmp (handles_more t.handles fh o))
      by None = sorted
      by (Some h) = sorted_put t.handles fh (record h { count = h.count + 1 }) sorted

  again_coming : (fh q : ℕ) → t.next_fh ≤ q → get (handle_more t fh).handles q ≡ None
  again_coming fh q le = by (get t.handles fh) refl
    where
      by : (o : Option FileHandle) → get t.handles fh ≡ o → get (handles_more t.handles fh o) q ≡ None
      by None at = coming q le
      by (Some h) at = none_put t.handles fh q (coming q le) (record h { count = h.count + 1 }) h at

  back_sorted : (fh : ℕ) → T (is_sorted nat_cmp (handle_back t fh).handles)
  back_sorted fh = by (get t.handles fh)
    where
      of_handle : (h : FileHandle) (b : Bool) → T (is_sorted nat_cmp
          (cond b (put t.handles fh (record h { count = h.count - 1 })) (remove t.handles fh)))
      of_handle h true = sorted_put t.handles fh (record h { count = h.count - 1 }) sorted
      of_handle h false = sorted_remove t.handles fh sorted

      by : (o : Option FileHandle) → T (is_sorted nat_cmp (handles_less t.handles fh o))
      by None = sorted
      by (Some h) = of_handle h (nat_lt 1 h.count)

  back_coming : (fh q : ℕ) → t.next_fh ≤ q → get (handle_back t fh).handles q ≡ None
  back_coming fh q le = by (get t.handles fh) refl
    where
      of_handle : (h : FileHandle) → get t.handles fh ≡ Some h → (b : Bool)
          → get (cond b (put t.handles fh (record h { count = h.count - 1 })) (remove t.handles fh)) q ≡ None
      of_handle h at true = none_put t.handles fh q (coming q le) (record h { count = h.count - 1 }) h at
      of_handle h at false = none_gone t.handles fh q (coming q le)

      by : (o : Option FileHandle) → get t.handles fh ≡ o → get (handles_less t.handles fh o) q ≡ None
      by None at = coming q le
      by (Some h) at = of_handle h at (nat_lt 1 h.count)

-- ---- holders that come

module _ (but : Option ℕ) (tree : Tree) (nodes : NodeTable) (handles : HandleTable)
    (old : AreNamedBut but tree nodes handles) where
  named_given : (file id : ℕ) → AreNamedBut but tree (given nodes file id) handles
  named_given file id = record {
    rows = sorted_put nodes.rows id (given_row nodes file (get nodes.rows id)) old.rows;
    opens = old.opens;
    coming = old.coming;
    named = λ x other there no_node no_number. old.named x other there (given_lacks nodes x file id no_node) no_number;
  }

  named_counted : (id : ℕ) → AreNamedBut but tree (row_more nodes id) handles
  named_counted id = record {
    rows = more_sorted nodes old.rows id;
    opens = old.opens;
    coming = old.coming;
    named = λ x other there no_node no_number. old.named x other there (more_lacks nodes x id no_node) no_number;
  }

  named_opened : (file : ℕ) → AreNamedBut but tree nodes (handle_opened handles file)
  named_opened file = record {
    rows = old.rows;
    opens = sorted_put handles.handles handles.next_fh (record { file = file; count = 1 }) old.opens;
    coming = λ fh le. get_put_there handles.handles handles.next_fh (record { file = file; count = 1 }) fh
        (λ e. absurd (omega (arith, le, e))) ∙ old.coming fh (omega (arith, le));
    named = λ x other there no_node no_number. old.named x other there no_node
        (opened_lacks handles x file (old.coming handles.next_fh (omega arith)) no_number);
  }

  named_again : (fh : ℕ) → AreNamedBut but tree nodes (handle_more handles fh)
  named_again fh = record {
    rows = old.rows;
    opens = again_sorted handles old.opens old.coming fh;
    coming = again_coming handles old.opens old.coming fh;
    named = λ x other there no_node no_number. old.named x other there no_node (again_lacks handles x fh no_number);
  }

pub named_all_given : (choice : ℕ → ℕ) (but : Option ℕ) (tree : Tree) (nodes : NodeTable) (handles : HandleTable)
    → AreNamedBut but tree nodes handles → (files : List ℕ)
    → AreNamedBut but tree (all_given choice nodes files) handles
named_all_given choice but tree nodes handles old [] = old
named_all_given choice but tree nodes handles old (file ∷ files) =
    named_all_given choice but tree (given nodes file (choice file)) handles
    (named_given but tree nodes handles old file (choice file)) files

pub named_all_opened : (but : Option ℕ) (tree : Tree) (nodes : NodeTable) (handles : HandleTable)
    → AreNamedBut but tree nodes handles → (files : List ℕ) → AreNamedBut but tree nodes (all_opened handles files)
named_all_opened but tree nodes handles old [] = old
named_all_opened but tree nodes handles old (file ∷ files) =
    named_all_opened but tree nodes (handle_opened handles file)
    (named_opened but tree nodes handles old file) files

pub named_all_counted : (but : Option ℕ) (tree : Tree) (nodes : NodeTable) (handles : HandleTable)
    → AreNamedBut but tree nodes handles → (gs : List Entry) → AreNamedBut but tree (rows_counted nodes gs) handles
named_all_counted but tree nodes handles old [] = old
named_all_counted but tree nodes handles old (g ∷ gs) =
    named_all_counted but tree (row_more nodes g.nodeid) handles
    (named_counted but tree nodes handles old g.nodeid) gs

pub named_all_again : (but : Option ℕ) (tree : Tree) (nodes : NodeTable) (handles : HandleTable)
    → AreNamedBut but tree nodes handles → (fhs : List ℕ) → AreNamedBut but tree nodes (handles_counted handles fhs)
named_all_again but tree nodes handles old [] = old
named_all_again but tree nodes handles old (fh ∷ fhs) =
    named_all_again but tree nodes (handle_more handles fh) (named_again but tree nodes handles old fh) fhs

-- ---- holders and names that go

module _ (tree : Tree) (nodes : NodeTable) (handles : HandleTable) (old : AreNamed tree nodes handles) where
  named_but : (but : Option ℕ) → AreNamedBut but tree nodes handles
  named_but but = record {
    rows = old.rows;
    opens = old.opens;
    coming = old.coming;
    named = λ x other there no_node no_number. old.named x (λ e. none-some x e) there no_node no_number;
  }

  pub named_less : (id n : ℕ) → AreNamedBut (option_map row_file (get nodes.rows id)) tree
      (taken_back nodes id n) handles
  named_less id n = record {
    rows = less_sorted nodes old.rows id n;
    opens = old.opens;
    coming = old.coming;
    named = λ x other there no_node no_number. old.named x (λ e. none-some x e) there
        (less_lacks nodes x id n other no_node) no_number;
  }

  pub named_row_back : (g : Entry) → AreNamedBut (option_map row_file (get nodes.rows g.nodeid)) tree
      (row_back nodes g) handles
  named_row_back g = by (is_held nodes g.nodeid g.generation)
    where
      by : (b : Bool) → AreNamedBut (option_map row_file (get nodes.rows g.nodeid)) tree
          (cond b (taken_back nodes g.nodeid 1) nodes) handles
      by true = named_less g.nodeid 1
      by false = named_but (option_map row_file (get nodes.rows g.nodeid))

  pub named_handle_back : (fh : ℕ) → AreNamedBut (option_map handle_file (get handles.handles fh)) tree nodes
      (handle_back handles fh)
  named_handle_back fh = record {
    rows = old.rows;
    opens = back_sorted handles old.opens old.coming fh;
    coming = back_coming handles old.opens old.coming fh;
    named = λ x other there no_node no_number. old.named x (λ e. none-some x e) there no_node
        (back_lacks handles x fh other no_number);
  }

-- ---- requests that are performed

module _ (files : FilesState) (v : Validity) (m : Minor) (known : AreKnown files.tree files.nodes files.handles)
    (shaped : IsShaped files.tree) (old : AreNamed files.tree files.nodes files.handles) where
  unchanged : (but : Option ℕ) → AreNamedBut but files.tree files.nodes files.handles
  unchanged = named_but files.tree files.nodes files.handles old

  of_operation : (o : Operation ℕ Opened) → is_open_for (server_at m files v) o ≡ true → (r : Option ℕ)
      → AreNamedBut (unlinked_by files.tree (file_operation_of files.nodes o))
      (tree_or files.tree (tree_unrefused files.tree (file_operation_of files.nodes o)) r) files.nodes files.handles
  of_operation o opened (Some errno) = unchanged (unlinked_by files.tree (file_operation_of files.nodes o))
  of_operation o opened None = record { rows = old.rows; opens = old.opens; coming = old.coming; named = named }
    where
      operation : FileOperation
      operation = file_operation_of files.nodes o

      named : (x : ℕ) → (unlinked_by files.tree operation ≡ Some x → ⊥)
          → IsThere (tree_unrefused files.tree operation) x → IsUnheld files.nodes x → IsUnopened files.handles x
          → is_nameless (tree_unrefused files.tree operation) x ≡ false
      named x other there no_node no_number = elim (keeps_name files.tree shaped x operation
          (writes_regular files v known.regular o opened) other there) [
            | inl now ↦ now
            | inr was ↦ was.1 (old.named x (λ e. none-some x e) was.0 no_node no_number)
          ]

  of_asked : (o : Operation ℕ Opened) (b : Bool) → is_open_for (server_at m files v) o ≡ b
      → AreNamedBut (unlinked_by files.tree (file_operation_of files.nodes o))
      (cond b (tree_or files.tree (tree_unrefused files.tree (file_operation_of files.nodes o))
      (refusal files.tree (file_operation_of files.nodes o))) files.tree) files.nodes files.handles
  of_asked o true opened = of_operation o opened (refusal files.tree (file_operation_of files.nodes o))
  of_asked o false opened = unchanged (unlinked_by files.tree (file_operation_of files.nodes o))

  of_release : (o : Opened) (b : Bool) → AreNamedBut
      (option_map handle_file (get files.handles.handles o.fh)) files.tree files.nodes
      (cond b (handle_back files.handles o.fh) files.handles)
  of_release o true = named_handle_back files.tree files.nodes files.handles old o.fh
  of_release o false = unchanged (option_map handle_file (get files.handles.handles o.fh))

  of_body : (body : RequestBody) → AreNamedBut (unlinked_or_released (server_at m files v) body)
      (tree_by (server_at m files v) body) files.nodes (handles_by (server_at m files v) body)
  of_body (asks o) = of_asked o (is_open_for (server_at m files v) o) refl
  of_body (release o) = of_release o (is_open files.handles o.fh (file_of files.nodes o.nodeid))
  of_body (init flags) = unchanged None
  of_body (forget f) = unchanged None
  of_body (batch_forget fs) = unchanged None
  of_body (interrupt original) = unchanged None

  pub named_said : (h : HeldRequest) → AreNamedBut (unlinked_or_released (server_at m files v) h.body)
      (tree_said (server_at m files v) h) files.nodes (handles_said (server_at m files v) h)
  named_said h = by h.marked (is_still_held files.nodes h.generations)
    where
      by : (marked b : Bool) → AreNamedBut (unlinked_or_released (server_at m files v) h.body)
          (cond marked files.tree (cond b (tree_by (server_at m files v) h.body) files.tree)) files.nodes
          (cond marked files.handles (cond b (handles_by (server_at m files v) h.body) files.handles))
      by true b = unchanged (unlinked_or_released (server_at m files v) h.body)
      by false true = of_body h.body
      by false false = unchanged (unlinked_or_released (server_at m files v) h.body)

-- ---- the root alone

pub named_first : AreNamed only_root no_nodes no_handles
named_first = record {
  rows = tt;
  opens = tt;
  coming = λ fh le. refl;
  named = λ x other there no_node no_number. by x (cases_eq x 0) there;
}
  where
    by : (x : ℕ) → (x ≡ 0) ⊎ (x ≢ 0) → IsThere only_root x → is_nameless only_root x ≡ false
    by x (inl e) there = subst (λ (y : ℕ). is_nameless only_root y ≡ false) (sym e) refl
    by x (inr ne) there = let none : get only_root.files x ≡ None =
        ap (λ b. cond b (Some a_directory) None) (tie_no x 0 ne) in absurd (true≢false (sym there ∙ ap is_some none))

pub named_new : (tree : Tree) (nodes : NodeTable) (handles : HandleTable) → tree ≡ only_root → nodes ≡ no_nodes
    → handles ≡ no_handles → AreNamed tree nodes handles
named_new tree nodes handles root none empty =
    subst (λ (t : Tree). AreNamed t nodes handles) (sym root)
    (subst (λ (n : NodeTable). AreNamed only_root n handles) (sym none)
    (subst (λ (h : HandleTable). AreNamed only_root no_nodes h) (sym empty) named_first))
