-- A nameless file leaves the tree as its last holder goes: one file is looked at, since all others that nothing holds
-- have names.
use Rattle.std.proofs.Common.{◌≡◌, ◌≢◌, ℕ, Bool, true, false, true≢false, not, cond, ◌||◌, List, [], ◌∷◌, Option, Some, None, IsSome, is_some, nat_eq, filter, refl, ap, sym, subst, ◌∙◌, T, eq-eqb}
use Rattle.std.specs.List.{list_any}
use Rattle.std.specs.FinMap.{is_sorted, nat_cmp-IsAntisymmetric}
use Rattle.std.specs.FinMap.Entries.{find-where_key}
use Rattle.std.specs.Ordering.{nat_cmp, is_eq}
use Rattle.std.proofs.lemmas.Option.{none-some, same_Some}
use Rattle.fuse_spec.specs.Values.Maps.{Map, get, remove, values}
use Rattle.fuse_spec.specs.Server.Nodes.{HeldNode, NodeTable, HandleTable, FileHandle, IsUnheld}
use Rattle.fuse_spec.specs.Server.Server.{is_file_held}
use Rattle.fuse_spec.specs.Files.Trees.{Content, Tree, is_nameless}
use Rattle.fuse_spec.specs.declared.Validity.{Validity}
use Rattle.fuse_spec.proofs.Tables.{cmp_same}
use Rattle.fuse_tables.proofs.Maps.{any_is, any_there}
use Rattle.fs_tree.specs.Outcomes.{discarded, without_nameless, without_unheld}
use Rattle.fs_tree.proofs.Shaping.{same_number}
use Rattle.fs_files.specs.Bounds.{AreNamed, AreNamedBut, IsThere, IsUnopened}
use Rattle.fs_files.specs.Values.{FilesState, server_of}

-- ---- entries that pass a test of their keys

module _ {X : Type 0} where
  some_here : (e : ℕ × X) (es : Map X) → IsSome (get (e ∷ es) e.0)
  some_here e es = ap (λ r. is_some (cond (is_eq r) (Some e.1) (get es e.0))) (cmp_same e.0)

  some_more : (e : ℕ × X) (es : Map X) (x : ℕ) → IsSome (get es x) → IsSome (get (e ∷ es) x)
  some_more e es x there = by (is_eq (nat_cmp x e.0))
    where
      by : (b : Bool) → IsSome (cond b (Some e.1) (get es x))
      by true = refl
      by false = there

module _ {X : Type 0} (stays : ℕ → Bool) where
  -- where each passes, all are left
  all_stay : (m : Map X) → ((x : ℕ) → IsSome (get m x) → stays x ≡ true) → filter (λ e. stays e.0) m ≡ m
  all_stay [] each = refl
  all_stay (e ∷ es) each = rw (each e.0 (some_here e es))
      (ap (λ (l : Map X). e ∷ l) (all_stay es (λ x there. each x (some_more e es x there))))

  -- where all but one pass, that one goes
  one_goes : (file : ℕ) → stays file ≡ false → (m : Map X) → ((x : ℕ) → x ≢ file → IsSome (get m x) → stays x ≡ true)
      → filter (λ e. stays e.0) m ≡ remove m file
  one_goes file gone [] each = refl
  one_goes file gone (e ∷ es) each = by (nat_eq e.0 file) refl
      (one_goes file gone es (λ x ne there. each x ne (some_more e es x there)))
    where
      by : (b : Bool) → nat_eq e.0 file ≡ b → filter (λ d. stays d.0) es ≡ remove es file
          → cond (stays e.0) (e ∷ filter (λ d. stays d.0) es) (filter (λ d. stays d.0) es)
          ≡ cond (not b) (e ∷ remove es file) (remove es file)
      by true same rest = rw (ap stays (same_number e.0 file same) ∙ gone) rest
      by false other rest = rw (each e.0 (λ same. true≢false (sym (eq-eqb e.0 file same) ∙ other)) (some_here e es))
          (ap (λ (l : Map X). e ∷ l) rest)

-- ---- what holds files

or_held : (a b : Bool) → b ≡ true → (a || b) ≡ true
or_held true b e = refl
or_held false b e = e

held_first : (a b : Bool) → a ≡ true → (a || b) ≡ true
held_first true b e = refl
held_first false b e = absurd (true≢false (sym e))

either : {P : Type 0} (a b : Bool) → (a || b) ≡ true → (a ≡ true → P) → (b ≡ true → P) → P
either true b e left right = left refl
either false b e left right = right e

module _ (files : FilesState) (v : Validity) where
  abbrev holds : ℕ → Bool
  holds = is_file_held (server_of files v)

  abbrev has_node : ℕ → Bool
  has_node x = list_any (λ (row : HeldNode). nat_eq row.file x) (values files.nodes.rows)

  abbrev is_opened : ℕ → Bool
  is_opened x = list_any (λ (h : FileHandle). nat_eq h.file x) (values files.handles.handles)

  held_by_node : (id : ℕ) (row : HeldNode) → get files.nodes.rows id ≡ Some row → (x : ℕ) → row.file ≡ x
      → holds x ≡ true
  held_by_node id row is x same = held_first (has_node x) (is_opened x)
      (any_there files.nodes.rows (λ (r : HeldNode). nat_eq r.file x) id row is (eq-eqb row.file x same))

  held_by_handle : (fh : ℕ) (h : FileHandle) → get files.handles.handles fh ≡ Some h → (x : ℕ) → h.file ≡ x
      → holds x ≡ true
  held_by_handle fh h is x same = or_held (has_node x) (is_opened x)
      (any_there files.handles.handles (λ (g : FileHandle). nat_eq g.file x) fh h is (eq-eqb h.file x same))

  -- what is not held has no node and no file handle
  pub unheld : (x : ℕ) → holds x ≡ false → IsUnheld files.nodes x
  unheld x none id row is same = true≢false (sym (held_by_node id row is x same) ∙ none)

  pub unopened : (x : ℕ) → holds x ≡ false → IsUnopened files.handles x
  unopened x none fh h is same = true≢false (sym (held_by_handle fh h is x same) ∙ none)

  -- and what is held has one
  pub not_both : T (is_sorted nat_cmp files.nodes.rows) → T (is_sorted nat_cmp files.handles.handles) → (x : ℕ)
      → holds x ≡ true → IsUnheld files.nodes x → IsUnopened files.handles x → ⊥
  not_both rows opens x is no_node no_number =
      either (has_node x) (is_opened x) is
      (λ any. true≢false (sym any ∙ sym (any_is false files.nodes.rows (λ (r : HeldNode). nat_eq r.file x) rows
      (λ e. absurd (true≢false (sym e))) (λ has. absurd
      (no_node has.key has.value has.there (same_number has.value.file x has.passes))))))
      (λ any. true≢false (sym any ∙ sym (any_is false files.handles.handles (λ (h : FileHandle). nat_eq h.file x) opens
      (λ e. absurd (true≢false (sym e))) (λ has. absurd
      (no_number has.key has.value has.there (same_number has.value.file x has.passes))))))

  -- ---- what stays in the tree

  abbrev stays : ℕ → Bool
  stays x = not (is_nameless files.tree x) || holds x

  module _ (but : Option ℕ) (named : AreNamedBut but files.tree files.nodes files.handles) where
    other_stays : (x : ℕ) → (but ≡ Some x → ⊥) → IsThere files.tree x → stays x ≡ true
    other_stays x other there = by (holds x) refl
      where
        by : (b : Bool) → holds x ≡ b → (not (is_nameless files.tree x) || b) ≡ true
        by true e = or_held (not (is_nameless files.tree x)) true refl
        by false e = held_first (not (is_nameless files.tree x)) false
            (ap not (named.named x other there (unheld x e) (unopened x e)))

    -- once they are gone that nothing holds, each is named or held
    pub all_named : AreNamed (without_unheld holds files.tree) files.nodes files.handles
    all_named = record {
      rows = named.rows;
      opens = named.opens;
      coming = named.coming;
      named = λ x other there no_node no_number. by x (holds x) refl no_node no_number (is_nameless files.tree x) refl
          (sym (ap is_some (left_is x)) ∙ there);
    }
      where
        left_is : (x : ℕ) → get (without_unheld holds files.tree).files x ≡ cond (stays x) (get files.tree.files x) None
        left_is x = find-where_key nat_cmp stays x (λ y t. ap stays
            (sym (nat_cmp-IsAntisymmetric x y t))) files.tree.files

        by : (x : ℕ) (b : Bool) → holds x ≡ b → IsUnheld files.nodes x → IsUnopened files.handles x → (n : Bool)
            → is_nameless files.tree x ≡ n → is_some (cond (not n || b) (get files.tree.files x) None) ≡ true
            → n ≡ false
        by x true e no_node no_number n is there = absurd (not_both named.rows named.opens x e no_node no_number)
        by x false e no_node no_number true is there = absurd (true≢false (sym there))
        by x false e no_node no_number false is there = refl

  -- none is to be looked at
  pub discarded_unheld_none : AreNamed files.tree files.nodes files.handles → files.tree ≡ without_unheld holds files.tree
  discarded_unheld_none named = ap (λ (m : Map Content). record files.tree { files = m })
      (sym (all_stay stays files.tree.files (λ x there. other_stays None named x (λ e. none-some x e) there)))

  -- the one that is looked at goes, if nothing holds it
  pub discarded_unheld_one : (file : ℕ) → AreNamedBut (Some file) files.tree files.nodes files.handles → (b : Bool)
      → holds file ≡ b → cond b files.tree (discarded files.tree file) ≡ without_unheld holds files.tree
  discarded_unheld_one file named b is = by b is (is_nameless files.tree file) refl
    where
      others : (x : ℕ) → x ≢ file → IsThere files.tree x → stays x ≡ true
      others x ne there = other_stays (Some file) named x (λ e. ne (sym (same_Some file x e))) there

      all : stays file ≡ true → files.tree ≡ without_unheld holds files.tree
      all stay = ap (λ (m : Map Content). record files.tree { files = m })
          (sym (all_stay stays files.tree.files (λ x there. each x there (nat_eq x file) refl)))
        where
          each : (x : ℕ) → IsThere files.tree x → (c : Bool) → nat_eq x file ≡ c → stays x ≡ true
          each x there true same = ap stays (same_number x file same) ∙ stay
          each x there false other = others x (λ same. true≢false (sym (eq-eqb x file same) ∙ other)) there

      by : (c : Bool) → holds file ≡ c → (n : Bool) → is_nameless files.tree file ≡ n
          → cond c files.tree (record files.tree { files = cond n (remove files.tree.files file) files.tree.files })
          ≡ without_unheld holds files.tree
      by true held n nameless = all (or_held (not (is_nameless files.tree file)) (holds file) held)
      by false held true nameless =
          ap (λ (m : Map Content). record files.tree { files = m })
          (sym (one_goes stays file (λ i. not (nameless i) || held i) files.tree.files others))
      by false held false nameless = all (held_first (not (is_nameless files.tree file)) (holds file) (ap not nameless))

  pub discarded_unheld_if_none : (but : Option ℕ) → but ≡ None → AreNamedBut but files.tree files.nodes files.handles
      → files.tree ≡ without_unheld holds files.tree
  discarded_unheld_if_none but none named = discarded_unheld_none (subst
      (λ (o : Option ℕ). AreNamedBut o files.tree files.nodes files.handles) none named)

  module _ (but : Option ℕ) (file : ℕ) (is : but ≡ Some file)
      (named : AreNamedBut but files.tree files.nodes files.handles) where
    but_file : AreNamedBut (Some file) files.tree files.nodes files.handles
    but_file = subst (λ (o : Option ℕ). AreNamedBut o files.tree files.nodes files.handles) is named

    pub discarded_unheld_held : holds file ≡ true → files.tree ≡ without_unheld holds files.tree
    discarded_unheld_held held = discarded_unheld_one file but_file true held

    pub named_held : holds file ≡ true → AreNamed files.tree files.nodes files.handles
    named_held held = subst (λ (t : Tree). AreNamed t files.nodes files.handles) (sym (discarded_unheld_held held))
        (all_named but named)

    pub discarded_unheld_gone : holds file ≡ false → discarded files.tree file ≡ without_unheld holds files.tree
    discarded_unheld_gone none = discarded_unheld_one file but_file false none

    pub named_gone : holds file ≡ false → AreNamed (discarded files.tree file) files.nodes files.handles
    named_gone none = subst (λ (t : Tree). AreNamed t files.nodes files.handles) (sym (discarded_unheld_gone none))
        (all_named but named)

-- ---- where nothing is known

or_none : (b : Bool) → (b || false) ≡ b
or_none true = refl
or_none false = refl

module _ (tree : Tree) (nodes : NodeTable) (handles : HandleTable) where
  pub cleared_tree : (new : FilesState) (v : Validity) → new.tree ≡ without_nameless tree
      → new.nodes ≡ record nodes { rows = [] } → new.handles ≡ record handles { handles = [] }
      → new.tree ≡ without_unheld (is_file_held (server_of new v)) tree
  cleared_tree new v left no_nodes no_handles =
      left
      ∙ (λ i. record tree { files = filter (λ e. sym (or_none (not (is_nameless tree e.0))) i) tree.files })
      ∙ (λ i. without_unheld (λ x. list_any (λ (row : HeldNode). nat_eq row.file x) (values (sym no_nodes i).rows)
      || list_any (λ (h : FileHandle). nat_eq h.file x) (values (sym no_handles i).handles)) tree)

  pub cleared_named : AreNamed (without_nameless tree) (record nodes { rows = [] }) (record handles { handles = [] })
  cleared_named = record {
    rows = tt;
    opens = tt;
    coming = λ fh le. refl;
    named = λ x other there no_node no_number. by x (is_nameless tree x) refl (sym (ap is_some (left_is x)) ∙ there);
  }
    where
      left_is : (x : ℕ) → get (without_nameless tree).files x ≡ cond (not (is_nameless tree x)) (get tree.files x) None
      left_is x = find-where_key nat_cmp (λ y. not (is_nameless tree y)) x
          (λ y t. ap (λ z. not (is_nameless tree z)) (sym (nat_cmp-IsAntisymmetric x y t))) tree.files

      by : (x : ℕ) (n : Bool) → is_nameless tree x ≡ n → is_some (cond (not n) (get tree.files x) None) ≡ true
          → n ≡ false
      by x true is there = absurd (true≢false (sym there))
      by x false is there = refl

  pub cleared_files : (new : Tree) (n : NodeTable) (h : HandleTable) → new ≡ without_nameless tree
      → n ≡ record nodes { rows = [] } → h ≡ record handles { handles = [] } → AreNamed new n h
  cleared_files new n h left no_nodes no_handles =
      subst (λ (t : Tree). AreNamed t n h) (sym left)
      (subst (λ (m : NodeTable). AreNamed (without_nameless tree) m h) (sym no_nodes)
      (subst (λ (k : HandleTable). AreNamed (without_nameless tree) (record nodes { rows = [] }) k)
      (sym no_handles) cleared_named))

-- ---- one file after another

module _ {E : Type 0} (p q : E → Bool) (each : (e : E) → p e ≡ true → q e ≡ true) where
  filter_twice : (m : List E) → filter p (filter q m) ≡ filter p m
  filter_twice [] = refl
  filter_twice (e ∷ es) = by (q e) refl (p e) refl (filter_twice es)
    where
      by : (b : Bool) → q e ≡ b → (c : Bool) → p e ≡ c → filter p (filter q es) ≡ filter p es
          → filter p (cond b (e ∷ filter q es) (filter q es)) ≡ cond c (e ∷ filter p es) (filter p es)
      by true in_q true in_p rest = rw in_p (ap (λ (l : List E). e ∷ l) rest)
      by true in_q false in_p rest = rw in_p rest
      by false in_q true in_p rest = absurd (true≢false (sym (each e in_p) ∙ in_q))
      by false in_q false in_p rest = rest

-- what is held stays held, going back
module _ (old new : FilesState) (v : Validity) (named : AreNamed new.tree new.nodes new.handles)
    (no_node : (x : ℕ) → IsUnheld old.nodes x → IsUnheld new.nodes x)
    (no_number : (x : ℕ) → IsUnopened old.handles x → IsUnopened new.handles x) where
  was_held : (x : ℕ) → holds new v x ≡ true → holds old v x ≡ true
  was_held x is = by (holds old v x) refl
    where
      by : (b : Bool) → holds old v x ≡ b → b ≡ true
      by true e = refl
      by false e = absurd (not_both new v named.rows named.opens x is (no_node x (unheld old v x e))
          (no_number x (unopened old v x e)))

  -- to discard before and then now is to discard now
  pub discarded_unheld_twice : (tree : Tree) → without_unheld (holds new v) (without_unheld (holds old v) tree)
      ≡ without_unheld (holds new v) tree
  discarded_unheld_twice tree =
      ap (λ (m : Map Content). record tree { files = m })
      (filter_twice (λ (e : ℕ × Content). not (is_nameless tree e.0) || holds new v e.0)
      (λ (e : ℕ × Content). not (is_nameless tree e.0) || holds old v e.0)
      (λ e. stays_still (not (is_nameless tree e.0)) (holds new v e.0) (holds old v e.0) (was_held e.0)) tree.files)
    where
      stays_still : (n a b : Bool) → (a ≡ true → b ≡ true) → (n || a) ≡ true → (n || b) ≡ true
      stays_still true a b more is = refl
      stays_still false a b more is = more is
