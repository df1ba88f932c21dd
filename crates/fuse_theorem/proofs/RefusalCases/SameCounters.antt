-- Whatever ids the server chooses, a performed request leaves its counters the same.
use Rattle.std.proofs.lemmas.Bool.{cases_eq}
use Rattle.std.proofs.Common.{◌≡◌, ◌≤◌, ℕ, ◌+◌, Bool, true, false, not, ◌||◌, cond, List, [], Option, Some, None, refl, ◌∷◌, ap, sym, subst, ◌∙◌, inl, inr}
use Rattle.std.specs.Prelude.{MatchOption}
use Rattle.fuse_spec.specs.Values.Maps.{get, remove}
use Rattle.fuse_spec.specs.Kernel.Messages.{RequestBody, init, asks, release, forget, batch_forget, interrupt}
use Rattle.fuse_spec.specs.Files.Operations.{files_in_reply}
use Rattle.fuse_spec.specs.Files.FileOperations.{FileOperation, reply_by}
use Rattle.fuse_spec.specs.Server.Nodes.{HeldNode, NodeTable, IsUnheld, MayName, MayChoose, generation_after, all_given, given, given_row}
use Rattle.fuse_spec.specs.Server.Server.{Server, HeldRequest}
use Rattle.fuse_spec.specs.Server.Performs.{file_operation_of, is_open_for, is_still_held, doing, refusing, performing, performed, served, files_by, files_given}
use Rattle.fuse_spec.proofs.Tables.{get_put_here, get_put_there}
use Rattle.fuse_theorem.proofs.Nodes.NodesSound.{put_found}

-- The two servers allocate the same numbers next.
pub record SameCounters (s t : Server) : Type 0 where
  pub inode : s.tree.next_inode ≡ t.tree.next_inode
  pub cookie : s.tree.next_cookie ≡ t.tree.next_cookie
  pub generation : s.nodes.next_generation ≡ t.nodes.next_generation
  pub number : s.handles.next_fh ≡ t.handles.next_fh
  pub copy : s.next_copy ≡ t.next_copy
  pub aborted : s.aborted ≡ t.aborted

same_counters : (s : Server) → SameCounters s s
same_counters s = record { inode = refl; cookie = refl; generation = refl; number = refl; copy = refl; aborted = refl }

-- The file has a node.
abbrev HasNode : NodeTable → ℕ → Type 0
HasNode t file = (id : ℕ) × (row : HeldNode) × (get t.rows id ≡ Some row) × (row.file ≡ file)

-- The two tables have nodes of the same files, and give the same generation next.
record SameHeld (t u : NodeTable) : Type 0 where
  held : (file : ℕ) → HasNode t file → HasNode u file
  back : (file : ℕ) → HasNode u file → HasNode t file
  generation : t.next_generation ≡ u.next_generation

-- What `MayName` says of an id with this row.
abbrev Names : NodeTable → ℕ → ℕ → Option HeldNode → Type 0
Names t file id row = MatchOption row ((2 ≤ id) × IsUnheld t file) (λ row. row.file ≡ file)

-- the row that a file is given
its_row : (t : NodeTable) (file id : ℕ) (o : Option HeldNode) → Names t file id o → (given_row t file o).file ≡ file
its_row t file id None m = refl
its_row t file id (Some row) m = m

module _ (t u : NodeTable) (file i j : ℕ) (m : MayName t file i) (n : MayName u file j) where
  -- a node of the one table after the file is given one there, in the other
  given_node : ((x : ℕ) → HasNode t x → HasNode u x) → (x : ℕ) → HasNode (given t file i) x → HasNode (given u file j) x
  given_node held x has = elim (put_found t.rows i (given_row t file (get t.rows i)) has.0 has.1 has.2) [
    | inl e ↦ (
      j,
      given_row u file (get u.rows j),
      get_put_here u.rows j (given_row u file (get u.rows j)),
      its_row u file j (get u.rows j) n ∙ sym (its_row t file i (get t.rows i) m) ∙ ap
          (λ (r : HeldNode). r.file) e.1 ∙ has.3,
    )
    | inr at ↦ let old = held x (has.0, has.1, at, has.3) in elim (cases_eq old.0 j) [
      | inl e ↦ (
        j,
        given_row u file (get u.rows j),
        get_put_here u.rows j (given_row u file (get u.rows j)),
        by old.1 (subst (λ (k : ℕ). get u.rows k ≡ Some old.1) e old.2) old.3 (get u.rows j) refl n,
      )
      | inr ne ↦ (old.0, old.1, get_put_there u.rows j (given_row u file (get u.rows j)) old.0 ne ∙ old.2, old.3)
    ]
  ]
    where
      by : (row : HeldNode) → get u.rows j ≡ Some row → row.file ≡ x → (o : Option HeldNode) → get u.rows j ≡ o
          → Names u file j o → (given_row u file o).file ≡ x
      by row at is None none names = absurd (cc (at, none))
      by row at is (Some other) there names = let same : row ≡ other =
          cc (at, there) in ap (λ (r : HeldNode). r.file) (sym same) ∙ is

  -- either takes the next generation, or neither does
  same_generation : SameHeld t u → generation_after t (get t.rows i) ≡ generation_after u (get u.rows j)
  same_generation same = by (get t.rows i) (get u.rows j) refl refl m n
    where
      by : (a b : Option HeldNode) → get t.rows i ≡ a → get u.rows j ≡ b → Names t file i a → Names u file j b
          → generation_after t a ≡ generation_after u b
      by None None at there p q = ap (λ (g : ℕ). g + 1) same.generation
      by (Some x) (Some y) at there p q = same.generation
      by None (Some y) at there p q = let other = same.back file (j, y, there, q) in
          absurd (p.1 other.0 other.1 other.2 other.3)
      by (Some x) None at there p q = let other = same.held file (i, x, at, p) in
          absurd (q.1 other.0 other.1 other.2 other.3)

given_same : (t u : NodeTable) → SameHeld t u → (file i j : ℕ) → MayName t file i → MayName u file j
    → SameHeld (given t file i) (given u file j)
given_same t u same file i j m n = record {
  held = given_node t u file i j m n same.held;
  back = given_node u t file j i n m same.back;
  generation = same_generation t u file i j m n same;
}

module _ (c d : ℕ → ℕ) where
  given_generation : (files : List ℕ) (t u : NodeTable) → SameHeld t u → MayChoose c t files → MayChoose d u files
      → (all_given c t files).next_generation ≡ (all_given d u files).next_generation
  given_generation [] t u same m n = same.generation
  given_generation (file ∷ files) t u same m n = given_generation files (given t file (c file)) (given u file (d file))
      (given_same t u same file (c file) (d file) m.0 n.0) m.1 n.1

  module _ (s : Server) where
    abbrev BothMay : List ℕ → Type 0
    BothMay files = MayChoose c s.nodes files × MayChoose d s.nodes files

    doing_counters : (operation : FileOperation) → BothMay
        (cond s.aborted [] (files_in_reply (reply_by s.validity s.tree operation)))
        → SameCounters (doing c s operation).server (doing d s operation).server
    doing_counters operation both = record {
      inode = refl;
      cookie = refl;
      generation = by s.aborted both;
      number = refl;
      copy = refl;
      aborted = refl;
    }
      where
        by : (b : Bool) → BothMay (cond b [] (files_in_reply (reply_by s.validity s.tree operation)))
            → (cond b s.nodes (all_given c s.nodes (files_in_reply
            (reply_by s.validity s.tree operation)))).next_generation
            ≡ (cond b s.nodes (all_given d s.nodes (files_in_reply
            (reply_by s.validity s.tree operation)))).next_generation
        by true may = refl
        by false may = given_generation (files_in_reply (reply_by s.validity s.tree operation)) s.nodes s.nodes
            (record { held = λ file held. held; back = λ file held. held; generation = refl }) may.0 may.1

    performing_counters : (body : RequestBody) → BothMay (cond s.aborted [] (files_by s body))
        → SameCounters (performing c s body).server (performing d s body).server
    performing_counters (init flags) both = same_counters s
    performing_counters (asks operation) both = by (is_open_for s operation) both
      where
        by : (b : Bool) → BothMay (cond s.aborted [] (cond b
            (files_in_reply (reply_by s.validity s.tree (file_operation_of s.nodes operation))) []))
            → SameCounters (cond b (doing c s (file_operation_of s.nodes operation)) (refusing s 9)).server
            (cond b (doing d s (file_operation_of s.nodes operation)) (refusing s 9)).server
        by true may = doing_counters (file_operation_of s.nodes operation) may
        by false may = same_counters s
    performing_counters (release o) both = same_counters (performing c s (release o)).server
    performing_counters (forget f) both = same_counters s
    performing_counters (batch_forget fs) both = same_counters s
    performing_counters (interrupt original) both = same_counters s

    performed_counters : (t : HeldRequest) → BothMay (files_given s t)
        → SameCounters (performed c s t).server (performed d s t).server
    performed_counters t both = by_mark t.marked both
      where
        by_held : (b : Bool) → BothMay (cond (s.aborted || not b) [] (files_by s t.body))
            → SameCounters (cond b (performing c s t.body) (refusing s 5)).server
            (cond b (performing d s t.body) (refusing s 5)).server
        by_held true may = performing_counters t.body (no_files s.aborted may)
          where
            no_files : (a : Bool) → BothMay (cond (a || false) [] (files_by s t.body))
                → BothMay (cond a [] (files_by s t.body))
            no_files true m = m
            no_files false m = m
        by_held false may = same_counters s

        by_mark : (b : Bool) → BothMay (cond (s.aborted || (b || not (is_still_held s.nodes t.generations))) []
            (files_by s t.body))
            → SameCounters (cond b (refusing s 4) (cond (is_still_held s.nodes t.generations) (performing c s t.body)
            (refusing s 5))).server
            (cond b (refusing s 4) (cond (is_still_held s.nodes t.generations) (performing d s t.body)
            (refusing s 5))).server
        by_mark true may = same_counters s
        by_mark false may = by_held (is_still_held s.nodes t.generations) may

  -- With either choice of ids, the server allocates the same numbers after the request.
  pub served_counters : (s : Server) (unique : ℕ) (t : HeldRequest) → MayChoose c s.nodes (files_given s t)
      → MayChoose d s.nodes (files_given s t) → SameCounters (served c s unique t).server (served d s unique t).server
  served_counters s unique t m n =
      let same = performed_counters (record s { held = remove s.held unique }) t (m, n) in
      record {
        inode = same.inode;
        cookie = same.cookie;
        generation = same.generation;
        number = same.number;
        copy = λ i. cond (same.aborted i) (same.copy i) (same.copy i + 1);
        aborted = same.aborted;
      }
