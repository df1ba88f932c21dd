-- What a performed request's reply names is counted, where the reply goes out.
use Rattle.fuse_spec.specs.declared.Minor.TheVariants.{M15, M31}
use Rattle.fuse_spec.specs.declared.Minor.{Minor}
use Rattle.fuse_spec.proofs.QueueCounts.{count_by-cons}
use Rattle.std.proofs.Common.{◌≡◌, ℕ, ◌+◌, ◌≤◌, Bool, true, false, not, ◌||◌, cond, [], Option, Some, None, refl, ap, sym, subst, arith, List, ◌∷◌, map, count_by, nat_eq, get_or, ◌∙◌, inl, inr, All}
use Rattle.std.specs.Prelude.{MatchOption}
use Rattle.std.proofs.lemmas.List.Elements.{All-nil, All-cons, All-map}
use Rattle.fuse_spec.specs.declared.Entry.{Entry}
use Rattle.fuse_spec.specs.Values.Maps.{get}
use Rattle.fuse_spec.specs.Kernel.Messages.{RequestBody, init, asks, release, forget, batch_forget, interrupt, WireReply}
use Rattle.fuse_spec.specs.Files.Operations.{Reply, done, failed, files_in_reply, errno_of}
use Rattle.fuse_spec.specs.Files.FileOperations.{FileOperation, reply_by, tree_after}
use Rattle.fuse_spec.specs.Files.Trees.{Tree}
use Rattle.fuse_spec.specs.Server.Nodes.{HeldNode, NodeTable, file_of, is_open, MayName, IsUnheld, MayChoose, given, all_given, handle_back, given_row}
use Rattle.fuse_spec.specs.Server.Server.{Server, HeldRequest}
use Rattle.fuse_spec.specs.Server.Performs.{PerformResult, file_operation_of, is_open_for, doing, wire_of, refusing, performing, performed, is_still_held, files_by, files_given, entry_for, init_reply}
use Rattle.fuse_spec.specs.Claim.Counts.{times_named}
use Rattle.fuse_spec.specs.Claim.Denotes.{Denotes}
use Rattle.fuse_theorem.specs.Lookups.{IsHeldAs, EntriesHeld}
use Rattle.fuse_theorem.specs.ServerTables.{NodesSound}
use Rattle.fuse_theorem.proofs.Refining.LookupsCounted.{all_given_denotes}
use Rattle.fuse_theorem.proofs.Refining.Naming.{all_given_nodes}
use Rattle.fuse_theorem.proofs.Nodes.NodesSound.{put_found}
use Rattle.fuse_theorem.proofs.Refining.Pairs.{files_with}
use Rattle.fuse_theorem.proofs.Lookups.RowCounts.{count_of, given_count}
use Rattle.fuse_theorem.proofs.Nodes.ServerSound.{no_node}

abbrev Named : NodeTable → Entry → Type 0
Named t g = (2 ≤ g.nodeid) × IsHeldAs t g.nodeid g.generation

-- ---- a reply that is sent

-- how often ids are chosen
abbrev times : (ℕ → ℕ) → ℕ → List ℕ → ℕ
times choice id files = count_by (λ (f : ℕ). nat_eq (choice f) id) files

given_times : (choice : ℕ → ℕ) (files : List ℕ) (t : NodeTable) (id : ℕ)
    → count_of (all_given choice t files) id ≡ count_of t id + times choice id files
given_times choice [] t id = omega arith
given_times choice (f ∷ files) t id =
    let more = given_count t f (choice f) id in
    let counts = count_by-cons (λ (x : ℕ). nat_eq (choice x) id) f files in
    let rest = given_times choice files (given t f (choice f)) id in
    omega (arith, more, counts, rest)

named_times : (choice : ℕ → ℕ) (t : NodeTable) (tree : Tree) (files : List ℕ) (id : ℕ)
    → count_by (λ (g : Entry). nat_eq g.nodeid id) (map (entry_for choice t tree) files) ≡ times choice id files
named_times choice t tree [] id = refl
named_times choice t tree (f ∷ files) id =
    let a = count_by-cons (λ (g : Entry). nat_eq g.nodeid id) (entry_for choice t tree f)
    (map (entry_for choice t tree) files) in
    let b = count_by-cons (λ (x : ℕ). nat_eq (choice x) id) f files in
    let rest = named_times choice t tree files id in
    omega (arith, a, b, rest)

-- each file that it names is counted once more
wire_counts : (choice : ℕ → ℕ) (t : NodeTable) (tree : Tree) (fh : ℕ) (reply : Reply ℕ ℕ) (id : ℕ)
    → count_of (all_given choice t (files_in_reply reply)) id
    ≡ count_of t id + times_named id (wire_of choice (all_given choice t (files_in_reply reply)) tree fh reply)
wire_counts choice t tree fh reply id =
    let last = all_given choice t (files_in_reply reply) in
    let given = given_times choice (files_in_reply reply) t id in
    let named : times_named id (wire_of choice last tree fh reply) ≡ times choice id (files_in_reply reply) =
    ap (λ (gs : List Entry). count_by (λ (g : Entry). nat_eq g.nodeid id) gs)
    (files_with (entry_for choice last tree) (λ (file : ℕ). fh) reply) ∙ named_times choice last tree
    (files_in_reply reply) id in
    omega (arith, given, named)

-- an id that may name a file is no root
chosen_low : (t : NodeTable) → ((id : ℕ) (row : HeldNode) → get t.rows id ≡ Some row → 2 ≤ id) → (file id : ℕ)
    → MayName t file id → 2 ≤ id
chosen_low t ids file id may = by (get t.rows id) refl may
  where
    by : (o : Option HeldNode) → get t.rows id ≡ o → MatchOption o ((2 ≤ id) × IsUnheld t file)
        (λ row. row.file ≡ file) → 2 ≤ id
    by None at m = m.0
    by (Some row) at m = ids id row at

all_low : (choice : ℕ → ℕ) (files : List ℕ) (t : NodeTable)
    → ((id : ℕ) (row : HeldNode) → get t.rows id ≡ Some row → 2 ≤ id) → MayChoose choice t files
    → All (λ (f : ℕ). 2 ≤ choice f) files
all_low choice [] t ids may = All-nil (λ (f : ℕ). 2 ≤ choice f)
all_low choice (f ∷ files) t ids may =
    let low = chosen_low t ids f (choice f) may.0 in
    All-cons (λ (x : ℕ). 2 ≤ choice x) f files low
    (all_low choice files (given t f (choice f)) (λ id row at. elim
    (put_found t.rows (choice f) (given_row t f (get t.rows (choice f))) id row at) [
      | inl e ↦ subst
          (λ (n : ℕ). 2 ≤ n) (sym e.0) low
      | inr e ↦ ids id row e
    ]) may.1)

-- each file that it names is held
wire_held : (choice : ℕ → ℕ) (t : NodeTable) → NodesSound t → (tree : Tree) (fh : ℕ) (reply : Reply ℕ ℕ)
    → MayChoose choice t (files_in_reply reply)
    → EntriesHeld (all_given choice t (files_in_reply reply))
    (wire_of choice (all_given choice t (files_in_reply reply)) tree fh reply)
wire_held choice t sound tree fh reply may =
    let files = files_in_reply reply in
    let last = all_given choice t files in
    let entry = entry_for choice last tree in
    let given = all_given_nodes choice files t (no_node t sound 1 (omega arith)) may in
    let low = all_low choice files t sound.ids may in
    subst (All (Named last)) (sym (files_with entry (λ (file : ℕ). fh) reply))
    (All-map (Named last) entry files (λ i f lt. (low i f lt, (get_or files i f, given i f lt))))

-- ---- a request that is performed

-- What becomes of the nodes: they grow by what the reply names, which is held, or nothing is named.
pub record Counts (s : Server) (did : PerformResult) : Type 0 where
  pub more : (i generation file : ℕ) → Denotes s.nodes i generation file → Denotes did.server.nodes i generation file
  pub counts : s.aborted ≡ false → (id : ℕ) → count_of did.server.nodes id ≡ count_of s.nodes id + times_named id did.wire
  pub same : s.aborted ≡ true → did.server.nodes ≡ s.nodes
  pub held : EntriesHeld did.server.nodes did.wire

module _ (choice : ℕ → ℕ) (s : Server) (sound : NodesSound s.nodes) where
  refusing_counts : (errno : ℕ) → Counts s (refusing s errno)
  refusing_counts errno = record {
    more = λ i generation file d. d;
    counts = λ live id. omega arith;
    same = λ dead. refl;
    held = All-nil (Named s.nodes);
  }

  module _ (operation : FileOperation) where
    abbrev reply : Reply ℕ ℕ
    reply = reply_by s.validity s.tree operation

    abbrev given_nodes : NodeTable
    given_nodes = all_given choice s.nodes (files_in_reply reply)

    abbrev sent_wire : WireReply
    sent_wire = wire_of choice given_nodes (tree_after s.tree operation) s.handles.next_fh reply

    doing_counts : MayChoose choice s.nodes (cond s.aborted [] (files_in_reply reply))
        → Counts s (doing choice s operation)
    doing_counts may = record {
      more = λ i generation file d. by_more s.aborted i generation file d;
      counts = λ live id.
          subst (λ (b : Bool). count_of (cond b s.nodes given_nodes) id
          ≡ count_of s.nodes id + times_named id (cond b (failed (errno_of reply)) sent_wire)) (sym live)
          (wire_counts choice s.nodes (tree_after s.tree operation) s.handles.next_fh reply id);
      same = λ dead. ap (λ (b : Bool). cond b s.nodes given_nodes) dead;
      held = by_held s.aborted may;
    }
      where
        by_more : (b : Bool) (i generation file : ℕ) → Denotes s.nodes i generation file
            → Denotes (cond b s.nodes given_nodes) i generation file
        by_more true i generation file d = d
        by_more false i generation file d = all_given_denotes choice (files_in_reply reply) s.nodes i generation file d

        by_held : (b : Bool) → MayChoose choice s.nodes (cond b [] (files_in_reply reply))
            → EntriesHeld (cond b s.nodes given_nodes) (cond b (failed (errno_of reply)) sent_wire)
        by_held true m = All-nil (Named s.nodes)
        by_held false m = wire_held choice s.nodes sound (tree_after s.tree operation) s.handles.next_fh reply m

  performing_counts : (body : RequestBody) → MayChoose choice s.nodes (cond s.aborted [] (files_by s body))
      → Counts s (performing choice s body)
  performing_counts (init flags) may = by s.minor
    where
      by : (m : Minor) → Counts s (record { server = s; wire = init_reply m flags })
      by M15 = record {
        more = λ i generation file d. d;
        counts = λ live id. omega arith;
        same = λ dead. refl;
        held = All-nil (Named s.nodes);
      }
      by M31 = record {
        more = λ i generation file d. d;
        counts = λ live id. omega arith;
        same = λ dead. refl;
        held = All-nil (Named s.nodes);
      }
  performing_counts (asks operation) may = by (is_open_for s operation) may
    where
      by : (b : Bool) → MayChoose choice s.nodes (cond s.aborted []
          (cond b (files_in_reply (reply_by s.validity s.tree (file_operation_of s.nodes operation))) []))
          → Counts s (cond b (doing choice s (file_operation_of s.nodes operation)) (refusing s 9))
      by true m = doing_counts (file_operation_of s.nodes operation) m
      by false m = refusing_counts 9
  performing_counts (release o) may = by (is_open s.handles o.fh (file_of s.nodes o.nodeid))
    where
      by : (b : Bool) → Counts s (cond b (record {
        server = record s { handles = handle_back s.handles o.fh };
        wire = done;
      }) (refusing s 9))
      by true = record {
        more = λ i generation file d. d;
        counts = λ live id. omega arith;
        same = λ dead. refl;
        held = All-nil (Named s.nodes);
      }
      by false = refusing_counts 9
  performing_counts (forget f) may = refusing_counts 5
  performing_counts (batch_forget fs) may = refusing_counts 5
  performing_counts (interrupt original) may = refusing_counts 5

  pub performed_counts : (t : HeldRequest) → MayChoose choice s.nodes (files_given s t)
      → Counts s (performed choice s t)
  performed_counts t may = by_mark t.marked may
    where
      no_files : (a : Bool) → MayChoose choice s.nodes (cond (a || false) [] (files_by s t.body))
          → MayChoose choice s.nodes (cond a [] (files_by s t.body))
      no_files true m = m
      no_files false m = m

      by_held : (b : Bool) → MayChoose choice s.nodes (cond (s.aborted || not b) [] (files_by s t.body))
          → Counts s (cond b (performing choice s t.body) (refusing s 5))
      by_held true m = performing_counts t.body (no_files s.aborted m)
      by_held false m = refusing_counts 5

      by_mark : (b : Bool) → MayChoose choice s.nodes (cond
          (s.aborted || (b || not (is_still_held s.nodes t.generations))) [] (files_by s t.body))
          → Counts s (cond b (refusing s 4) (cond (is_still_held s.nodes t.generations) (performing choice s t.body)
          (refusing s 5)))
      by_mark true m = refusing_counts 4
      by_mark false m = by_held (is_still_held s.nodes t.generations) m
