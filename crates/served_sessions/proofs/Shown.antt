-- What a performed request's reply says of files is so: of the file of each node that an entry names, and of GETATTR's.
use Rattle.std.proofs.Common.{◌≡◌, ◌≢◌, ◌≤◌, ℕ, ◌+◌, Bool, true, false, not, ◌||◌, cond, [], Some, refl, sym, ◌∙◌, ap, subst, All, get_or, arith}
use Rattle.std.proofs.lemmas.List.Elements.{All-nil, All-map}
use Rattle.fuse_spec.specs.declared.Attributes.{Attributes}
use Rattle.fuse_spec.specs.declared.Entry.{Entry}
use Rattle.fuse_spec.specs.declared.Kind.TheVariants.{Other}
use Rattle.fuse_spec.specs.Values.Maps.{get, remove}
use Rattle.fuse_spec.specs.Files.Operations as reply
use Rattle.fuse_spec.specs.Files.Operations.{Operation, Reply, errno_of, failed, files_in_reply, getattr}
use Rattle.fuse_spec.specs.Files.FileOperations.{FileOperation, reply_by, tree_after}
use Rattle.fuse_spec.specs.Files.Trees.{Tree, attributes_of, kind_of}
use Rattle.fuse_spec.specs.Kernel.Messages.{RequestBody, WireReply, asks, batch_forget, forget, init, interrupt, release}
use Rattle.fuse_spec.specs.Server.Nodes.{HeldNode, MayChoose, NodeTable, all_given, file_of, handle_back, is_open, root_row, row_of}
use Rattle.fuse_spec.specs.Server.Performs.{doing, entry_for, file_operation_of, files_by, files_given, is_open_for, is_still_held, performed, performing, refusing, served, wire_of}
use Rattle.fuse_spec.specs.Server.Server.{HeldRequest, Server, without_unheld_files}
use Rattle.fuse_spec.specs.Claim.Denotes.{Denotes}
use Rattle.fuse_theorem.specs.ServerTables.{NodesSound, TreeSound}
use Rattle.fuse_theorem.proofs.Calls.Finding.{other_is}
use Rattle.fuse_theorem.proofs.Lookups.PerformedCounts.{performed_counts}
use Rattle.fuse_theorem.proofs.Nodes.ServerSound.{no_node}
use Rattle.fuse_theorem.proofs.Refining.Naming.{all_given_nodes}
use Rattle.fuse_theorem.proofs.Refining.Pairs.{files_with}
use Rattle.fuse_theorem.proofs.Trees.HeldOperations.{denoted}
use Rattle.served_sessions.proofs.FileKinds.{held_stays}
use Rattle.served_sessions.proofs.Given.{kind_there}
use Rattle.served_sessions.proofs.HeldFiles.{node_holds}
use Rattle.served_sessions.proofs.Standing.{IsThere, Stands, given_there}

-- These are the attributes of a file that is there.
pub record AreOf (tree : Tree) (file : ℕ) (a : Attributes) : Type 0 where
  pub kind : a.kind ≡ kind_of (get tree.files file)
  pub ino : a.ino ≡ file + 1
  pub some : a.kind ≢ Other

-- An entry is of a node that is held, and says the attributes of its file.
abbrev pub IsEntryOf : NodeTable → Tree → Entry → Type 0
IsEntryOf t tree e = (file : ℕ) × Denotes t e.nodeid e.generation file × AreOf tree file e.attributes

-- So do a reply's, and GETATTR's says those of its node's file.
pub record Shows (t : NodeTable) (tree : Tree) (body : RequestBody) (wire : WireReply) : Type 0 where
  pub entries : All (IsEntryOf t tree) (files_in_reply wire)
  pub described : (n : ℕ) (a : Attributes) → body ≡ asks (getattr n) → wire ≡ reply.attributes a → 2 ≤ n
      → (generation file : ℕ) → Denotes t n generation file → AreOf tree file a

-- the root alone has another row than the table's
pub row_held : (t : NodeTable) (id generation file : ℕ) → 2 ≤ id → (d : Denotes t id generation file)
    → get t.rows id ≡ Some d.row
row_held t id generation file low d = sym (ap (λ (b : Bool). cond b (Some root_row) (get t.rows id))
    (other_is id 1 (λ is_root. omega (arith, is_root, low)))) ∙ d.there

pub row_there : (t : NodeTable) (id : ℕ) (row : HeldNode) → 2 ≤ id → get t.rows id ≡ Some row → row_of t id ≡ Some row
row_there t id row low at = ap (λ (b : Bool). cond b (Some root_row) (get t.rows id))
    (other_is id 1 (λ is_root. omega (arith, is_root, low))) ∙ at

-- the file of a node stays where nameless files go
pub node_stays : (s : Server) (id generation file : ℕ) → 2 ≤ id → Denotes s.nodes id generation file
    → get (without_unheld_files s).tree.files file ≡ get s.tree.files file
node_stays s id generation file low d = subst
    (λ (f : ℕ). get (without_unheld_files s).tree.files f ≡ get s.tree.files f) d.same_file
    (held_stays s (let row = d.row in row.file) (node_holds s id d.row (row_held s.nodes id generation file low d)))

are_still : (s : Server) (id generation file : ℕ) (a : Attributes) → 2 ≤ id → Denotes s.nodes id generation file
    → AreOf s.tree file a → AreOf (without_unheld_files s).tree file a
are_still s id generation file a low d are = record {
  kind = are.kind ∙ sym (ap kind_of (node_stays s id generation file low d));
  ino = are.ino;
  some = are.some;
}

refused_shows : (t : NodeTable) (tree : Tree) (body : RequestBody) (errno : ℕ) → Shows t tree body (failed errno)
refused_shows t tree body errno = record {
  entries = All-nil (IsEntryOf t tree);
  described = λ n a is says. let no_attributes : ◌≡◌ {A = WireReply} (failed errno) (reply.attributes a) = says in absurd cc;
}

module _ (choice : ℕ → ℕ) (s : Server) (nodes : NodesSound s.nodes) (tree : TreeSound s.tree) (stands : Stands s.tree) where
  doing_entries : (operation : FileOperation)
      → MayChoose choice s.nodes (cond s.aborted [] (files_in_reply (reply_by s.validity s.tree operation)))
      → All (IsEntryOf (doing choice s operation).server.nodes (tree_after s.tree operation))
      (files_in_reply (doing choice s operation).wire)
  doing_entries operation may = by s.aborted may
    where
      by : (b : Bool) → MayChoose choice s.nodes (cond b [] (files_in_reply (reply_by s.validity s.tree operation)))
          → All (IsEntryOf (cond b s.nodes (all_given choice s.nodes (files_in_reply
          (reply_by s.validity s.tree operation)))) (tree_after s.tree operation))
          (files_in_reply (cond b (failed (errno_of (reply_by s.validity s.tree operation))) (wire_of choice
          (all_given choice s.nodes (files_in_reply (reply_by s.validity s.tree operation)))
          (tree_after s.tree operation) s.handles.next_fh (reply_by s.validity s.tree operation))))
      by true m = All-nil (IsEntryOf s.nodes (tree_after s.tree operation))
      by false m =
          let files = files_in_reply (reply_by s.validity s.tree operation) in
          let last = all_given choice s.nodes files in
          let after = tree_after s.tree operation in
          let entry = entry_for choice last after in
          let given = all_given_nodes choice files s.nodes (no_node s.nodes nodes 1 (omega arith)) m in
          let there = given_there s.tree tree stands s.validity operation in
          subst (All (IsEntryOf last after)) (sym (files_with entry (λ (file : ℕ). s.handles.next_fh)
          (reply_by s.validity s.tree operation)))
          (All-map (IsEntryOf last after) entry files (λ i f lt. (
            get_or files i f,
            given i f lt,
            record { kind = refl; ino = refl; some = kind_there (get after.files (get_or files i f)) (there i f lt) },
          )))

  -- GETATTR's reply
  doing_described : (n : ℕ) (a : Attributes) → (doing choice s (getattr (file_of s.nodes n))).wire ≡ reply.attributes a
      → IsThere s.tree (file_of s.nodes n) → (generation file : ℕ)
      → Denotes (doing choice s (getattr (file_of s.nodes n))).server.nodes n generation file → AreOf s.tree file a
  doing_described n a = by s.aborted
    where
      attributes_in : WireReply → Attributes
      attributes_in (reply.attributes x) = x
      attributes_in wire = a

      by : (b : Bool) → cond {A = WireReply} b (failed 0) (reply.attributes (attributes_of s.tree (file_of s.nodes n)))
          ≡ reply.attributes a
          → IsThere s.tree (file_of s.nodes n) → (generation file : ℕ)
          → Denotes (cond b s.nodes s.nodes) n generation file → AreOf s.tree file a
      by true says there generation file d = let no_attributes : ◌≡◌ {A = WireReply} (failed 0) (reply.attributes a) = says in absurd cc
      by false says there generation file d =
          let same : attributes_of s.tree (file_of s.nodes n) ≡ a = ap attributes_in says in
          subst (λ (f : ℕ). AreOf s.tree f a) (denoted s.nodes n generation file d)
          (subst (AreOf s.tree (file_of s.nodes n)) same
          (record { kind = refl; ino = refl; some = kind_there (get s.tree.files (file_of s.nodes n)) there }))

  abbrev Described : ℕ → Attributes → RequestBody → Type 0
  Described n a body = (performing choice s body).wire ≡ reply.attributes a → (generation file : ℕ)
      → Denotes (performing choice s body).server.nodes n generation file
      → AreOf (performing choice s body).server.tree file a

  performing_shows : (body : RequestBody) → ((n : ℕ) → IsThere s.tree (file_of s.nodes n))
      → MayChoose choice s.nodes (cond s.aborted [] (files_by s body))
      → Shows (performing choice s body).server.nodes (performing choice s body).server.tree body (performing choice s body).wire
  performing_shows (asks operation) there may = record {
    entries = by (is_open_for s operation) may;
    described = λ n a is says low generation file d. of_getattr n a is says generation file d;
  }
    where
      by : (b : Bool) → MayChoose choice s.nodes (cond s.aborted [] (cond b
          (files_in_reply (reply_by s.validity s.tree (file_operation_of s.nodes operation))) []))
          → All (IsEntryOf (cond b (doing choice s (file_operation_of s.nodes operation)) (refusing s 9)).server.nodes
          (cond b (doing choice s (file_operation_of s.nodes operation)) (refusing s 9)).server.tree)
          (files_in_reply (cond b (doing choice s (file_operation_of s.nodes operation)) (refusing s 9)).wire)
      by true m = doing_entries (file_operation_of s.nodes operation) m
      by false m = All-nil (IsEntryOf s.nodes s.tree)

      of_getattr : (n : ℕ) (a : Attributes) → asks operation ≡ asks (getattr n) → Described n a (asks operation)
      of_getattr n a is = subst (Described n a) (sym is)
          (λ says generation file d. doing_described n a says (there n) generation file d)
  performing_shows (init flags) there may = record {
    entries = All-nil (IsEntryOf s.nodes s.tree);
    described = λ n a is says. absurd cc;
  }
  performing_shows (release o) there may = by (is_open s.handles o.fh (file_of s.nodes o.nodeid))
    where
      by : (b : Bool) → Shows (cond b (record {
        server = record s { handles = handle_back s.handles o.fh };
        wire = reply.done;
      }) (refusing s 9)).server.nodes (cond b (record {
        server = record s { handles = handle_back s.handles o.fh };
        wire = reply.done;
      }) (refusing s 9)).server.tree (release o) (cond b (record {
        server = record s { handles = handle_back s.handles o.fh };
        wire = reply.done;
      }) (refusing s 9)).wire
      by true = record { entries = All-nil (IsEntryOf s.nodes s.tree); described = λ n a is says. absurd cc }
      by false = refused_shows s.nodes s.tree (release o) 9
  performing_shows (forget f) there may = refused_shows s.nodes s.tree (forget f) 5
  performing_shows (batch_forget fs) there may = refused_shows s.nodes s.tree (batch_forget fs) 5
  performing_shows (interrupt original) there may = refused_shows s.nodes s.tree (interrupt original) 5

  performed_shows : (taken : HeldRequest) → ((n : ℕ) → IsThere s.tree (file_of s.nodes n))
      → MayChoose choice s.nodes (files_given s taken)
      → Shows (performed choice s taken).server.nodes (performed choice s taken).server.tree taken.body
      (performed choice s taken).wire
  performed_shows taken there may = by_mark taken.marked may
    where
      no_files : (a : Bool) → MayChoose choice s.nodes (cond (a || false) [] (files_by s taken.body))
          → MayChoose choice s.nodes (cond a [] (files_by s taken.body))
      no_files true m = m
      no_files false m = m

      by_held : (b : Bool) → MayChoose choice s.nodes (cond (s.aborted || not b) [] (files_by s taken.body))
          → Shows (cond b (performing choice s taken.body) (refusing s 5)).server.nodes
          (cond b (performing choice s taken.body) (refusing s 5)).server.tree taken.body
          (cond b (performing choice s taken.body) (refusing s 5)).wire
      by_held true m = performing_shows taken.body there (no_files s.aborted m)
      by_held false m = refused_shows s.nodes s.tree taken.body 5

      by_mark : (b : Bool) → MayChoose choice s.nodes (cond
          (s.aborted || (b || not (is_still_held s.nodes taken.generations))) [] (files_by s taken.body))
          → Shows (cond b (refusing s 4) (cond (is_still_held s.nodes taken.generations) (performing choice s taken.body)
          (refusing s 5))).server.nodes (cond b (refusing s 4) (cond (is_still_held s.nodes taken.generations)
          (performing choice s taken.body) (refusing s 5))).server.tree taken.body (cond b (refusing s 4)
          (cond (is_still_held s.nodes taken.generations) (performing choice s taken.body) (refusing s 5))).wire
      by_mark true m = refused_shows s.nodes s.tree taken.body 4
      by_mark false m = by_held (is_still_held s.nodes taken.generations) m

-- What a held request is answered is so of the server behind it.
pub served_shows : (choice : ℕ → ℕ) (s : Server) → NodesSound s.nodes → TreeSound s.tree → Stands s.tree
    → ((n : ℕ) → IsThere s.tree (file_of s.nodes n)) → (unique : ℕ) (taken : HeldRequest)
    → MayChoose choice s.nodes (files_given s taken)
    → Shows (served choice s unique taken).server.nodes (served choice s unique taken).server.tree taken.body
    (served choice s unique taken).wire
served_shows choice s nodes tree stands there unique taken may =
    let less : Server = record s { held = remove s.held unique } in
    let did : Server = (performed choice less taken).server in
    let shows = performed_shows choice less nodes tree stands taken there may in
    let held = (performed_counts choice less nodes taken may).held in
    record {
      entries = λ i d lt.
          let one = shows.entries i d lt in
          let entry = get_or (files_in_reply (served choice s unique taken).wire) i d in
          (one.0, one.1, are_still did entry.nodeid entry.generation one.0 entry.attributes (held i d lt).0 one.1 one.2);
      described = λ n a is says low generation file d.
          are_still did n generation file a low d (shows.described n a is says low generation file d);
    }
