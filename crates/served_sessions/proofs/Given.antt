-- The entries that performing a request gives: of nodes from 2 up, and of directories and regular files.
use Rattle.std.proofs.Common.{◌≡◌, ◌≢◌, ◌≤◌, ℕ, Bool, true, false, cond, [], Option, Some, None, refl, sym, ap, subst, All, get_or}
use Rattle.std.proofs.lemmas.List.Elements.{All-nil, All-map}
use Rattle.fuse_spec.specs.declared.Entry.{Entry}
use Rattle.fuse_spec.specs.declared.Kind.{Kind}
use Rattle.fuse_spec.specs.declared.Kind.TheVariants.{Directory, Regular, Other}
use Rattle.fuse_spec.specs.declared.Opened.{Opened}
use Rattle.fuse_spec.specs.declared.Validity.{Validity}
use Rattle.fuse_spec.specs.Values.Maps.{get, remove}
use Rattle.fuse_spec.specs.Files.Operations as reply
use Rattle.fuse_spec.specs.Files.Operations.{Operation, Reply, create, errno_of, failed, files_in_reply, lookup, mkdir, reply_with}
use Rattle.fuse_spec.specs.Files.FileOperations.{FileOperation, lookup_reply, refusal, reply_by, reply_or, reply_unrefused, tree_after, tree_or, tree_unrefused}
use Rattle.fuse_spec.specs.Files.Trees.{Content, Tree, a_directory, a_file, file_at, kind_of}
use Rattle.fuse_spec.specs.Kernel.Messages.{RequestBody, WireReply, asks, batch_forget, forget, init, interrupt, release}
use Rattle.fuse_spec.specs.Server.Nodes.{MayChoose, NodeTable, all_given, file_of, handle_back, is_open}
use Rattle.fuse_spec.specs.Server.Performs.{doing, entry_for, file_operation_of, files_given, is_open_for, is_still_held, performing, refusing, served, wire_of}
use Rattle.fuse_spec.specs.Server.Server.{HeldRequest, Server}
use Rattle.fuse_spec.proofs.Tables.{get_put_here}
use Rattle.fuse_theorem.specs.ServerTables.{NodesSound, TreeSound}
use Rattle.fuse_theorem.proofs.Lookups.PerformedCounts.{performed_counts}
use Rattle.fuse_theorem.proofs.Refining.Pairs.{files_with}
use Rattle.fk_wire.specs.declared.opcode.Opcode.{Opcode}
use Rattle.fk_wire.specs.declared.opcode.Opcode.TheVariants as op
use Rattle.fuse_frames.specs.RequestTies.{asked_opcode}
use Rattle.served_sessions.proofs.Standing.{Stands, given_there}

-- the kind that a request makes, if it makes one
abbrev pub MadeKind : Opcode → Kind → Type 0
MadeKind op.Mkdir kind = kind ≡ Directory
MadeKind op.Create kind = kind ≡ Regular
MadeKind o kind = Unit {0}

-- Its entry is of that kind, and only LOOKUP's names a missing file.
abbrev pub MadeFor : Opcode → WireReply → Type 0
MadeFor o (reply.found e valid) = MadeKind o e.attributes.kind
MadeFor o (reply.created e valid fh) = MadeKind o e.attributes.kind
MadeFor o (reply.missing valid) = o ≡ op.Lookup
MadeFor o wire = Unit {0}

abbrev pub HasKind : Entry → Type 0
HasKind e = e.attributes.kind ≢ Other

abbrev pub IsGood : Entry → Type 0
IsGood e = (2 ≤ e.nodeid) × (e.attributes.kind ≢ Other)

-- A reply to a request of this opcode gives such entries.
pub record WireGives (o : Opcode) (wire : WireReply) : Type 0 where
  pub entries : All (λ (e : Entry). (2 ≤ e.nodeid) × (e.attributes.kind ≢ Other)) (files_in_reply wire)
  pub made : MadeFor o wire

-- as far as their kinds
record HasKinds (o : Opcode) (wire : WireReply) : Type 0 where
  entries : All (λ (e : Entry). e.attributes.kind ≢ Other) (files_in_reply wire)
  made : MadeFor o wire

fails : (o : Opcode) (errno : ℕ) → HasKinds o (failed errno)
fails o errno = record { entries = All-nil HasKind; made = tt }

pub gives_none : (o : Opcode) (errno : ℕ) → WireGives o (failed errno)
gives_none o errno = record { entries = All-nil IsGood; made = tt }

pub gives_done : (o : Opcode) → WireGives o reply.done
gives_done o = record { entries = All-nil IsGood; made = tt }

pub kind_there : (content : Option Content) → content ≢ None → kind_of content ≢ Other
kind_there None there is = there refl
kind_there (Some a_directory) there is = cc
kind_there (Some (a_file bytes)) there is = cc

module _ (choice : ℕ → ℕ) (s : Server) (sound : TreeSound s.tree) (stands : Stands s.tree) where
  -- ---- what the tree replies

  module _ (nodes : NodeTable) (operation : Operation ℕ Opened) where
    abbrev did : FileOperation
    did = file_operation_of s.nodes operation

    abbrev sent_as : Tree → Reply ℕ ℕ → WireReply
    sent_as tree r = reply_with (entry_for choice nodes tree) (λ (file : ℕ). s.handles.next_fh) r

    kinds : All (λ (e : Entry). e.attributes.kind ≢ Other)
        (files_in_reply (wire_of choice nodes (tree_after s.tree (file_operation_of s.nodes operation)) s.handles.next_fh
        (reply_by s.validity s.tree (file_operation_of s.nodes operation))))
    kinds =
        let after = tree_after s.tree (file_operation_of s.nodes operation) in
        let said = reply_by s.validity s.tree (file_operation_of s.nodes operation) in
        let entry = entry_for choice nodes after in
        subst (All HasKind) (sym (files_with entry (λ (file : ℕ). s.handles.next_fh) said))
        (All-map HasKind entry (files_in_reply said)
        (λ i d lt. kind_there (get after.files (get_or (files_in_reply said) i d))
        (given_there s.tree sound stands s.validity (file_operation_of s.nodes operation) i d lt)))

  module _ (nodes : NodeTable) where
    looked : (valid : Validity) (tree : Tree) (fh : ℕ) (o : Option ℕ)
        → MadeFor op.Lookup (reply_with (entry_for choice nodes tree) (λ (file : ℕ). fh) (lookup_reply valid o))
    looked valid tree fh None = refl
    looked valid tree fh (Some file) = tt

    made_unrefused : (fh : ℕ) (operation : Operation ℕ Opened) → MadeFor (asked_opcode (asks operation))
        (reply_with (entry_for choice nodes (tree_unrefused s.tree (file_operation_of s.nodes operation)))
        (λ (file : ℕ). fh) (reply_unrefused s.validity s.tree (file_operation_of s.nodes operation)))
    made_unrefused fh (lookup d name) = looked s.validity s.tree fh (file_at s.tree (file_of s.nodes d) name)
    made_unrefused fh (mkdir d name) =
        ap (λ (c : Option Content). kind_of c) (get_put_here s.tree.files s.tree.next_inode a_directory)
    made_unrefused fh (create d name) =
        ap (λ (c : Option Content). kind_of c) (get_put_here s.tree.files s.tree.next_inode (a_file []))
    made_unrefused fh operation = tt

    made : (fh : ℕ) (operation : Operation ℕ Opened) → MadeFor (asked_opcode (asks operation))
        (wire_of choice nodes (tree_after s.tree (file_operation_of s.nodes operation)) fh
        (reply_by s.validity s.tree (file_operation_of s.nodes operation)))
    made fh operation = by (refusal s.tree (file_operation_of s.nodes operation))
      where
        by : (o : Option ℕ) → MadeFor (asked_opcode (asks operation))
            (reply_with (entry_for choice nodes
            (tree_or s.tree (tree_unrefused s.tree (file_operation_of s.nodes operation)) o)) (λ (file : ℕ). fh)
            (reply_or (reply_unrefused s.validity s.tree (file_operation_of s.nodes operation)) o))
        by None = made_unrefused fh operation
        by (Some errno) = tt

  -- ---- what is performed

  doing_kinds : (operation : Operation ℕ Opened)
      → HasKinds (asked_opcode (asks operation)) (doing choice s (file_operation_of s.nodes operation)).wire
  doing_kinds operation = by s.aborted
    where
      file_operation : FileOperation
      file_operation = file_operation_of s.nodes operation

      said : Reply ℕ ℕ
      said = reply_by s.validity s.tree file_operation

      nodes : NodeTable
      nodes = all_given choice s.nodes (files_in_reply said)

      by : (b : Bool) → HasKinds (asked_opcode (asks operation))
          (cond b (failed (errno_of said)) (wire_of choice nodes (tree_after s.tree file_operation) s.handles.next_fh said))
      by true = fails (asked_opcode (asks operation)) (errno_of said)
      by false = record { entries = kinds nodes operation; made = made nodes s.handles.next_fh operation }

  performing_kinds : (body : RequestBody) → HasKinds (asked_opcode body) (performing choice s body).wire
  performing_kinds (init flags) = record { entries = All-nil HasKind; made = tt }
  performing_kinds (asks operation) = by (is_open_for s operation)
    where
      by : (b : Bool) → HasKinds (asked_opcode (asks operation))
          (cond b (doing choice s (file_operation_of s.nodes operation)) (refusing s 9)).wire
      by true = doing_kinds operation
      by false = fails (asked_opcode (asks operation)) 9
  performing_kinds (release o) = by (is_open s.handles o.fh (file_of s.nodes o.nodeid))
    where
      by : (b : Bool) → HasKinds op.Release (cond b (record {
        server = record s { handles = handle_back s.handles o.fh };
        wire = reply.done;
      }) (refusing s 9)).wire
      by true = record { entries = All-nil HasKind; made = tt }
      by false = fails op.Release 9
  performing_kinds (forget f) = fails op.Forget 5
  performing_kinds (batch_forget fs) = fails op.BatchForget 5
  performing_kinds (interrupt original) = fails op.Interrupt 5

module _ (choice : ℕ → ℕ) (s : Server) (nodes : NodesSound s.nodes) (tree : TreeSound s.tree) (stands : Stands s.tree)
    (unique : ℕ) (taken : HeldRequest) (may : MayChoose choice s.nodes (files_given s taken)) where
  served_kinds : HasKinds (asked_opcode taken.body) (served choice s unique taken).wire
  served_kinds = by taken.marked (is_still_held s.nodes taken.generations)
    where
      less : Server
      less = record s { held = remove s.held unique }

      by : (m h : Bool) → HasKinds (asked_opcode taken.body) (cond m (refusing less 4)
          (cond h (performing choice less taken.body) (refusing less 5))).wire
      by true h = fails (asked_opcode taken.body) 4
      by false true = performing_kinds choice less tree stands taken.body
      by false false = fails (asked_opcode taken.body) 5

  -- What a held request is answered gives such entries.
  pub served_gives : WireGives (asked_opcode taken.body) (served choice s unique taken).wire
  served_gives =
      let less : Server = record s { held = remove s.held unique } in
      let held = (performed_counts choice less nodes taken may).held in
      let kinds = served_kinds.entries in
      record { entries = λ i d lt. ((held i d lt).0, kinds i d lt); made = served_kinds.made }
