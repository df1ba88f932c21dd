-- Each file of which a server holds a node or a file handle is there, and stays so.
use Rattle.std.proofs.Common.{◌≡◌, ◌≢◌, ◌≤◌, ◌⊎◌, inl, inr, ℕ, ◌-◌, Bool, true, false, true≢false, ◌||◌, cond, List, [], ◌∷◌, Option, Some, None, refl, sym, ◌∙◌, ap, subst, All, nat_eq, arith}
use Rattle.std.specs.Prelude.{nat_lt}
use Rattle.std.specs.List.{list_any}
use Rattle.std.proofs.lemmas.Bool.{cases_eq}
use Rattle.std.proofs.lemmas.List.Elements.{All-head, All-tail}
use Rattle.fuse_spec.specs.declared.Entry.{Entry}
use Rattle.fuse_spec.specs.declared.Opened.{Opened}
use Rattle.fuse_spec.specs.declared.WriteResult.{WriteResult}
use Rattle.fuse_spec.specs.declared.WriteResult.TheVariants.{Accepted, Invalid, NoEntry}
use Rattle.fuse_spec.specs.Values.Maps.{Map, get, put, remove, values}
use Rattle.fuse_spec.specs.Files.Operations.{Operation, create, done, files_in_reply, getattr, link, lookup, mkdir, opening, opens_in_reply, read, readdir, readdirplus, rename, rmdir, unlink, write}
use Rattle.fuse_spec.specs.Files.Trees.{Content, a_directory, kind_of}
use Rattle.fuse_spec.specs.Files.FileOperations.{FileOperation, reply_by, tree_after}
use Rattle.fuse_spec.specs.Kernel.Messages.{Forget, RequestBody, asks, batch_forget, forget, init, interrupt, release}
use Rattle.fuse_spec.specs.Server.Copies.{given_back, handles_back, kept_after, row_back, rows_back, settled}
use Rattle.fuse_spec.specs.Server.Nodes.{FileHandle, HandleTable, HeldNode, NodeTable, all_given, all_opened, file_in, file_of, given, given_row, handle_back, handle_opened, is_file_of, is_held, is_open, root_row, row_of, rows_less, taken_back}
use Rattle.fuse_spec.specs.Server.Performs.{doing, file_operation_of, is_open_for, is_still_held, performed, performing, refusing, served}
use Rattle.fuse_spec.specs.Server.Server.{Copy, HeldRequest, Kept, Server, all_taken_back, forgetting, is_file_held, without_unheld_files}
use Rattle.fuse_spec.specs.Server.Taking.{interrupting, taking}
use Rattle.fuse_theorem.specs.ServerTables.{TreeSound}
use Rattle.fuse_theorem.proofs.Calls.Finding.{other_is, same_is}
use Rattle.fuse_theorem.proofs.Nodes.NodesSound.{left_found, put_found}
use Rattle.fuse_theorem.proofs.Refining.Settling.{handle_back_left}
use Rattle.fuse_theorem.proofs.Trees.NamelessDiscarded.{found_any}
use Rattle.served_sessions.proofs.FileKinds.{AreNumbered, FilesLater, IsFit, IsRegular, WasThere, discarded_later, held_stays, later_after, opens_after, regular_there, same_files, there_after, then_files}
use Rattle.served_sessions.proofs.Standing.{IsThere, Stands, given_there}

-- each file of which there is a node is such
abbrev pub EachNode : (ℕ → Type 0) → NodeTable → Type 0
EachNode IsSuch t = (id : ℕ) (row : HeldNode) → get t.rows id ≡ Some row → IsSuch row.file

abbrev pub EachHandle : (ℕ → Type 0) → HandleTable → Type 0
EachHandle IsSuch h = (fh : ℕ) (handle : FileHandle) → get h.handles fh ≡ Some handle → IsSuch handle.file

-- ---- tables

module _ (IsSuch : ℕ → Type 0) where
  given_each : (t : NodeTable) (file id : ℕ) → IsSuch file → EachNode IsSuch t → EachNode IsSuch (given t file id)
  given_each t file id here all i row at =
      by (get t.rows id) refl (put_found t.rows id (given_row t file (get t.rows id)) i row at)
    where
      now : (o : Option HeldNode) → get t.rows id ≡ o → IsSuch (given_row t file o).file
      now None there = here
      now (Some old) there = all id old there

      by : (o : Option HeldNode) → get t.rows id ≡ o
          → ((i ≡ id) × (given_row t file (get t.rows id) ≡ row)) ⊎ (get t.rows i ≡ Some row) → IsSuch row.file
      by o there (inl is) = subst (λ (r : HeldNode). IsSuch r.file) is.1 (now (get t.rows id) refl)
      by o there (inr old) = all i row old

  all_given_each : (choice : ℕ → ℕ) (files : List ℕ) (t : NodeTable) → All IsSuch files → EachNode IsSuch t
      → EachNode IsSuch (all_given choice t files)
  all_given_each choice [] t such all = all
  all_given_each choice (f ∷ files) t such all = all_given_each choice files (given t f (choice f))
      (All-tail IsSuch f files such) (given_each t f (choice f) (All-head IsSuch f files such) all)

  taken_each : (t : NodeTable) (id n : ℕ) → EachNode IsSuch t → EachNode IsSuch (taken_back t id n)
  taken_each t id n all i row at = by (get t.rows id) refl at
    where
      left : (old : HeldNode) (b : Bool) → get t.rows id ≡ Some old
          → get (cond b (put t.rows id (record old { count = old.count - n })) (remove t.rows id)) i ≡ Some row
          → IsSuch row.file
      left old true there e = of (put_found t.rows id (record old { count = old.count - n }) i row e)
        where
          of : ((i ≡ id) × (record old { count = old.count - n } ≡ row)) ⊎ (get t.rows i ≡ Some row) → IsSuch row.file
          of (inl is) = subst (λ (r : HeldNode). IsSuch r.file) is.1 (all id old there)
          of (inr was) = all i row was
      left old false there e = all i row (left_found t.rows id i row e)

      by : (o : Option HeldNode) → get t.rows id ≡ o → get (rows_less t.rows id n o) i ≡ Some row → IsSuch row.file
      by None there e = all i row e
      by (Some old) there e = left old (nat_lt n old.count) there e

  all_taken_each : (fs : List Forget) (t : NodeTable) → EachNode IsSuch t → EachNode IsSuch (all_taken_back t fs)
  all_taken_each [] t all = all
  all_taken_each (f ∷ fs) t all = all_taken_each fs (taken_back t f.0 f.1) (taken_each t f.0 f.1 all)

  row_back_each : (t : NodeTable) (e : Entry) → EachNode IsSuch t → EachNode IsSuch (row_back t e)
  row_back_each t e all = by (is_held t e.nodeid e.generation)
    where
      by : (b : Bool) → EachNode IsSuch (cond b (taken_back t e.nodeid 1) t)
      by true = taken_each t e.nodeid 1 all
      by false = all

  rows_back_each : (es : List Entry) (t : NodeTable) → EachNode IsSuch t → EachNode IsSuch (rows_back t es)
  rows_back_each [] t all = all
  rows_back_each (e ∷ es) t all = rows_back_each es (row_back t e) (row_back_each t e all)

  handle_back_each : (h : HandleTable) (fh : ℕ) → EachHandle IsSuch h → EachHandle IsSuch (handle_back h fh)
  handle_back_each h fh all i handle at =
      let was = handle_back_left h fh i handle at in subst IsSuch (sym was.2) (all i was.0 was.1)

  handles_back_each : (fhs : List ℕ) (h : HandleTable) → EachHandle IsSuch h → EachHandle IsSuch (handles_back h fhs)
  handles_back_each [] h all = all
  handles_back_each (fh ∷ fhs) h all = handles_back_each fhs (handle_back h fh) (handle_back_each h fh all)

  opened_each : (h : HandleTable) (file : ℕ) → IsSuch file → EachHandle IsSuch h
      → EachHandle IsSuch (handle_opened h file)
  opened_each h file here all i handle at =
      of (put_found h.handles h.next_fh (record { file = file; count = 1 }) i handle at)
    where
      of : ((i ≡ h.next_fh) × (record { file = file; count = 1 } ≡ handle)) ⊎ (get h.handles i ≡ Some handle)
          → IsSuch handle.file
      of (inl is) = subst (λ (x : FileHandle). IsSuch x.file) is.1 here
      of (inr was) = all i handle was

  all_opened_each : (files : List ℕ) (h : HandleTable) → All IsSuch files → EachHandle IsSuch h
      → EachHandle IsSuch (all_opened h files)
  all_opened_each [] h such all = all
  all_opened_each (f ∷ files) h such all = all_opened_each files (handle_opened h f) (All-tail IsSuch f files such)
      (opened_each h f (All-head IsSuch f files such) all)

  -- the file of one that is open
  open_each : (h : HandleTable) → EachHandle IsSuch h → (fh file : ℕ) → is_open h fh file ≡ true → IsSuch file
  open_each h all fh file is = by (get h.handles fh) refl is
    where
      by : (o : Option FileHandle) → get h.handles fh ≡ o → is_file_of file o ≡ true → IsSuch file
      by None at e = absurd (true≢false (sym e))
      by (Some x) at e = elim (cases_eq x.file file) [
        | inl same ↦ subst IsSuch same (all fh x at)
        | inr ne ↦ absurd (true≢false (sym e ∙ other_is x.file file ne))
      ]

-- ---- a server

-- Files that nodes hold are there, files that file handles hold are regular ones, and each file is numbered.
pub record IsFirm (s : Server) : Type 0 where
  pub nodes : EachNode (IsThere s.tree) s.nodes
  pub handles : EachHandle (IsRegular s.tree.files) s.handles
  pub numbered : AreNumbered s.tree.files s.tree.next_inode

-- a file that a node holds
pub node_holds : (s : Server) (id : ℕ) (row : HeldNode) → get s.nodes.rows id ≡ Some row → is_file_held s row.file ≡ true
node_holds s id row at = first (list_any (λ (r : HeldNode). nat_eq r.file row.file) (values s.nodes.rows))
    (found_any (λ (r : HeldNode). nat_eq r.file row.file) s.nodes.rows id row at (same_is row.file))
  where
    first : (b : Bool) → b ≡ true
        → (b || list_any (λ (h : FileHandle). nat_eq h.file row.file) (values s.handles.handles)) ≡ true
    first true is = refl
    first false is = absurd (true≢false (sym is))

handle_holds : (s : Server) (fh : ℕ) (handle : FileHandle) → get s.handles.handles fh ≡ Some handle
    → is_file_held s handle.file ≡ true
handle_holds s fh handle at = second (list_any (λ (r : HeldNode). nat_eq r.file handle.file) (values s.nodes.rows))
    (found_any (λ (h : FileHandle). nat_eq h.file handle.file) s.handles.handles fh handle at (same_is handle.file))
  where
    second : (b : Bool) → list_any (λ (h : FileHandle). nat_eq h.file handle.file) (values s.handles.handles) ≡ true
        → (b || list_any (λ (h : FileHandle). nat_eq h.file handle.file) (values s.handles.handles)) ≡ true
    second true is = refl
    second false is = is

pub discarded_firm : (s : Server) → IsFirm s → IsFirm (without_unheld_files s)
discarded_firm s firm = record {
  nodes = λ id row at none. firm.nodes id row at (sym (held_stays s row.file (node_holds s id row at)) ∙ none);
  handles = λ fh handle at. ap kind_of (held_stays s handle.file (handle_holds s fh handle at)) ∙ firm.handles fh handle at;
  numbered = (discarded_later s).numbered firm.numbered;
}

abbrev pub FilesOn : Server → Server → Type 0
FilesOn old new = FilesLater old.tree.files old.tree.next_inode new.tree.files new.tree.next_inode

-- Files go on from one moment to another.
pub record Keeping (old new : Server) : Type 0 where
  pub firm : IsFirm new
  pub files : FilesOn old new

same_keeping : (s : Server) → IsFirm s → Keeping s s
same_keeping s firm = record { firm = firm; files = same_files s.tree.files s.tree.next_inode }

-- ---- a request is taken

forgetting_keeping : (s : Server) → IsFirm s → (fs : List Forget) → Keeping s (forgetting s fs)
forgetting_keeping s firm fs = record {
  firm = discarded_firm (record s { nodes = all_taken_back s.nodes fs }) (record {
    nodes = all_taken_each (IsThere s.tree) fs s.nodes firm.nodes;
    handles = firm.handles;
    numbered = firm.numbered;
  });
  files = discarded_later (record s { nodes = all_taken_back s.nodes fs });
}

pub taking_keeping : (s : Server) → IsFirm s → (unique : ℕ) (body : RequestBody)
    → Keeping s (taking s unique body).server
taking_keeping s firm unique (init flags) = record {
  firm = record { nodes = firm.nodes; handles = firm.handles; numbered = firm.numbered };
  files = same_files s.tree.files s.tree.next_inode;
}
taking_keeping s firm unique (asks operation) = record {
  firm = record { nodes = firm.nodes; handles = firm.handles; numbered = firm.numbered };
  files = same_files s.tree.files s.tree.next_inode;
}
taking_keeping s firm unique (release o) = record {
  firm = record { nodes = firm.nodes; handles = firm.handles; numbered = firm.numbered };
  files = same_files s.tree.files s.tree.next_inode;
}
taking_keeping s firm unique (forget f) = forgetting_keeping s firm (f ∷ [])
taking_keeping s firm unique (batch_forget fs) = forgetting_keeping s firm fs
taking_keeping s firm unique (interrupt original) = by (get s.held original) (get s.kept original)
  where
    by : (h : Option HeldRequest) (k : Option Kept) → Keeping s (interrupting s unique original h k).server
    by (Some taken) k = record {
      firm = record { nodes = firm.nodes; handles = firm.handles; numbered = firm.numbered };
      files = same_files s.tree.files s.tree.next_inode;
    }
    by None (Some kept) = same_keeping s firm
    by None None = record {
      firm = record { nodes = firm.nodes; handles = firm.handles; numbered = firm.numbered };
      files = same_files s.tree.files s.tree.next_inode;
    }

-- ---- a request is performed

regular_after : (m : Map Content) (n : ℕ) (m' : Map Content) (n' : ℕ) → FilesLater m n m' n' → AreNumbered m n → (file : ℕ)
    → IsRegular m file → get m' file ≢ None → IsRegular m' file
regular_after m n m' n' later numbered file regular there = by (later.kinds file there)
  where
    by : (n ≤ file) ⊎ WasThere m file (get m' file) → IsRegular m' file
    by (inl fresh) = let low = numbered file (regular_there (get m file) regular) in absurd (omega (arith, low, fresh))
    by (inr was) = was.1 ∙ regular

module _ (choice : ℕ → ℕ) (s : Server) (sound : TreeSound s.tree) (stands : Stands s.tree) (firm : IsFirm s) where
  -- the file of a node is there, as the root is where none is held
  pub file_there : (id : ℕ) → IsThere s.tree (file_of s.nodes id)
  file_there id = of_row (row_of s.nodes id) refl
    where
      root_there : IsThere s.tree 0
      root_there none = let no_root : ◌≡◌ {A = Option Content} (Some a_directory) None = sym sound.root ∙ none in cc

      at_row : (b : Bool) (row : HeldNode) → cond b (Some root_row) (get s.nodes.rows id) ≡ Some row
          → IsThere s.tree row.file
      at_row true row e = let same : root_row ≡ row = cc in subst (λ (r : HeldNode). IsThere s.tree r.file) same root_there
      at_row false row e = firm.nodes id row e

      of_row : (o : Option HeldNode) → row_of s.nodes id ≡ o → IsThere s.tree (file_in o)
      of_row None at = root_there
      of_row (Some row) at = at_row (nat_eq id 1) row at

  fits : (operation : Operation ℕ Opened) → is_open_for s operation ≡ true
      → IsFit s.tree (file_operation_of s.nodes operation)
  fits (write o offset bytes) is = open_each (IsRegular s.tree.files) s.handles firm.handles o.fh (file_of s.nodes o.nodeid) is
  fits (opening x) is = file_there x
  fits (lookup d name) is = tt
  fits (getattr x) is = tt
  fits (mkdir d name) is = tt
  fits (create d name) is = tt
  fits (unlink d name) is = tt
  fits (rmdir d name) is = tt
  fits (rename d old e new) is = tt
  fits (link x d name) is = tt
  fits (readdir d after size) is = tt
  fits (readdirplus d after size) is = tt
  fits (read o offset size) is = tt

  doing_keeping : (operation : FileOperation) → IsFit s.tree operation → Keeping s (doing choice s operation).server
  doing_keeping operation fit = record {
    firm = record {
      nodes = by_nodes s.aborted;
      handles = by_handles s.aborted;
      numbered = later.numbered firm.numbered;
    };
    files = later;
  }
    where
      later : FilesLater s.tree.files s.tree.next_inode (tree_after s.tree operation).files
          (tree_after s.tree operation).next_inode
      later = later_after s.tree operation fit

      old_nodes : EachNode (IsThere (tree_after s.tree operation)) s.nodes
      old_nodes id row at = there_after s.tree operation row.file (firm.nodes id row at)

      old_handles : EachHandle (IsRegular (tree_after s.tree operation).files) s.handles
      old_handles fh handle at =
          let regular = firm.handles fh handle at in
          regular_after s.tree.files s.tree.next_inode (tree_after s.tree operation).files
          (tree_after s.tree operation).next_inode later firm.numbered handle.file regular
          (there_after s.tree operation handle.file (regular_there (get s.tree.files handle.file) regular))

      by_nodes : (b : Bool) → EachNode (IsThere (tree_after s.tree operation)) (cond b s.nodes
          (all_given choice s.nodes (files_in_reply (reply_by s.validity s.tree operation))))
      by_nodes true = old_nodes
      by_nodes false = all_given_each (IsThere (tree_after s.tree operation)) choice
          (files_in_reply (reply_by s.validity s.tree operation)) s.nodes
          (given_there s.tree sound stands s.validity operation) old_nodes

      by_handles : (b : Bool) → EachHandle (IsRegular (tree_after s.tree operation).files) (cond b s.handles
          (all_opened s.handles (opens_in_reply (reply_by s.validity s.tree operation))))
      by_handles true = old_handles
      by_handles false = all_opened_each (IsRegular (tree_after s.tree operation).files)
          (opens_in_reply (reply_by s.validity s.tree operation)) s.handles
          (opens_after s.tree s.validity operation fit) old_handles

  performing_keeping : (body : RequestBody) → Keeping s (performing choice s body).server
  performing_keeping (asks operation) = by (is_open_for s operation) refl
    where
      by : (b : Bool) → is_open_for s operation ≡ b
          → Keeping s (cond b (doing choice s (file_operation_of s.nodes operation)) (refusing s 9)).server
      by true is = doing_keeping (file_operation_of s.nodes operation) (fits operation is)
      by false is = same_keeping s firm
  performing_keeping (release o) = by (is_open s.handles o.fh (file_of s.nodes o.nodeid))
    where
      by : (b : Bool) → Keeping s (cond b (record {
        server = record s { handles = handle_back s.handles o.fh };
        wire = done;
      }) (refusing s 9)).server
      by true = record {
        firm = record {
          nodes = firm.nodes;
          handles = handle_back_each (IsRegular s.tree.files) s.handles o.fh firm.handles;
          numbered = firm.numbered;
        };
        files = same_files s.tree.files s.tree.next_inode;
      }
      by false = same_keeping s firm
  performing_keeping (init flags) = same_keeping s firm
  performing_keeping (forget f) = same_keeping s firm
  performing_keeping (batch_forget fs) = same_keeping s firm
  performing_keeping (interrupt original) = same_keeping s firm

pub served_keeping : (choice : ℕ → ℕ) (s : Server) → TreeSound s.tree → Stands s.tree → IsFirm s → (unique : ℕ)
    (taken : HeldRequest) → Keeping s (served choice s unique taken).server
served_keeping choice s sound stands firm unique taken =
    let did = by taken.marked (is_still_held s.nodes taken.generations) in
    let now : Server = (performed choice (record s { held = remove s.held unique }) taken).server in
    let gone = discarded_firm now did.firm in
    record {
      firm = record { nodes = gone.nodes; handles = gone.handles; numbered = gone.numbered };
      files = then_files s.tree.files now.tree.files (without_unheld_files now).tree.files s.tree.next_inode
          now.tree.next_inode now.tree.next_inode did.files (discarded_later now);
    }
  where
    less : Server
    less = record s { held = remove s.held unique }

    less_firm : IsFirm (record s { held = remove s.held unique })
    less_firm = record { nodes = firm.nodes; handles = firm.handles; numbered = firm.numbered }

    by : (m h : Bool) → Keeping s (cond m (refusing less 4)
        (cond h (performing choice less taken.body) (refusing less 5))).server
    by true h = record { firm = less_firm; files = same_files s.tree.files s.tree.next_inode }
    by false true =
        let did = performing_keeping choice less sound stands less_firm taken.body in
        record { firm = did.firm; files = did.files }
    by false false = record { firm = less_firm; files = same_files s.tree.files s.tree.next_inode }

-- ---- a copy is settled

pub settled_keeping : (s : Server) → IsFirm s → (number : ℕ) (copy : Copy) (result : WriteResult)
    → Keeping s (settled s number copy result)
settled_keeping s firm number copy result = by result
  where
    before : Server
    before = record s { copies = remove s.copies number; kept = kept_after s.kept copy (get s.kept copy.unique) }

    less : Server
    less = record before {
      nodes = rows_back s.nodes (files_in_reply copy.wire);
      handles = handles_back s.handles (opens_in_reply copy.wire);
    }

    back : Keeping s (given_back before copy.wire)
    back = record {
      firm = discarded_firm less (record {
        nodes = rows_back_each (IsThere s.tree) (files_in_reply copy.wire) s.nodes firm.nodes;
        handles = handles_back_each (IsRegular s.tree.files) (opens_in_reply copy.wire) s.handles firm.handles;
        numbered = firm.numbered;
      });
      files = discarded_later less;
    }

    by : (r : WriteResult) → Keeping s (settled s number copy r)
    by Accepted = record {
      firm = record { nodes = firm.nodes; handles = firm.handles; numbered = firm.numbered };
      files = same_files s.tree.files s.tree.next_inode;
    }
    by NoEntry = back
    by Invalid = back
