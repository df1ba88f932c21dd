-- Performing a held request is answering it on the tree, and then giving nodes and file handles to its files.
use Rattle.std.proofs.Common.{◌≡◌, ℕ, Bool, true, false, cond, not, ◌||◌, List, [], refl, ap, ◌∙◌}
use Rattle.fuse_spec.specs.declared.Opened.{Opened}
use Rattle.fuse_spec.specs.Values.Maps.{Map}
use Rattle.fuse_spec.specs.Values.Numbers.{eintr, eio, ebadf}
use Rattle.fuse_spec.specs.Files.Operations as operation
use Rattle.fuse_spec.specs.Files.Operations.{Operation, Reply, done, failed, files_in_reply, opens_in_reply, errno_of}
use Rattle.fuse_spec.specs.Files.FileOperations.{FileOperation, reply_by, tree_after}
use Rattle.fuse_spec.specs.Kernel.Messages.{RequestBody, init, asks, release, forget, batch_forget, interrupt}
use Rattle.fuse_spec.specs.Server.Nodes.{HandleTable, file_of, is_open, handle_back, all_given, all_opened}
use Rattle.fuse_spec.specs.Server.Server.{Server, HeldRequest, Kept, Copy}
use Rattle.fuse_spec.specs.Files.Trees.{Tree}
use Rattle.fuse_spec.specs.Server.Performs.{PerformResult, performed, performing, refusing, doing, file_operation_of, is_open_for, is_still_held, files_by, files_given, wire_of}
use Rattle.fs_files.specs.Performing.{said, body_reply, tree_said, tree_by, handles_said, handles_by, numbering}

-- the server after a request is answered on the tree
abbrev pub answered : Server → HeldRequest → Server
answered s h = record s { tree = tree_said s h; handles = handles_said s h }

module _ (choice : ℕ → ℕ) (s : Server) (up : s.aborted ≡ false) where
  does : (operation : FileOperation) → doing choice s operation
      ≡ numbering choice (record s { tree = tree_after s.tree operation }) (reply_by s.validity s.tree operation)
  does operation =
      let reply = reply_by s.validity s.tree operation in
      let nodes = all_given choice s.nodes (files_in_reply reply) in
      ap (λ (a : Bool). record {
        server = record s {
          tree = tree_after s.tree operation;
          nodes = cond a s.nodes nodes;
          handles = cond a s.handles (all_opened s.handles (opens_in_reply reply));
        };
        wire = cond a (failed (errno_of reply)) (wire_of choice nodes
            (tree_after s.tree operation) s.handles.next_fh reply);
      }) up

  asked_so : (operation : Operation ℕ Opened) (b : Bool)
      → cond b (doing choice s (file_operation_of s.nodes operation)) (refusing s ebadf)
      ≡ numbering choice (record s { tree = cond b (tree_after s.tree (file_operation_of s.nodes operation)) s.tree })
      (cond b (reply_by s.validity s.tree (file_operation_of s.nodes operation)) (failed ebadf))
  asked_so operation true = does (file_operation_of s.nodes operation)
  asked_so operation false = refl

  released_so : (o : Opened) (b : Bool)
      → ◌≡◌ {A = PerformResult} (cond b (record {
        server = record s { handles = handle_back s.handles o.fh };
        wire = done;
      }) (refusing s ebadf)) (numbering choice
      (record s { handles = cond b (handle_back s.handles o.fh) s.handles }) (cond b done (failed ebadf)))
  released_so o true = refl
  released_so o false = refl

  of_body : (body : RequestBody) → performing choice s body
      ≡ numbering choice (record s { tree = tree_by s body; handles = handles_by s body }) (body_reply s body)
  of_body (init flags) = refl
  of_body (asks operation) = asked_so operation (is_open_for s operation)
  of_body (release o) = released_so o (is_open s.handles o.fh (file_of s.nodes o.nodeid))
  of_body (forget f) = refl
  of_body (batch_forget fs) = refl
  of_body (interrupt original) = refl

  -- while the mount is not aborted
  pub performed_is : (h : HeldRequest) → performed choice s h ≡ numbering choice (answered s h) (said s h)
  performed_is h = by h.marked (is_still_held s.nodes h.generations)
    where
      by : (m b : Bool) → cond m (refusing s eintr) (cond b (performing choice s h.body) (refusing s eio))
          ≡ numbering choice (record s {
            tree = cond m s.tree (cond b (tree_by s h.body) s.tree);
            handles = cond m s.handles (cond b (handles_by s h.body) s.handles);
          })
          (cond m (failed eintr) (cond b (body_reply s h.body) (failed eio)))
      by true b = refl
      by false true = of_body h.body
      by false false = refl

-- ---- after an abort

abbrev pub IsLost : Server → Reply ℕ ℕ → PerformResult → Type 0
IsLost after reply did = (did.server ≡ after) × (errno_of did.wire ≡ errno_of reply)

module _ (choice : ℕ → ℕ) (s : Server) (gone : s.aborted ≡ true) where
  loses : (operation : FileOperation) → IsLost (record s { tree = tree_after s.tree operation })
      (reply_by s.validity s.tree operation) (doing choice s operation)
  loses operation =
      let reply = reply_by s.validity s.tree operation in
      let nodes = all_given choice s.nodes (files_in_reply reply) in (
        ap (λ (a : Bool). record s {
          tree = tree_after s.tree operation;
          nodes = cond a s.nodes nodes;
          handles = cond a s.handles (all_opened s.handles (opens_in_reply reply));
        }) gone,
        ap (λ (a : Bool). errno_of (cond a (failed (errno_of reply))
            (wire_of choice nodes (tree_after s.tree operation) s.handles.next_fh reply))) gone,
      )

  asked_lost : (operation : Operation ℕ Opened) (b : Bool)
      → IsLost (record s { tree = cond b (tree_after s.tree (file_operation_of s.nodes operation)) s.tree })
      (cond b (reply_by s.validity s.tree (file_operation_of s.nodes operation)) (failed ebadf))
      (cond b (doing choice s (file_operation_of s.nodes operation)) (refusing s ebadf))
  asked_lost operation true = loses (file_operation_of s.nodes operation)
  asked_lost operation false = (refl, refl)

  released_lost : (o : Opened) (b : Bool)
      → IsLost (record s { handles = cond b (handle_back s.handles o.fh) s.handles }) (cond b done (failed ebadf))
      (cond b (record { server = record s { handles = handle_back s.handles o.fh }; wire = done })
      (refusing s ebadf))
  released_lost o true = (refl, refl)
  released_lost o false = (refl, refl)

  body_lost : (body : RequestBody) → IsLost (record s { tree = tree_by s body; handles = handles_by s body })
      (body_reply s body) (performing choice s body)
  body_lost (init flags) = (refl, refl)
  body_lost (asks operation) = asked_lost operation (is_open_for s operation)
  body_lost (release o) = released_lost o (is_open s.handles o.fh (file_of s.nodes o.nodeid))
  body_lost (forget f) = (refl, refl)
  body_lost (batch_forget fs) = (refl, refl)
  body_lost (interrupt original) = (refl, refl)

  pub performed_lost : (h : HeldRequest) → IsLost (answered s h) (said s h) (performed choice s h)
  performed_lost h = by h.marked (is_still_held s.nodes h.generations)
    where
      by : (m b : Bool) → IsLost (record s {
        tree = cond m s.tree (cond b (tree_by s h.body) s.tree);
        handles = cond m s.handles (cond b (handles_by s h.body) s.handles);
      })
          (cond m (failed eintr) (cond b (body_reply s h.body) (failed eio)))
          (cond m (refusing s eintr) (cond b (performing choice s h.body) (refusing s eio)))
      by true b = (refl, refl)
      by false true = body_lost h.body
      by false false = (refl, refl)

-- ---- the files that get nodes

files_said : (s : Server) (body : RequestBody) → files_by s body ≡ files_in_reply (body_reply s body)
files_said s (init flags) = refl
files_said s (asks operation) = by (is_open_for s operation)
  where
    by : (b : Bool) → cond b (files_in_reply (reply_by s.validity s.tree (file_operation_of s.nodes operation))) []
        ≡ files_in_reply (cond b (reply_by s.validity s.tree (file_operation_of s.nodes operation)) (failed ebadf))
    by true = refl
    by false = refl
files_said s (release o) = by (is_open s.handles o.fh (file_of s.nodes o.nodeid))
  where
    by : (b : Bool) → ◌≡◌ {A = List ℕ} [] (files_in_reply {F = ℕ} {O = ℕ} (cond b done (failed ebadf)))
    by true = refl
    by false = refl
files_said s (forget f) = refl
files_said s (batch_forget fs) = refl
files_said s (interrupt original) = refl

pub files_are : (s : Server) (h : HeldRequest) → s.aborted ≡ false → files_given s h ≡ files_in_reply (said s h)
files_are s h up = ap (λ (a : Bool). cond (a || (h.marked || not (is_still_held s.nodes h.generations))) []
    (files_by s h.body)) up ∙ by h.marked (is_still_held s.nodes h.generations)
  where
    by : (m b : Bool) → cond (m || not b) [] (files_by s h.body)
        ≡ files_in_reply (cond m (failed eintr) (cond b (body_reply s h.body) (failed eio)))
    by true b = refl
    by false true = files_said s h.body
    by false false = refl

pub no_files : (s : Server) (h : HeldRequest) → s.aborted ≡ true → files_given s h ≡ []
no_files s h gone = ap (λ (a : Bool). cond (a || (h.marked || not (is_still_held s.nodes h.generations))) []
    (files_by s h.body)) gone

-- ---- what is answered is the same whatever else the server has

module _ (s : Server) (held : Map HeldRequest) (kept : Map Kept) (copies : Map Copy) (next : ℕ) (aborted : Bool) where
  abbrev other : Server
  other = record s { held = held; kept = kept; copies = copies; next_copy = next; aborted = aborted }

  same_open : (operation : Operation ℕ Opened) → is_open_for other operation ≡ is_open_for s operation
  same_open (operation.lookup d name) = refl
  same_open (operation.getattr x) = refl
  same_open (operation.mkdir d name) = refl
  same_open (operation.create d name) = refl
  same_open (operation.unlink d name) = refl
  same_open (operation.rmdir d name) = refl
  same_open (operation.rename d old e new) = refl
  same_open (operation.link x d name) = refl
  same_open (operation.opening x) = refl
  same_open (operation.readdir d after size) = refl
  same_open (operation.readdirplus d after size) = refl
  same_open (operation.read o offset size) = refl
  same_open (operation.write o offset bytes) = refl

  same_by : (body : RequestBody) → body_reply other body ≡ body_reply s body
  same_by (init flags) = refl
  same_by (asks operation) = ap (λ (b : Bool). cond b
      (reply_by s.validity s.tree (file_operation_of s.nodes operation)) (failed ebadf)) (same_open operation)
  same_by (release o) = refl
  same_by (forget f) = refl
  same_by (batch_forget fs) = refl
  same_by (interrupt original) = refl

  same_tree_by : (body : RequestBody) → tree_by other body ≡ tree_by s body
  same_tree_by (init flags) = refl
  same_tree_by (asks operation) = ap (λ (b : Bool). cond b
      (tree_after s.tree (file_operation_of s.nodes operation)) s.tree) (same_open operation)
  same_tree_by (release o) = refl
  same_tree_by (forget f) = refl
  same_tree_by (batch_forget fs) = refl
  same_tree_by (interrupt original) = refl

  same_handles_by : (body : RequestBody) → handles_by other body ≡ handles_by s body
  same_handles_by (init flags) = refl
  same_handles_by (asks operation) = refl
  same_handles_by (release o) = refl
  same_handles_by (forget f) = refl
  same_handles_by (batch_forget fs) = refl
  same_handles_by (interrupt original) = refl

  pub same_said : (h : HeldRequest) → said other h ≡ said s h
  same_said h = ap (λ (r : Reply ℕ ℕ). cond h.marked (failed eintr)
      (cond (is_still_held s.nodes h.generations) r (failed eio))) (same_by h.body)

  pub same_tree : (h : HeldRequest) → tree_said other h ≡ tree_said s h
  same_tree h = ap (λ (t : Tree). cond h.marked s.tree (cond (is_still_held s.nodes h.generations) t s.tree))
      (same_tree_by h.body)

  pub same_handles : (h : HeldRequest) → handles_said other h ≡ handles_said s h
  same_handles h = ap (λ (t : HandleTable). cond h.marked s.handles
      (cond (is_still_held s.nodes h.generations) t s.handles)) (same_handles_by h.body)
