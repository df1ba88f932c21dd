-- The server's tree and tables stay sound, whatever happens.
use Rattle.std.proofs.Common.{◌≡◌, ◌≢◌, ℕ, ◌+◌, ◌≤◌, ◌<◌, Bool, true, false, true≢false, not, ◌||◌, cond, List, [], ◌∷◌, Option, Some, None, nat_eq, refl, ap, sym, subst, ◌∙◌, arith, inl, inr}
use Rattle.std.specs.List.{remove as without}
use Rattle.std.proofs.lemmas.Bool.{cases_eq}
use Rattle.std.proofs.lemmas.List.Elements.{All-nil}
use Rattle.fuse_spec.specs.declared.Opened.{Opened}
use Rattle.fuse_spec.specs.declared.ReplyResult.{ReplyResult}
use Rattle.fuse_spec.specs.declared.WriteResult.{WriteResult}
use Rattle.fuse_spec.specs.declared.WriteResult.TheVariants.{Accepted, NoEntry, Invalid}
use Rattle.fuse_spec.specs.Values.Maps.{Map, get, put, remove}
use Rattle.fuse_spec.specs.Kernel.Messages.{Forget, RequestBody, init, asks, release, forget, batch_forget, interrupt, WireReply}
use Rattle.fuse_spec.specs.Files.Operations.{Operation, lookup, getattr, mkdir, create, unlink, rmdir, rename, link, opening, readdir, readdirplus, read, write, files_in_reply, opens_in_reply, done, failed}
use Rattle.fuse_spec.specs.Files.Trees.{Named, is_nameless}
use Rattle.fuse_spec.specs.Files.FileOperations.{FileOperation, reply_by}
use Rattle.fuse_spec.specs.Server.Nodes.{HeldNode, NodeTable, root_row, HandleTable, FileHandle, MayChoose, file_of, is_file_of, is_open, all_given, all_opened, handle_back}
use Rattle.fuse_spec.specs.Server.Server.{Server, HeldRequest, Kept, Copy, is_file_held, without_unheld_files, forgetting}
use Rattle.fuse_spec.specs.Server.Taking.{taking, interrupting}
use Rattle.fuse_spec.specs.Server.Performs.{file_operation_of, is_open_for, doing, performing, performed, is_still_held, replying, served, refusing, files_by, files_given}
use Rattle.fuse_spec.specs.Server.Copies.{sent_again, after_result}
use Rattle.fuse_spec.specs.World.Worlds.{World, first_server, server_settled}
use Rattle.fuse_spec.specs.World.Worlds as worlds
use Rattle.fuse_spec.specs.World.Events.{Event, Outcome}
use Rattle.fuse_spec.specs.World.Steps.{MayStep, MayChooseFor, Happens}
use Rattle.fuse_spec.proofs.Tables.{get_put_there}
use Rattle.fuse_theorem.specs.Conditions.{OneId, TablesSound}
use Rattle.fuse_theorem.specs.ServerTables.{NodesSound, HandlesSound, ServerSound}
use Rattle.fuse_theorem.proofs.Calls.Finding.{other_is}
use Rattle.fuse_theorem.proofs.RefusalCases.Happened.{Happened, by_mount, by_call, by_read_interrupt, by_read_forgets, by_read_pending, by_take, by_perform, by_again, by_write, by_settle, by_signal, by_tick, by_drop, by_evict, by_abort, happened}
use Rattle.fuse_theorem.proofs.Nodes.NodesSound.{left_none, emptied_sound, all_given_sound, all_taken_sound, all_more_sound, all_back_sound, all_opened_sound, emptied_handles_sound, back_sound, handles_back_sound, handles_more_sound}
use Rattle.fuse_theorem.proofs.Trees.NamelessDiscarded.{get_kept}
use Rattle.fuse_theorem.proofs.Trees.TreeSound.{OpensNoRoot, given_not_root, opened_not_root, tree_sound}

-- ---- parts that change alone

-- The files that nothing holds go. The root is held by no node, but counts as having a name.
pub discarded_unheld_sound : (s : Server) → ServerSound s → ServerSound (without_unheld_files s)
discarded_unheld_sound s sound =
    let tree = sound.tree in
    record {
      tree = record {
        root = get_kept (λ f. not (is_nameless s.tree f) || is_file_held s f) s.tree.files 0 ∙ tree.root;
        names = tree.names;
        inodes = tree.inodes;
      };
      nodes = sound.nodes;
      handles = sound.handles;
      copies = sound.copies;
    }

-- One copy more goes out.
copy_sound : (copies : Map Copy) (next : ℕ) → ((number : ℕ) → next ≤ number → get copies number ≡ None) → (copy : Copy)
    → (number : ℕ) → next + 1 ≤ number → get (put copies next copy) number ≡ None
copy_sound copies next none copy number later = get_put_there copies next copy number
    (λ e. absurd (omega (arith, e, later))) ∙ none number (omega (arith, later))

-- ---- requests are taken

interrupting_sound : (s : Server) → ServerSound s → (unique original : ℕ) (h : Option HeldRequest) (k : Option Kept)
    → ServerSound (interrupting s unique original h k).server
interrupting_sound s sound unique original (Some taken) k =
    record { tree = sound.tree; nodes = sound.nodes; handles = sound.handles; copies = sound.copies }
interrupting_sound s sound unique original None (Some kept) = sound
interrupting_sound s sound unique original None None = record {
  tree = sound.tree;
  nodes = sound.nodes;
  handles = sound.handles;
  copies = copy_sound s.copies s.next_copy sound.copies
      (record { unique = unique; wire = failed 11; first = s.next_copy });
}

forgetting_sound : (s : Server) → ServerSound s → (fs : List Forget) → ServerSound (forgetting s fs)
forgetting_sound s sound fs = discarded_unheld_sound (record s { nodes = _ })
    (record {
      tree = sound.tree;
      nodes = all_taken_sound fs s.nodes sound.nodes;
      handles = sound.handles;
      copies = sound.copies;
    })

pub taking_sound : (s : Server) → ServerSound s → (unique : ℕ) (body : RequestBody)
    → ServerSound (taking s unique body).server
taking_sound s sound unique (init flags) = record {
  tree = sound.tree;
  nodes = sound.nodes;
  handles = sound.handles;
  copies = sound.copies;
}
taking_sound s sound unique (asks operation) = record {
  tree = sound.tree;
  nodes = sound.nodes;
  handles = sound.handles;
  copies = sound.copies;
}
taking_sound s sound unique (release o) = record {
  tree = sound.tree;
  nodes = sound.nodes;
  handles = sound.handles;
  copies = sound.copies;
}
taking_sound s sound unique (forget f) = forgetting_sound s sound (f ∷ [])
taking_sound s sound unique (batch_forget fs) = forgetting_sound s sound fs
taking_sound s sound unique (interrupt original) =
    interrupting_sound s sound unique original (get s.held original) (get s.kept original)

-- ---- requests are performed

-- no file handle is of the root
open_not_root : (h : HandleTable) → HandlesSound h → (fh file : ℕ) → is_open h fh file ≡ true → file ≢ 0
open_not_root h sound fh file open_is = by (get h.handles fh) refl open_is
  where
    by : (o : Option FileHandle) → get h.handles fh ≡ o → is_file_of file o ≡ true → file ≢ 0
    by None at e = absurd (true≢false (sym e))
    by (Some x) at e = elim (cases_eq x.file file) [
      | inl same ↦ subst (λ (n : ℕ). n ≢ 0) same (sound.files fh x at)
      | inr ne ↦ absurd (true≢false (sym e ∙ other_is x.file file ne))
    ]

opens_no_root : (s : Server) → ServerSound s → (operation : Operation ℕ Opened) → is_open_for s operation ≡ true
    → OpensNoRoot (file_operation_of s.nodes operation)
opens_no_root s sound (read o offset size) e = open_not_root s.handles sound.handles o.fh (file_of s.nodes o.nodeid) e
opens_no_root s sound (write o offset bytes) e = open_not_root s.handles sound.handles o.fh (file_of s.nodes o.nodeid) e
opens_no_root s sound (lookup d name) e = tt
opens_no_root s sound (getattr x) e = tt
opens_no_root s sound (mkdir d name) e = tt
opens_no_root s sound (create d name) e = tt
opens_no_root s sound (unlink d name) e = tt
opens_no_root s sound (rmdir d name) e = tt
opens_no_root s sound (rename d old n new) e = tt
opens_no_root s sound (link x d name) e = tt
opens_no_root s sound (opening x) e = tt
opens_no_root s sound (readdir d after size) e = tt
opens_no_root s sound (readdirplus d after size) e = tt

module _ (choice : ℕ → ℕ) (s : Server) (sound : ServerSound s) where
  doing_sound : (operation : FileOperation) → OpensNoRoot operation
      → MayChoose choice s.nodes (cond s.aborted [] (files_in_reply (reply_by s.validity s.tree operation)))
      → ServerSound (doing choice s operation).server
  doing_sound operation opens may =
      let reply = reply_by s.validity s.tree operation in
      record {
        tree = tree_sound s.tree sound.tree operation opens;
        nodes = by_nodes s.aborted may;
        handles = by_handles s.aborted;
        copies = sound.copies;
      }
    where
      by_nodes : (b : Bool) → MayChoose choice s.nodes
          (cond b [] (files_in_reply (reply_by s.validity s.tree operation)))
          → NodesSound (cond b s.nodes (all_given choice s.nodes
          (files_in_reply (reply_by s.validity s.tree operation))))
      by_nodes true m = sound.nodes
      by_nodes false m = all_given_sound choice (files_in_reply
          (reply_by s.validity s.tree operation)) s.nodes sound.nodes
          (given_not_root s.tree sound.tree s.validity operation) m

      by_handles : (b : Bool) → HandlesSound (cond b s.handles
          (all_opened s.handles (opens_in_reply (reply_by s.validity s.tree operation))))
      by_handles true = sound.handles
      by_handles false = all_opened_sound (opens_in_reply
          (reply_by s.validity s.tree operation)) s.handles sound.handles
          (opened_not_root s.tree sound.tree s.validity operation)

  performing_sound : (body : RequestBody) → MayChoose choice s.nodes (cond s.aborted [] (files_by s body))
      → ServerSound (performing choice s body).server
  performing_sound (init flags) may = sound
  performing_sound (asks operation) may = by (is_open_for s operation) refl may
    where
      by : (b : Bool) → is_open_for s operation ≡ b → MayChoose choice s.nodes
          (cond s.aborted [] (cond b (files_in_reply (reply_by s.validity s.tree
          (file_operation_of s.nodes operation))) []))
          → ServerSound (cond b (doing choice s (file_operation_of s.nodes operation)) (refusing s 9)).server
      by true e m = doing_sound (file_operation_of s.nodes operation) (opens_no_root s sound operation e) m
      by false e m = sound
  performing_sound (release o) may = by (is_open s.handles o.fh (file_of s.nodes o.nodeid))
    where
      by : (b : Bool) → ServerSound (cond b (record {
        server = record s { handles = handle_back s.handles o.fh };
        wire = done;
      }) (refusing s 9)).server
      by true = record {
        tree = sound.tree;
        nodes = sound.nodes;
        handles = back_sound s.handles sound.handles o.fh;
        copies = sound.copies;
      }
      by false = sound
  performing_sound (forget f) may = sound
  performing_sound (batch_forget fs) may = sound
  performing_sound (interrupt original) may = sound

  performed_sound : (t : HeldRequest) → MayChoose choice s.nodes (files_given s t)
      → ServerSound (performed choice s t).server
  performed_sound t may = by_mark t.marked may
    where
      no_files : (a : Bool) → MayChoose choice s.nodes (cond (a || false) [] (files_by s t.body))
          → MayChoose choice s.nodes (cond a [] (files_by s t.body))
      no_files true m = m
      no_files false m = m

      by_held : (b : Bool) → MayChoose choice s.nodes (cond (s.aborted || not b) [] (files_by s t.body))
          → ServerSound (cond b (performing choice s t.body) (refusing s 5)).server
      by_held true m = performing_sound t.body (no_files s.aborted m)
      by_held false m = sound

      by_mark : (b : Bool) → MayChoose choice s.nodes (cond
          (s.aborted || (b || not (is_still_held s.nodes t.generations))) [] (files_by s t.body))
          → ServerSound (cond b (refusing s 4) (cond (is_still_held s.nodes t.generations) (performing choice s t.body)
          (refusing s 5))).server
      by_mark true m = sound
      by_mark false m = by_held (is_still_held s.nodes t.generations) m

replying_sound : (s : Server) → ServerSound s → (unique : ℕ) (wire : WireReply) → ServerSound (replying s unique wire)
replying_sound s sound unique wire = record {
  tree = sound.tree;
  nodes = sound.nodes;
  handles = sound.handles;
  copies = by s.aborted;
}
  where
    by : (b : Bool) (number : ℕ) → cond b s.next_copy (s.next_copy + 1) ≤ number
        → get (cond b s.copies (put s.copies s.next_copy
        (record { unique = unique; wire = wire; first = s.next_copy }))) number ≡ None
    by true number later = sound.copies number later
    by false number later = copy_sound s.copies s.next_copy sound.copies
        (record { unique = unique; wire = wire; first = s.next_copy }) number later

pub served_sound : (choice : ℕ → ℕ) (s : Server) → ServerSound s → (unique : ℕ) (t : HeldRequest)
    → MayChoose choice s.nodes (files_given s t) → ServerSound (served choice s unique t).server
served_sound choice s sound unique t may =
    let less = record s { held = remove s.held unique } in
    let did = performed choice less t in
    replying_sound (without_unheld_files did.server)
    (discarded_unheld_sound did.server (performed_sound choice less
    (record {
      tree = sound.tree;
      nodes = sound.nodes;
      handles = sound.handles;
      copies = sound.copies;
    }) t may)) unique did.wire

-- ---- copies

again_sound : (s : Server) → ServerSound s → (unique : ℕ) (kept : Kept) → ServerSound (sent_again s unique kept)
again_sound s sound unique kept = record {
  tree = sound.tree;
  nodes = all_more_sound (files_in_reply kept.wire) s.nodes sound.nodes;
  handles = handles_more_sound (opens_in_reply kept.wire) s.handles sound.handles;
  copies = copy_sound s.copies s.next_copy sound.copies
      (record { unique = unique; wire = kept.wire; first = kept.first });
}

pub result_sound : (s : Server) → ServerSound s → (wire : WireReply) (result : WriteResult)
    → ServerSound (after_result s wire result)
result_sound s sound wire Accepted = sound
result_sound s sound wire NoEntry = discarded_unheld_sound (record s { nodes = _; handles = _ })
    (record {
      tree = sound.tree;
      nodes = all_back_sound (files_in_reply wire) s.nodes sound.nodes;
      handles = handles_back_sound (opens_in_reply wire) s.handles sound.handles;
      copies = sound.copies;
    })
result_sound s sound wire Invalid = discarded_unheld_sound (record s { nodes = _; handles = _ })
    (record {
      tree = sound.tree;
      nodes = all_back_sound (files_in_reply wire) s.nodes sound.nodes;
      handles = handles_back_sound (opens_in_reply wire) s.handles sound.handles;
      copies = sound.copies;
    })

settled_sound : (s : Server) → ServerSound s → (result : ReplyResult) (copy : Option Copy)
    → ServerSound (server_settled s result copy)
settled_sound s sound result None = sound
settled_sound s sound result (Some copy) =
    result_sound _ (record {
      tree = sound.tree;
      nodes = sound.nodes;
      handles = sound.handles;
      copies = λ number later. left_none s.copies result.number number
          (sound.copies number later);
    }) copy.wire result.result

-- ---- events

pub first_sound : ServerSound first_server
first_sound = record {
  tree = record { root = refl; names = All-nil (λ (n : Named). n.file ≢ 0); inodes = omega arith };
  nodes = emptied_sound first_server.nodes;
  handles = emptied_handles_sound first_server.handles;
  copies = λ number later. refl;
}

sent_off : (w : World) (number unique : ℕ) (wire : Option WireReply) → ServerSound w.server
    → ServerSound (worlds.copy_put w number unique wire).server
sent_off w number unique None sound = sound
sent_off w number unique (Some wire) sound = sound

-- The server stays sound, whatever the event and whatever free ids it gives.
pub stays_sound : (choice : ℕ → ℕ) (w : World) → ServerSound w.server → (e : Event) (o : Outcome) (after : World)
    → MayStep choice w e → Happened choice w e o after → ServerSound after.server
stays_sound choice w sound e o after may (by_mount f m v idle) =
    discarded_unheld_sound _ (record {
      tree = sound.tree;
      nodes = emptied_sound w.server.nodes;
      handles = emptied_handles_sound w.server.handles;
      copies = λ number later. refl;
    })
stays_sound choice w sound e o after may (by_call call ready room within) = sound
stays_sound choice w sound e o after may (by_read_interrupt original rest live there within) = sound
stays_sound choice w sound e o after may (by_read_forgets n live free can within few) = sound
stays_sound choice w sound e o after may (by_read_pending k unique kept body live free there says within) = sound
stays_sound choice w sound e o after may (by_take k r there within) =
    let took = taking w.server r.unique r.body in sent_off
    (record w { requests = without w.requests k; server = took.server }) w.server.next_copy r.unique took.reply
    (taking_sound w.server sound r.unique r.body)
stays_sound choice w sound e o after may (by_perform unique t there within) =
    let did = served choice w.server unique t in
    sent_off (record w { server = did.server }) w.server.next_copy unique (cond w.server.aborted None (Some did.wire))
    (served_sound choice w.server sound unique t (subst (MayChooseFor choice w) there may))
stays_sound choice w sound e o after may (by_again unique kept there current within) =
    again_sound w.server sound unique kept
stays_sound choice w sound e o after may (by_write k sent there within) = sound
stays_sound choice w sound e o after may (by_settle k result there) =
    settled_sound w.server sound result (get w.server.copies result.number)
stays_sound choice w sound e o after may (by_signal call fatal state live there within) = sound
stays_sound choice w sound e o after may (by_tick ms timely) = sound
stays_sound choice w sound e o after may (by_drop directory name bound live there) = sound
stays_sound choice w sound e o after may (by_evict node counted live there unused) = sound
stays_sound choice w sound e o after may (by_abort live) =
    record { tree = sound.tree; nodes = sound.nodes; handles = sound.handles; copies = λ number later. refl }

pub happens_sound : (w : World) → ServerSound w.server → (e : Event) (o : Outcome) (after : World)
    → Happens w e o after → ServerSound after.server
happens_sound w sound e o after h = stays_sound h.0 w sound e o after h.1 (happened h.0 w o after e h.2)

-- ---- what follows

module _ (t : NodeTable) (sound : NodesSound t) where
  pub no_node : (id : ℕ) → id < 2 → get t.rows id ≡ None
  no_node id low = by (get t.rows id) refl
    where
      by : (o : Option HeldNode) → get t.rows id ≡ o → o ≡ None
      by None there = refl
      by (Some row) there = let high = sound.ids id row there in absurd (omega (arith, high, low))

  -- No node but the root has the root's file, and no two nodes have one file.
  pub one_id : OneId t
  one_id i j g h file d e = by (nat_eq i 1) (nat_eq j 1) refl refl d.there e.there
    where
      is_one : (k : ℕ) → nat_eq k 1 ≡ true → k ≡ 1
      is_one k q = elim (cases_eq k 1) [ inl same ↦ same | inr ne ↦ absurd (true≢false (sym q ∙ other_is k 1 ne)) ]

      by : (b c : Bool) → nat_eq i 1 ≡ b → nat_eq j 1 ≡ c → cond b (Some root_row) (get t.rows i) ≡ Some d.row
          → cond c (Some root_row) (get t.rows j) ≡ Some e.row → i ≡ j
      by true true p q x y = is_one i p ∙ sym (is_one j q)
      by true false p q x y = let root : root_row ≡ d.row =
          cc in absurd (sound.files j e.row y (e.same_file ∙ sym d.same_file ∙ ap (λ (r : HeldNode). r.file)
          (sym root)))
      by false true p q x y = let root : root_row ≡ e.row =
          cc in absurd (sound.files i d.row x (d.same_file ∙ sym e.same_file ∙ ap (λ (r : HeldNode). r.file)
          (sym root)))
      by false false p q x y = sound.apart i j d.row e.row x y (d.same_file ∙ sym e.same_file)

pub tables_sound : (s : Server) → ServerSound s → TablesSound s
tables_sound s sound = let handles = sound.handles in
    record {
      no_root = no_node s.nodes sound.nodes 1 (omega arith);
      new_handle = handles.numbers s.handles.next_fh (omega arith);
    }
