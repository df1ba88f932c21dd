-- What a call begins with, and what it receives, names known nodes.
use Rattle.fuse_theorem.proofs.Refining.Pairs.{listed_files_with}
use Rattle.std.proofs.Common.{◌≡◌, ℕ, Bool, true, false, cond, List, [], ◌∷◌, Option, Some, None, Result, Ok, Err, length, refl, subst, All, map, sym}
use Rattle.std.specs.Prelude.{nat_lt, ◌||◌}
use Rattle.std.proofs.lemmas.List.Elements.{All-nil, All-cons, All-head, All-tail, All-map}
use Rattle.fuse_spec.specs.declared.Counted.{Counted}
use Rattle.fuse_spec.specs.declared.Entry.{Entry}
use Rattle.fuse_spec.specs.declared.Opened.{Opened}
use Rattle.fuse_spec.specs.Calls.Begins.{Beginning, faulty, sets_out, uses, closes, whole_path, parent_path, beginning}
use Rattle.fuse_spec.specs.Calls.Begins as begins
use Rattle.fuse_spec.specs.Calls.Calls.{Call}
use Rattle.fuse_spec.specs.Calls.Calls as call
use Rattle.fuse_spec.specs.Calls.CallReplies.{name_listed, names_listed, all_bound, operation_replied, call_replied}
use Rattle.fuse_spec.specs.Values.Maps.{Map, get, remove}
use Rattle.fuse_spec.specs.Kernel.Messages.{WireReply}
use Rattle.fuse_spec.specs.Files.Operations.{Operation, DirentPlus, Reply, files_in, files_in_reply}
use Rattle.fuse_spec.specs.Files.Operations as op
use Rattle.fuse_spec.specs.Calls.Paths.{Name, path_words_of, parent_and_last}
use Rattle.fuse_spec.specs.Kernel.Replies.{kernel_reply}
use Rattle.fuse_spec.specs.Calls.Walks.{files_of_plan}
use Rattle.fuse_spec.specs.Calls.Vfs.{CallState, walking, doing, using, asked, Vfs, begun, bound, unbound, after_beginning, numbered}
use Rattle.fuse_spec.specs.Files.Operations.{opened_nodes}
use Rattle.fuse_spec.specs.Kernel.Kernel.{nodes_of_state}
use Rattle.fuse_theorem.specs.KnownNodes.{IsKnown, VfsKnown}
use Rattle.fuse_theorem.proofs.Calls.KnownWalks.{OpenKnown, answered_known, asking_known, opened_known, bound_known, unbound_known, walks_on_known}
use Rattle.fuse_theorem.proofs.Lists.Values.{All-gone, All-get}

module _ (nodes : Map Counted) where
  -- ---- a call begins

  abbrev BeginsKnown : Beginning ℕ Opened → Type 0
  BeginsKnown (faulty errno) = Unit {0}
  BeginsKnown (sets_out words plan) = All (IsKnown nodes) (files_of_plan plan)
  BeginsKnown (uses open_call operation) = All (IsKnown nodes) (files_in opened_nodes operation)
  BeginsKnown (closes open_call opened) = Unit {0}

  whole : (path : List ℕ) (then : List Name → Beginning ℕ Opened) → ((words : List Name) → BeginsKnown (then words))
      → BeginsKnown (whole_path path then)
  whole path then each = by (path_words_of path)
    where
      by : (o : Result (List Name) ℕ) → BeginsKnown (elim o as
          (λ x. Beginning ℕ Opened) [ Err fault ↦ faulty fault | Ok words ↦ then words ])
      by (Err fault) = tt
      by (Ok words) = each words

  parent : (path : List ℕ) (then : List Name → Name → Beginning ℕ Opened)
      → ((words : List Name) (name : Name) → BeginsKnown (then words name)) → BeginsKnown (parent_path path then)
  parent path then each = whole path _ (λ words. by words (parent_and_last words))
    where
      by : (words : List Name) (o : Option (List Name × Name))
          → BeginsKnown (elim o as (λ x. Beginning ℕ Opened) [ None ↦ faulty 22 | Some parts ↦ then parts.0 parts.1 ])
      by words None = tt
      by words (Some parts) = each parts.0 parts.1

  nothing : All (IsKnown nodes) []
  nothing = All-nil (IsKnown nodes)

  used : (open_call : ℕ) (o : Option Opened) (offset size : ℕ) (then : Opened → Operation ℕ Opened)
      → ((x : Opened) → o ≡ Some x → All (IsKnown nodes) (files_in opened_nodes (then x)))
      → BeginsKnown (begins.using open_call o offset size then)
  used open_call None offset size then each = tt
  used open_call (Some x) offset size then each = by (nat_lt 65536 offset || nat_lt 4096 size)
    where
      by : (b : Bool) → BeginsKnown (cond b (faulty 22) (uses open_call (then x)))
      by true = tt
      by false = each x refl

  closing_known : (open_call : ℕ) (o : Option Opened) → BeginsKnown (begins.closing open_call o)
  closing_known open_call None = tt
  closing_known open_call (Some x) = tt

  beginning_known : (c : Vfs Opened) → VfsKnown nodes c → (x : Call) → BeginsKnown (beginning c.opens x)
  beginning_known c old (call.stat path) = whole path _ (λ words. nothing)
  beginning_known c old (call.list path after) = whole path _ (λ words. nothing)
  beginning_known c old (call.listplus path after) = whole path _ (λ words. nothing)
  beginning_known c old (call.opening path) = whole path _ (λ words. nothing)
  beginning_known c old (call.mkdir path) = parent path _ (λ words name. nothing)
  beginning_known c old (call.create path) = parent path _ (λ words name. nothing)
  beginning_known c old (call.unlink path) = parent path _ (λ words name. nothing)
  beginning_known c old (call.rmdir path) = parent path _ (λ words name. nothing)
  beginning_known c old (call.rename from to) = parent from _ (λ words name. parent to _ (λ more other. nothing))
  beginning_known c old (call.link from to) = whole from _ (λ words. parent to _ (λ more name. nothing))
  beginning_known c old (call.read open_call offset size) =
      used open_call (get c.opens open_call) offset size (λ o. op.read o offset size)
      (λ x at. All-cons (IsKnown nodes) x.nodeid [] (All-get (OpenKnown nodes) c.opens open_call x old.opens at) nothing)
  beginning_known c old (call.write open_call offset bytes) =
      used open_call (get c.opens open_call) offset (length bytes) (λ o. op.write o offset bytes)
      (λ x at. All-cons (IsKnown nodes) x.nodeid [] (All-get (OpenKnown nodes) c.opens open_call x old.opens at) nothing)
  beginning_known c old (call.close open_call) = closing_known open_call (get c.opens open_call)

  pub begun_known : (aborted : Bool) (c : Vfs Opened) → VfsKnown nodes c → (x : Call)
      → VfsKnown nodes (begun aborted c x).vfs
  begun_known true c old x = let next = old_numbered in answered_known nodes (numbered c) next c.next_call _
    where
      old_numbered : VfsKnown nodes (numbered c)
      old_numbered = record { root = old.root; names = old.names; calls = old.calls; opens = old.opens }
  begun_known false c old x = by (beginning c.opens x) (beginning_known c old x)
    where
      next : VfsKnown nodes (numbered c)
      next = record { root = old.root; names = old.names; calls = old.calls; opens = old.opens }

      by : (b : Beginning ℕ Opened) → BeginsKnown b → VfsKnown nodes (after_beginning (numbered c) c.next_call b).vfs
      by (faulty errno) h = answered_known nodes (numbered c) next c.next_call _
      by (sets_out words plan) h = walks_on_known nodes (numbered c) next c.next_call c.root old.root words plan h
      by (uses open_call operation) h = asking_known nodes (numbered c) next c.next_call (using open_call operation) h
      by (closes open_call o) h =
          let closed : VfsKnown nodes (record (numbered c) { opens = remove c.opens open_call }) =
          record {
            root = old.root;
            names = old.names;
            calls = old.calls;
            opens = All-gone (OpenKnown nodes) c.opens open_call old.opens;
          } in
          answered_known nodes (record (numbered c) { opens = remove c.opens open_call }) closed c.next_call _

  -- ---- a call receives a reply

  -- the names of a list lead to known nodes
  all_bound_known : (d : ℕ) → IsKnown nodes d → (pairs : List (DirentPlus ℕ)) (c : Vfs Opened) → VfsKnown nodes c
      → All (IsKnown nodes) (op.files_listed pairs) → VfsKnown nodes (all_bound c d pairs)
  all_bound_known d from [] c old known = old
  all_bound_known d from (pair ∷ pairs) c old known =
      by (op.listed_by pair) known (λ e olds k. all_bound_known d from pairs e olds k)
    where
      by : (o : Option ℕ) → All (IsKnown nodes) (op.first_listed o (op.files_listed pairs))
          → ((e : Vfs Opened) → VfsKnown nodes e → All (IsKnown nodes) (op.files_listed pairs)
          → VfsKnown nodes (all_bound e d pairs)) → VfsKnown nodes
          (record c { names = names_listed c.clock d (name_listed c.clock d c.names pair o) pairs })
      by None k rest = rest c old k
      by (Some file) k rest =
          rest (bound c d pair.dirent.name (Some file) pair.valid)
          (bound_known nodes c old d pair.dirent.name (Some file) pair.valid from
          (λ other e. let is : file ≡ other = cc in subst (IsKnown nodes) is
          (All-head (IsKnown nodes) file (op.files_listed pairs) k)))
          (All-tail (IsKnown nodes) file (op.files_listed pairs) k)

  module _ (c : Vfs Opened) (old : VfsKnown nodes c) (call : ℕ) where
    head : (id : ℕ) (ids : List ℕ) → All (IsKnown nodes) (id ∷ ids) → IsKnown nodes id
    head id ids h = All-head (IsKnown nodes) id ids h

    named : (g : Entry) → All (λ (x : Entry). IsKnown nodes x.nodeid) (g ∷ []) → IsKnown nodes g.nodeid
    named g h = All-head (λ (x : Entry). IsKnown nodes x.nodeid) g [] h

    leads : (id : ℕ) → IsKnown nodes id → (file : ℕ) → Some id ≡ Some file → IsKnown nodes file
    leads id h file e = let is : id ≡ file = cc in subst (IsKnown nodes) is h

    operation_known : (a : Operation ℕ Opened) (wire : WireReply) → All (IsKnown nodes) (files_in opened_nodes a)
        → All (λ (g : Entry). IsKnown nodes g.nodeid) (files_in_reply wire)
        → VfsKnown nodes (operation_replied c call a (kernel_reply a wire))
    operation_known a (op.failed errno) h k = answered_known nodes c old call _
    operation_known (op.mkdir d name) (op.found g valid) h k =
        answered_known nodes _ (bound_known nodes c old d name (Some g.nodeid) valid (head d [] h)
        (leads g.nodeid (named g k))) call _
    operation_known (op.create d name) (op.created g valid fh) h k =
        let binds = bound_known nodes c old d name (Some g.nodeid) valid (head d [] h) (leads g.nodeid (named g k)) in
        answered_known nodes _ (opened_known nodes (bound c d name (Some g.nodeid) valid) binds call
        (record { nodeid = g.nodeid; fh = fh }) (named g k)) call _
    operation_known (op.link x d name) (op.found g valid) h k =
        answered_known nodes _ (bound_known nodes c old d name (Some g.nodeid) valid (head d (x ∷ []) h)
        (leads g.nodeid (named g k))) call _
    operation_known (op.unlink d name) op.done h k = answered_known nodes _ (unbound_known nodes c old d name) call _
    operation_known (op.rmdir d name) op.done h k = answered_known nodes _ (unbound_known nodes c old d name) call _
    operation_known (op.rename d from e to) op.done h k =
        answered_known nodes _ (unbound_known nodes (unbound c d from) (unbound_known nodes c old d from) e to) call _
    operation_known (op.opening x) (op.opened fh) h k =
        answered_known nodes _ (opened_known nodes c old call (record { nodeid = x; fh = fh }) (head x [] h)) call _
    operation_known (op.getattr x) (op.attributes m) h k = answered_known nodes c old call _
    operation_known (op.readdir d after size) (op.listed records) h k = answered_known nodes c old call _
    operation_known (op.readdirplus d after size) (op.listed_plus pairs) h k =
        let ids = map (op.pair_with (λ (g : Entry). g.nodeid)) pairs in
        let known = subst (All (IsKnown nodes)) (sym (listed_files_with (λ (g : Entry). g.nodeid) pairs))
        (All-map (IsKnown nodes) (λ (g : Entry). g.nodeid) (op.files_listed pairs) k) in
        answered_known nodes _ (all_bound_known d (head d [] h) ids c old known) call _
    operation_known (op.read o offset size) (op.content bytes) h k = answered_known nodes c old call _
    operation_known (op.write o offset bytes) (op.written size) h k = answered_known nodes c old call _
    operation_known a wire h k = answered_known nodes c old call _

    pub replied_known : (state : CallState Opened) (wire : WireReply) → All (IsKnown nodes) (nodes_of_state state)
        → All (λ (g : Entry). IsKnown nodes g.nodeid) (files_in_reply wire)
        → VfsKnown nodes (call_replied c call state (kernel_reply (asked state) wire)).vfs
    replied_known (walking d word words plan) (op.found g valid) h k =
        walks_on_known nodes (bound c d word (Some g.nodeid) valid)
        (bound_known nodes c old d word (Some g.nodeid) valid (head d (files_of_plan plan) h)
        (leads g.nodeid (named g k))) call g.nodeid (named g k) words plan
        (All-tail (IsKnown nodes) d (files_of_plan plan) h)
    replied_known (walking d word words plan) (op.missing valid) h k =
        answered_known nodes _ (bound_known nodes c old d word None valid (head d (files_of_plan plan) h)
        (λ file e. absurd (cc))) call _
    replied_known (walking d word words plan) (op.failed errno) h k = answered_known nodes c old call _
    replied_known (walking d word words plan) wire h k = answered_known nodes c old call _
    replied_known (doing operation) wire h k = operation_known operation wire h k
    replied_known (using open_call operation) wire h k = operation_known operation wire h k
