-- How the server's nodes change while it serves: a node of an older generation stays as it was, or goes.
use Rattle.std.proofs.Common.{◌≡◌, ℕ, ◌+◌, ◌-◌, ◌≤◌, ◌<◌, Bool, true, false, cond, List, [], ◌∷◌, Option, Some, None, ◌⊎◌, inl, inr, refl, sym, subst, ◌∙◌, arith}
use Rattle.std.specs.Prelude.{nat_lt}
use Rattle.fuse_spec.specs.declared.Entry.{Entry}
use Rattle.fuse_spec.specs.declared.WriteResult.{WriteResult}
use Rattle.fuse_spec.specs.declared.WriteResult.TheVariants.{Accepted, NoEntry, Invalid}
use Rattle.fuse_spec.specs.Values.Maps.{get, put, remove}
use Rattle.fuse_spec.specs.Files.Operations.{done, files_in_reply}
use Rattle.fuse_spec.specs.Files.FileOperations.{FileOperation, reply_by}
use Rattle.fuse_spec.specs.Kernel.Messages.{Forget, RequestBody, init, asks, release, forget, batch_forget, interrupt}
use Rattle.fuse_spec.specs.Server.Nodes.{HeldNode, NodeTable, all_given, file_of, generation_after, given, given_row, handle_back, is_held, is_open, rows_less, taken_back}
use Rattle.fuse_spec.specs.Server.Server.{Server, HeldRequest, Kept, Copy, all_taken_back}
use Rattle.fuse_spec.specs.Server.Taking.{interrupting, taking}
use Rattle.fuse_spec.specs.Server.Performs.{doing, file_operation_of, is_open_for, is_still_held, performed, performing, refusing, served}
use Rattle.fuse_spec.specs.Server.Copies.{row_back, rows_back, settled}
use Rattle.fuse_theorem.proofs.Nodes.NodesSound.{put_found, left_found}

-- The same node, but for its lookup count.
pub record SameNode (old new : HeldNode) : Type 0 where
  pub generation : old.generation ≡ new.generation
  pub file : old.file ≡ new.file

-- The generation of each node that is held was given before the next.
abbrev pub GenerationsGiven : NodeTable → Type 0
GenerationsGiven t = (id : ℕ) (node : HeldNode) → get t.rows id ≡ Some node → node.generation < t.next_generation

-- A node was held before under this id.
abbrev pub WasHeld : NodeTable → ℕ → HeldNode → Type 0
WasHeld t id node = (before : HeldNode) × (get t.rows id ≡ Some before) × SameNode before node

-- A node that is held later has a generation that was still to be given, or was held before under its id.
pub record Later (old new : NodeTable) : Type 0 where
  pub next : old.next_generation ≤ new.next_generation
  pub nodes : (id : ℕ) (node : HeldNode) → get new.rows id ≡ Some node
      → (old.next_generation ≤ node.generation) ⊎ WasHeld old id node
  pub given : GenerationsGiven old → GenerationsGiven new

pub same_later : (t : NodeTable) → Later t t
same_later t = record {
  next = omega arith;
  nodes = λ id node at. inr (node, at, record { generation = refl; file = refl });
  given = λ all. all;
}

same_still : (a b c : HeldNode) → SameNode a b → SameNode b c → SameNode a c
same_still a b c one two = record { generation = one.generation ∙ two.generation; file = one.file ∙ two.file }

pub later_still : (t u v : NodeTable) → Later t u → Later u v → Later t v
later_still t u v one two = record {
  next = let first = one.next in let second = two.next in omega (arith, first, second);
  nodes = λ id node at. elim (two.nodes id node at) [
    | inl fresh ↦ inl (let first = one.next in omega (arith, first, fresh))
    | inr h ↦ before id node h
  ];
  given = λ all. two.given (one.given all);
}
  where
    before : (id : ℕ) (node : HeldNode) → WasHeld u id node
        → (t.next_generation ≤ node.generation) ⊎ WasHeld t id node
    before id node (mid, there, same) = elim (one.nodes id mid there) [
      | inl fresh ↦ inl (let is = same.generation in omega (arith, fresh, is))
      | inr k ↦ inr (k.0, k.1, same_still k.0 mid node k.2 same)
    ]

-- ---- one node changes

put_later : (t : NodeTable) (id : ℕ) (new : HeldNode) (next : ℕ) → t.next_generation ≤ next
    → ((t.next_generation ≤ new.generation) × (new.generation < next)) ⊎ WasHeld t id new
    → Later t (record { rows = put t.rows id new; next_generation = next })
put_later t id new next later here = record {
  next = later;
  nodes = λ i node at. elim (put_found t.rows id new i node at) [
    | inl h ↦ subst (λ (n : HeldNode). (t.next_generation ≤ n.generation) ⊎ WasHeld t i n) h.1
        (subst (λ (k : ℕ). (t.next_generation ≤ new.generation) ⊎ WasHeld t k new) (sym h.0) (of here))
    | inr h ↦ inr (node, h, record { generation = refl; file = refl })
  ];
  given = λ all i node at. elim (put_found t.rows id new i node at) [
    | inl h ↦ subst (λ (n : HeldNode). n.generation < next) h.1 (below all here)
    | inr h ↦ let old = all i node h in omega (arith, old, later)
  ];
}
  where
    of : ((t.next_generation ≤ new.generation) × (new.generation < next)) ⊎ WasHeld t id new
        → (t.next_generation ≤ new.generation) ⊎ WasHeld t id new
    of (inl fresh) = inl fresh.0
    of (inr was) = inr was

    below : GenerationsGiven t
        → ((t.next_generation ≤ new.generation) × (new.generation < next)) ⊎ WasHeld t id new → new.generation < next
    below all (inl fresh) = fresh.1
    below all (inr (before, there, same)) =
        let old = all id before there in let is = same.generation in omega (arith, old, is, later)

left_later : (t : NodeTable) (id : ℕ) → Later t (record t { rows = remove t.rows id })
left_later t id = record {
  next = omega arith;
  nodes = λ i node at. inr (node, left_found t.rows id i node at, record { generation = refl; file = refl });
  given = λ all i node at. all i node (left_found t.rows id i node at);
}

given_later : (t : NodeTable) (file id : ℕ) → Later t (given t file id)
given_later t file id = by (get t.rows id) refl
  where
    by : (o : Option HeldNode) → get t.rows id ≡ o → Later t (record {
      rows = put t.rows id (given_row t file o);
      next_generation = generation_after t o;
    })
    by None there = put_later t id (record { file = file; generation = t.next_generation; count = 1 })
        (t.next_generation + 1) (omega arith) (inl (omega arith, omega arith))
    by (Some row) there = put_later t id (record row { count = row.count + 1 }) t.next_generation (omega arith)
        (inr (row, there, record { generation = refl; file = refl }))

taken_later : (t : NodeTable) (id n : ℕ) → Later t (taken_back t id n)
taken_later t id n = by (get t.rows id) refl
  where
    some_left : (row : HeldNode) (b : Bool) → get t.rows id ≡ Some row → Later t (record t {
      rows = cond b (put t.rows id (record row { count = row.count - n })) (remove t.rows id);
    })
    some_left row true there = put_later t id (record row { count = row.count - n }) t.next_generation (omega arith)
        (inr (row, there, record { generation = refl; file = refl }))
    some_left row false there = left_later t id

    by : (o : Option HeldNode) → get t.rows id ≡ o → Later t (record t { rows = rows_less t.rows id n o })
    by None there = same_later t
    by (Some row) there = some_left row (nat_lt n row.count) there

-- ---- several nodes change

all_given_later : (choice : ℕ → ℕ) (files : List ℕ) (t : NodeTable) → Later t (all_given choice t files)
all_given_later choice [] t = same_later t
all_given_later choice (file ∷ files) t = later_still t (given t file (choice file))
    (all_given choice (given t file (choice file)) files) (given_later t file (choice file))
    (all_given_later choice files (given t file (choice file)))

all_taken_later : (fs : List Forget) (t : NodeTable) → Later t (all_taken_back t fs)
all_taken_later [] t = same_later t
all_taken_later (f ∷ fs) t = later_still t (taken_back t f.0 f.1) (all_taken_back (taken_back t f.0 f.1) fs)
    (taken_later t f.0 f.1) (all_taken_later fs (taken_back t f.0 f.1))

row_back_later : (t : NodeTable) (g : Entry) → Later t (row_back t g)
row_back_later t g = by (is_held t g.nodeid g.generation)
  where
    by : (b : Bool) → Later t (cond b (taken_back t g.nodeid 1) t)
    by true = taken_later t g.nodeid 1
    by false = same_later t

rows_back_later : (gs : List Entry) (t : NodeTable) → Later t (rows_back t gs)
rows_back_later [] t = same_later t
rows_back_later (g ∷ gs) t = later_still t (row_back t g) (rows_back (row_back t g) gs) (row_back_later t g)
    (rows_back_later gs (row_back t g))

-- ---- the server takes, performs and settles

interrupting_later : (s : Server) (unique original : ℕ) (h : Option HeldRequest) (k : Option Kept)
    → Later s.nodes (interrupting s unique original h k).server.nodes
interrupting_later s unique original (Some taken) k = same_later s.nodes
interrupting_later s unique original None (Some kept) = same_later s.nodes
interrupting_later s unique original None None = same_later s.nodes

pub taking_later : (s : Server) (unique : ℕ) (body : RequestBody)
    → Later s.nodes (taking s unique body).server.nodes
taking_later s unique (init flags) = same_later s.nodes
taking_later s unique (asks operation) = same_later s.nodes
taking_later s unique (release o) = same_later s.nodes
taking_later s unique (forget f) = all_taken_later (f ∷ []) s.nodes
taking_later s unique (batch_forget fs) = all_taken_later fs s.nodes
taking_later s unique (interrupt original) =
    interrupting_later s unique original (get s.held original) (get s.kept original)

doing_later : (choice : ℕ → ℕ) (s : Server) (operation : FileOperation)
    → Later s.nodes (doing choice s operation).server.nodes
doing_later choice s operation = by s.aborted
  where
    files : List ℕ
    files = files_in_reply (reply_by s.validity s.tree operation)

    by : (b : Bool) → Later s.nodes (cond b s.nodes (all_given choice s.nodes files))
    by true = same_later s.nodes
    by false = all_given_later choice files s.nodes

performing_later : (choice : ℕ → ℕ) (s : Server) (body : RequestBody)
    → Later s.nodes (performing choice s body).server.nodes
performing_later choice s (init flags) = same_later s.nodes
performing_later choice s (asks operation) = by (is_open_for s operation)
  where
    by : (b : Bool) → Later s.nodes
        (cond b (doing choice s (file_operation_of s.nodes operation)) (refusing s 9)).server.nodes
    by true = doing_later choice s (file_operation_of s.nodes operation)
    by false = same_later s.nodes
performing_later choice s (release o) = by (is_open s.handles o.fh (file_of s.nodes o.nodeid))
  where
    by : (b : Bool) → Later s.nodes (cond b (record {
      server = record s { handles = handle_back s.handles o.fh };
      wire = done;
    }) (refusing s 9)).server.nodes
    by true = same_later s.nodes
    by false = same_later s.nodes
performing_later choice s (forget f) = same_later s.nodes
performing_later choice s (batch_forget fs) = same_later s.nodes
performing_later choice s (interrupt original) = same_later s.nodes

performed_later : (choice : ℕ → ℕ) (s : Server) (taken : HeldRequest)
    → Later s.nodes (performed choice s taken).server.nodes
performed_later choice s taken = by_mark taken.marked
  where
    by_held : (b : Bool) → Later s.nodes
        (cond b (performing choice s taken.body) (refusing s 5)).server.nodes
    by_held true = performing_later choice s taken.body
    by_held false = same_later s.nodes

    by_mark : (b : Bool) → Later s.nodes (cond b (refusing s 4)
        (cond (is_still_held s.nodes taken.generations) (performing choice s taken.body) (refusing s 5))).server.nodes
    by_mark true = same_later s.nodes
    by_mark false = by_held (is_still_held s.nodes taken.generations)

pub served_later : (choice : ℕ → ℕ) (s : Server) (unique : ℕ) (taken : HeldRequest)
    → Later s.nodes (served choice s unique taken).server.nodes
served_later choice s unique taken = performed_later choice (record s { held = remove s.held unique }) taken

pub settled_later : (s : Server) (number : ℕ) (copy : Copy) (result : WriteResult)
    → Later s.nodes (settled s number copy result).nodes
settled_later s number copy Accepted = same_later s.nodes
settled_later s number copy NoEntry = rows_back_later (files_in_reply copy.wire) s.nodes
settled_later s number copy Invalid = rows_back_later (files_in_reply copy.wire) s.nodes
