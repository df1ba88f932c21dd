-- What nodes denote, and which numbers are open, as lookups are counted and files are opened.
use Rattle.std.proofs.Common.{◌≡◌, ℕ, ◌+◌, Bool, true, true≢false, cond, List, [], ◌∷◌, Option, Some, None, nat_eq, refl, ap, sym, subst, ◌∙◌, inl, inr}
use Rattle.std.proofs.lemmas.Bool.{cases_eq}
use Rattle.fuse_spec.specs.declared.Counted.{Counted}
use Rattle.fuse_spec.specs.declared.Entry.{Entry}
use Rattle.fuse_spec.specs.Values.Maps.{Map, get, put}
use Rattle.fuse_spec.specs.Server.Copies.{rows_counted, handles_counted}
use Rattle.fuse_spec.specs.Server.Nodes.{HeldNode, NodeTable, row_of, root_row, given, given_row, all_given, row_more, rows_more, FileHandle, HandleTable, is_open, is_file_of, handle_opened, handle_more, handles_more}
use Rattle.fuse_spec.specs.Claim.Denotes.{Denotes, NodeDenotes, generation_known}
use Rattle.fuse_spec.proofs.Tables.{get_put_here, get_put_there}
use Rattle.fuse_theorem.specs.Numbering.{IsOneToOne}
use Rattle.fuse_theorem.proofs.Calls.Finding.{other_is}

-- a node denotes one file under a generation
pub denotes_one : (t : NodeTable) (id generation a b : ℕ) → Denotes t id generation a → Denotes t id generation b
    → a ≡ b
denotes_one t id generation a b x y =
    let same : x.row ≡ y.row = cc (x.there, y.there) in
    sym x.same_file ∙ ap (λ (r : HeldNode). r.file) same ∙ y.same_file

-- another row of the table leaves what this one denotes, and so does another count of it
put_denotes : (t : NodeTable) (id next : ℕ) (new : HeldNode)
    → ((old : HeldNode) → get t.rows id ≡ Some old → (new.generation ≡ old.generation) × (new.file ≡ old.file))
    → (i generation file : ℕ) → Denotes t i generation file
    → Denotes (record { rows = put t.rows id new; next_generation = next }) i generation file
put_denotes t id next new keeps i generation file d = elim (cases_eq i 1) [
  | inl root ↦
      record {
        row = d.row;
        there = ap (λ (b : Bool). cond b (Some root_row) (get (put t.rows id new) i)) (is_one i root) ∙ ap
            (λ (b : Bool). cond b (Some root_row) (get t.rows i)) (sym (is_one i root)) ∙ d.there;
        same_generation = d.same_generation;
        same_file = d.same_file;
      }
  | inr other ↦
      let old_there : get t.rows i ≡ Some d.row = ap (λ (b : Bool). cond b (Some root_row) (get t.rows i))
      (sym (other_is i 1 other)) ∙ d.there in
      let to_row : (r : HeldNode) → get (put t.rows id new) i ≡ Some r
      → row_of (record { rows = put t.rows id new; next_generation = next }) i ≡ Some r =
      λ r e. ap (λ (b : Bool). cond b (Some root_row) (get (put t.rows id new) i)) (other_is i 1 other) ∙ e in
      elim (cases_eq i id) [
        | inl e ↦
            let kept = keeps d.row (subst (λ (n : ℕ). get t.rows n ≡ Some d.row) e old_there) in
            record {
              row = new;
              there = to_row new (subst (λ (n : ℕ). get (put t.rows id new) n ≡ Some new) (sym e)
                  (get_put_here t.rows id new));
              same_generation = kept.0 ∙ d.same_generation;
              same_file = kept.1 ∙ d.same_file;
            }
        | inr ne ↦ record {
          row = d.row;
          there = to_row d.row (get_put_there t.rows id new i ne ∙ old_there);
          same_generation = d.same_generation;
          same_file = d.same_file;
        }
      ]
]
  where
    is_one : (i : ℕ) → i ≡ 1 → nat_eq i 1 ≡ true
    is_one i e = subst (λ (n : ℕ). nat_eq n 1 ≡ true) (sym e) refl

-- One lookup more of a file.
pub given_denotes : (t : NodeTable) (file' id : ℕ) (i generation file : ℕ) → Denotes t i generation file
    → Denotes (given t file' id) i generation file
given_denotes t file' id i generation file d = put_denotes t id _
    (given_row t file' (get t.rows id)) keeps i generation file d
  where
    keeps : (old : HeldNode) → get t.rows id ≡ Some old
        → ((given_row t file' (get t.rows id)).generation ≡ old.generation)
        × ((given_row t file' (get t.rows id)).file ≡ old.file)
    keeps old e = (
      ap (λ (o : Option HeldNode). (given_row t file' o).generation) e,
      ap (λ (o : Option HeldNode). (given_row t file' o).file) e,
    )

pub all_given_denotes : (choice : ℕ → ℕ) (files : List ℕ) (t : NodeTable) (i generation file : ℕ)
    → Denotes t i generation file → Denotes (all_given choice t files) i generation file
all_given_denotes choice [] t i generation file d = d
all_given_denotes choice (f ∷ files) t i generation file d =
    all_given_denotes choice files (given t f (choice f)) i generation file
    (given_denotes t f (choice f) i generation file d)

-- One lookup more of a node.
pub more_denotes : (t : NodeTable) (id : ℕ) (i generation file : ℕ) → Denotes t i generation file
    → Denotes (row_more t id) i generation file
more_denotes t id i generation file d = by (get t.rows id) refl
  where
    by : (o : Option HeldNode) → get t.rows id ≡ o → Denotes
        (record t { rows = rows_more t.rows id o }) i generation file
    by None e = d
    by (Some row) e = put_denotes t id t.next_generation (record row { count = row.count + 1 })
        (λ old f. let same : row ≡ old = cc in (
          ap (λ (r : HeldNode). r.generation) same,
          ap (λ (r : HeldNode). r.file) same,
        )) i generation file d

pub counted_denotes : (gs : List Entry) (t : NodeTable) (i generation file : ℕ) → Denotes t i generation file
    → Denotes (rows_counted t gs) i generation file
counted_denotes [] t i generation file d = d
counted_denotes (g ∷ gs) t i generation file d =
    counted_denotes gs (row_more t g.nodeid) i generation file (more_denotes t g.nodeid i generation file d)

-- A file handle is one of its file still, as it is counted once more or another is opened.
pub more_open : (h : HandleTable) (fh' : ℕ) (fh file : ℕ) → is_open h fh file ≡ true
    → is_open (handle_more h fh') fh file ≡ true
more_open h fh' fh file o = by (get h.handles fh') refl
  where
    by : (x : Option FileHandle) → get h.handles fh' ≡ x
        → is_file_of file (get (handles_more h.handles fh' x) fh) ≡ true
    by None e = o
    by (Some open_call) e =
        let new : FileHandle = record open_call { count = open_call.count + 1 } in
        elim (cases_eq fh fh') [
          | inl here ↦
              ap (λ (n : ℕ). is_file_of file (get (put h.handles fh' new) n)) here ∙ ap (is_file_of file)
              (get_put_here h.handles fh' new)
              ∙ ap (is_file_of file) (sym e) ∙ ap (λ (n : ℕ). is_file_of file (get h.handles n)) (sym here) ∙ o
          | inr ne ↦ ap (is_file_of file) (get_put_there h.handles fh' new fh ne) ∙ o
        ]

pub counted_open : (fhs : List ℕ) (h : HandleTable) (fh file : ℕ) → is_open h fh file ≡ true
    → is_open (handles_counted h fhs) fh file ≡ true
counted_open [] h fh file o = o
counted_open (fh' ∷ fhs) h fh file o = counted_open fhs (handle_more h fh') fh file (more_open h fh' fh file o)

pub opened_open : (h : HandleTable) (file' : ℕ) → get h.handles h.next_fh ≡ None → (fh file : ℕ)
    → is_open h fh file ≡ true → is_open (handle_opened h file') fh file ≡ true
opened_open h file' none fh file o = elim (cases_eq fh h.next_fh) [
  | inl here ↦ absurd (true≢false (sym o ∙ ap (λ (n : ℕ). is_file_of file (get h.handles n)) here ∙ ap
      (is_file_of file) none))
  | inr ne ↦ ap (is_file_of file) (get_put_there h.handles h.next_fh (record { file = file'; count = 1 }) fh ne) ∙ o
]

-- Where the server holds what the kernel knows, no more is denoted as the server's table grows.
pub one_grown : (nodes : Map Counted) (t t' : NodeTable)
    → ((id generation : ℕ) → generation_known nodes id ≡ Some generation → (file : ℕ) × Denotes t id generation file)
    → ((id generation file : ℕ) → Denotes t id generation file → Denotes t' id generation file)
    → IsOneToOne (NodeDenotes nodes t) → IsOneToOne (NodeDenotes nodes t')
one_grown nodes t t' held grown one a b c d r s = one a b c d (before a c r) (before b d s)
  where
    before : (id file : ℕ) → NodeDenotes nodes t' id file → NodeDenotes nodes t id file
    before id file m =
        let was = held id m.generation m.known in
        let same : was.0 ≡ file = denotes_one t' id m.generation was.0 file
        (grown id m.generation was.0 was.1) m.denotes in
        record {
          generation = m.generation;
          known = m.known;
          denotes = subst (λ (n : ℕ). Denotes t id m.generation n) same was.1;
        }
