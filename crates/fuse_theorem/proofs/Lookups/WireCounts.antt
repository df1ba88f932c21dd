-- What a reply names is counted as its copy goes out, and given back as the copy comes back refused.
use Rattle.std.proofs.Common.{◌≡◌, ◌≢◌, ℕ, ◌+◌, ◌-◌, ◌≤◌, Bool, true, false, true≢false, ◌&&◌, cond, List, [], ◌∷◌, Option, Some, None, nat_eq, get_or, count_by, refl, ap, sym, subst, ◌∙◌, arith, inl, inr, All}
use Rattle.std.specs.List.{list_all}
use Rattle.std.proofs.lemmas.Bool.Decides.{nat_tests}
use Rattle.std.proofs.lemmas.Bool.{cases_eq}
use Rattle.std.proofs.lemmas.List.Elements.{All-nil, All-cons, All-head, All-tail}
use Rattle.std.proofs.lemmas.List.Sums.{get_or-le-sum_by}
use Rattle.fuse_spec.specs.declared.Entry.{Entry}
use Rattle.fuse_spec.specs.Values.Maps.{get}
use Rattle.fuse_spec.specs.Kernel.Messages.{WireReply}
use Rattle.fuse_spec.specs.Files.Operations.{files_in_reply}
use Rattle.fuse_spec.specs.Server.Nodes.{HeldNode, NodeTable, taken_back, row_of, root_row, is_row_of, is_held, row_more}
use Rattle.fuse_spec.specs.Server.Copies.{rows_counted, row_back, rows_back}
use Rattle.fuse_spec.specs.Claim.Denotes.{Denotes}
use Rattle.fuse_spec.specs.Claim.Counts.{times_named}
use Rattle.fuse_spec.proofs.QueueCounts.{count_by-cons}
use Rattle.fuse_theorem.specs.Lookups.{IsHeldAs, EntriesHeld}
use Rattle.fuse_theorem.proofs.Calls.Finding.{same_is, other_is}
use Rattle.fuse_theorem.proofs.Refining.Forgetting.{less_denotes}
use Rattle.fuse_theorem.proofs.Refining.LookupsCounted.{more_denotes}
use Rattle.fuse_theorem.proofs.Lookups.Lookups.{held_still}
use Rattle.fuse_theorem.proofs.Lookups.RowCounts.{count_of, taken_count, more_count}

-- A list of one element at most.
pub data OneAtMost {X : Type 0} : List X → Type 0 where
  nothing : OneAtMost []
  one : (x : X) → OneAtMost (x ∷ [])

-- The entry's node is held, and is not the root.
abbrev Held : NodeTable → Entry → Type 0
Held t g = (2 ≤ g.nodeid) × IsHeldAs t g.nodeid g.generation

abbrev pub entries_of : ℕ → List Entry → ℕ
entries_of id gs = count_by (λ (g : Entry). nat_eq g.nodeid id) gs

-- ---- held nodes

each_more : {X : Type 0} {P Q : X → Type 0} (xs : List X) → ((x : X) → P x → Q x) → All P xs → All Q xs
each_more xs more h i x lt = more (get_or xs i x) (h i x lt)

-- a node that is held is there
held_as : (t : NodeTable) (id generation : ℕ) → is_held t id generation ≡ true → IsHeldAs t id generation
held_as t id generation is = by (row_of t id) refl is
  where
    by : (o : Option HeldNode) → row_of t id ≡ o → is_row_of generation o ≡ true → IsHeldAs t id generation
    by None at e = absurd (true≢false (sym e))
    by (Some row) at e = (
      row.file,
      record {
        row = row;
        there = at;
        same_generation = grind (arith, nat_tests, e);
        same_file = refl;
      },
    )

is_held_if : (t : NodeTable) (id generation : ℕ) → IsHeldAs t id generation → is_held t id generation ≡ true
is_held_if t id generation held =
    let d = held.1 in
    ap (is_row_of generation) d.there ∙ subst (λ (n : ℕ). nat_eq n generation ≡ true) (sym d.same_generation)
    (same_is generation)

pub row_there : (t : NodeTable) (id generation : ℕ) → 2 ≤ id → IsHeldAs t id generation → get t.rows id ≢ None
row_there t id generation low held none =
    let d = held.1 in
    let unknown : row_of t id ≡ None = ap (λ (b : Bool). cond b (Some root_row) (get t.rows id))
    (other_is id 1 (λ e. absurd (omega (arith, e, low)))) ∙ none in
    absurd (cc (unknown, d.there))

-- ---- one more copy of a kept reply

-- Where the entries are held, each is counted once more.
pub more_counts : (t : NodeTable) (wire : WireReply) → EntriesHeld t wire → (id : ℕ)
    → count_of (rows_counted t (files_in_reply wire)) id ≡ count_of t id + times_named id wire
more_counts t wire held id = by (files_in_reply wire) t held
  where
    still : (t : NodeTable) (node : ℕ) (g : Entry) → Held t g → Held (row_more t node) g
    still t node g h = (h.0, (h.1.0, more_denotes t node g.nodeid g.generation h.1.0 h.1.1))

    by : (gs : List Entry) (t : NodeTable) → All (Held t) gs
        → count_of (rows_counted t gs) id ≡ count_of t id + entries_of id gs
    by [] t h = omega arith
    by (g ∷ gs) t h =
        let mine = All-head (Held t) g gs h in
        let more = more_count t g.nodeid id (row_there t g.nodeid g.generation mine.0 mine.1) in
        let counts = count_by-cons (λ (x : Entry). nat_eq x.nodeid id) g gs in
        let rest = by gs (row_more t g.nodeid) (each_more {P = Held t} {Q = Held (row_more t g.nodeid)} gs
        (λ x held_x. still t g.nodeid x held_x) (All-tail (Held t) g gs h)) in
        omega (arith, more, counts, rest)

-- The entries of a current reply are held.
pub current_held : (t : NodeTable) (wire : WireReply) → All (λ (g : Entry). 2 ≤ g.nodeid) (files_in_reply wire)
    → list_all (λ (g : Entry). is_held t g.nodeid g.generation) (files_in_reply wire) ≡ true → EntriesHeld t wire
current_held t wire low current = by (files_in_reply wire) low current
  where
    first : (a b : Bool) → (a && b) ≡ true → a ≡ true
    first true b e = refl
    first false b e = e

    second : (a b : Bool) → (a && b) ≡ true → b ≡ true
    second true b e = e
    second false b e = absurd (true≢false (sym e))

    by : (gs : List Entry) → All (λ (g : Entry). 2 ≤ g.nodeid) gs
        → list_all (λ (g : Entry). is_held t g.nodeid g.generation) gs ≡ true → All (Held t) gs
    by [] l h = All-nil (Held t)
    by (g ∷ gs) l h =
        let others = list_all (λ (x : Entry). is_held t x.nodeid x.generation) gs in
        All-cons (Held t) g gs (
          All-head (λ (x : Entry). 2 ≤ x.nodeid) g gs l,
          held_as t g.nodeid g.generation
              (first (is_held t g.nodeid g.generation) others h),
        )
        (by gs (All-tail (λ (x : Entry). 2 ≤ x.nodeid) g gs l) (second (is_held t g.nodeid g.generation) others h))

-- ---- a refused copy comes back

-- Where the entries are held and counted, each is counted once less.
pub back_counts : (t : NodeTable) (wire : WireReply) → EntriesHeld t wire → (id : ℕ) → times_named id wire ≤ count_of t id
    → count_of (rows_back t (files_in_reply wire)) id + times_named id wire ≡ count_of t id
back_counts t wire held id few = by (files_in_reply wire) t
    (each_more {P = Held t} {Q = HeldHere t} (files_in_reply wire) (λ g h same. h) held) few
  where
    -- an entry of this node is held
    HeldHere : NodeTable → Entry → Type 0
    HeldHere t g = g.nodeid ≡ id → Held t g

    -- the table once the entry is given back
    fewer : (t : NodeTable) (g : Entry) (i generation file : ℕ) → Denotes (row_back t g) i generation file
        → Denotes t i generation file
    fewer t g i generation file = tested (is_held t g.nodeid g.generation)
      where
        tested : (b : Bool) → Denotes (cond b (taken_back t g.nodeid 1) t) i generation file
            → Denotes t i generation file
        tested true d = less_denotes t g.nodeid 1 i generation file d
        tested false d = d

    -- what this node counts then
    goes : (t : NodeTable) (g : Entry) → HeldHere t g
        → count_of (row_back t g) id ≡ count_of t id - cond (nat_eq g.nodeid id) 1 0
    goes t g h = tested (is_held t g.nodeid g.generation) refl
      where
        tested : (b : Bool) → is_held t g.nodeid g.generation ≡ b
            → count_of (cond b (taken_back t g.nodeid 1) t) id ≡ count_of t id - cond (nat_eq g.nodeid id) 1 0
        tested true e = taken_count t g.nodeid 1 id
        tested false e = elim (cases_eq g.nodeid id) [
          | inl same ↦ absurd (let held_g = h same in true≢false
              (sym (is_held_if t g.nodeid g.generation held_g.1) ∙ e))
          | inr ne ↦ let other = ap {B = ℕ} (λ (b : Bool). cond b 1 0) (other_is g.nodeid id ne) in omega (arith, other)
        ]

    -- entries of a node that is counted as often still are held still
    later : (gs : List Entry) (t t' : NodeTable) → ((i generation file : ℕ) → Denotes t' i generation file
        → Denotes t i generation file) → entries_of id gs ≤ count_of t' id → All (HeldHere t) gs → All (HeldHere t') gs
    later gs t t' fewer few h i g lt same =
        let entry = get_or gs i g in
        let was = h i g lt same in
        let here = ap {B = ℕ} (λ (b : Bool). cond b 1 0)
        (subst (λ (n : ℕ). nat_eq entry.nodeid n ≡ true) same (same_is entry.nodeid)) in
        let some = get_or-le-sum_by (λ (e : Entry). cond (nat_eq e.nodeid id) 1 0) gs i g lt in
        let counts : 1 ≤ count_of t' entry.nodeid = subst (λ (n : ℕ). 1 ≤ count_of t' n) (sym same)
        (omega (arith, here, some, few)) in
        (was.0, held_still t t' fewer entry.nodeid entry.generation was.0 was.1 counts)

    by : (gs : List Entry) (t : NodeTable) → All (HeldHere t) gs → entries_of id gs ≤ count_of t id
        → count_of (rows_back t gs) id + entries_of id gs ≡ count_of t id
    by [] t h few = omega arith
    by (g ∷ gs) t h few =
        let counts = count_by-cons (λ (x : Entry). nat_eq x.nodeid id) g gs in
        let less = goes t g (All-head (HeldHere t) g gs h) in
        let rest = by gs (row_back t g) (later gs t (row_back t g) (fewer t g) (omega (arith, counts, less, few))
        (All-tail (HeldHere t) g gs h)) (omega (arith, counts, less, few)) in
        omega (arith, counts, less, rest, few)
