-- The server's tables of nodes and of open files stay sound, as lookups are counted and given back and files are opened
-- and closed.
use Rattle.std.proofs.Common.{◌≡◌, ◌≢◌, ℕ, ◌+◌, ◌-◌, ◌≤◌, ◌<◌, Bool, true, false, cond, List, [], ◌∷◌, Option, Some, None, ◌⊎◌, inl, inr, refl, ap, sym, subst, ◌∙◌, arith, All}
use Rattle.std.specs.Prelude.{nat_lt, MatchOption}
use Rattle.std.proofs.lemmas.Bool.{cases_eq}
use Rattle.std.proofs.lemmas.Bool.Decides.{nat_tests}
use Rattle.std.proofs.lemmas.List.Elements.{All-head, All-tail}
use Rattle.fuse_spec.specs.declared.Entry.{Entry}
use Rattle.fuse_spec.specs.Values.Maps.{Map, get, put, remove}
use Rattle.fuse_spec.specs.Kernel.Messages.{Forget}
use Rattle.fuse_spec.specs.Server.Nodes.{HeldNode, NodeTable, is_held, MayName, IsUnheld, MayChoose, given, given_row, generation_after, all_given, rows_less, taken_back, rows_more, row_more, FileHandle, HandleTable, handle_opened, all_opened, handles_less, handle_back, handles_more, handle_more}
use Rattle.fuse_spec.specs.Server.Copies.{rows_counted, handles_counted, row_back, rows_back, handles_back}
use Rattle.fuse_spec.specs.Server.Server.{all_taken_back}
use Rattle.fuse_spec.proofs.Tables.{get_put_here, get_put_there, get_gone_here, get_gone_there}
use Rattle.fuse_theorem.specs.ServerTables.{NodesSound, HandlesSound}

-- ---- what is found in a map after a change

-- it is the new value, or was there
pub put_found : {X : Type 0} (m : Map X) (k : ℕ) (x : X) (q : ℕ) (y : X) → get (put m k x) q ≡ Some y
    → ((q ≡ k) × (x ≡ y)) ⊎ (get m q ≡ Some y)
put_found m k x q y found = elim (cases_eq q k) [
  | inl e ↦ inl (
    e,
    let here : Some x ≡ Some y = sym (get_put_here m k x) ∙ subst
        (λ (n : ℕ). get (put m k x) n ≡ Some y) e found in cc,
  )
  | inr ne ↦ inr (sym (get_put_there m k x q ne) ∙ found)
]

-- it was there, under another key
pub left_found : {X : Type 0} (m : Map X) (k q : ℕ) (y : X) → get (remove m k) q ≡ Some y → get m q ≡ Some y
left_found m k q y found = elim (cases_eq q k) [
  | inl e ↦ absurd (cc (get_gone_here m k, subst (λ (n : ℕ). get (remove m k) n ≡ Some y) e found))
  | inr ne ↦ sym (get_gone_there m k q ne) ∙ found
]

-- nothing is there still
pub left_none : {X : Type 0} (m : Map X) (k q : ℕ) → get m q ≡ None → get (remove m k) q ≡ None
left_none m k q none = elim (cases_eq q k) [
  | inl e ↦ subst (λ (n : ℕ). get (remove m k) n ≡ None) (sym e) (get_gone_here m k)
  | inr ne ↦ get_gone_there m k q ne ∙ none
]

-- ---- nodes

-- A row whose file no other row has.
put_sound : (t : NodeTable) → NodesSound t → (id : ℕ) (new : HeldNode) (next : ℕ) → 2 ≤ id → new.file ≢ 0
    → new.generation < next → 1 ≤ new.count → t.next_generation ≤ next
    → ((j : ℕ) (b : HeldNode) → get t.rows j ≡ Some b → b.file ≡ new.file → j ≡ id)
    → NodesSound (record { rows = put t.rows id new; next_generation = next })
put_sound t sound id new next low other below counted later alone = record {
  ids = λ i row at. elim (put_found t.rows id new i row at) [
    | inl h ↦ let is = h.0 in
        omega (arith, is, low)
    | inr h ↦ sound.ids i row h
  ];
  files = λ i row at. elim (put_found t.rows id new i row at) [
    | inl h ↦ subst
        (λ (r : HeldNode). r.file ≢ 0) h.1 other
    | inr h ↦ sound.files i row h
  ];
  apart = λ i j a b at_i at_j same. elim (put_found t.rows id new i a at_i) [
    | inl h ↦ elim (put_found t.rows id new j b at_j) [
      | inl k ↦ h.0 ∙ sym k.0
      | inr k ↦ h.0 ∙ sym (alone j b k (sym same ∙ ap (λ (r : HeldNode). r.file) (sym h.1)))
    ]
    | inr h ↦ elim (put_found t.rows id new j b at_j) [
      | inl k ↦ alone i a h (same ∙ ap (λ (r : HeldNode). r.file) (sym k.1)) ∙ sym k.0
      | inr k ↦ sound.apart i j a b h k same
    ]
  ];
  generations = λ i row at. elim (put_found t.rows id new i row at) [
    | inl h ↦ subst (λ (r : HeldNode). r.generation < next) h.1 below
    | inr h ↦ let old = sound.generations i row h in omega (arith, old, later)
  ];
  counts = λ i row at. elim (put_found t.rows id new i row at) [
    | inl h ↦ subst
        (λ (r : HeldNode). 1 ≤ r.count) h.1 counted
    | inr h ↦ sound.counts i row h
  ];
}

-- The same row with another count.
counted_sound : (t : NodeTable) → NodesSound t → (id : ℕ) (row : HeldNode) (n : ℕ) → get t.rows id ≡ Some row → 1 ≤ n
    → NodesSound (record t { rows = put t.rows id (record row { count = n }) })
counted_sound t sound id row n there counted =
    put_sound t sound id (record row { count = n }) t.next_generation (sound.ids id row there)
    (sound.files id row there) (sound.generations id row there) counted (omega arith)
    (λ j b at same. sound.apart j id b row at there same)

left_sound : (t : NodeTable) → NodesSound t → (id : ℕ) → NodesSound (record t { rows = remove t.rows id })
left_sound t sound id = record {
  ids = λ i row at. sound.ids i row (left_found t.rows id i row at);
  files = λ i row at. sound.files i row (left_found t.rows id i row at);
  apart = λ i j a b at_i at_j same. sound.apart i j a b (left_found t.rows id i a at_i)
      (left_found t.rows id j b at_j) same;
  generations = λ i row at. sound.generations i row (left_found t.rows id i row at);
  counts = λ i row at. sound.counts i row (left_found t.rows id i row at);
}

-- Nothing is held any more.
pub emptied_sound : (t : NodeTable) → NodesSound (record t { rows = [] })
emptied_sound t = record {
  ids = λ i row at. absurd (cc);
  files = λ i row at. absurd (cc);
  apart = λ i j a b at other same. absurd (cc);
  generations = λ i row at. absurd (cc);
  counts = λ i row at. absurd (cc);
}

-- One lookup more of a file, under a free id or its own.
given_sound : (t : NodeTable) → NodesSound t → (file id : ℕ) → file ≢ 0 → MayName t file id
    → NodesSound (given t file id)
given_sound t sound file id other may = by (get t.rows id) refl may
  where
    by : (o : Option HeldNode) → get t.rows id ≡ o → MatchOption o ((2 ≤ id) × IsUnheld t file)
        (λ row. row.file ≡ file) → NodesSound (record {
          rows = put t.rows id (given_row t file o);
          next_generation = generation_after t o;
        })
    by None there m =
        put_sound t sound id (record { file = file; generation = t.next_generation; count = 1 })
        (t.next_generation + 1) m.0 other (omega arith) (omega arith) (omega arith)
        (λ j b at same. absurd (m.1 j b at same))
    by (Some row) there m = counted_sound t sound id row (row.count + 1) there (omega arith)

-- The files that a reply names get their nodes.
pub all_given_sound : (choice : ℕ → ℕ) (files : List ℕ) (t : NodeTable) → NodesSound t
    → All (λ (file : ℕ). file ≢ 0) files → MayChoose choice t files → NodesSound (all_given choice t files)
all_given_sound choice [] t sound others may = sound
all_given_sound choice (file ∷ files) t sound others may =
    all_given_sound choice files (given t file (choice file))
    (given_sound t sound file (choice file) (All-head (λ (f : ℕ). f ≢ 0) file files others) may.0)
    (All-tail (λ (f : ℕ). f ≢ 0) file files others) may.1

-- Lookups of a node are given back.
taken_sound : (t : NodeTable) → NodesSound t → (id n : ℕ) → NodesSound (taken_back t id n)
taken_sound t sound id n = by (get t.rows id) refl
  where
    some_left : (row : HeldNode) (b : Bool) → nat_lt n row.count ≡ b → get t.rows id ≡ Some row
        → NodesSound (record t {
          rows = cond b (put t.rows id (record row { count = row.count - n }))
              (remove t.rows id);
        })
    some_left row true more there = counted_sound t sound id row (row.count - n) there (grind (arith, nat_tests, more))
    some_left row false more there = left_sound t sound id

    by : (o : Option HeldNode) → get t.rows id ≡ o → NodesSound (record t { rows = rows_less t.rows id n o })
    by None there = sound
    by (Some row) there = some_left row (nat_lt n row.count) refl there

pub all_taken_sound : (fs : List Forget) (t : NodeTable) → NodesSound t → NodesSound (all_taken_back t fs)
all_taken_sound [] t sound = sound
all_taken_sound (f ∷ fs) t sound = all_taken_sound fs (taken_back t f.0 f.1) (taken_sound t sound f.0 f.1)

-- One more copy names these nodes.
more_sound : (t : NodeTable) → NodesSound t → (id : ℕ) → NodesSound (row_more t id)
more_sound t sound id = by (get t.rows id) refl
  where
    by : (o : Option HeldNode) → get t.rows id ≡ o → NodesSound (record t { rows = rows_more t.rows id o })
    by None there = sound
    by (Some row) there = counted_sound t sound id row (row.count + 1) there (omega arith)

pub all_more_sound : (gs : List Entry) (t : NodeTable) → NodesSound t → NodesSound (rows_counted t gs)
all_more_sound [] t sound = sound
all_more_sound (g ∷ gs) t sound = all_more_sound gs (row_more t g.nodeid) (more_sound t sound g.nodeid)

-- A copy that named these nodes is settled.
pub all_back_sound : (gs : List Entry) (t : NodeTable) → NodesSound t → NodesSound (rows_back t gs)
all_back_sound [] t sound = sound
all_back_sound (g ∷ gs) t sound = all_back_sound gs (row_back t g) (by (is_held t g.nodeid g.generation))
  where
    by : (b : Bool) → NodesSound (cond b (taken_back t g.nodeid 1) t)
    by true = taken_sound t sound g.nodeid 1
    by false = sound

-- ---- open files

opened_sound : (h : HandleTable) → HandlesSound h → (file : ℕ) → file ≢ 0 → HandlesSound (handle_opened h file)
opened_sound h sound file other = record {
  numbers = λ fh later. get_put_there h.handles h.next_fh (record { file = file; count = 1 }) fh
      (λ e. absurd (omega (arith, e, later))) ∙ sound.numbers fh (omega (arith, later));
  files = λ fh x at. elim (put_found h.handles h.next_fh (record { file = file; count = 1 }) fh x at) [
    | inl k ↦ subst
        (λ (y : FileHandle). y.file ≢ 0) k.1 other
    | inr k ↦ sound.files fh x k
  ];
  counts = λ fh x at. elim (put_found h.handles h.next_fh (record { file = file; count = 1 }) fh x at) [
    | inl k ↦ subst
        (λ (y : FileHandle). 1 ≤ y.count) k.1 (omega arith)
    | inr k ↦ sound.counts fh x k
  ];
}

pub all_opened_sound : (files : List ℕ) (h : HandleTable) → HandlesSound h → All (λ (file : ℕ). file ≢ 0) files
    → HandlesSound (all_opened h files)
all_opened_sound [] h sound others = sound
all_opened_sound (file ∷ files) h sound others =
    all_opened_sound files (handle_opened h file) (opened_sound h sound file
    (All-head (λ (f : ℕ). f ≢ 0) file files others)) (All-tail (λ (f : ℕ). f ≢ 0) file files others)

pub emptied_handles_sound : (h : HandleTable) → HandlesSound (record h { handles = [] })
emptied_handles_sound h = record {
  numbers = λ fh later. refl;
  files = λ fh x at. absurd (cc);
  counts = λ fh x at. absurd (cc);
}

-- The same open file with another count.
recounted_sound : (h : HandleTable) → HandlesSound h → (fh : ℕ) (x : FileHandle) (n : ℕ) → get h.handles fh ≡ Some x
    → 1 ≤ n → HandlesSound (record h { handles = put h.handles fh (record x { count = n }) })
recounted_sound h sound fh x n there counted = record {
  numbers = λ q later. get_put_there h.handles fh (record x { count = n }) q
      (λ e. absurd (cc (
        there,
        subst (λ (m : ℕ). get h.handles m ≡ None) e
            (sound.numbers q later),
      ))) ∙ sound.numbers q later;
  files = λ q y at. elim (put_found h.handles fh (record x { count = n }) q y at) [
    | inl k ↦ subst
        (λ (z : FileHandle). z.file ≢ 0) k.1 (sound.files fh x there)
    | inr k ↦ sound.files q y k
  ];
  counts = λ q y at. elim (put_found h.handles fh (record x { count = n }) q y at) [
    | inl k ↦ subst
        (λ (z : FileHandle). 1 ≤ z.count) k.1 counted
    | inr k ↦ sound.counts q y k
  ];
}

-- One use of a file handle is released.
pub back_sound : (h : HandleTable) → HandlesSound h → (fh : ℕ) → HandlesSound (handle_back h fh)
back_sound h sound fh = by (get h.handles fh) refl
  where
    some_left : (x : FileHandle) (b : Bool) → nat_lt 1 x.count ≡ b → get h.handles fh ≡ Some x
        → HandlesSound (record h {
          handles = cond b (put h.handles fh (record x { count = x.count - 1 }))
              (remove h.handles fh);
        })
    some_left x true more there = recounted_sound h sound fh x (x.count - 1) there (grind (arith, nat_tests, more))
    some_left x false more there = record {
      numbers = λ q later. left_none h.handles fh q (sound.numbers q later);
      files = λ q y at. sound.files q y (left_found h.handles fh q y at);
      counts = λ q y at. sound.counts q y (left_found h.handles fh q y at);
    }

    by : (o : Option FileHandle) → get h.handles fh ≡ o
        → HandlesSound (record h { handles = handles_less h.handles fh o })
    by None there = sound
    by (Some x) there = some_left x (nat_lt 1 x.count) refl there

pub handles_back_sound : (fhs : List ℕ) (h : HandleTable) → HandlesSound h → HandlesSound (handles_back h fhs)
handles_back_sound [] h sound = sound
handles_back_sound (fh ∷ fhs) h sound = handles_back_sound fhs (handle_back h fh) (back_sound h sound fh)

-- One more copy carries these file handles.
use_sound : (h : HandleTable) → HandlesSound h → (fh : ℕ) → HandlesSound (handle_more h fh)
use_sound h sound fh = by (get h.handles fh) refl
  where
    by : (o : Option FileHandle) → get h.handles fh ≡ o
        → HandlesSound (record h { handles = handles_more h.handles fh o })
    by None there = sound
    by (Some x) there = recounted_sound h sound fh x (x.count + 1) there (omega arith)

pub handles_more_sound : (fhs : List ℕ) (h : HandleTable) → HandlesSound h → HandlesSound (handles_counted h fhs)
handles_more_sound [] h sound = sound
handles_more_sound (fh ∷ fhs) h sound = handles_more_sound fhs (handle_more h fh) (use_sound h sound fh)
