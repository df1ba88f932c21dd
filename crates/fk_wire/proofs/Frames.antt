-- The frame in which a request is written spells that request.
use Rattle.std.proofs.Common.{◌≡◌, ℕ, Bool, true, false, ◌+◌, ◌*◌, ◌^◌, ◌≤◌, ◌<◌, List, [], ◌∷◌, ◌++◌, length, refl, sym, ap, subst, ◌∙◌, arith, append_assoc}
use Rattle.std.proofs.lemmas.List.{take_at, drop_at, length-append, append-nil}
use Rattle.byteorder.specs.Numbers.{little_number-reads_back, length-bytes_low_first}
use Rattle.fk_wire.specs.Fields.{Field, u64, free32, holds, free, bits, named, raw, number_at, bytes_at, bytes_of, ReadsAs, InRange, HaveNames, spelling, spellings, size, sizes}
use Rattle.fk_wire.specs.Pairs.{forget_ones}
use Rattle.fk_wire.specs.Entries.{missing, found}
use Rattle.fk_wire.proofs.RecordLists.{dirents_are_named, direntpluses_are_named}
use Rattle.fk_wire.specs.Replies.{ReplyContent, empty_reply, entry_reply, attr_reply, open_reply, bytes_reply, write_reply, init_reply, create_reply, records_reply, plus_reply, ReplyMessage, reply_body, reply_fields, init_end, states_15, knows_kind, kind_of_content, HasReplyNames, IsErrorNumber, IsAlone, IsReplyContent, GoesWith, SpellsReplyAt, WrittenReplyAt}
use Rattle.fk_wire.specs.declared.opcode.Opcode.{Opcode}
use Rattle.fk_wire.specs.declared.opcode.Minor.{Minor}
use Rattle.fk_wire.specs.Opcodes.{code_of, minor_knows, has_node}
use Rattle.std.specs.Prelude.{IsTrue}
use Rattle.std.specs.Int.{w32, cast_unsigned}
use Rattle.fk_wire.specs.Requests.{RequestMessage, SpellsAt, WrittenAt, opcode_of, nodeid_field, IsNodeOf, request_body, header, request_fields, max_frame}

pub length-bytes_of : (width value : ℕ) → length (bytes_of width value) ≡ width
unfolding bytes_of
length-bytes_of width value = length-bytes_low_first 0 width value

length-spelling : (f : Field) → length (spelling f) ≡ size f
length-spelling (holds width value) = length-bytes_of width value
length-spelling (free width value) = length-bytes_of width value
length-spelling (bits mask value) = length-bytes_of 4 value
length-spelling (named name) = length-append name (0 ∷ [])
length-spelling (raw bs) = refl

pub length-spellings : (fs : List Field) → length (spellings fs) ≡ sizes fs
length-spellings [] = refl
length-spellings (f ∷ fs) = omega (
  arith,
  length-append (spelling f) (spellings fs),
  length-spelling f,
  length-spellings fs,
)

pub spellings-append : (fs gs : List Field) → spellings (fs ++ gs) ≡ spellings fs ++ spellings gs
spellings-append [] gs = refl
spellings-append (f ∷ fs) gs = ap (λ (x : List ℕ). spelling f ++ x) (spellings-append fs gs) ∙ sym
    (append_assoc (spelling f) (spellings fs) (spellings gs))

number_back : (front rest : List ℕ) (width value : ℕ) → value < 256 ^ width
    → number_at (length front) width (front ++ (bytes_of width value ++ rest)) ≡ value
unfolding number_at bytes_of
number_back front rest width value fits = rw (drop_at front (bytes_of width value ++ rest) (length front) refl)
    (little_number-reads_back width value rest fits)

bytes_back : (front bs rest : List ℕ) → bytes_at (length front) (length bs) (front ++ (bs ++ rest)) ≡ bs
unfolding bytes_at
bytes_back front bs rest = rw (drop_at front (bs ++ rest) (length front) refl) (take_at bs rest (length bs) refl)

-- the fields after one whose bytes stand at the end of the front
next : (front bs : List ℕ) (count : ℕ) (fs : List Field) (rest : List ℕ) → length bs ≡ count
    → ReadsAs (length (front ++ bs)) fs ((front ++ bs) ++ rest)
    → ReadsAs (length front + count) fs (front ++ (bs ++ rest))
next front bs count fs rest len h =
    let place : length (front ++ bs) ≡ length front + count = omega (arith, length-append front bs) in
    subst (λ (p : ℕ). ReadsAs p fs (front ++ (bs ++ rest))) place
    (subst (λ (x : List ℕ). ReadsAs (length (front ++ bs)) fs x) (append_assoc front bs rest) h)

pub reads_back : (fs : List Field) (front : List ℕ) → InRange fs → HaveNames fs
    → ReadsAs (length front) fs (front ++ spellings fs)
reads_back [] front r n = ap length (append-nil front)
reads_back (holds width value ∷ fs) front r n = (
  number_back front (spellings fs) width value r.0,
  next front (bytes_of width value) width fs (spellings fs) (length-bytes_of width value)
      (reads_back fs (front ++ bytes_of width value) r.1 n),
)
reads_back (free width value ∷ fs) front r n = next front (bytes_of width value) width fs (spellings fs)
    (length-bytes_of width value) (reads_back fs (front ++ bytes_of width value) r n)
reads_back (bits mask value ∷ fs) front r n = (
  rw (number_back front (spellings fs) 4 value r.0) r.1,
  next front (bytes_of 4 value) 4 fs (spellings fs) (length-bytes_of 4 value)
      (reads_back fs (front ++ bytes_of 4 value) r.2 n),
)
reads_back (named name ∷ fs) front r n =
    let len : length (name ++ 0 ∷ []) ≡ length name + 1 = length-append name (0 ∷ []) in (
      n.0,
      subst (λ (k : ℕ). bytes_at (length front) k (front ++ ((name ++ 0 ∷ []) ++ spellings fs)) ≡ name
          ++ 0 ∷ []) len (bytes_back front (name ++ 0 ∷ []) (spellings fs)),
      next front (name ++ 0 ∷ []) (length name + 1) fs (spellings fs) len
          (reads_back fs (front ++ (name ++ 0 ∷ [])) r n.1),
    )
reads_back (raw bs ∷ fs) front r n = (
  bytes_back front bs (spellings fs),
  next front bs (length bs) fs (spellings fs) refl (reads_back fs (front ++ bs) r n),
)

-- Every frame in which a request is written spells it.
pub spells : (minor : Minor) (m : RequestMessage) (bytes : List ℕ) → WrittenAt minor m bytes → SpellsAt minor bytes m
spells minor m bytes w = (
  w.0,
  w.1,
  w.2,
  subst (λ (x : List ℕ). ReadsAs 0 (request_fields (length bytes) m) x)
      (sym w.5) (reads_back (request_fields (length bytes) m) [] w.3 w.4),
)

-- the node as it is written
nodeid_written : (about : Bool) (node : ℕ) → IsNodeOf about node → spelling (nodeid_field about node) ≡ bytes_of 8 node
nodeid_written true node good = refl
nodeid_written false node good = ap (bytes_of 8) (sym good)

nodeid_fits : (about : Bool) (node : ℕ) (after : List Field) → node < 2 ^ 64 → InRange after
    → InRange (nodeid_field about node ∷ after)
nodeid_fits true node after fits rest = (fits, rest)
nodeid_fits false node after fits rest = rest

nodeid_is_no_name : (about : Bool) (node : ℕ) (after : List Field) → HaveNames after
    → HaveNames (nodeid_field about node ∷ after)
nodeid_is_no_name true node after names = names
nodeid_is_no_name false node after names = names

nodeid_size : (about : Bool) (node : ℕ) → size (nodeid_field about node) ≡ 8
nodeid_size true node = refl
nodeid_size false node = refl

-- what a header and a body come to is the frame
pub frame : (minor : Minor) (m : RequestMessage) (old new : List ℕ) (len : ℕ)
    → 40 + sizes (request_body m.content) ≡ len → len ≤ max_frame → m.unique < 2 ^ 64 → m.nodeid < 2 ^ 64
    → code_of (opcode_of m.content) < 2 ^ 32 → IsTrue (minor_knows minor (opcode_of m.content))
    → IsNodeOf (has_node (opcode_of m.content)) m.nodeid
    → InRange (request_body m.content) → HaveNames (request_body m.content)
    → new ≡ (old ++ spellings (header len (code_of (opcode_of m.content)) m.unique (u64 m.nodeid)))
    ++ spellings (request_body m.content)
    → (bytes : List ℕ) × WrittenAt minor m bytes × (new ≡ old ++ bytes)
frame minor m old new len total small unique node code known good fits names e =
    let about = has_node (opcode_of m.content) in
    let code' = code_of (opcode_of m.content) in
    let head = header len code' m.unique (nodeid_field about m.nodeid) in
    let bytes = spellings head ++ spellings (request_body m.content) in
    let same : spellings (header len code' m.unique (u64 m.nodeid)) ≡ spellings head =
    rw (nodeid_written about m.nodeid good) refl in
    let count : length bytes ≡ len = omega (
      arith,
      length-append (spellings head) (spellings (request_body m.content)),
      length-spellings head,
      length-spellings (request_body m.content),
      nodeid_size about m.nodeid,
    ) in
    let whole : bytes ≡ spellings (request_fields len m) = sym (spellings-append head (request_body m.content)) in
    let after : List Field = free32 0 ∷ free32 0 ∷ free32 0 ∷ free32 0 ∷ request_body m.content in
    let written : WrittenAt minor m bytes = rw count (
      small,
      known,
      good,
      (omega arith, (code, (unique, nodeid_fits about m.nodeid after node fits))),
      nodeid_is_no_name about m.nodeid after names,
      whole,
    ) in
    let regroup : (old ++ spellings (header len code' m.unique (u64 m.nodeid))) ++ spellings (request_body m.content)
    ≡ old ++ bytes = ap (λ (x : List ℕ). (old ++ x) ++ spellings (request_body m.content)) same ∙ append_assoc old
    (spellings head) (spellings (request_body m.content)) in
    (bytes, written, e ∙ regroup)

-- ---- lists of pairs

pub sizes_of_forgets : (ps : List (ℕ × ℕ)) → sizes (forget_ones ps) ≡ 16 * length ps
sizes_of_forgets [] = refl
sizes_of_forgets (p ∷ ps) = omega (arith, sizes_of_forgets ps)

pub forgets_are_named : (ps : List (ℕ × ℕ)) → HaveNames (forget_ones ps)
forgets_are_named [] = tt
forgets_are_named (p ∷ ps) = forgets_are_named ps

-- ---- replies

init_end_is_named : (old : Bool) → HaveNames (init_end old)
init_end_is_named true = tt
init_end_is_named false = tt

no_names : (s : ReplyContent) → HaveNames (reply_body s)
no_names empty_reply = tt
no_names (entry_reply (missing valid nsec)) = tt
no_names (entry_reply (found nodeid generation valid nsec a)) = tt
no_names (attr_reply a) = tt
no_names (open_reply fh) = tt
no_names (bytes_reply bytes) = tt
no_names (write_reply size) = tt
no_names (init_reply major minor flags) = init_end_is_named (states_15 major minor)
no_names (create_reply (missing valid nsec) fh) = tt
no_names (create_reply (found nodeid generation valid nsec a) fh) = tt
no_names (records_reply ds) = dirents_are_named ds
no_names (plus_reply ps) = direntpluses_are_named ps

pub spells_reply : (minor : Minor) (o : Opcode) (t : ReplyMessage) (bytes : List ℕ) → GoesWith minor o t
    → WrittenReplyAt minor t bytes → SpellsReplyAt minor o bytes t
spells_reply minor o t bytes goes w = (
  w.0,
  w.1,
  goes,
  w.4,
  w.5,
  subst (λ (x : List ℕ). ReadsAs 0 (reply_fields (length bytes) t) x) (sym w.8)
      (reads_back (reply_fields (length bytes) t) [] w.6 w.7),
)

pub reply_frame : (minor : Minor) (t : ReplyMessage) (old new : List ℕ) (len : ℕ)
    → 16 + sizes (reply_body t.content) ≡ len → len ≤ max_frame → IsErrorNumber t.error
    → IsTrue (knows_kind minor (kind_of_content t.content)) → IsAlone t → IsReplyContent t.content
    → HasReplyNames t.content
    → cast_unsigned w32 t.error < 2 ^ 32 → t.unique < 2 ^ 64 → InRange (reply_body t.content)
    → new ≡ (((old ++ bytes_of 4 len) ++ bytes_of 4 (cast_unsigned w32 t.error)) ++ bytes_of 8 t.unique)
    ++ spellings (reply_body t.content)
    → (bytes : List ℕ) × WrittenReplyAt minor t bytes × (new ≡ old ++ bytes)
reply_frame minor t old new len total small error known alone good names word unique fits e =
    let bytes = spellings (reply_fields len t) in
    let count : length bytes ≡ len = omega (arith, length-spellings (reply_fields len t)) in
    let written : WrittenReplyAt minor t bytes = rw count
    (small, error, known, alone, good, names, (omega arith, (word, (unique, fits))), no_names t.content, refl) in
    let regroup : (((old ++ bytes_of 4 len) ++ bytes_of 4 (cast_unsigned w32 t.error)) ++ bytes_of 8 t.unique)
    ++ spellings (reply_body t.content) ≡ old ++ bytes = simp append_assoc in
    (bytes, written, e ∙ regroup)
