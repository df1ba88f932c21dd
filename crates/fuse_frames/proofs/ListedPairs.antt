-- The pairs of a list, written one after the other, and what they say.
use Rattle.std.proofs.Common.{◌≡◌, ◌≤◌, ℕ, ◌+◌, ◌*◌, ◌/◌, ◌%◌, Bool, true, false, eqb, Some, None, List, [], ◌∷◌, ◌++◌, length, refl, sym, ap, subst, ◌∙◌, arith, append_assoc, map}
use Rattle.std.specs.Prelude.{pos, cond, if◌then◌else◌}
use Rattle.fk_wire.specs.Fields.{InRange, sizes, spellings}
use Rattle.fk_wire.specs.Entries.{EntryContent, missing, found, entry_of}
use Rattle.fk_wire.specs.Dirents.{DirentContent, DirentPlusContent, dirent_fields, dirents, direntpluses, HaveRecordNames, HavePlusNames, HaveEntries}
use Rattle.fk_wire.proofs.Spelled.{sizes_of_entry}
use Rattle.fk_wire.proofs.EntryFields.{is_entry}
use Rattle.fuse_spec.specs.declared.Entry.{Entry}
use Rattle.std.specs.Prelude.{◌<◌, ◌^◌}
use Rattle.std.proofs.lemmas.Int.{ints}
use Rattle.std.proofs.lemmas.List.{append-nil}
use Rattle.fk_wire.specs.declared.opcode.Opcode.TheVariants as op
use Rattle.fk_wire.specs.Fields.{u32, u64}
use Rattle.fk_wire.specs.Opcodes.{latest_minor}
use Rattle.fk_wire.specs.Requests.{max_frame}
use Rattle.fk_wire.specs.Replies.{plus_reply, ReplyMessage, WrittenReply, GoesWith, IsErrorNumber, kind_of_content}
use Rattle.fk_wire.proofs.Frames.{reply_frame}
use Rattle.fk_wire.specs.declared.entry.Attr.{Attr}
use Rattle.fuse_spec.specs.declared.Kind.{Kind}
use Rattle.fuse_spec.specs.declared.Kind.TheVariants.{Directory, Regular, Other}
use Rattle.fuse_spec.specs.declared.Attributes.{Attributes}
use Rattle.fuse_spec.specs.Values.Numbers.{max_validity}
use Rattle.fuse_spec.specs.Files.Operations.{DirentPlus}
use Rattle.fuse_frames.specs.ReplyTies.{pairs_listed, direntpluses_of, entry_listed, written_entry_for, file_named, valid_in, pair_in, written_pair, dirent_read, dirent_written, attr_of, attributes_in, kind_of_mode, mode_of, milliseconds, framed_by, message_of}
use Rattle.fuse_frames.proofs.ReplyLemmas.{reads_as_itself}

-- ---- how they are written

-- the pair of an entry and a record
abbrev pub listed : (valid : ℕ) → Entry → DirentContent → DirentPlusContent
listed valid e d = record {
  entry_out = entry_of e.nodeid e.generation (valid / 1000) (valid % 1000 * 1000000)
      (attr_of e.attributes);
  dirent = d;
}

pub listed_entries : (valid : ℕ) (es : List Entry) (ds : List DirentContent) → HaveEntries (pairs_listed valid es ds)
listed_entries valid (e ∷ es) (d ∷ ds) = (
  is_entry e.nodeid e.generation (valid / 1000) (valid % 1000 * 1000000)
      (attr_of e.attributes) (omega arith),
  listed_entries valid es ds,
)
listed_entries valid [] ds = tt
listed_entries valid (e ∷ es) [] = tt

pub listed_names : (valid : ℕ) (es : List Entry) (ds : List DirentContent) → HaveRecordNames ds
    → HavePlusNames (pairs_listed valid es ds)
listed_names valid (e ∷ es) (d ∷ ds) h = (h.0, listed_names valid es ds h.1)
listed_names valid [] ds h = tt
listed_names valid (e ∷ es) [] h = tt

-- a pair has 128 bytes more than its record
pub listed_sizes : (valid : ℕ) (es : List Entry) (ds : List DirentContent) → length es ≡ length ds
    → sizes (direntpluses (pairs_listed valid es ds)) ≡ 128 * length es + sizes (dirents ds)
listed_sizes valid (e ∷ es) (d ∷ ds) same =
    let p = listed valid e d in
    let rest = listed_sizes valid es ds (omega (arith, same)) in
    omega (arith, rest, sizes_of_entry p.entry_out (dirent_fields d (direntpluses (pairs_listed valid es ds))))
listed_sizes valid [] [] same = refl
listed_sizes valid [] (d ∷ ds) same = absurd (omega (arith, same))
listed_sizes valid (e ∷ es) [] same = absurd (omega (arith, same))

-- ---- what they say

kind_back : (k : Kind) → kind_of_mode (mode_of k) ≡ k
kind_back Directory = refl
kind_back Regular = refl
kind_back Other = refl

attributes_back : (a : Attributes) → attributes_in (attr_of a) ≡ a
attributes_back a = ap (λ (k : Kind). record { kind = k; ino = a.ino; size = a.size; nlink = a.nlink })
    (kind_back a.kind)

-- the entry where the test of its node has this outcome
by : Bool → (nodeid generation seconds nanoseconds : ℕ) → Attr → EntryContent
by test nodeid generation seconds nanoseconds attr =
    if test then missing seconds nanoseconds else found nodeid generation seconds nanoseconds attr

file_by : (test : Bool) (e : Entry) (seconds nanoseconds : ℕ)
    → file_named (by test e.nodeid e.generation seconds nanoseconds (attr_of e.attributes)) ≡ cond test None (Some e)
unfolding by
file_by true e seconds nanoseconds = refl
file_by false e seconds nanoseconds = ap (λ (a : Attributes). Some
    (record { nodeid = e.nodeid; generation = e.generation; attributes = a })) (attributes_back e.attributes)

valid_by : (test : Bool) (nodeid generation seconds nanoseconds : ℕ) (attr : Attr)
    → valid_in (by test nodeid generation seconds nanoseconds attr) ≡ milliseconds seconds nanoseconds
unfolding by
valid_by true nodeid generation seconds nanoseconds attr = refl
valid_by false nodeid generation seconds nanoseconds attr = refl

file_listed : (valid : ℕ) (e : Entry) (d : DirentContent) → file_named (listed valid e d).entry_out ≡ entry_listed e
unfolding by
file_listed valid e d = file_by (eqb e.nodeid 0) e (valid / 1000) (valid % 1000 * 1000000)

valid_listed : (valid : ℕ) (e : Entry) (d : DirentContent) → valid ≤ max_validity
    → valid_in (listed valid e d).entry_out ≡ valid
unfolding by
valid_listed valid e d most = valid_by (eqb e.nodeid 0) e.nodeid e.generation (valid / 1000) (valid % 1000 * 1000000)
    (attr_of e.attributes) ∙ reads_as_itself valid most

pub pairs_say : (valid : ℕ) (es : List Entry) (ds : List DirentContent) → valid ≤ max_validity
    → map pair_in (pairs_listed valid es ds) ≡ direntpluses_of valid es (map dirent_read ds)
pairs_say valid (e ∷ es) (d ∷ ds) most =
    λ i. record {
      file = file_listed valid e d i;
      valid = valid_listed valid e d most i;
      dirent = dirent_read d;
    } ∷ pairs_say valid es ds most i
pairs_say valid [] ds most = refl
pairs_say valid (e ∷ es) [] most = refl

for_by : (test : Bool) (valid : ℕ) (e : Entry) → written_entry_for valid (cond test None (Some e))
    ≡ by test e.nodeid e.generation (valid / 1000) (valid % 1000 * 1000000) (attr_of e.attributes)
unfolding by
for_by true valid e = refl
for_by false valid e = refl

-- an entry that is read is written as it stood
entry_back : (valid : ℕ) (e : Entry) → written_entry_for valid (entry_listed e)
    ≡ entry_of e.nodeid e.generation (valid / 1000) (valid % 1000 * 1000000) (attr_of e.attributes)
unfolding by
entry_back valid e = for_by (eqb e.nodeid 0) valid e

first_same : {X : Type 0} {x y : X} {xs ys : List X} → x ∷ xs ≡ y ∷ ys → (x ≡ y) × (xs ≡ ys)
first_same e = (cc, cc)

pairs_back : (valid : ℕ) (es : List Entry) (ds : List DirentContent) → map dirent_written (map dirent_read ds) ≡ ds
    → map written_pair (direntpluses_of valid es (map dirent_read ds)) ≡ pairs_listed valid es ds
pairs_back valid (e ∷ es) (d ∷ ds) types =
    let same = first_same types in
    λ i. record { entry_out = entry_back valid e i; dirent = same.0 i } ∷ pairs_back valid es ds same.1 i
pairs_back valid [] ds types = refl
pairs_back valid (e ∷ es) [] types = refl

-- ---- the frame

abbrev pub listing : (unique : ℕ) → List DirentPlusContent → ReplyMessage
listing unique ps = record { unique = unique; error = pos 0; content = plus_reply ps }

pub listing_goes : (unique : ℕ) (ps : List DirentPlusContent) → GoesWith latest_minor op.Readdirplus (listing unique ps)
listing_goes unique ps = (kind_of_content (plus_reply []), refl, refl)

pub listing_exact : (unique valid : ℕ) (es : List Entry) (ds : List DirentContent) → valid ≤ max_validity
    → map dirent_written (map dirent_read ds) ≡ ds
    → listing unique (pairs_listed valid es ds) ≡ message_of (framed_by (listing unique (pairs_listed valid es ds)))
listing_exact unique valid es ds most types =
    let back = ap (λ (ps : List (DirentPlus Entry)). map written_pair ps)
    (pairs_say valid es ds most) ∙ pairs_back valid es ds types in
    ap (listing unique) (sym back)

pub listing_written : (unique size : ℕ) (ps : List DirentPlusContent) (head new : List ℕ)
    → sizes (direntpluses ps) ≡ size → 16 + size ≤ max_frame → unique < 2 ^ 64 → HaveEntries ps → HavePlusNames ps
    → InRange (direntpluses ps)
    → head ≡ spellings (u32 (16 + size) ∷ u32 0 ∷ u64 unique ∷ []) → new ≡ head ++ spellings (direntpluses ps)
    → WrittenReply (listing unique ps) new
listing_written unique size ps head new total small fits entries names range first whole =
    let body = spellings (direntpluses ps) in
    let none : IsErrorNumber (pos 0) = search (arith, ints) in
    let parts = ap (λ (x : List ℕ). x ++ body) first in
    let frame = reply_frame latest_minor (listing unique ps) [] new (16 + size) (omega (arith, total)) small none refl
    (λ some. absurd (some refl)) entries names (omega arith) fits range
    (whole ∙ parts ∙ simp (append_assoc, append-nil)) in
    subst (λ (x : List ℕ). WrittenReply (listing unique ps) x) (sym frame.2) frame.1
