-- Each reply of the codec's is one of the table's.
use Rattle.std.proofs.Common.{◌≡◌, ◌≤◌, ◌⊎◌, inl, inr, ℕ, ℤ, Bool, true, false, ◌+◌, ◌-◌, ◌^◌, List, [], length, drop, refl, sym, ap, subst, ◌∙◌, length-drop, arith}
use Rattle.std.proofs.lemmas.Bool.{eqb-true, le-ltb}
use Rattle.std.proofs.lemmas.Int.{ints}
use Rattle.std.proofs.lemmas.List.{take_all}
use Rattle.std.specs.Prelude.{Option, Some, None, unwrap_or, pos, negsuc, if◌then◌else◌, ◌==◌, ◌≢◌}
use Rattle.std.specs.Int.{cast_unsigned, w32}
use Rattle.fk_fields.specs.Fields.{number_at, bytes_at, ReadsAs}
use Rattle.fk_wire.specs.declared.opcode.Opcode.{Opcode as CodecOpcode}
use Rattle.fk_wire.specs.declared.opcode.Opcode.TheVariants as codec_op
use Rattle.fk_wire.specs.declared.opcode.Minor.{Minor}
use Rattle.fk_wire.specs.Opcodes.{minor_knows, reply_kind_of}
use Rattle.fk_wire.specs.Replies.{ReplyContent, empty_reply, entry_reply, attr_reply, open_reply, bytes_reply, write_reply, init_reply, create_reply, records_reply, plus_reply, kind_of_content, reply_content_at, reply_body, IsReplyContent, HasReplyNames, IsErrorNumber, SpellsReplyAt, open_fields, init_end, states_15}
use Rattle.fk_wire.specs.Replies.{ReplyMessage as CodecReply}
use Rattle.fk_wire.specs.Dirents.{HaveRecordNames, HavePlusNames}
use Rattle.fk_wire.proofs.OneRequest.{within}
use Rattle.fk_wire.proofs.EntryFields.{entry_is, attr_is}
use Rattle.fk_wire.proofs.RecordLists.{one_dirent_list, one_plus_list}
use Rattle.fuse_protocol.specs.declared.agreed.Agreed.{Agreed}
use Rattle.fuse_protocol.specs.declared.row.ReplyShape.{ReplyShape}
use Rattle.fuse_protocol.specs.declared.row.ReplyShape.TheVariants as reply
use Rattle.fuse_protocol.specs.declared.place.Width.TheVariants as width
use Rattle.fuse_protocol.specs.Init.{number_or_none}
use Rattle.fuse_protocol.specs.Table.{row_at}
use Rattle.fuse_replies.specs.Records.{records_from, entry_records_from}
use Rattle.fuse_replies.specs.Replies.{ReplyMessage, HasSize, HasNames, content_at, answer_at, errno_in, IsErrorWord, IsFrame, failed}
use Rattle.protocol_law.specs.Law.{Carries}
use Rattle.protocol_law.specs.ReplyLaw.{table_opcode, SayTheSame, IsRepliedAlike}
use Rattle.protocol_law.proofs.Listings.{listed, listed_plus, are_listed, are_listed_plus}

-- the shape of what the codec reads
abbrev shape_of : ReplyContent → ReplyShape
shape_of empty_reply = reply.Empty
shape_of (entry_reply e) = reply.Entry
shape_of (attr_reply a) = reply.Attributes
shape_of (open_reply fh) = reply.Open
shape_of (bytes_reply bs) = reply.AtMost 56
shape_of (write_reply size) = reply.Number width.Four
shape_of (init_reply major minor flags) = reply.Init
shape_of (create_reply e fh) = reply.EntryAndOpen
shape_of (records_reply ds) = reply.Records 56
shape_of (plus_reply ps) = reply.EntryRecords 56

-- It is that of the kind.
shape_back : (s : ReplyContent) → shape_of (reply_content_at (kind_of_content s) 0 []) ≡ shape_of s
shape_back empty_reply = refl
shape_back (entry_reply e) = refl
shape_back (attr_reply a) = refl
shape_back (open_reply fh) = refl
shape_back (bytes_reply bs) = refl
shape_back (write_reply size) = refl
shape_back (init_reply major minor flags) = refl
shape_back (create_reply e fh) = refl
shape_back (records_reply ds) = refl
shape_back (plus_reply ps) = refl

-- the shape of the replies that the codec's table gives an opcode
abbrev shape_for : CodecOpcode → ReplyShape
shape_for o = shape_of (reply_content_at (unwrap_or (reply_kind_of o) (kind_of_content empty_reply)) 0 [])

row_shape : (o : CodecOpcode) (s : ReplyContent) → reply_kind_of o ≡ Some (kind_of_content s)
    → shape_for o ≡ (row_at (table_opcode o)).reply
row_shape codec_op.Lookup s e = refl
row_shape codec_op.Forget s e = absurd cc
row_shape codec_op.Getattr s e = refl
row_shape codec_op.Mkdir s e = refl
row_shape codec_op.Unlink s e = refl
row_shape codec_op.Rmdir s e = refl
row_shape codec_op.Rename s e = refl
row_shape codec_op.Link s e = refl
row_shape codec_op.Open s e = refl
row_shape codec_op.Read s e = refl
row_shape codec_op.Write s e = refl
row_shape codec_op.Release s e = refl
row_shape codec_op.Init s e = refl
row_shape codec_op.Readdir s e = refl
row_shape codec_op.Create s e = refl
row_shape codec_op.Interrupt s e = refl
row_shape codec_op.BatchForget s e = absurd cc
row_shape codec_op.Readdirplus s e = refl

-- Both tables give an opcode's replies one shape.
same_shape : (o : CodecOpcode) (s : ReplyContent) → reply_kind_of o ≡ Some (kind_of_content s)
    → (row_at (table_opcode o)).reply ≡ shape_of s
same_shape o s e = sym (row_shape o s e) ∙ rw e (shape_back s)

-- It is one of replies.
is_wanted : (s : ReplyContent) → shape_of s ≢ reply.None
is_wanted empty_reply x = absurd cc
is_wanted (entry_reply e) x = absurd cc
is_wanted (attr_reply a) x = absurd cc
is_wanted (open_reply fh) x = absurd cc
is_wanted (bytes_reply bs) x = absurd cc
is_wanted (write_reply size) x = absurd cc
is_wanted (init_reply major minor flags) x = absurd cc
is_wanted (create_reply e fh) x = absurd cc
is_wanted (records_reply ds) x = absurd cc
is_wanted (plus_reply ps) x = absurd cc

known : {K : Type 0} (knows : Bool) (found : Option K) (k : K) → (if knows then found else None) ≡ Some k
    → found ≡ Some k
known true found k e = e
known false found k e = absurd cc

-- the length of an INIT reply
init_length : (old : Bool) (bytes : List ℕ) → ReadsAs 40 (init_end old) bytes
    → (length bytes - 16 ≡ 8) ⊎ ((length bytes - 16 ≡ 24) ⊎ (length bytes - 16 ≡ 64))
init_length true bytes h = inr (inl (omega (arith, h)))
init_length false bytes h = inr (inr (omega (arith, h)))

-- A body of the codec's has the shape's size, where no more than was asked for is there.
has_size : (s : ReplyContent) (asked : ℕ) (bytes : List ℕ) → length bytes ≤ asked + 16 → IsReplyContent s
    → ReadsAs 16 (reply_body s) bytes → HasSize (shape_of s) asked (length bytes - 16)
has_size empty_reply asked bytes fit good h = omega (arith, h)
has_size (entry_reply e) asked bytes fit good h = let k = entry_is e 16 [] bytes good h in omega (arith, k.2)
has_size (attr_reply a) asked bytes fit good h = let k = attr_is a 32 [] bytes h in omega (arith, k.1)
has_size (open_reply fh) asked bytes fit good h = omega (arith, h.1)
has_size (bytes_reply bs) asked bytes fit good h = omega (arith, fit)
has_size (write_reply size) asked bytes fit good h = omega (arith, h.1)
has_size (init_reply major minor flags) asked bytes fit good h = init_length (states_15 major minor) bytes h.1.1.1
has_size (create_reply e fh) asked bytes fit good h =
    let k = entry_is e 16 (open_fields fh) bytes good h in omega (arith, k.2.1)
has_size (records_reply ds) asked bytes fit good h = omega (arith, fit)
has_size (plus_reply ps) asked bytes fit good h = omega (arith, fit)

-- Its names are names.
has_names : (agreed : Agreed) (s : ReplyContent) (bytes : List ℕ) → Carries agreed → IsReplyContent s
    → HasReplyNames s → ReadsAs 16 (reply_body s) bytes → HasNames agreed (shape_of s) bytes
has_names agreed empty_reply bytes fits good names h = tt
has_names agreed (entry_reply e) bytes fits good names h = tt
has_names agreed (attr_reply a) bytes fits good names h = tt
has_names agreed (open_reply fh) bytes fits good names h = tt
has_names agreed (bytes_reply bs) bytes fits good names h = tt
has_names agreed (write_reply size) bytes fits good names h = tt
has_names agreed (init_reply major minor flags) bytes fits good names h = tt
has_names agreed (create_reply e fh) bytes fits good names h = tt
has_names agreed (records_reply ds) bytes fits good names h =
    let one = one_dirent_list ds 16 bytes h in
    are_listed agreed (records_from 16 bytes) fits
    (subst HaveRecordNames (sym (listed (length ds) 16 bytes one.1 ∙ one.0)) names)
has_names agreed (plus_reply ps) bytes fits good names h =
    let one = one_plus_list ps 16 bytes good h in
    are_listed_plus agreed (entry_records_from 16 bytes) fits
    (subst HavePlusNames (sym (listed_plus (length ps) 16 bytes one.1 ∙ one.0)) names)

init_is_long : (old : Bool) (bytes : List ℕ) → ReadsAs 40 (init_end old) bytes → 40 ≤ length bytes
init_is_long true bytes h = omega (arith, h)
init_is_long false bytes h = omega (arith, h)

number_there : (place width value : ℕ) (bytes : List ℕ) → place + width ≤ length bytes
    → number_at place width bytes ≡ value → number_or_none place width bytes ≡ value
number_there place width value bytes le e = rw (le-ltb (length bytes) (place + width) le) e

-- Both say the same of it.
said_of : (error : ℤ) (s : ReplyContent) (asked : ℕ) (bytes : List ℕ) → cast_unsigned w32 error ≡ 0
    → IsReplyContent s → ReadsAs 16 (reply_body s) bytes
    → SayTheSame error s (content_at (shape_of s) asked bytes)
unfolding bytes_at
said_of error empty_reply asked bytes zero good h = zero
said_of error (entry_reply e) asked bytes zero good h = (entry_is e 16 [] bytes good h).0
said_of error (attr_reply a) asked bytes zero good h = (attr_is a 32 [] bytes h).0
said_of error (open_reply fh) asked bytes zero good h = h.0
said_of error (bytes_reply bs) asked bytes zero good h =
    sym (take_all (length bs) (drop 16 bytes) (omega (arith, length-drop 16 bytes, h.1))) ∙ h.0
said_of error (write_reply size) asked bytes zero good h = h.0
said_of error (init_reply major minor flags) asked bytes zero good h =
    let long = init_is_long (states_15 major minor) bytes h.1.1.1 in
    (number_there 16 4 major bytes (omega (arith, long)) h.0, number_there 20 4 minor bytes (omega (arith, long)) h.1.0)
said_of error (create_reply e fh) asked bytes zero good h =
    let k = entry_is e 16 (open_fields fh) bytes good h in (k.0, k.2.0)
said_of error (records_reply ds) asked bytes zero good h =
    let one = one_dirent_list ds 16 bytes h in listed (length ds) 16 bytes one.1 ∙ one.0
said_of error (plus_reply ps) asked bytes zero good h =
    let one = one_plus_list ps 16 bytes good h in listed_plus (length ps) 16 bytes one.1 ∙ one.0

-- An error of the codec's is one of the table's.
error_in_range : (error : ℤ) (word : ℕ) → IsErrorNumber error → word ≡ cast_unsigned w32 error → IsErrorWord word
error_in_range (pos n) word good e = inl (omega (arith, ints, e, good.0))
error_in_range (negsuc n) word good e = inr (omega (arith, ints, e, good.1))

-- Behind an error nothing stands.
empty_is : (s : ReplyContent) (bytes : List ℕ) → kind_of_content s ≡ kind_of_content empty_reply
    → ReadsAs 16 (reply_body s) bytes
    → length bytes ≡ 16
empty_is empty_reply bytes e h = h
empty_is (entry_reply x) bytes e h = absurd cc
empty_is (attr_reply x) bytes e h = absurd cc
empty_is (open_reply x) bytes e h = absurd cc
empty_is (bytes_reply x) bytes e h = absurd cc
empty_is (write_reply x) bytes e h = absurd cc
empty_is (init_reply x y z) bytes e h = absurd cc
empty_is (create_reply x y) bytes e h = absurd cc
empty_is (records_reply x) bytes e h = absurd cc
empty_is (plus_reply x) bytes e h = absurd cc

failed_is : (error : ℤ) (s : ReplyContent) (bytes : List ℕ) → kind_of_content s ≡ kind_of_content empty_reply
    → number_at 4 4 bytes ≡ cast_unsigned w32 error → number_at 4 4 bytes ≤ 2 ^ 32
    → SayTheSame error s (failed (errno_in bytes))
failed_is error empty_reply bytes e same small = omega (arith, same, small)
failed_is error (entry_reply x) bytes e same small = absurd cc
failed_is error (attr_reply x) bytes e same small = absurd cc
failed_is error (open_reply x) bytes e same small = absurd cc
failed_is error (bytes_reply x) bytes e same small = absurd cc
failed_is error (write_reply x) bytes e same small = absurd cc
failed_is error (init_reply x y z) bytes e same small = absurd cc
failed_is error (create_reply x y) bytes e same small = absurd cc
failed_is error (records_reply x) bytes e same small = absurd cc
failed_is error (plus_reply x) bytes e same small = absurd cc

-- An opcode to which the codec reads replies has replies.
has_replies : (o : CodecOpcode) → (reply_kind_of o ≡ None → ⊥) → (row_at (table_opcode o)).reply ≢ reply.None
has_replies codec_op.Lookup some x = absurd cc
has_replies codec_op.Forget some x = some refl
has_replies codec_op.Getattr some x = absurd cc
has_replies codec_op.Mkdir some x = absurd cc
has_replies codec_op.Unlink some x = absurd cc
has_replies codec_op.Rmdir some x = absurd cc
has_replies codec_op.Rename some x = absurd cc
has_replies codec_op.Link some x = absurd cc
has_replies codec_op.Open some x = absurd cc
has_replies codec_op.Read some x = absurd cc
has_replies codec_op.Write some x = absurd cc
has_replies codec_op.Release some x = absurd cc
has_replies codec_op.Init some x = absurd cc
has_replies codec_op.Readdir some x = absurd cc
has_replies codec_op.Create some x = absurd cc
has_replies codec_op.Interrupt some x = absurd cc
has_replies codec_op.BatchForget some x = some refl
has_replies codec_op.Readdirplus some x = absurd cc

cases : (b : Bool) → (b ≡ true) ⊎ (b ≡ false)
cases true = inl refl
cases false = inr refl

-- The word of an error has four bytes.
word_fits : (error : ℤ) (word : ℕ) → IsErrorNumber error → word ≡ cast_unsigned w32 error → word ≤ 2 ^ 32
word_fits (pos n) word good e = omega (arith, ints, e, good.0)
word_fits (negsuc n) word good e = omega (arith, ints, e, good.1)

pub replied_alike : (minor : Minor) (agreed : Agreed) (o : CodecOpcode) (asked : ℕ) (bytes : List ℕ) (t : CodecReply)
    → Carries agreed → length bytes ≤ asked + 16 → SpellsReplyAt minor o bytes t → IsRepliedAlike agreed o asked bytes t
replied_alike minor agreed o asked bytes t fits fit h =
    let shape = (row_at (table_opcode o)).reply in
    let reads = h.5.1.1.1 in
    let word : number_at 4 4 bytes ≡ cast_unsigned w32 t.error = h.5.1.0 in
    let found = known (minor_knows minor o) (reply_kind_of o) h.2.0 h.2.1 in
    let some : reply_kind_of o ≡ None → ⊥ = λ none. let no : Some h.2.0 ≡ None = sym found ∙ none in absurd cc in
    let r : ReplyMessage = record { unique = number_at 8 8 bytes; answer = answer_at shape asked bytes } in
    let frame : IsFrame bytes = (within 16 (reply_body t.content) bytes reads, omega (arith, h.0), h.5.0) in
    elim (cases (cast_unsigned w32 t.error == 0)) [
      | inl z ↦ let zero : cast_unsigned w32 t.error ≡ 0 = eqb-true (cast_unsigned w32 t.error) 0 z in
          let none : number_at 4 4 bytes ≡ 0 = word ∙ zero in
          let one = rw z at h.2.2 in
          let same : (row_at (table_opcode o)).reply ≡ shape_of t.content =
          same_shape o t.content (found ∙ ap Some (sym one)) in (
            r,
            record {
              wanted = has_replies o some;
              frame = frame;
              error = inl none;
              body = rw (none, same) (has_size t.content asked bytes fit h.3 reads);
              names = rw (none, same) (has_names agreed t.content bytes fits h.3 h.4 reads);
              unique = refl;
              answer = refl;
            },
            (h.5.1.1.0, rw (none, same) (said_of t.error t.content asked bytes zero h.3 reads)),
          )
      | inr z ↦ let no : (number_at 4 4 bytes == 0) ≡ false = rw word z in
          let one = rw z at h.2.2 in (
            r,
            record {
              wanted = has_replies o some;
              frame = frame;
              error = error_in_range t.error (number_at 4 4 bytes) h.1 word;
              body = rw no (empty_is t.content bytes one reads);
              names = rw no tt;
              unique = refl;
              answer = refl;
            },
            (h.5.1.1.0, rw no (failed_is t.error t.content bytes one word (word_fits t.error (number_at 4 4 bytes) h.1 word))),
          )
    ]
