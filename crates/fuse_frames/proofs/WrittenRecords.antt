-- The records of a list, as they are written, in the frame of their reply.
use Rattle.std.proofs.Common.{◌≡◌, ◌≤◌, ℕ, ◌+◌, List, [], ◌∷◌, ◌++◌, length, refl, sym, ap, subst, ◌∙◌, arith, append_assoc}
use Rattle.std.specs.Prelude.{pos, ◌<◌, ◌^◌}
use Rattle.std.proofs.lemmas.Int.{ints}
use Rattle.std.proofs.lemmas.List.{append-nil}
use Rattle.fk_wire.specs.Dirents.{DirentContent, dirents}
use Rattle.fk_wire.specs.Fields.{sizes, spellings, u32, u64}
use Rattle.fk_wire.specs.declared.opcode.Opcode.TheVariants as op
use Rattle.fk_wire.specs.Opcodes.{latest_minor}
use Rattle.fk_wire.specs.Requests.{max_frame}
use Rattle.fk_wire.specs.Replies.{records_reply, ReplyMessage, WrittenReply, GoesWith, IsErrorNumber, kind_of_content}
use Rattle.fk_wire.proofs.Frames.{length-spellings, reply_frame}
use Rattle.fuse_frames.specs.ReplyTies.{AreWritten, framed_by, message_of}

-- as long as their fields
pub written_sizes : (ds : List DirentContent) (bytes : List ℕ) → AreWritten ds bytes → sizes (dirents ds) ≡ length bytes
written_sizes ds bytes are = sym (length-spellings (dirents ds))
    ∙ ap (λ (x : List ℕ). length x) (sym {b = spellings (dirents ds)} are.spelled)

abbrev pub names_listing : (unique : ℕ) → List DirentContent → ReplyMessage
names_listing unique ds = record { unique = unique; error = pos 0; content = records_reply ds }

pub names_listing_goes : (unique : ℕ) (ds : List DirentContent)
    → GoesWith latest_minor op.Readdir (names_listing unique ds)
names_listing_goes unique ds = (kind_of_content (records_reply []), refl, refl)

pub names_listing_exact : (unique : ℕ) (ds : List DirentContent) (bytes : List ℕ) → AreWritten ds bytes
    → names_listing unique ds ≡ message_of (framed_by (names_listing unique ds))
names_listing_exact unique ds bytes are = ap (names_listing unique) (sym are.typed)

pub names_listing_written : (unique : ℕ) (ds : List DirentContent) (bytes head new : List ℕ) → AreWritten ds bytes
    → 16 + length bytes ≤ max_frame → unique < 2 ^ 64
    → head ≡ spellings (u32 (16 + length bytes) ∷ u32 0 ∷ u64 unique ∷ []) → new ≡ head ++ bytes
    → WrittenReply (names_listing unique ds) new
names_listing_written unique ds bytes head new are small fits first whole =
    let body = spellings (dirents ds) in
    let none : IsErrorNumber (pos 0) = search (arith, ints) in
    let total = written_sizes ds bytes are in
    let parts : new ≡ spellings (u32 (16 + length bytes) ∷ u32 0 ∷ u64 unique ∷ []) ++ body =
    whole ∙ ap (λ (x : List ℕ). x ++ bytes) first
    ∙ ap (λ (x : List ℕ). spellings (u32 (16 + length bytes) ∷ u32 0 ∷ u64 unique ∷ []) ++ x) are.spelled in
    let frame = reply_frame latest_minor (names_listing unique ds) [] new (16 + length bytes) (omega (arith, total)) small
    none refl (λ some. absurd (some refl)) tt are.named (omega arith) fits are.fit
    (parts ∙ simp (append_assoc, append-nil)) in
    subst (λ (x : List ℕ). WrittenReply (names_listing unique ds) x) (sym frame.2) frame.1
