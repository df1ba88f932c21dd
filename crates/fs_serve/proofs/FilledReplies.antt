-- A frame of a reply with the blocks of each file says the same reply.
use Rattle.std.proofs.Common.{◌≡◌, ℕ, zero, suc, ◌+◌, ◌≤◌, Bool, true, false, List, [], ◌∷◌, ◌++◌, ◌<◌, ◌-◌, length, take, drop, refl, sym, ap, subst, ◌∙◌, arith, append_assoc, length-append, length-drop}
use Rattle.std.specs.Prelude.{ℤ, nat_lt, if◌then◌else◌}
use Rattle.std.proofs.lemmas.Bool.Decides.{nat_tests}
use Rattle.std.proofs.lemmas.List.{drop_at, length-take-le, take_at}
use Rattle.std.specs.Int.{cast_unsigned, w32}
use Rattle.fk_wire.specs.declared.opcode.Opcode.{Opcode}
use Rattle.fk_wire.specs.Dirents.{DirentContent, DirentPlusContent, dirent_fields, direntpluses}
use Rattle.fk_wire.specs.Entries.{EntryContent, entry_fields, found, missing}
use Rattle.fk_wire.specs.Fields.{Field, ReadsAs, bits, bytes_of, free, free32, free64, holds, named, number_at, raw, sizes, u32, u64}
use Rattle.fk_wire.specs.Opcodes.{latest_minor}
use Rattle.fk_wire.specs.RecordEnds.{padded, padding, record_end}
use Rattle.fk_wire.specs.Replies.{IsReplyContent, ReplyContent, ReplyMessage, SpellsReply, attr_reply, bytes_reply, create_reply, empty_reply, entry_reply, init_reply, open_fields, open_reply, plus_reply, records_reply, reply_body, reply_fields, write_reply}
use Rattle.fk_wire.proofs.EntryFields.{attr_is, entry_is}
use Rattle.fk_wire.proofs.OneRequest.{within}
use Rattle.fk_wire.proofs.Frames.{length-bytes_of, spells_reply}
use Rattle.fuse_frames.specs.ReplyTies.{Framed, IsReplyFrame, SaysReply, message_of, reply_content_of}
use Rattle.fk_drive_frames.specs.Filling.{ChangesOnly}
use Rattle.fk_drive_frames.proofs.OneField.{reads_after, reads_around}
use Rattle.fs_serve.specs.Sending.{IsFilledFrame}
use Rattle.fs_serve.specs.Blocks.{blocks_for, with_blocks, with_blocks_at, with_blocks_from}

-- Only the blocks are others.
pub blocks_only : (place : ℕ) (bytes : List ℕ) → place + 24 ≤ length bytes
    → ChangesOnly (place + 16) 8 bytes (with_blocks_at place bytes)
unfolding with_blocks_at
blocks_only place bytes inside =
    let number = bytes_of 8 (blocks_for (number_at (place + 8) 8 bytes)) in
    let front = take (place + 16) bytes in
    let rest = drop (place + 24) bytes in
    let count : length front ≡ place + 16 = length-take-le (place + 16) bytes (omega (arith, inside)) in
    let wide : length number ≡ 8 = length-bytes_of 8 (blocks_for (number_at (place + 8) 8 bytes)) in
    let end : place + 24 ≡ place + 16 + 8 = omega arith in
    record {
      long = omega (
        arith,
        inside,
        count,
        wide,
        length-append (front ++ number) rest,
        length-append front number,
        length-drop (place + 24) bytes,
      );
      before = ap (take (place + 16)) (append_assoc front number rest) ∙ take_at front (number ++ rest) (place + 16) count;
      after = drop_at (front ++ number) rest (place + 16 + 8) (omega (arith, count, wide, length-append front number))
          ∙ ap (λ (n : ℕ). drop n bytes) end;
    }

-- What stands behind fields is read behind them.
rest_reads : (fields rest : List Field) (p : ℕ) (bytes : List ℕ) → ReadsAs p (fields ++ rest) bytes
    → ReadsAs (p + sizes fields) rest bytes
rest_reads [] rest p bytes h = subst (λ (n : ℕ). ReadsAs n rest bytes) (omega arith) h
rest_reads (holds w value ∷ fields) rest p bytes h =
    let there : p + w + sizes fields ≡ p + (w + sizes fields) = omega arith in
    subst (λ (n : ℕ). ReadsAs n rest bytes) there (rest_reads fields rest (p + w) bytes h.1)
rest_reads (free w value ∷ fields) rest p bytes h =
    let there : p + w + sizes fields ≡ p + (w + sizes fields) = omega arith in
    subst (λ (n : ℕ). ReadsAs n rest bytes) there (rest_reads fields rest (p + w) bytes h)
rest_reads (bits mask value ∷ fields) rest p bytes h =
    let there : p + 4 + sizes fields ≡ p + (4 + sizes fields) = omega arith in
    subst (λ (n : ℕ). ReadsAs n rest bytes) there (rest_reads fields rest (p + 4) bytes h.1)
rest_reads (named name ∷ fields) rest p bytes h =
    let there : p + (length name + 1) + sizes fields ≡ p + (length name + 1 + sizes fields) = omega arith in
    subst (λ (n : ℕ). ReadsAs n rest bytes) there (rest_reads fields rest (p + (length name + 1)) bytes h.2)
rest_reads (raw bs ∷ fields) rest p bytes h =
    let there : p + length bs + sizes fields ≡ p + (length bs + sizes fields) = omega arith in
    subst (λ (n : ℕ). ReadsAs n rest bytes) there (rest_reads fields rest (p + length bs) bytes h.1)

sizes-append : (fs gs : List Field) → sizes (fs ++ gs) ≡ sizes fs + sizes gs
sizes-append [] gs = omega arith
sizes-append (f ∷ fs) gs = let rest = sizes-append fs gs in omega (arith, rest)

-- An entry reads the same.
entry_still : (old new : List ℕ) (p : ℕ) (e : EntryContent) (after : List Field) → ChangesOnly (p + 56) 8 old new
    → ReadsAs p (entry_fields e after) old → ReadsAs p (entry_fields e after) new
entry_still old new p (missing valid nsec) after only =
    reads_around (p + 56) 8 old new only (u64 0 ∷ free64 0 ∷ u64 valid ∷ free64 0 ∷ u32 nsec ∷ free32 0 ∷ [])
    (free 88 0 ∷ after) p (p + 40) (omega arith) (omega arith)
    (reads_after (p + 56) 8 old new only after (p + 40 + 88) (omega arith))
entry_still old new p (found nodeid generation valid nsec a) after only =
    let rest = free64 0 ∷ free64 0 ∷ free64 0 ∷ free32 0 ∷ free32 0 ∷ free32 0 ∷ u32 a.mode ∷ u32 a.nlink ∷ free32 0
    ∷ free32 0 ∷ free32 0 ∷ free32 4096 ∷ free32 0 ∷ after in
    reads_around (p + 56) 8 old new only
    (u64 nodeid ∷ u64 generation ∷ u64 valid ∷ free64 0 ∷ u32 nsec ∷ free32 0 ∷ u64 a.ino ∷ u64 a.size ∷ [])
    (free64 0 ∷ rest) p (p + 56) (omega arith) (omega arith)
    (reads_after (p + 56) 8 old new only rest (p + 56 + 8) (omega arith))

-- ---- pairs of an entry and a record

abbrev pair_fields : EntryContent → DirentContent → List Field
pair_fields e d = entry_fields e (dirent_fields d [])

pair_split : (e : EntryContent) (d : DirentContent) (after : List Field)
    → entry_fields e (dirent_fields d after) ≡ pair_fields e d ++ after
pair_split (missing valid nsec) d after = refl
pair_split (found nodeid generation valid nsec a) d after = refl

pair_size : (e : EntryContent) (d : DirentContent) → sizes (pair_fields e d) ≡ 152 + padded (length d.name)
pair_size (missing valid nsec) d = omega arith
pair_size (found nodeid generation valid nsec a) d = omega arith

-- where the name's length stands in a pair
name_front : EntryContent → DirentContent → List Field
name_front e d = entry_fields e (u64 d.ino ∷ u64 d.off ∷ [])

name_split : (e : EntryContent) (d : DirentContent) (after : List Field) → entry_fields e (dirent_fields d after)
    ≡ name_front e d ++ u32 (length d.name) ∷ u32 d.kind ∷ raw d.name ∷ free (padding (length d.name)) 0 ∷ after
unfolding name_front
name_split (missing valid nsec) d after = refl
name_split (found nodeid generation valid nsec a) d after = refl

name_place : (e : EntryContent) (d : DirentContent) → sizes (name_front e d) ≡ 144
unfolding name_front
name_place (missing valid nsec) d = refl
name_place (found nodeid generation valid nsec a) d = refl

-- A pair ends behind its fields.
pair_ends : (p : ℕ) (e : EntryContent) (d : DirentContent) (after : List Field) (bytes : List ℕ)
    → ReadsAs p (entry_fields e (dirent_fields d after)) bytes → record_end true p bytes ≡ p + sizes (pair_fields e d)
unfolding record_end
pair_ends p e d after bytes h =
    let split = subst (λ (fs : List Field). ReadsAs p fs bytes) (name_split e d after) h in
    let there : p + sizes (name_front e d) ≡ p + 128 + 16 = omega (arith, name_place e d) in
    let name = subst (λ (n : ℕ). number_at n 4 bytes ≡ length d.name) there
    (rest_reads (name_front e d) _ p bytes split).0 in
    let size = pair_size e d in
    rw name (omega (arith, size))

module _ (most : ℕ) (p : ℕ) (bytes : List ℕ) where
  -- whether one more pair has room
  fits : nat_lt (length bytes) (p + 152) ≡ false → p + 40 + 24 ≤ length bytes
  fits room = grind (arith, nat_tests, room)

pub pairs_long : (most p : ℕ) (bytes : List ℕ) → length (with_blocks_from most p bytes) ≡ length bytes
unfolding with_blocks_from
pairs_long zero p bytes = refl
pairs_long (suc most) p bytes = by (nat_lt (length bytes) (p + 152)) refl
    (pairs_long most (record_end true p bytes) (with_blocks_at (p + 40) bytes))
  where
    by : (b : Bool) → nat_lt (length bytes) (p + 152) ≡ b
        → length (with_blocks_from most (record_end true p bytes) (with_blocks_at (p + 40) bytes))
        ≡ length (with_blocks_at (p + 40) bytes)
        → length (if b then bytes else with_blocks_from most (record_end true p bytes) (with_blocks_at (p + 40) bytes))
        ≡ length bytes
    by true room rest = refl
    by false room rest = let only = blocks_only (p + 40) bytes (fits most p bytes room) in rest ∙ only.long

-- Pairs read the same.
pairs_still : (most : ℕ) (ps : List DirentPlusContent) (front : List Field) (p : ℕ) (bytes : List ℕ) → sizes front ≡ p
    → ReadsAs 0 (front ++ direntpluses ps) bytes
    → ReadsAs 0 (front ++ direntpluses ps) (with_blocks_from most p bytes)
unfolding with_blocks_from
pairs_still zero ps front p bytes is h = h
pairs_still (suc most) [] front p bytes is h = by (nat_lt (length bytes) (p + 152)) refl
  where
    by : (b : Bool) → nat_lt (length bytes) (p + 152) ≡ b → ReadsAs 0 (front ++ []) (if b then bytes
        else with_blocks_from most (record_end true p bytes) (with_blocks_at (p + 40) bytes))
    by true room = h
    by false room =
        let end : length bytes ≡ 0 + sizes front = rest_reads front [] 0 bytes h in
        let inside = fits most p bytes room in
        absurd (omega (arith, end, is, inside))
pairs_still (suc most) (q ∷ qs) front p bytes is h = by (nat_lt (length bytes) (p + 152)) refl
    (λ fields at reads. pairs_still most qs fields (record_end true p bytes) (with_blocks_at (p + 40) bytes) at reads)
  where
    pair : List Field
    pair = pair_fields q.entry_out q.dirent

    by : (b : Bool) → nat_lt (length bytes) (p + 152) ≡ b
        → ((fields : List Field) → sizes fields ≡ record_end true p bytes
        → ReadsAs 0 (fields ++ direntpluses qs) (with_blocks_at (p + 40) bytes)
        → ReadsAs 0 (fields ++ direntpluses qs)
        (with_blocks_from most (record_end true p bytes) (with_blocks_at (p + 40) bytes)))
        → ReadsAs 0 (front ++ direntpluses (q ∷ qs)) (if b then bytes
        else with_blocks_from most (record_end true p bytes) (with_blocks_at (p + 40) bytes))
    by true room rest = h
    by false room rest =
        let next = with_blocks_at (p + 40) bytes in
        let at : 0 + sizes front ≡ p = omega (arith, is) in
        let there : p + 40 + 16 ≡ p + 56 = omega arith in
        let only = subst (λ (n : ℕ). ChangesOnly n 8 bytes next) there
        (blocks_only (p + 40) bytes (fits most p bytes room)) in
        let still = reads_around (p + 56) 8 bytes next only front (direntpluses (q ∷ qs)) 0 p at (omega arith)
        (entry_still bytes next p q.entry_out (dirent_fields q.dirent (direntpluses qs)) only) h in
        let here = subst (λ (n : ℕ). ReadsAs n (direntpluses (q ∷ qs)) bytes) at
        (rest_reads front (direntpluses (q ∷ qs)) 0 bytes h) in
        let ends = pair_ends p q.entry_out q.dirent (direntpluses qs) bytes here in
        let split : front ++ direntpluses (q ∷ qs) ≡ (front ++ pair) ++ direntpluses qs =
        ap (λ (fs : List Field). front ++ fs) (pair_split q.entry_out q.dirent (direntpluses qs))
        ∙ sym (append_assoc front pair (direntpluses qs)) in
        let after = rest (front ++ pair) (omega (arith, is, ends, sizes-append front pair)) (subst (λ (fs : List Field). ReadsAs 0 fs next) split still) in
        subst (λ (fs : List Field). ReadsAs 0 fs (with_blocks_from most (record_end true p bytes) next)) (sym split) after

-- ---- replies

-- how many bytes a reply of this content has at least
abbrev pub least : ReplyContent → ℕ
least (entry_reply e) = 144
least (create_reply e fh) = 160
least (attr_reply a) = 120
least content = 0

pub least_length : (content : ReplyContent) (bytes : List ℕ) → IsReplyContent content
    → ReadsAs 16 (reply_body content) bytes → least content ≤ length bytes
least_length (entry_reply e) bytes good h = let end = (entry_is e 16 [] bytes good h).2 in omega (arith, end)
least_length (create_reply e fh) bytes good h = let end = (entry_is e 16 (open_fields fh) bytes good h).2 in
    let all = end.1 in omega (arith, all)
least_length (attr_reply a) bytes good h = let end = (attr_is a 32 [] bytes h).1 in omega (arith, end)
least_length content bytes good h = omega arith

module _ (o : Opcode) (old : List ℕ) (unique : ℕ) (error : ℤ) where
  abbrev said : ReplyContent → ReplyMessage
  said content = record { unique = unique; error = error; content = content }

  spells_still : (content : ReplyContent) (new : List ℕ) → length new ≡ length old
      → (ReadsAs 0 (reply_fields (length old) (said content)) old
      → ReadsAs 0 (reply_fields (length old) (said content)) new)
      → SpellsReply o old (said content) → SpellsReply o new (said content)
  spells_still content new long follows h = (
    subst (λ (n : ℕ). n ≤ 4176) (sym long) h.0,
    h.1,
    h.2,
    h.3,
    h.4,
    subst (λ (n : ℕ). ReadsAs 0 (reply_fields n (said content)) new) (sym long) (follows h.5),
  )

  abbrev front : List Field
  front = u32 (length old) ∷ u32 (cast_unsigned w32 error) ∷ u64 unique ∷ []

  still : (content : ReplyContent) → SpellsReply o old (said content)
      → SpellsReply o (with_blocks content old) (said content)
  still (entry_reply e) h =
      let least = least_length (entry_reply e) old h.3 h.5.1.1.1 in
      let only = blocks_only 56 old (omega (arith, least)) in
      spells_still (entry_reply e) (with_blocks_at 56 old) only.long
      (reads_around 72 8 old (with_blocks_at 56 old) only front (entry_fields e []) 0 16 refl (omega arith)
      (entry_still old (with_blocks_at 56 old) 16 e [] only)) h
  still (create_reply e fh) h =
      let least = least_length (create_reply e fh) old h.3 h.5.1.1.1 in
      let only = blocks_only 56 old (omega (arith, least)) in
      spells_still (create_reply e fh) (with_blocks_at 56 old) only.long
      (reads_around 72 8 old (with_blocks_at 56 old) only front (entry_fields e (open_fields fh)) 0 16 refl (omega arith)
      (entry_still old (with_blocks_at 56 old) 16 e (open_fields fh) only)) h
  still (attr_reply a) h =
      let least = least_length (attr_reply a) old h.3 h.5.1.1.1 in
      let only = blocks_only 32 old (omega (arith, least)) in
      let rest = free64 0 ∷ free64 0 ∷ free64 0 ∷ free32 0 ∷ free32 0 ∷ free32 0 ∷ u32 a.mode ∷ u32 a.nlink ∷ free32 0
      ∷ free32 0 ∷ free32 0 ∷ free32 4096 ∷ free32 0 ∷ [] in
      spells_still (attr_reply a) (with_blocks_at 32 old) only.long
      (reads_around 48 8 old (with_blocks_at 32 old) only
      (front ++ free64 0 ∷ free32 0 ∷ free32 0 ∷ u64 a.ino ∷ u64 a.size ∷ []) (free64 0 ∷ rest) 0 48 refl (omega arith)
      (reads_after 48 8 old (with_blocks_at 32 old) only rest 56 (omega arith))) h
  still (plus_reply ps) h =
      spells_still (plus_reply ps) (with_blocks_from (length old) 16 old) (pairs_long (length old) 16 old)
      (pairs_still (length old) ps front 16 old refl) h
  still empty_reply h = h
  still (open_reply fh) h = h
  still (bytes_reply bytes) h = h
  still (write_reply size) h = h
  still (init_reply major minor flags) h = h
  still (records_reply ds) h = h

-- What is written as a reply says it with the blocks of each file.
pub says_filled : (o : Opcode) (bytes : List ℕ) (f : Framed) → IsReplyFrame o bytes f
    → SaysReply o (with_blocks (reply_content_of f.wire) bytes) f.unique f.wire
says_filled o bytes f frame =
    let m = message_of f in
    record {
      message = m;
      spells = still o bytes m.unique m.error m.content (spells_reply latest_minor o m bytes frame.goes frame.written);
      unique_is = refl;
      says = frame.says;
    }

pub filled_frame : (o : Opcode) (written bytes : List ℕ) (f : Framed) → IsReplyFrame o written f
    → bytes ≡ with_blocks (reply_content_of f.wire) written → IsFilledFrame o bytes f
filled_frame o written bytes f frame is = record {
  written = written;
  frame = frame;
  filled = is;
  says = subst (λ (b : List ℕ). SaysReply o b f.unique f.wire) (sym is) (says_filled o written f frame);
}

-- The message that a written frame spells.
pub spelled : (o : Opcode) (bytes : List ℕ) (f : Framed) → IsReplyFrame o bytes f → SpellsReply o bytes (message_of f)
spelled o bytes f frame = spells_reply latest_minor o (message_of f) bytes frame.goes frame.written

-- ---- pair after pair

-- Behind the last pair nothing is left to fill.
pub filled_up : (most p : ℕ) (bytes : List ℕ) → length bytes < p + 152 → with_blocks_from most p bytes ≡ bytes
unfolding with_blocks_from
filled_up zero p bytes end = refl
filled_up (suc most) p bytes end =
    let last : nat_lt (length bytes) (p + 152) ≡ true = grind (arith, nat_tests, end) in
    ap (λ (b : Bool). if b then bytes
    else with_blocks_from most (record_end true p bytes) (with_blocks_at (p + 40) bytes)) last

pub fills_one : (most p : ℕ) (bytes : List ℕ) → p + 152 ≤ length bytes → 1 ≤ most → with_blocks_from most p bytes
    ≡ with_blocks_from (most - 1) (record_end true p bytes) (with_blocks_at (p + 40) bytes)
unfolding with_blocks_from
fills_one zero p bytes inside some = absurd (omega (arith, some))
fills_one (suc most) p bytes inside some =
    let more : nat_lt (length bytes) (p + 152) ≡ false = grind (arith, nat_tests, inside) in
    let less : suc most - 1 ≡ most = omega arith in
    ap (λ (b : Bool). if b then bytes
    else with_blocks_from most (record_end true p bytes) (with_blocks_at (p + 40) bytes)) more
    ∙ ap (λ (n : ℕ). with_blocks_from n (record_end true p bytes) (with_blocks_at (p + 40) bytes)) (sym less)

-- A reply has a header.
pub has_header : (o : Opcode) (bytes : List ℕ) (m : ReplyMessage) → SpellsReply o bytes m → 16 ≤ length bytes
has_header o bytes m h = within 16 (reply_body m.content) bytes h.5.1.1.1
