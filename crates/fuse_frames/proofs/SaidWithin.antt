-- Bodies of replies that go with what a call asked.
use Rattle.std.proofs.Common.{◌≡◌, ℕ, ◌+◌, ◌-◌, ◌*◌, ◌/◌, true, List, [], ◌∷◌, length, map, Some, refl, ap, sym, subst, ◌∙◌, arith}
use Rattle.std.specs.Prelude.{nat_le, sum_by, ℤ, pos}
use Rattle.fuse_spec.specs.Kernel.Messages.{asks}
use Rattle.fuse_spec.specs.Files.Operations as reply
use Rattle.fk_wire.specs.Dirents.{DirentContent, DirentPlusContent, dirent_fields, dirents, direntpluses}
use Rattle.fk_wire.specs.RecordEnds.{padding}
use Rattle.fk_wire.specs.Entries.{EntryContent, missing, found, entry_fields}
use Rattle.fk_wire.specs.Fields.{Field, ReadsAs}
use Rattle.std.proofs.lemmas.List.Sums.{sum_by-cons}
use Rattle.fk_wire.specs.Opcodes.{latest_minor}
use Rattle.fk_wire.specs.Replies.{ReplyContent, empty_reply, entry_reply, attr_reply, open_reply, bytes_reply, write_reply, create_reply, records_reply, plus_reply, reply_kind, kind_of_content, reply_body, SpellsReply}
use Rattle.fuse_spec.specs.declared.Opened.{Opened}
use Rattle.fuse_spec.specs.Files.Operations.{Operation, lookup, getattr, mkdir, create, unlink, rmdir, rename, link, opening, readdir, readdirplus, read, write}
use Rattle.fuse_spec.specs.Kernel.Replies.{goes_with}
use Rattle.fuse_spec.specs.Files.Trees.{record_length, pair_length}
use Rattle.fuse_frames.specs.ReplyTies.{wire_body, dirent_read, pair_in}
use Rattle.fuse_frames.specs.RequestTies.{asked_opcode}
use Rattle.fuse_frames.specs.ReplyDecoding.{is_within_request}

-- a record with its padding
pad_is : (n : ℕ) → 24 + n + padding n ≡ (31 + n) / 8 * 8
pad_is n = omega arith

-- records are as long as their frame says
records_end : (ds : List DirentContent) (place : ℕ) (bytes : List ℕ) → ReadsAs place (dirents ds) bytes
    → length bytes ≡ place + sum_by record_length (map dirent_read ds)
records_end [] place bytes reads = omega (arith, reads)
records_end (d ∷ ds) place bytes reads =
    let rest = records_end ds (place + 8 + 8 + 4 + 4 + length d.name + padding (length d.name)) bytes reads.1.1.1.1.1 in
    let pad = pad_is (length d.name) in
    let sum : sum_by record_length (map dirent_read (d ∷ ds))
    ≡ (31 + length d.name) / 8 * 8 + sum_by record_length (map dirent_read ds) =
    sum_by-cons record_length (dirent_read d) (map dirent_read ds) in
    omega (arith, rest, pad, sum)

-- an entry has 128 bytes
entry_end : (e : EntryContent) (after : List Field) (place : ℕ) (bytes : List ℕ)
    → ReadsAs place (entry_fields e after) bytes → ReadsAs (place + 128) after bytes
entry_end (missing valid nsec) after place bytes reads =
    let end : place + 8 + 8 + 8 + 8 + 4 + 4 + 88 ≡ place + 128 = omega arith in
    subst (λ (p : ℕ). ReadsAs p after bytes) end reads.1.1.1
entry_end (found nodeid generation valid nsec a) after place bytes reads =
    let end : place + 8 + 8 + 8 + 8 + 4 + 4 + 8 + 8 + 8 + 8 + 8 + 8 + 4 + 4 + 4 + 4 + 4 + 4 + 4 + 4 + 4 + 4
    ≡ place + 128 = omega arith in
    subst (λ (p : ℕ). ReadsAs p after bytes) end reads.1.1.1.1.1.1.1.1

-- and so are pairs
pairs_end : (ps : List DirentPlusContent) (place : ℕ) (bytes : List ℕ) → ReadsAs place (direntpluses ps) bytes
    → length bytes ≡ place + sum_by pair_length (map pair_in ps)
pairs_end [] place bytes reads = omega (arith, reads)
pairs_end (p ∷ ps) place bytes reads =
    let name = p.dirent.name in
    let behind = entry_end p.entry_out (dirent_fields p.dirent (direntpluses ps)) place bytes reads in
    let rest = pairs_end ps (place + 128 + 8 + 8 + 4 + 4 + length name + padding
    (length name)) bytes behind.1.1.1.1.1 in
    let pad = pad_is (length name) in
    let sum : sum_by pair_length (map pair_in (p ∷ ps))
    ≡ 128 + (31 + length name) / 8 * 8 + sum_by pair_length (map pair_in ps) =
    sum_by-cons pair_length (pair_in p) (map pair_in ps) in
    omega (arith, rest, pad, sum)

fits : (operation : Operation ℕ Opened) (content : ReplyContent) (bytes : List ℕ)
    → reply_kind latest_minor (asked_opcode (asks operation)) ≡ Some (kind_of_content content)
    → ReadsAs 16 (reply_body content) bytes
    → goes_with operation (wire_body content) ≡ is_within_request operation (length bytes) content
fits (lookup d w) (entry_reply (missing s n)) bytes is reads = refl
fits (lookup d w) (entry_reply (found x g s n a)) bytes is reads = refl
fits (lookup d w) content bytes is reads = cc
fits (getattr x) (attr_reply a) bytes is reads = refl
fits (getattr x) content bytes is reads = cc
fits (mkdir d n) (entry_reply (missing s ns)) bytes is reads = refl
fits (mkdir d n) (entry_reply (found x g s ns a)) bytes is reads = refl
fits (mkdir d n) content bytes is reads = cc
fits (create d n) (create_reply (missing s ns) fh) bytes is reads = refl
fits (create d n) (create_reply (found x g s ns a) fh) bytes is reads = refl
fits (create d n) content bytes is reads = cc
fits (unlink d n) empty_reply bytes is reads = refl
fits (unlink d n) content bytes is reads = cc
fits (rmdir d n) empty_reply bytes is reads = refl
fits (rmdir d n) content bytes is reads = cc
fits (rename d o e n) empty_reply bytes is reads = refl
fits (rename d o e n) content bytes is reads = cc
fits (link x d n) (entry_reply (missing s ns)) bytes is reads = refl
fits (link x d n) (entry_reply (found y g s ns a)) bytes is reads = refl
fits (link x d n) content bytes is reads = cc
fits (opening x) (open_reply fh) bytes is reads = refl
fits (opening x) content bytes is reads = cc
fits (readdir d a size) (records_reply ds) bytes is reads =
    let end = records_end ds 16 bytes reads in
    let same : sum_by record_length (map dirent_read ds) ≡ length bytes - 16 = omega (arith, end) in
    ap (λ (n : ℕ). nat_le n size) same
fits (readdir d a size) content bytes is reads = cc
fits (readdirplus d a size) (plus_reply ps) bytes is reads =
    let end = pairs_end ps 16 bytes reads in
    let same : sum_by pair_length (map pair_in ps) ≡ length bytes - 16 = omega (arith, end) in
    ap (λ (n : ℕ). nat_le n size) same
fits (readdirplus d a size) content bytes is reads = cc
fits (read o f size) (bytes_reply b) bytes is reads =
    let same : length b ≡ length bytes - 16 = omega (arith, reads.1) in
    ap (λ (n : ℕ). nat_le n size) same
fits (read o f size) content bytes is reads = cc
fits (write o f b) (write_reply n) bytes is reads = refl
fits (write o f b) content bytes is reads = cc

-- a body without an error
pub content_fits : (operation : Operation ℕ Opened) (bytes : List ℕ) (unique : ℕ) (error : ℤ) (content : ReplyContent)
    → error ≡ pos 0 → SpellsReply (asked_opcode (asks operation)) bytes
    (record { unique = unique; error = error; content = content })
    → goes_with operation (wire_body content) ≡ is_within_request operation (length bytes) content
content_fits operation bytes unique error content none spells =
    by (subst (λ (z : ℤ). SpellsReply (asked_opcode (asks operation)) bytes
    (record { unique = unique; error = z; content = content })) none spells)
  where
    by : SpellsReply (asked_opcode (asks operation)) bytes
        (record { unique = unique; error = pos 0; content = content })
        → goes_with operation (wire_body content) ≡ is_within_request operation (length bytes) content
    by s = fits operation content bytes (s.2.1 ∙ ap Some (sym s.2.2)) s.5.1.1.1

-- an error goes with any
pub failed_goes : (operation : Operation ℕ Opened) (errno : ℕ) → goes_with operation (reply.failed errno) ≡ true
failed_goes (lookup d w) errno = refl
failed_goes (getattr x) errno = refl
failed_goes (mkdir d n) errno = refl
failed_goes (create d n) errno = refl
failed_goes (unlink d n) errno = refl
failed_goes (rmdir d n) errno = refl
failed_goes (rename d o e n) errno = refl
failed_goes (link x d n) errno = refl
failed_goes (opening x) errno = refl
failed_goes (readdir d a z) errno = refl
failed_goes (readdirplus d a z) errno = refl
failed_goes (read o f z) errno = refl
failed_goes (write o f b) errno = refl
