-- Each request of the codec's is one of the table's.
use Rattle.std.proofs.Common.{◌≡◌, ◌/◌, ◌+◌, ℕ, zero, suc, true, false, List, [], ◌∷◌, length, drop, refl, sym, ap, ◌∙◌, length-drop, arith}
use Rattle.std.proofs.lemmas.Grind.{common_steps}
use Rattle.std.proofs.lemmas.List.{drop-drop, take_all}
use Rattle.std.specs.Prelude.{Bool, nat_lt, Some, Result, Ok, Err, IfOk, IfErr, IsErr, IsOkAnd}
use Rattle.fk_fields.specs.Fields.{Field, number_at, bytes_at, ReadsAs, raw}
use Rattle.fk_wire.specs.declared.opcode.Minor.{Minor}
use Rattle.fk_wire.specs.Pairs.{forget_ones}
use Rattle.fk_wire.specs.Pairs.{pairs_from as codec_pairs}
use Rattle.fk_wire.proofs.PairLists.{one_list, list_ends}
use Rattle.fk_wire.specs.Requests.{SpellsAt, RequestContent, lookup, forget, getattr, mkdir, unlink, rmdir, rename, link, opening, read, write, release, init, readdir, readdirplus, create, interrupt, batch_forget, request_body, opcode_of, nodeid_field}
use Rattle.fk_wire.specs.Requests.{RequestMessage as CodecMessage, request_message as codec_message}
use Rattle.fk_wire.specs.declared.fault.WireFault.{WireFault}
use Rattle.fk_wire.specs.declared.request.Request.{Request as CodecRequest}
use Rattle.fk_wire.specs.Opcodes.{has_node}
use Rattle.fk_wire.specs.Opcodes.{code_of as codec_code}
use Rattle.fuse_protocol.specs.declared.agreed.Agreed.{Agreed}
use Rattle.fuse_protocol.specs.declared.fault.ShapeFault.{ShapeFault}
use Rattle.fuse_protocol.specs.declared.names.NameRule.TheVariants as rule
use Rattle.fuse_protocol.specs.declared.opcode.Opcode.{Opcode}
use Rattle.fuse_protocol.specs.declared.opcode.Opcode.TheVariants as op
use Rattle.fuse_protocol.specs.Pairs.{pairs_from}
use Rattle.fuse_protocol.specs.Table.{row_at, code_of}
use Rattle.fuse_protocol.specs.declared.request.Request.{Request}
use Rattle.fuse_protocol.specs.Requests.{IsRequest, RequestMessage, request_message, node_at}
use Rattle.fuse_protocol.specs.Faults.{FaultIs}
use Rattle.fuse_protocol.proofs.OneRequest.{no_request}
use Rattle.protocol_law.specs.Law.{Carries, opcode_in, further_in, names_in, IsTailOf, IsReadAlike, AreAlike}
use Rattle.protocol_law.proofs.Shapes.{HasHeader, HasParts, request_in, is_request, is_file, is_looked, one_name, alone, with_tail, two_names}

-- A number behind a place is that number of the bytes behind the place.
shifted : (place width start : ℕ) (bytes : List ℕ)
    → number_at place width (drop start bytes) ≡ number_at (start + place) width bytes
unfolding number_at
shifted place width start bytes = rw drop-drop refl

-- Pairs from a place on are those of the bytes behind it.
same_pairs : (count place start : ℕ) (bytes : List ℕ)
    → pairs_from count place (drop start bytes) ≡ codec_pairs count (start + place) bytes
same_pairs zero place start bytes = refl
same_pairs (suc count) place start bytes =
    let here : number_at place 8 (drop start bytes) ≡ number_at (start + place) 8 bytes = shifted place 8 start bytes in
    let there : number_at (place + 8) 8 (drop start bytes) ≡ number_at (start + place + 8) 8 bytes =
    shifted (place + 8) 8 start bytes ∙ ap (λ (n : ℕ). number_at n 8 bytes) (omega arith) in
    let rest : pairs_from count (place + 16) (drop start bytes) ≡ codec_pairs count (start + place + 16) bytes =
    same_pairs count (place + 16) start bytes ∙ ap (λ (n : ℕ). codec_pairs count n bytes) (omega arith) in
    rw (here, there, rest) refl

-- CREATE has its umask from 7.12 on.
from_umask : (agreed : Agreed) → Carries agreed → nat_lt agreed.minor 12 ≡ false
from_umask agreed fits = grind (arith, common_steps, fits.from_umask)

-- The bytes of a WRITE stand behind its struct.
written : (bytes bs : List ℕ) → ReadsAs 80 (raw bs ∷ []) bytes → drop 80 bytes ≡ bs
unfolding bytes_at
written bytes bs h =
    sym (take_all (length bs) (drop 80 bytes) (omega (arith, length-drop 80 bytes, h.1))) ∙ h.0

-- The pairs of a BATCH_FORGET too.
forgotten : (bytes : List ℕ) (ps : List (ℕ × ℕ)) → ReadsAs 48 (forget_ones ps) bytes
    → pairs_from (length (drop 48 bytes) / 16) 0 (drop 48 bytes) ≡ ps
forgotten bytes ps h =
    let count : length (drop 48 bytes) / 16 ≡ length ps =
    omega (arith, length-drop 48 bytes, list_ends ps 48 bytes h) in
    rw count (same_pairs (length ps) 0 48 bytes ∙ one_list ps 48 bytes h)

-- What the names and the tail are, by what the codec reads.
parts_of : (agreed : Agreed) (bytes : List ℕ) (content : RequestContent) → Carries agreed
    → ReadsAs 40 (request_body content) bytes
    → (tail : List ℕ) × HasParts agreed bytes (opcode_in content) (names_in content) tail × IsTailOf content tail
parts_of agreed bytes (lookup name) fits h =
    ([], one_name agreed bytes op.Lookup rule.Looked 40 name h refl refl (is_looked agreed name fits h.0) refl, refl)
parts_of agreed bytes (forget n) fits h = ([], alone agreed bytes op.Forget 48 h.1 refl refl refl, refl)
parts_of agreed bytes getattr fits h = ([], alone agreed bytes op.Getattr 56 h refl refl refl, refl)
parts_of agreed bytes (mkdir name) fits h =
    ([], one_name agreed bytes op.Mkdir rule.File 48 name h refl refl (is_file agreed name fits h.0) refl, refl)
parts_of agreed bytes (unlink name) fits h =
    ([], one_name agreed bytes op.Unlink rule.File 40 name h refl refl (is_file agreed name fits h.0) refl, refl)
parts_of agreed bytes (rmdir name) fits h =
    ([], one_name agreed bytes op.Rmdir rule.File 40 name h refl refl (is_file agreed name fits h.0) refl, refl)
parts_of agreed bytes (rename newdir old new) fits h = (
  [],
  record {
    whole = omega (arith, h.1.2.2);
    parts = two_names 48 bytes old new (h.1.0, h.1.1) h.1.2;
    has_names = (is_file agreed old fits h.1.0, (is_file agreed new fits h.1.2.0, tt));
    has_tail = refl;
  },
  refl,
)
parts_of agreed bytes (link oldnodeid name) fits h =
    ([], one_name agreed bytes op.Link rule.File 48 name h.1 refl refl (is_file agreed name fits h.1.0) refl, refl)
parts_of agreed bytes opening fits h = ([], alone agreed bytes op.Open 48 h refl refl refl, refl)
parts_of agreed bytes (read fh offset size) fits h = ([], alone agreed bytes op.Read 80 h.1.1.1 refl refl refl, refl)
parts_of agreed bytes (write fh offset bs) fits h = (
  drop 80 bytes,
  with_tail agreed bytes op.Write 80 (omega (arith, h.1.1.1.1)) refl refl
      (omega (arith, length-drop 80 bytes, h.1.1.0, h.1.1.1.1)),
  written bytes bs h.1.1.1,
)
parts_of agreed bytes (release fh) fits h = ([], alone agreed bytes op.Release 64 h.1 refl refl refl, refl)
parts_of agreed bytes (init major minor flags) fits h = ([], alone agreed bytes op.Init 56 h.1.1.1 refl refl tt, refl)
parts_of agreed bytes (readdir offset size) fits h = ([], alone agreed bytes op.Readdir 80 h.1.1 refl refl refl, refl)
parts_of agreed bytes (readdirplus offset size) fits h =
    ([], alone agreed bytes op.Readdirplus 80 h.1.1 refl refl refl, refl)
parts_of agreed bytes (create name) fits h =
    ([], one_name agreed bytes op.Create rule.File 56 name h (rw (from_umask agreed fits) refl) refl (is_file agreed name fits h.0) refl, refl)
parts_of agreed bytes (interrupt unique) fits h = ([], alone agreed bytes op.Interrupt 48 h.1 refl refl refl, refl)
parts_of agreed bytes (batch_forget ps) fits h = (
  drop 48 bytes,
  with_tail agreed bytes op.BatchForget 48 (omega (arith, list_ends ps 48 bytes h.1)) refl refl
      (omega (arith, length-drop 48 bytes, h.0, list_ends ps 48 bytes h.1)),
  forgotten bytes ps h.1,
)

-- Both tables give an opcode one number.
same_code : (content : RequestContent) → codec_code (opcode_of content) ≡ code_of (opcode_in content)
same_code (lookup name) = refl
same_code (forget n) = refl
same_code getattr = refl
same_code (mkdir name) = refl
same_code (unlink name) = refl
same_code (rmdir name) = refl
same_code (rename newdir old new) = refl
same_code (link oldnodeid name) = refl
same_code opening = refl
same_code (read fh offset size) = refl
same_code (write fh offset bs) = refl
same_code (release fh) = refl
same_code (init major minor flags) = refl
same_code (readdir offset size) = refl
same_code (readdirplus offset size) = refl
same_code (create name) = refl
same_code (interrupt unique) = refl
same_code (batch_forget ps) = refl

-- The further node stands behind the header.
further_of : (bytes : List ℕ) (content : RequestContent) → ReadsAs 40 (request_body content) bytes
    → node_at (row_at (opcode_in content)).node bytes ≡ further_in content
further_of bytes (lookup name) h = refl
further_of bytes (forget n) h = refl
further_of bytes getattr h = refl
further_of bytes (mkdir name) h = refl
further_of bytes (unlink name) h = refl
further_of bytes (rmdir name) h = refl
further_of bytes (rename newdir old new) h = ap Some h.0
further_of bytes (link oldnodeid name) h = ap Some h.0
further_of bytes opening h = refl
further_of bytes (read fh offset size) h = refl
further_of bytes (write fh offset bs) h = refl
further_of bytes (release fh) h = refl
further_of bytes (init major minor flags) h = refl
further_of bytes (readdir offset size) h = refl
further_of bytes (readdirplus offset size) h = refl
further_of bytes (create name) h = refl
further_of bytes (interrupt unique) h = refl
further_of bytes (batch_forget ps) h = refl

-- The node, where a request is about one, and the fields behind it.
node_reads : (about : Bool) (node : ℕ) (after : List Field) (bytes : List ℕ)
    → ReadsAs 16 (nodeid_field about node ∷ after) bytes
    → (about ≡ true → number_at 16 8 bytes ≡ node) × ReadsAs 24 after bytes
node_reads true node after bytes h = ((λ _. h.0), h.1)
node_reads false node after bytes h = ((λ e. absurd cc), h)

pub alike : (minor : Minor) (agreed : Agreed) (bytes : List ℕ) (m : CodecMessage) → Carries agreed
    → SpellsAt minor bytes m → IsReadAlike agreed bytes m
alike minor agreed bytes m fits is =
    let node = node_reads (has_node (opcode_of m.content)) m.nodeid _ bytes is.3.1.1.1 in
    let parts = parts_of agreed bytes m.content fits node.1 in
    let head : HasHeader bytes (opcode_in m.content) = record {
      short = is.0;
      len = is.3.0;
      opcode = is.3.1.0 ∙ same_code m.content;
    } in (
      request_in agreed (opcode_in m.content) bytes (names_in m.content) parts.0,
      is_request agreed bytes (opcode_in m.content) (names_in m.content) parts.0 fits head parts.1,
      record {
        opcode = refl;
        unique = is.3.1.1.0;
        nodeid = node.0;
        further = further_of bytes m.content node.1;
        names = refl;
        tail = parts.2;
      },
    )

-- What the table refuses, the codec refuses.
pub refused : (minor : Minor) (agreed : Agreed) (bytes : List ℕ) (f : ShapeFault) (m : CodecMessage) → Carries agreed
    → FaultIs agreed bytes f → SpellsAt minor bytes m → ⊥
refused minor agreed bytes f m fits fault is =
    let r = alike minor agreed bytes m fits is in no_request agreed bytes f (opcode_in m.content) r.0 fault r.1

-- What each reader makes of one frame.
same_of : (m : CodecMessage) (o : Opcode) (r : RequestMessage) (table : Result Request ShapeFault) → AreAlike m o r
    → IsOkAnd table (λ t. (t.head.opcode ≡ o) × (request_message t ≡ r))
    → IsOkAnd table (λ t. AreAlike m t.head.opcode (request_message t))
same_of m o r (Err f) said got = absurd got
same_of m o r (Ok t) said got = rw (got.0, got.1) said

pub read_alike : (minor : Minor) (agreed : Agreed) (bytes : List ℕ) (codec : Result CodecRequest WireFault)
    (table : Result Request ShapeFault) → Carries agreed → IfOk codec (λ r. SpellsAt minor bytes (codec_message r))
    → ((o : Opcode) (m : RequestMessage) → IsRequest agreed bytes (row_at o) m
    → IsOkAnd table (λ r. (r.head.opcode ≡ o) × (request_message r ≡ m)))
    → IfOk codec (λ m. IsOkAnd table (λ r. AreAlike (codec_message m) r.head.opcode (request_message r)))
read_alike minor agreed bytes (Err f) table fits ok only = tt
read_alike minor agreed bytes (Ok m) table fits ok only =
    let a = alike minor agreed bytes (codec_message m) fits ok in
    let o = opcode_in (codec_message m).content in
    same_of (codec_message m) o a.0 table a.2 (only o a.0 a.1)

pub refused_by_both : (minor : Minor) (agreed : Agreed) (bytes : List ℕ) (codec : Result CodecRequest WireFault)
    (table : Result Request ShapeFault) → Carries agreed → IfOk codec (λ r. SpellsAt minor bytes (codec_message r))
    → IfErr table (FaultIs agreed bytes) → IfErr table (λ f. IsErr codec)
refused_by_both minor agreed bytes codec (Ok r) fits ok fault = tt
refused_by_both minor agreed bytes (Err e) (Err f) fits ok fault = refl
refused_by_both minor agreed bytes (Ok m) (Err f) fits ok fault =
    absurd (refused minor agreed bytes f (codec_message m) fits fault ok)
