-- Where the names and the data of a frame lie.
use Rattle.std.proofs.Common.{◌≡◌, ◌≤◌, ℕ, Bool, true, false, ◌+◌, ◌-◌, ◌*◌, List, [], ◌∷◌, ◌++◌, length, take, drop, refl, sym, ap, subst, ◌∙◌, arith, append_assoc}
use Rattle.std.proofs.lemmas.List.{take_at, take_all, take-append-drop, drop-drop, length-drop}
use Rattle.fk_wire.specs.Fields.{Field, holds, free, free32, bits, named, raw, number_at, bytes_at, ReadsAs}
use Rattle.fk_wire.specs.Opcodes.{has_node}
use Rattle.fk_wire.specs.Pairs.{forget_ones}
use Rattle.fk_wire.specs.Requests.{RequestMessage, SpellsAt, opcode_of, nodeid_field, request_body, batch_forget}
use Rattle.fk_wire.specs.declared.opcode.Minor.{Minor}
use Rattle.fk_wire.specs.declared.opcode.Minor.TheVariants as minors
use Rattle.fk_wire.specs.declared.opcode.Opcode.{Opcode}
use Rattle.fk_wire.specs.declared.opcode.Opcode.TheVariants as op
use Rattle.fk_wire.specs.Dirents.{DirentContent, DirentPlusContent, dirents, direntpluses}
use Rattle.fk_wire.specs.Replies.{ReplyMessage, SpellsReplyAt, reply_body}
use Rattle.fk_wire.proofs.PairLists.{list_ends}
use Rattle.fuseworld_codec.proofs.Ends.{reads_end}

-- a name, without the NUL byte behind it
pub name_alone : (place : ℕ) (name bytes : List ℕ) → bytes_at place (length name + 1) bytes ≡ name ++ 0 ∷ []
    → bytes_at place (length name) bytes ≡ name
unfolding bytes_at
name_alone place name bytes e =
    let all : List ℕ = drop place bytes in
    let rest : List ℕ = drop (length name + 1) all in
    let whole : all ≡ name ++ (0 ∷ rest) = sym (take-append-drop (length name + 1) all) ∙ ap
    (λ (x : List ℕ). x ++ rest) e ∙ append_assoc name (0 ∷ []) rest in
    ap (λ (x : List ℕ). take (length name) x) whole ∙ take_at name (0 ∷ rest) (length name) refl

-- a field of the rest of some bytes
number_after : (front place width : ℕ) (bytes : List ℕ)
    → number_at place width (drop front bytes) ≡ number_at (front + place) width bytes
unfolding number_at
number_after front place width bytes = rw (drop-drop place front bytes) refl

bytes_after : (front place count : ℕ) (bytes : List ℕ)
    → bytes_at place count (drop front bytes) ≡ bytes_at (front + place) count bytes
unfolding bytes_at
bytes_after front place count bytes = rw (drop-drop place front bytes) refl

-- the same fields in the rest of some bytes
pub reads_after : (fs : List Field) (front place : ℕ) (bytes : List ℕ) → front ≤ length bytes
    → ReadsAs (front + place) fs bytes → ReadsAs place fs (drop front bytes)
reads_after [] front place bytes within h = omega (arith, length-drop front bytes)
reads_after (holds width value ∷ fs) front place bytes within h = (
  number_after front place width bytes ∙ h.0,
  reads_after fs front (place + width) bytes within
      (subst (λ (p : ℕ). ReadsAs p fs bytes) (omega arith) h.1),
)
reads_after (free width value ∷ fs) front place bytes within h =
    reads_after fs front (place + width) bytes within (subst (λ (p : ℕ). ReadsAs p fs bytes) (omega arith) h)
reads_after (bits mask value ∷ fs) front place bytes within h = (
  rw (number_after front place 4 bytes) h.0,
  reads_after fs front (place + 4) bytes within (subst (λ (p : ℕ). ReadsAs p fs bytes) (omega arith) h.1),
)
reads_after (named name ∷ fs) front place bytes within h = (
  h.0,
  bytes_after front place (length name + 1) bytes ∙ h.1,
  reads_after fs front (place + (length name + 1)) bytes within
      (subst (λ (p : ℕ). ReadsAs p fs bytes) (omega arith) h.2),
)
reads_after (raw bs ∷ fs) front place bytes within h = (
  bytes_after front place (length bs) bytes ∙ h.0,
  reads_after fs front (place + length bs) bytes within
      (subst (λ (p : ℕ). ReadsAs p fs bytes) (omega arith) h.1),
)

-- the bytes from a place to the end
pub to_the_end : (place : ℕ) (bytes : List ℕ) → bytes_at place (length bytes - place) bytes ≡ drop place bytes
unfolding bytes_at
to_the_end place bytes = take_all (length bytes - place) (drop place bytes)
    (omega (arith, length-drop place bytes))

-- the pairs to the end of a frame
pub pairs_after : (ps : List (ℕ × ℕ)) (place : ℕ) (bytes : List ℕ) → ReadsAs place (forget_ones ps) bytes
    → ReadsAs 0 (forget_ones ps) (bytes_at place (length bytes - place) bytes)
pairs_after ps place bytes h =
    let ends : place + 16 * length ps ≡ length bytes = list_ends ps place bytes h in
    rw (to_the_end place bytes) (reads_after (forget_ones ps) place 0 bytes (omega (arith, ends))
    (subst (λ (p : ℕ). ReadsAs p (forget_ones ps) bytes) (omega arith) h))

-- what follows the field of the node
after_node : (about : Bool) (node place : ℕ) (fs : List Field) (bytes : List ℕ)
    → ReadsAs place (nodeid_field about node ∷ fs) bytes → ReadsAs (place + 8) fs bytes
after_node true node place fs bytes h = h.1
after_node false node place fs bytes h = h

-- the body of a frame, after its header
pub body_reads : (minor : Minor) (bytes : List ℕ) (m : RequestMessage) → SpellsAt minor bytes m
    → ReadsAs 40 (request_body m.content) bytes
body_reads minor bytes m h = after_node (has_node (opcode_of m.content)) m.nodeid 16
    (free32 0 ∷ free32 0 ∷ free32 0 ∷ free32 0 ∷ request_body m.content) bytes h.3.1.1.1

pub pairs_end : (ps : List (ℕ × ℕ)) (bytes : List ℕ) → ReadsAs 40 (request_body (batch_forget ps)) bytes
    → 48 ≤ length bytes
pairs_end ps bytes h = omega (arith, list_ends ps 48 bytes h.1)

-- fields from a place to the end
pub rest_reads : (fs : List Field) (place : ℕ) (bytes : List ℕ) → place ≤ length bytes → ReadsAs place fs bytes
    → ReadsAs 0 fs (bytes_at place (length bytes - place) bytes)
rest_reads fs place bytes within h = rw (to_the_end place bytes) (reads_after fs place 0 bytes within
    (subst (λ (p : ℕ). ReadsAs p fs bytes) (omega arith) h))

-- what places the names and the pairs of a request
pub ruleset flat_places = (name_alone, pairs_after, reads_end)

-- the records to the end of a frame
pub records_after : (ds : List DirentContent) (bytes : List ℕ) → 16 ≤ length bytes → ReadsAs 16 (dirents ds) bytes
    → ReadsAs 0 (dirents ds) (bytes_at 16 (length bytes - 16) bytes)
records_after ds = rest_reads (dirents ds) 16

pub pluses_after : (ps : List DirentPlusContent) (bytes : List ℕ) → 16 ≤ length bytes
    → ReadsAs 16 (direntpluses ps) bytes → ReadsAs 0 (direntpluses ps) (bytes_at 16 (length bytes - 16) bytes)
pluses_after ps = rest_reads (direntpluses ps) 16

-- what places the records of a reply
pub ruleset reply_places = (records_after, pluses_after, reads_end)

-- the body of a reply's frame, after its header
pub reply_body_reads : (minor : Minor) (o : Opcode) (bytes : List ℕ) (t : ReplyMessage)
    → SpellsReplyAt minor o bytes t → ReadsAs 16 (reply_body t.content) bytes
reply_body_reads minor o bytes t h = h.5.1.1.1

-- FORGET has no replies.
pub no_reply_to_forget : (minor : Minor) (bytes : List ℕ) (t : ReplyMessage)
    → SpellsReplyAt minor op.Forget bytes t → ⊥
no_reply_to_forget minors.M15 bytes t h = cc (h.2.1)
no_reply_to_forget minors.M31 bytes t h = cc (h.2.1)
