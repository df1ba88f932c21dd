-- A frame that is sent names an open file only where its request does.
use Rattle.std.proofs.Common.{◌≡◌, ℕ, false, ◌<◌, ◌^◌, List, [], ◌∷◌, ◌++◌, Option, Some, None, length, nat_eq, refl, ap, sym, subst, ◌∙◌, arith}
use Rattle.std.proofs.lemmas.Bool.{false≢true}
use Rattle.fk_wire.specs.declared.opcode.Opcode.{Opcode}
use Rattle.fk_wire.specs.declared.opcode.Opcode.TheVariants as op
use Rattle.fk_wire.specs.Fields.{Field, InRange, number_at, spellings, u32, u64}
use Rattle.fk_wire.specs.Opcodes.{code_of, has_node, latest_minor}
use Rattle.fk_wire.specs.Requests as wire
use Rattle.fk_wire.specs.Requests.{RequestContent, RequestMessage, Written, header, nodeid_field, opcode_of, request_body}
use Rattle.fk_wire.proofs.Frames.{reads_back, spells}
use Rattle.fuse_spec.specs.Kernel.Messages.{Request, RequestBody}
use Rattle.fuse_frames.specs.RequestTies.{IsRequestFrame, SaysRequest, asked_opcode, body_in, request_content_of}
use Rattle.fk_drive_frames.specs.Filling.{FillsFor}
use Rattle.fk_drive_frames.specs.OwnRequests.{ListsNode, readdir, readdirplus}
use Rattle.fk_drive_frames.specs.declared.filling.FreeFields.{FreeFields}
use Rattle.fk_drive.specs.Driving.{IsSentFrame}
use Rattle.fk_drive.specs.Steps.{IsSentFor}
use Rattle.fk_drive.proofs.Requests.{says_of}

-- ---- the opcode of what says a request

abbrev opcode_said : Option RequestBody → Opcode
opcode_said None = op.Init
opcode_said (Some body) = asked_opcode body

pub said_opcode : (nodeid : ℕ) (c : RequestContent) (body : RequestBody) → body_in nodeid c ≡ Some body
    → code_of (opcode_of c) ≡ code_of (asked_opcode body)
said_opcode nodeid (wire.lookup name) body says = ap (λ (o : Option RequestBody). code_of (opcode_said o)) says
said_opcode nodeid c body says = ap (λ (o : Option RequestBody). code_of (opcode_said o)) says

frame_code : (frame : List ℕ) (request : Request) → SaysRequest frame request
    → number_at 4 4 frame ≡ code_of (asked_opcode request.body)
frame_code frame request says =
    says.spells.3.1.0 ∙ said_opcode says.message.nodeid says.message.content request.body says.says

other_code : {P : Type 0} (n : ℕ) → nat_eq n 3 ≡ false → n ≡ 3 → P
other_code n apart same = absurd (false≢true (sym apart ∙ ap (λ (m : ℕ). nat_eq m 3) same))

-- ---- a GETATTR as it is written

abbrev fields_of : (len unique nodeid : ℕ) → RequestContent → List Field
fields_of len unique nodeid c =
    header len (code_of (opcode_of c)) unique (nodeid_field (has_node (opcode_of c)) nodeid) ++ request_body c

-- The same with the fields of struct fuse_getattr_in as they stand.
abbrev getattr_fields : (len unique nodeid : ℕ) → List Field
getattr_fields len unique nodeid = header len 3 unique (u64 nodeid) ++ u32 0 ∷ u32 0 ∷ u64 0 ∷ []

written_getattr : (len unique nodeid : ℕ) (bytes : List ℕ) → InRange (fields_of len unique nodeid wire.getattr)
    → bytes ≡ spellings (fields_of len unique nodeid wire.getattr) → number_at 40 4 bytes ≡ 0
written_getattr len unique nodeid bytes fits same =
    let small : 0 < 256 ^ 4 = omega arith in
    let reads = reads_back (getattr_fields len unique nodeid) []
    (fits.0, (fits.1.0, (fits.1.1.0, (fits.1.1.1.0, (small, (small, (omega arith, tt))))))) tt in
    ap (number_at 40 4) same ∙ reads.1.1.1.1.0

written_plain : (bytes : List ℕ) (m : RequestMessage) → Written m bytes → number_at 4 4 bytes ≡ 3 → number_at 40 4 bytes ≡ 0
written_plain bytes m written code = by m.content written.3 written.5
    (sym (spells latest_minor m bytes written).3.1.0 ∙ code)
  where
    by : (c : RequestContent) → InRange (fields_of (length bytes) m.unique m.nodeid c)
        → bytes ≡ spellings (fields_of (length bytes) m.unique m.nodeid c) → code_of (opcode_of c) ≡ 3 → number_at 40 4 bytes ≡ 0
    by wire.getattr fits same code = written_getattr (length bytes) m.unique m.nodeid bytes fits same
    by c fits same code = other_code (code_of (opcode_of c)) refl code

-- ---- a frame that is sent

-- The frame in which a request is written is such.
pub written_frame : (bytes : List ℕ) (request : Request) → IsRequestFrame bytes request → IsSentFrame bytes request
written_frame bytes request is = record {
  says = says_of spells bytes request is;
  names_no_file = written_plain bytes is.message is.written;
}

-- So is it with its free fields filled.
pub filled_frame : (request : Request) (free_fields : FreeFields) (frame : List ℕ) → IsSentFor request free_fields frame
    → SaysRequest frame request → IsSentFrame frame request
filled_frame request free_fields frame filled says = record {
  says = says;
  names_no_file = λ code. by (request_content_of request.body) filled.filled
      (sym (frame_code frame request says) ∙ code) code;
}
  where
    by : (c : RequestContent) → FillsFor c free_fields filled.read frame → code_of (opcode_of c) ≡ 3 → number_at 4 4 frame ≡ 3
        → number_at 40 4 frame ≡ 0
    by wire.getattr same of code = ap (number_at 40 4) same
        ∙ written_plain filled.read filled.is.message filled.is.written (sym (ap (number_at 4 4) same) ∙ code)
    by c fills of code = other_code (code_of (opcode_of c)) refl of

-- And one of what lists a directory.
pub listing_frame : (request : Request) (node : ℕ) → ListsNode request.body node → (frame : List ℕ) → SaysRequest frame request
    → IsSentFrame frame request
listing_frame request node lists frame says = record {
  says = says;
  names_no_file = λ code. by request.body lists (sym (frame_code frame request says) ∙ code);
}
  where
    by : (body : RequestBody) → ListsNode body node → code_of (asked_opcode body) ≡ 3 → number_at 40 4 frame ≡ 0
    by _ (readdir n after size) code = other_code 28 refl code
    by _ (readdirplus n after size) code = other_code 44 refl code
