-- What the frame of a request says by its header.
use Rattle.std.proofs.Common.{◌≡◌, ℕ, Bool, true, false, List, ◌∷◌, Option, Some, length, refl, sym, ◌∙◌, ap, bit_and}
use Rattle.fk_fields.specs.Fields.{Field, number_at, free32, ReadsAs}
use Rattle.fk_wire.specs.declared.opcode.Opcode.{Opcode}
use Rattle.fk_wire.specs.declared.opcode.Opcode.TheVariants as op
use Rattle.fk_wire.specs.Faults.{HasLength}
use Rattle.fk_wire.specs.Opcodes.{code_of, has_node}
use Rattle.fk_wire.specs.Requests.{RequestContent, RequestMessage, known_flags, nodeid_field, opcode_of, request_body, request_fields}
use Rattle.fk_wire.specs.Requests as wire
use Rattle.fk_wire.proofs.OneRequest.{within}
use Rattle.fuse_spec.specs.Files.Operations.{getattr}
use Rattle.fuse_spec.specs.Kernel.Messages.{Request, RequestBody, asks, init}
use Rattle.fuse_frames.specs.RequestTies.{SaysRequest, asked_opcode, body_in, body_or}
use Rattle.fuse_sessions.specs.UnreadRequests.{opcode_in, unique_in}
use Rattle.served_sessions.proofs.Bodies.{asked_bytes}

-- whether requests of an opcode say how many bytes their replies may have
abbrev pub is_room : Opcode → Bool
is_room op.Read = true
is_room op.Readdir = true
is_room op.Readdirplus = true
is_room o = false

-- whether they say how many, or how many bytes they have themselves
abbrev pub is_measured : Opcode → Bool
is_measured op.Read = true
is_measured op.Readdir = true
is_measured op.Readdirplus = true
is_measured op.Write = true
is_measured o = false

pub room_measured : (o : Opcode) → is_room o ≡ true → is_measured o ≡ true
room_measured op.Read room = refl
room_measured op.Readdir room = refl
room_measured op.Readdirplus room = refl
room_measured o room = cc

past_node : (b : Bool) (node : ℕ) (fs : List Field) (bytes : List ℕ)
    → ReadsAs 16 (nodeid_field b node ∷ free32 0 ∷ free32 0 ∷ free32 0 ∷ free32 0 ∷ fs) bytes → ReadsAs 40 fs bytes
past_node true node fs bytes reads = reads.1
past_node false node fs bytes reads = reads

-- the opcode of what is asked is that of the frame
said_opcode : (nodeid : ℕ) (content : RequestContent) → asked_opcode (body_or (body_in nodeid content)) ≡ opcode_of content
said_opcode nodeid (wire.lookup name) = refl
said_opcode nodeid content = refl

module _ (frame : List ℕ) (request : Request) (says : SaysRequest frame request) where
  abbrev content : RequestContent
  content = says.message.content

  pub body_reads : ReadsAs 40 (request_body says.message.content) frame
  body_reads = past_node (has_node (opcode_of says.message.content)) says.message.nodeid
      (request_body says.message.content) frame says.spells.3.1.1.1

  pub frame_header : HasLength frame
  frame_header = (within 40 (request_body says.message.content) frame body_reads, says.spells.3.0)

  pub frame_unique : unique_in frame ≡ request.unique
  frame_unique = says.spells.3.1.1.0 ∙ says.unique

  pub asked_alike : asked_opcode request.body ≡ opcode_of says.message.content
  asked_alike = sym (ap (λ (b : Option RequestBody). asked_opcode (body_or b)) says.says)
      ∙ said_opcode says.message.nodeid says.message.content

  pub frame_opcode : opcode_in frame ≡ code_of (asked_opcode request.body)
  frame_opcode = says.spells.3.1.0 ∙ ap code_of (sym asked_alike)

  -- INIT's flags
  flags_of : (c : RequestContent) → (flags : ℕ) → body_in says.message.nodeid c ≡ Some (init flags)
      → ReadsAs 40 (request_body c) frame → flags ≡ bit_and (number_at 52 4 frame) known_flags
  flags_of (wire.init major minor offered) flags is reads = sym (ap of is) ∙ sym reads.1.1.0
    where
      of : Option RequestBody → ℕ
      of (Some (init n)) = n
      of b = 0
  flags_of c flags is reads = absurd (none (ap of is))
    where
      of : Option RequestBody → Bool
      of (Some (init n)) = true
      of b = false

      none : false ≡ true → ⊥
      none e = cc

  pub init_flags_are : (flags : ℕ) → request.body ≡ init flags → flags ≡ bit_and (number_at 52 4 frame) known_flags
  init_flags_are flags is = flags_of says.message.content flags (says.says ∙ ap Some is) body_reads

  -- an INTERRUPT's length
  length_of : (c : RequestContent) → opcode_of c ≡ op.Interrupt → ReadsAs 40 (request_body c) frame → length frame ≡ 48
  length_of (wire.interrupt original) is reads = reads.1
  length_of c is reads = cc

  pub interrupt_length : asked_opcode request.body ≡ op.Interrupt → length frame ≡ 48
  interrupt_length is = length_of says.message.content (sym asked_alike ∙ is) body_reads

  -- how many bytes are asked for, or written
  room_of : (c : RequestContent) (body : RequestBody) → body_in says.message.nodeid c ≡ Some body
      → is_measured (opcode_of c) ≡ true → ReadsAs 40 (request_body c) frame → number_at 56 4 frame ≡ asked_bytes body
  room_of (wire.read fh offset size) body is room reads = reads.1.1.0 ∙ ap (λ (b : Option RequestBody). asked_bytes (body_or b)) is
  room_of (wire.readdir offset size) body is room reads = reads.1.0 ∙ ap (λ (b : Option RequestBody). asked_bytes (body_or b)) is
  room_of (wire.readdirplus offset size) body is room reads =
      reads.1.0 ∙ ap (λ (b : Option RequestBody). asked_bytes (body_or b)) is
  room_of (wire.write fh offset bytes) body is room reads =
      reads.1.1.0 ∙ ap (λ (b : Option RequestBody). asked_bytes (body_or b)) is
  room_of c body is room reads = cc

  pub frame_room : is_measured (asked_opcode request.body) ≡ true → number_at 56 4 frame ≡ asked_bytes request.body
  frame_room room = room_of says.message.content request.body says.says (ap is_measured (sym asked_alike) ∙ room) body_reads

  -- GETATTR's node
  node_of : (c : RequestContent) (n : ℕ) → body_in says.message.nodeid c ≡ Some (asks (getattr n))
      → ReadsAs 16 (nodeid_field (has_node (opcode_of c)) says.message.nodeid
      ∷ free32 0 ∷ free32 0 ∷ free32 0 ∷ free32 0 ∷ request_body says.message.content) frame → number_at 16 8 frame ≡ n
  node_of wire.getattr n is reads = reads.0 ∙ ap of is
    where
      of : Option RequestBody → ℕ
      of (Some (asks (getattr k))) = k
      of b = n
  node_of c n is reads = absurd (none (ap of is))
    where
      of : Option RequestBody → Bool
      of (Some (asks (getattr k))) = true
      of b = false

      none : false ≡ true → ⊥
      none e = cc

  pub frame_node : (n : ℕ) → request.body ≡ asks (getattr n) → number_at 16 8 frame ≡ n
  frame_node n is = node_of says.message.content n (says.says ∙ ap Some is) says.spells.3.1.1.1
