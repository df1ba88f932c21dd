-- Bytes say one request, and what is written is said.
use Rattle.std.proofs.Common.{◌≡◌, ℕ, List, [], ◌++◌, Option, Some, refl, sym, ap, subst, ◌∙◌}
use Rattle.std.specs.Prelude.{true}
use Rattle.std.specs.Borrow.{Bor}
use Rattle.fk_wire.specs.declared.fault.WireFault.{WireFault}
use Rattle.fk_wire.specs.declared.opcode.Opcode.{Opcode}
use Rattle.fk_wire.specs.Requests as wire
use Rattle.fk_wire.specs.Requests.{RequestContent, RequestMessage, opcode_of, Spells, Written}
use Rattle.fk_wire.specs.Opcodes.{code_of, latest_minor, minor_knows as knows_opcode}
use Rattle.fk_wire.specs.Fields.{number_at}
use Rattle.fk_wire.specs.Faults.{FaultIsAt}
use Rattle.fk_wire.proofs.OneRequest.{decoded_is, no_fault, same_code}
use Rattle.fk_wire.proofs.Frames.{spells}
use Rattle.fuse_spec.specs.Files.Operations.{header_node}
use Rattle.fuse_spec.specs.Kernel.Messages.{RequestBody, Request}
use Rattle.fuse_spec.specs.Server.Server.{knows}
use Rattle.fuse_spec.specs.Files.Operations.{Asked}
use Rattle.fuse_spec.specs.declared.operation.Operation.TheVariants as asked
use Rattle.fuse_spec.specs.declared.Minor.{Minor}
use Rattle.fuse_spec.specs.declared.Minor.TheVariants.{M15, M31}
use Rattle.fuse_frames.specs.RequestTies.{SaysRequest, SaysRequestAt, codec_minor, IsRequestFrame, request_in, body_in, body_or, body_asking, asked_opcode, request_content_of, RequestAsks}

pub frame_says : (bytes : List ℕ) (request : Request) → IsRequestFrame bytes request → SaysRequest bytes request
frame_says bytes request h = record {
  message = h.message;
  spells = spells latest_minor h.message bytes h.written;
  unique = h.unique;
  says = h.says;
}

-- the bytes spell one request alone
pub one_request : (bytes : List ℕ) (request : Request) → SaysRequest bytes request → request_in bytes ≡ request
unfolding request_in
one_request bytes request h =
    let is = decoded_is bytes h.message h.spells in
    λ i. record {
      unique = (ap (λ (m : RequestMessage). m.unique) is ∙ h.unique) i;
      body = (ap (λ (m : RequestMessage). body_or (body_in m.nodeid m.content)) is ∙ ap body_or h.says) i;
    }

-- what is written is seen as the request that was to be written
pub framed_is : (message : RequestMessage) (bytes : List ℕ) (body : RequestBody) → Written message bytes
    → body_in message.nodeid message.content ≡ Some body
    → request_in bytes ≡ record { unique = message.unique; body = body }
framed_is message bytes body w e =
    one_request bytes (record { unique = message.unique; body = body })
    (record { message = message; spells = spells latest_minor message bytes w; unique = refl; says = e })

pub is_framed : (message : RequestMessage) (bytes : List ℕ) (body : RequestBody) → Written message bytes
    → body_in message.nodeid message.content ≡ Some body → message.content ≡ request_content_of body
    → IsRequestFrame bytes (request_in bytes)
is_framed message bytes body w e is =
    subst (λ (r : Request). IsRequestFrame bytes r) (sym (framed_is message bytes body w e))
    (record { message = message; written = w; unique = refl; says = e; content = is })

-- what was appended to an empty vector is all that it has
pub all_written : {P : List ℕ → Type 0} (old items : List ℕ) → old ≡ []
    → (frame : List ℕ) × P frame × (items ≡ old ++ frame) → P items
all_written {P} old items none w = subst P (sym (w.2 ∙ ap (λ (xs : List ℕ). xs ++ w.0) none)) w.1

-- ---- the head of a frame

-- What stands in the head of a frame is of the request for which it was written.
module _ (bytes read : List ℕ) (request : Request) (frame : IsRequestFrame bytes (request_in bytes))
    (is_view : request ≡ request_in bytes) (same : read ≡ bytes) where
  spelled : Spells read frame.message
  spelled = subst (λ (x : List ℕ). Spells x frame.message) (sym same) (spells latest_minor frame.message bytes frame.written)

  pub unique_at : (n : ℕ) → n ≡ number_at 8 8 read → n ≡ request.unique
  unique_at n e = e ∙ spelled.3.1.1.0 ∙ frame.unique ∙ sym (ap (λ (q : Request). q.unique) is_view)

  code_at : (n : ℕ) → n ≡ number_at 4 4 read → n ≡ code_of (asked_opcode request.body)
  code_at n e = e ∙ spelled.3.1.0 ∙ ap (λ (c : RequestContent). code_of (opcode_of c)) frame.content ∙ sym
      (ap (λ (q : Request). code_of (asked_opcode q.body)) is_view)

  pub opcode_at : (n : ℕ) (o : Opcode) → n ≡ number_at 4 4 read → code_of o ≡ n → o ≡ asked_opcode request.body
  opcode_at n o e is = same_code o (asked_opcode request.body) (is ∙ code_at n e)

  pub some_opcode : (n : ℕ) → n ≡ number_at 4 4 read → ((o : Opcode) → code_of o ≡ n → ⊥) → ⊥
  some_opcode n e none = none (asked_opcode request.body) (sym (code_at n e))

  pub has_head : (f : WireFault) → FaultIsAt latest_minor read f → ⊥
  has_head f e = no_fault latest_minor read frame.message f spelled e

-- ---- a minor

-- A minor knows what is asked where it knows the opcode.
knows_same : (minor : Minor) (n : ℕ) (content : RequestContent) (body : RequestBody) → body_in n content ≡ Some body
    → knows minor body ≡ knows_opcode (codec_minor minor) (opcode_of content)
knows_same M31 n content body e = refl
knows_same M15 n (wire.lookup name) body e = sym (ap (λ (b : Option RequestBody). knows M15 (body_or b)) e)
knows_same M15 n (wire.forget nlookup) body e = sym (ap (λ (b : Option RequestBody). knows M15 (body_or b)) e)
knows_same M15 n wire.getattr body e = sym (ap (λ (b : Option RequestBody). knows M15 (body_or b)) e)
knows_same M15 n (wire.mkdir name) body e = sym (ap (λ (b : Option RequestBody). knows M15 (body_or b)) e)
knows_same M15 n (wire.unlink name) body e = sym (ap (λ (b : Option RequestBody). knows M15 (body_or b)) e)
knows_same M15 n (wire.rmdir name) body e = sym (ap (λ (b : Option RequestBody). knows M15 (body_or b)) e)
knows_same M15 n (wire.rename newdir old new) body e = sym (ap (λ (b : Option RequestBody). knows M15 (body_or b)) e)
knows_same M15 n (wire.link oldnodeid name) body e = sym (ap (λ (b : Option RequestBody). knows M15 (body_or b)) e)
knows_same M15 n wire.opening body e = sym (ap (λ (b : Option RequestBody). knows M15 (body_or b)) e)
knows_same M15 n (wire.read fh offset size) body e = sym (ap (λ (b : Option RequestBody). knows M15 (body_or b)) e)
knows_same M15 n (wire.write fh offset bytes) body e = sym (ap (λ (b : Option RequestBody). knows M15 (body_or b)) e)
knows_same M15 n (wire.release fh) body e = sym (ap (λ (b : Option RequestBody). knows M15 (body_or b)) e)
knows_same M15 n (wire.init major minor flags) body e = sym (ap (λ (b : Option RequestBody). knows M15 (body_or b)) e)
knows_same M15 n (wire.readdir offset size) body e = sym (ap (λ (b : Option RequestBody). knows M15 (body_or b)) e)
knows_same M15 n (wire.readdirplus offset size) body e = sym (ap (λ (b : Option RequestBody). knows M15 (body_or b)) e)
knows_same M15 n (wire.create name) body e = sym (ap (λ (b : Option RequestBody). knows M15 (body_or b)) e)
knows_same M15 n (wire.interrupt unique) body e = sym (ap (λ (b : Option RequestBody). knows M15 (body_or b)) e)
knows_same M15 n (wire.batch_forget forgets) body e = sym (ap (λ (b : Option RequestBody). knows M15 (body_or b)) e)

pub said_and_known : (minor : Minor) (bytes : List ℕ) (request : Request) → SaysRequestAt minor bytes request
    → SaysRequest bytes request × (knows minor request.body ≡ true)
said_and_known minor bytes request h =
    let m = h.message in (
      record { message = m; spells = (h.spells.0, refl, h.spells.2, h.spells.3); unique = h.unique; says = h.says },
      knows_same minor m.nodeid m.content request.body h.says ∙ h.spells.1,
    )

pub said_at : (minor : Minor) (bytes : List ℕ) (request : Request)
    → SaysRequest bytes request × (knows minor request.body ≡ true) → SaysRequestAt minor bytes request
said_at minor bytes request h =
    let m = h.0.message in
    let known = sym (knows_same minor m.nodeid m.content request.body h.0.says) ∙ h.1 in
    record {
      message = m;
      spells = (h.0.spells.0, known, h.0.spells.2, h.0.spells.3);
      unique = h.0.unique;
      says = h.0.says;
    }

-- An operation is asked of the node of its request's header.
pub asked_at : (o : Asked (Bor (List ℕ))) → RequestAsks (body_in (header_node o) (request_content_of (body_asking o))) o
asked_at (asked.Lookup d name) = refl
asked_at (asked.Getattr x) = refl
asked_at (asked.Mkdir d name) = refl
asked_at (asked.Create d name) = refl
asked_at (asked.Unlink d name) = refl
asked_at (asked.Rmdir d name) = refl
asked_at (asked.Rename d old e new) = refl
asked_at (asked.Link x d name) = refl
asked_at (asked.Open x) = refl
asked_at (asked.Readdir d after size) = refl
asked_at (asked.Readdirplus d after size) = refl
asked_at (asked.Read opened offset size) = refl
asked_at (asked.Write opened offset bytes) = refl
