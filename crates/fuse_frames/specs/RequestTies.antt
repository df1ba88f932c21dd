-- A request as its frame spells it, and as the machine of kernel and server has it.
use Rattle.std.specs.Prelude.{◌≡◌, ℕ, List, Option, Some, None}
use Rattle.std.specs.Borrow.{Bor}
use Rattle.fk_wire.specs.declared.opcode.Opcode.{Opcode}
use Rattle.fk_wire.specs.Requests as wire
use Rattle.fk_wire.specs.declared.opcode.Minor.{Minor as CodecMinor}
use Rattle.fk_wire.specs.declared.opcode.Minor.TheVariants as minors
use Rattle.fk_wire.specs.Requests.{RequestContent, RequestMessage, SpellsAt, Written, opcode_of, decoded}
use Rattle.fuse_spec.specs.declared.Minor.{Minor}
use Rattle.fuse_spec.specs.declared.Minor.TheVariants.{M15, M31}
use Rattle.fuse_spec.specs.Files.Operations as operation
use Rattle.fuse_spec.specs.Files.Operations.{operation_of}
use Rattle.fuse_spec.specs.Files.Operations.{Asked}
use Rattle.fuse_spec.specs.Kernel.Messages.{RequestBody, Request, init, asks, release, forget, batch_forget, interrupt}

-- what a request of a node asks, if the machine has it
abbrev pub body_in : ℕ → RequestContent → Option RequestBody
body_in nodeid (wire.lookup name) = Some (asks (operation.lookup nodeid name))
body_in nodeid (wire.forget nlookup) = Some (forget (nodeid, nlookup))
body_in nodeid wire.getattr = Some (asks (operation.getattr nodeid))
body_in nodeid (wire.mkdir name) = Some (asks (operation.mkdir nodeid name))
body_in nodeid (wire.unlink name) = Some (asks (operation.unlink nodeid name))
body_in nodeid (wire.rmdir name) = Some (asks (operation.rmdir nodeid name))
body_in nodeid (wire.rename newdir old new) = Some (asks (operation.rename nodeid old newdir new))
body_in nodeid (wire.link oldnodeid name) = Some (asks (operation.link oldnodeid nodeid name))
body_in nodeid wire.opening = Some (asks (operation.opening nodeid))
body_in nodeid (wire.read fh offset size) = Some
    (asks (operation.read (record { nodeid = nodeid; fh = fh }) offset size))
body_in nodeid (wire.write fh offset bytes) = Some
    (asks (operation.write (record { nodeid = nodeid; fh = fh }) offset bytes))
body_in nodeid (wire.release fh) = Some (release (record { nodeid = nodeid; fh = fh }))
body_in nodeid (wire.init major minor flags) = Some (init flags)
body_in nodeid (wire.readdir offset size) = Some (asks (operation.readdir nodeid offset size))
body_in nodeid (wire.readdirplus offset size) = Some (asks (operation.readdirplus nodeid offset size))
body_in nodeid (wire.create name) = Some (asks (operation.create nodeid name))
body_in nodeid (wire.interrupt unique) = Some (interrupt unique)
body_in nodeid (wire.batch_forget forgets) = Some (batch_forget forgets)

-- The body of the request that asks an operation, whose names and bytes are borrowed.
abbrev pub body_asking : Asked (Bor (List ℕ)) → RequestBody
body_asking operation = asks (operation_of (λ s. s.now) operation)

-- What a request asks is this operation.
abbrev pub RequestAsks : Option RequestBody → Asked (Bor (List ℕ)) → Type 0
RequestAsks asked operation = asked ≡ Some (body_asking operation)

-- What a request asks is no operation.
abbrev pub AsksNothing : Option RequestBody → Type 0
AsksNothing None = ⊥
AsksNothing (Some (asks operation)) = ⊥
AsksNothing (Some body) = Unit {0}

-- A request asks for bytes of an open file, or puts bytes there.
abbrev pub IsTransfer : RequestContent → Type 0
IsTransfer (wire.read fh offset size) = Unit {0}
IsTransfer (wire.write fh offset bytes) = Unit {0}
IsTransfer content = ⊥

-- How a request is written. INIT is of version 7.31, with the flags that it offers.
abbrev pub request_content_of : RequestBody → RequestContent
request_content_of (init flags) = wire.init 7 31 flags
request_content_of (asks (operation.lookup d name)) = wire.lookup name
request_content_of (asks (operation.getattr x)) = wire.getattr
request_content_of (asks (operation.mkdir d name)) = wire.mkdir name
request_content_of (asks (operation.create d name)) = wire.create name
request_content_of (asks (operation.unlink d name)) = wire.unlink name
request_content_of (asks (operation.rmdir d name)) = wire.rmdir name
request_content_of (asks (operation.rename d old e new)) = wire.rename e old new
request_content_of (asks (operation.link x d name)) = wire.link x name
request_content_of (asks (operation.opening x)) = wire.opening
request_content_of (asks (operation.readdir d after size)) = wire.readdir after size
request_content_of (asks (operation.readdirplus d after size)) = wire.readdirplus after size
request_content_of (asks (operation.read o offset size)) = wire.read o.fh offset size
request_content_of (asks (operation.write o offset bytes)) = wire.write o.fh offset bytes
request_content_of (release o) = wire.release o.fh
request_content_of (forget f) = wire.forget f.1
request_content_of (batch_forget fs) = wire.batch_forget fs
request_content_of (interrupt original) = wire.interrupt original

-- the opcode of a request that asks this
abbrev pub asked_opcode : RequestBody → Opcode
asked_opcode body = opcode_of (request_content_of body)

-- A minor as the codec names it.
abbrev pub codec_minor : Minor → CodecMinor
codec_minor M15 = minors.M15
codec_minor M31 = minors.M31

-- The bytes spell this request, at a minor: the opcodes that it doesn't know spell none.
pub record SaysRequestAt (minor : Minor) (bytes : List ℕ) (request : Request) : Type 0 where
  pub message : RequestMessage
  pub spells : SpellsAt (codec_minor minor) bytes message
  pub unique : message.unique ≡ request.unique
  pub says : body_in message.nodeid message.content ≡ Some request.body

-- The bytes spell this request at 7.31, whose opcodes are all that there are.
abbrev pub SaysRequest : List ℕ → Request → Type 0
SaysRequest = SaysRequestAt M31

-- The bytes are the one frame in which this request is written.
pub record IsRequestFrame (bytes : List ℕ) (request : Request) : Type 0 where
  pub message : RequestMessage
  pub written : Written message bytes
  pub unique : message.unique ≡ request.unique
  pub says : body_in message.nodeid message.content ≡ Some request.body
  pub content : message.content ≡ request_content_of request.body

abbrev pub body_or : Option RequestBody → RequestBody
body_or None = init 0
body_or (Some body) = body

-- What the bytes say, where they say anything.
unfoldable pub request_in : List ℕ → Request
request_in bytes = record {
  unique = (decoded bytes).unique;
  body = body_or (body_in (decoded bytes).nodeid (decoded bytes).content);
}
