-- What the frames of requests say.
use Rattle.std.proofs.Common.{◌≡◌, ℕ, List, Some, sym, subst, ap, ◌∙◌}
use Rattle.fk_wire.specs.declared.opcode.Minor.{Minor}
use Rattle.fk_wire.specs.Opcodes.{latest_minor}
use Rattle.fk_wire.specs.Requests as wire
use Rattle.fk_wire.specs.Requests.{RequestContent, RequestMessage, Spells, SpellsAt, WrittenAt, decoded}
use Rattle.fuse_spec.specs.Kernel.Messages.{Request, RequestBody}
use Rattle.fuse_frames.specs.RequestTies.{IsRequestFrame, SaysRequest, body_in, body_or, request_content_of}
use Rattle.fk_drive_frames.specs.Filling.{FillsFor, IsListing}
use Rattle.fk_drive_frames.specs.OwnRequests.{ListsNode, readdir, readdirplus}
use Rattle.fk_drive_frames.specs.declared.filling.FreeFields.{FreeFields}
use Rattle.fk_drive.specs.Steps.{IsSentFor}

-- The frame in which a request is written says it.
pub says_of : ((minor : Minor) (m : RequestMessage) (bytes : List ℕ) → WrittenAt minor m bytes → SpellsAt minor bytes m)
    → (bytes : List ℕ) (request : Request) → IsRequestFrame bytes request → SaysRequest bytes request
says_of spells bytes request is = record {
  message = is.message;
  spells = spells latest_minor is.message bytes is.written;
  unique = is.unique;
  says = is.says;
}

lists_in : (node : ℕ) (content : RequestContent) (body : RequestBody) → IsListing content
    → body_in node content ≡ Some body → ListsNode body node
lists_in node (wire.readdir after size) body is says =
    subst (λ (b : RequestBody). ListsNode b node) (ap body_or says) (readdir node after size)
lists_in node (wire.readdirplus after size) body is says =
    subst (λ (b : RequestBody). ListsNode b node) (ap body_or says) (readdirplus node after size)
lists_in node other body is says = absurd is

-- What a frame says lists the node, where the frame spells what lists it.
pub lists_of : ((minor : Minor) (bytes : List ℕ) (m : RequestMessage) → SpellsAt minor bytes m → decoded bytes ≡ m)
    → (bytes : List ℕ) (node : ℕ) → (m : RequestMessage) × Spells bytes m × (m.nodeid ≡ node) × IsListing m.content
    → (request : Request) → SaysRequest bytes request → ListsNode request.body node
lists_of decodes bytes node (m, spells, about, is) request says =
    let same : m ≡ says.message = sym (decodes latest_minor bytes m spells) ∙ decodes latest_minor bytes says.message says.spells in
    let listing = subst (λ (n : RequestMessage). IsListing n.content) same is in
    let at : says.message.nodeid ≡ node = sym (ap (λ (n : RequestMessage). n.nodeid) same) ∙ about in
    subst (λ (n : ℕ). ListsNode request.body n) at (lists_in says.message.nodeid says.message.content request.body listing says.says)

lists_content : (body : RequestBody) (node : ℕ) → ListsNode body node → IsListing (request_content_of body)
lists_content _ _ (readdir node after size) = tt
lists_content _ _ (readdirplus node after size) = tt

-- The frame of what lists a directory spells that.
pub not_listed : ((minor : Minor) (m : RequestMessage) (bytes : List ℕ) → WrittenAt minor m bytes → SpellsAt minor bytes m)
    → (bytes : List ℕ) (request : Request) → IsRequestFrame bytes request
    → ((m : RequestMessage) → Spells bytes m → IsListing m.content → ⊥) → (node : ℕ) → ListsNode request.body node → ⊥
not_listed spells bytes request is none node lists =
    none is.message (spells latest_minor is.message bytes is.written)
    (subst IsListing (sym is.content) (lists_content request.body node lists))

-- A frame that is filled for what the kernel's spells.
pub sent_for : ((minor : Minor) (m : RequestMessage) (bytes : List ℕ) → WrittenAt minor m bytes → SpellsAt minor bytes m)
    → (bytes : List ℕ) (request : Request) → IsRequestFrame bytes request → (free_fields : FreeFields) (frame : List ℕ)
    → ((m : RequestMessage) → Spells bytes m → FillsFor m.content free_fields bytes frame)
    → IsSentFor request free_fields frame
sent_for spells bytes request is free_fields frame filled = record {
  read = bytes;
  is = is;
  filled = subst (λ (content : RequestContent). FillsFor content free_fields bytes frame) is.content
      (filled is.message (spells latest_minor is.message bytes is.written));
}
