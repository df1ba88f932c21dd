-- The last frame of a link.
use Rattle.std.proofs.Common.{◌≡◌, ℕ, ◌+◌, ◌-◌, Bool, true, false, List, [], ◌∷◌, ◌++◌, None, Some, length, get_or, slice_get, refl, ap, sym, ◌∙◌, arith}
use Rattle.std.proofs.Math.Seq.{get_or-append_seam}
use Rattle.std.proofs.lemmas.List.{length-append}
use Rattle.std.proofs.lemmas.Option.{none-some, slice_get-get_or}
use Rattle.fuse_spec.specs.Kernel.Messages.{WireReply}
use Rattle.fuse_spec.specs.Server.Performs.{served}
use Rattle.fuse_spec.specs.Server.Server.{Server}
use Rattle.fs_server.specs.Effects.{SendsAgain, PerformsHeld, first_copy}
use Rattle.fuse_spec.specs.Kernel.Messages.{Request}
use Rattle.fuse_spec.specs.World.Worlds.{World, Sent}
use Rattle.fk_wire.specs.declared.opcode.Opcode.{Opcode}
use Rattle.fuse_frames.specs.RequestTies.{IsRequestFrame, asked_opcode}
use Rattle.fuse_frames.specs.ReplyTies.{IsReplyFrame}
use Rattle.fw_world.specs.Frames.{IsCopyFrame, ShowsRequest, ShowsReply}

-- What a copy's bytes are, as they are read off it.
pub copy_frame : (bytes : List ℕ) (sent : Sent) → (opcode : Opcode)
    × IsReplyFrame opcode bytes (record { unique = sent.unique; wire = sent.wire }) → IsCopyFrame bytes sent
copy_frame bytes sent written = record { opcode = written.0; written = written.1 }

-- Nothing stands last in an empty list alone.
pub none_stands_last : {X : Type 0} (xs : List X) → None ≡ slice_get xs (length xs - 1) → xs ≡ []
none_stands_last [] none = refl
none_stands_last (x ∷ xs) none =
    let there : slice_get (x ∷ xs) (length (x ∷ xs) - 1) ≡ Some (get_or (x ∷ xs) (length (x ∷ xs) - 1) x) =
    slice_get-get_or (x ∷ xs) (length (x ∷ xs) - 1) x (omega arith) in
    absurd (none-some _ (none ∙ there))

-- What was appended stands last.
appended_last : {X : Type 0} (xs : List X) (x : X) → slice_get (xs ++ x ∷ []) (length (xs ++ x ∷ []) - 1) ≡ Some x
appended_last {X} xs x =
    let ys : List X = xs ++ x ∷ [] in
    let long : length ys ≡ length xs + 1 = length-append xs (x ∷ []) in
    let at : length ys - 1 ≡ length xs = omega (arith, long) in
    slice_get-get_or ys (length ys - 1) x (omega (arith, long)) ∙ ap Some
    (ap (λ (i : ℕ). get_or ys i x) at ∙ get_or-append_seam xs x [] x)

-- What is said of a request that was put.
pub shows_request : (w : World) (before : List Request) (request : Request) (unique : ℕ) (opcode : Opcode) (len : ℕ)
    → w.requests ≡ before ++ request ∷ [] → unique ≡ request.unique → opcode ≡ asked_opcode request.body
    → (bytes : List ℕ) × IsRequestFrame bytes request × (len ≡ length bytes) → ShowsRequest w unique opcode len
shows_request w before request unique opcode len put under asks told = record {
  request = request;
  last = ap (λ (rs : List Request). slice_get rs (length rs - 1)) put ∙ appended_last before request;
  under = under;
  asks = asks;
  bytes = told.0;
  frame = told.1;
  long = told.2;
}

-- What is said of a copy that was put.
pub shows_reply : (w : World) (before : List Sent) (sent : Sent) (unique len : ℕ) → w.replies ≡ before ++ sent ∷ []
    → unique ≡ sent.unique → (bytes : List ℕ) × IsCopyFrame bytes sent × (len ≡ length bytes) → ShowsReply w unique len
shows_reply w before sent unique len put under told = record {
  sent = sent;
  last = ap (λ (cs : List Sent). slice_get cs (length cs - 1)) put ∙ appended_last before sent;
  under = under;
  bytes = told.0;
  frame = told.1;
  long = told.2;
}

pub again_under : (s : Server) (unique : ℕ) (copy : Sent) (new : Server) → SendsAgain s unique copy new
    → unique ≡ copy.unique
again_under s unique copy new sends = sym (ap (λ (c : Sent). c.unique) sends.copy_is)

first_under : (aborted : Bool) (number unique : ℕ) (wire : WireReply) (copy : Sent)
    → Some copy ≡ first_copy aborted number unique wire → unique ≡ copy.unique
first_under true number unique wire copy is = absurd (cc is)
first_under false number unique wire copy is = let same : ◌≡◌ {A = Sent} copy
    (record { number = number; unique = unique; wire = wire }) = cc is in sym (ap (λ (c : Sent). c.unique) same)

live_first : (aborted : Bool) (number unique : ℕ) (wire : WireReply) (copy : Sent)
    → Some copy ≡ first_copy aborted number unique wire → aborted ≡ false
live_first true number unique wire copy is = absurd (cc is)
live_first false number unique wire copy is = refl

-- A copy is sent while the mount is not aborted.
pub performed_live : (s : Server) (unique errno : ℕ) (copy : Sent) (new : Server)
    → PerformsHeld s unique errno (Some copy) new → s.aborted ≡ false
performed_live s unique errno copy new does = live_first s.aborted s.next_copy unique
    (served does.choice s unique does.held).wire copy does.copy_is

pub performed_under : (s : Server) (unique errno : ℕ) (copy : Sent) (new : Server)
    → PerformsHeld s unique errno (Some copy) new → unique ≡ copy.unique
performed_under s unique errno copy new does = first_under s.aborted s.next_copy unique
    (served does.choice s unique does.held).wire copy does.copy_is
