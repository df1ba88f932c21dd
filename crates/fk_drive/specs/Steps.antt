-- Which steps a call makes.
use Rattle.std.specs.Prelude.{◌≡◌, List, [], ℕ}
use Rattle.fuse_spec.specs.Kernel.Messages.{Request}
use Rattle.fuse_frames.specs.DecodedReplies.{HasReplyHead, head_unique}
use Rattle.fuse_frames.specs.RequestTies.{IsRequestFrame, request_content_of}
use Rattle.fuse_device.specs.Transfers.{Transfer}
use Rattle.fk_drive_frames.specs.Filling.{ChangesOnly, FillsFor}
use Rattle.fk_drive_frames.specs.declared.filling.FreeFields.{FreeFields}
use Rattle.fk_drive.specs.Driving.{Driven, DriveStep, Turn, opening, sends, opens, is_given, is_not_known, is_refused, is_garbled, sends_opened, answers, waits, sets_aside, ends}

-- This frame is received, and waits for the kernel or is set aside.
abbrev pub IsKept : List ℕ → {old : Driven} {log : List Transfer} {new : Driven} → DriveStep old log new → Type 0
IsKept frame (waits kept is) = kept ≡ frame
IsKept frame (sets_aside kept is) = kept ≡ frame
IsKept frame step = ⊥

-- A frame is received so, or the device ends.
abbrev pub IsReceiving : {old : Driven} {log : List Transfer} {new : Driven} → DriveStep old log new → Type 0
IsReceiving (waits frame is) = Unit {0}
IsReceiving (sets_aside frame is) = Unit {0}
IsReceiving (ends end) = Unit {0}
IsReceiving step = ⊥

-- That, while no frame waits.
abbrev pub ReceiveStep : Driven → List Transfer → Driven → Type 0
ReceiveStep old log new = (old.waiting ≡ []) × (step : DriveStep old log new) × IsReceiving step

-- A frame is the kernel's for this request, but for the fields that are free: those are as chosen.
pub record IsSentFor (request : Request) (free_fields : FreeFields) (frame : List ℕ) : Type 0 where
  pub read : List ℕ
  pub is : IsRequestFrame read request
  pub filled : FillsFor (request_content_of request.body) free_fields read frame

-- It is the kernel's for this request, but for the fh.
pub record IsListedFor (request : Request) (frame : List ℕ) : Type 0 where
  pub read : List ℕ
  pub is : IsRequestFrame read request
  pub only : ChangesOnly 40 8 read frame

-- The reply to OPENDIR is awaited.
abbrev pub IsAwaiting : Turn → Type 0
IsAwaiting (opening request unique node) = Unit {0}
IsAwaiting turn = ⊥

-- That, and this frame is another.
abbrev pub IsStillAwaiting : Turn → List ℕ → Type 0
IsStillAwaiting (opening request unique node) frame = HasReplyHead frame → head_unique frame ≡ unique → ⊥
IsStillAwaiting turn frame = ⊥

-- A request that was read is sent, with these free fields, or the kernel takes an error for it; before that OPENDIR is
-- sent, and frames are received until its reply.
abbrev pub IsSending : FreeFields → {old : Driven} {log : List Transfer} {new : Driven} → DriveStep old log new → Type 0
IsSending free_fields (sends request turn unopened frame says log sent) = IsSentFor request free_fields frame
IsSending free_fields (sends_opened request fh turn frame says handle log sent) = IsListedFor request frame
IsSending free_fields (answers request error turn bytes reply result new taken) = Unit {0}
IsSending free_fields (opens request turn asked left node lists frame is log sent) = Unit {0}
IsSending free_fields (is_given request unique node turn frame fh gives) = Unit {0}
IsSending free_fields (is_not_known request unique node turn frame gives) = Unit {0}
IsSending free_fields (is_refused request unique node turn frame error other gives) = Unit {0}
IsSending free_fields (is_garbled request unique node turn frame head under gives) = Unit {0}
IsSending free_fields {old = old} (waits frame is) = IsStillAwaiting old.turn frame
IsSending free_fields {old = old} (sets_aside frame is) = IsStillAwaiting old.turn frame
IsSending free_fields {old = old} (ends end) = IsAwaiting old.turn
IsSending free_fields step = ⊥

abbrev pub SendStep : FreeFields → Driven → List Transfer → Driven → Type 0
SendStep free_fields old log new = (step : DriveStep old log new) × IsSending free_fields step
