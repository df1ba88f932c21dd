-- How a kernel drives a server that stands behind a device.
use Rattle.std.specs.Prelude.{◌≡◌, ◌≢◌, ◌<◌, ◌^◌, ◌+◌, ℕ, ℤ, Bool, true, false, List, [], ◌∷◌, ◌++◌, All, None}
use Rattle.fuse_spec.specs.declared.Opened.{Opened}
use Rattle.fuse_spec.specs.declared.WriteResult.{WriteResult}
use Rattle.fuse_spec.specs.Kernel.Kernel.{Kernel}
use Rattle.fuse_spec.specs.Kernel.Messages.{Request}
use Rattle.fuse_spec.specs.World.Worlds.{first_kernel}
use Rattle.fk_wire.specs.Fields.{number_at}
use Rattle.fk_wire.specs.Replies.{WrittenReply, empty_reply}
use Rattle.fuse_frames.specs.RequestTies.{SaysRequest}
use Rattle.fuse_frames.specs.DecodedReplies.{HasReplyHead, head_unique}
use Rattle.fk_kernel.specs.Picks.{IsPicked, after_pick, pick_refusal}
use Rattle.fk_kernel.specs.declared.read.Pick.{Pick}
use Rattle.fuse_device.specs.Transfers.{Transfer, received, sent, unsent, stopped}
use Rattle.fuse_device.specs.declared.device.DeviceEnd.{DeviceEnd}
use Rattle.fk_drive_frames.specs.Agreements.{IsHandedOn}
use Rattle.fk_drive_frames.specs.Asides.{IsOtherFrame}
use Rattle.fk_drive.specs.KernelSteps.{ActsAlone, IsReplyTaken}
use Rattle.fk_drive_frames.specs.OwnRequests.{GivesError, GivesHandle, GivesNothing, IsOpendir, IsReleasedir, ListsNode, first_opendir_unique, eio_error, not_known}

-- What becomes of a request that the kernel's read gave, until it is sent, and which reply is awaited before the next.
pub data Turn : Type 0 where
  -- There is none, and no reply is awaited.
  idle : Turn
  -- It was read.
  picked : Request → Turn
  -- It lists this node, and OPENDIR of it was sent before, under this number.
  opening : Request → (unique node : ℕ) → Turn
  -- OPENDIR gave this fh.
  opened : Request → (fh : ℕ) → Turn
  -- OPENDIR was answered this error.
  unopened : Request → ℤ → Turn
  -- RELEASEDIR was sent under this number, and its reply is awaited.
  releasing : (unique : ℕ) → Turn

-- The kernel, and what is kept of its connection to the server.
pub record Driven : Type 0 where
  pub kernel : Kernel
  -- the frames that were received and wait for the kernel, in order
  pub waiting : List (List ℕ)
  -- the number of the next request that is not the kernel's
  pub next : ℕ
  -- whether OPENDIR is asked
  pub asks : Bool
  -- the open directories, each with the number of the READDIR or READDIRPLUS for which it was opened
  pub directories : List (ℕ × Opened)
  pub turn : Turn

-- before the first mount
abbrev pub first_driven : Bool → Driven
first_driven asks = record {
  kernel = first_kernel;
  waiting = [];
  next = first_opendir_unique;
  asks = asks;
  directories = [];
  turn = idle;
}

-- A frame says this request, and where it is a GETATTR it names no open file. (linux/fuse.h, struct fuse_getattr_in)
pub record IsSentFrame (frame : List ℕ) (request : Request) : Type 0 where
  pub says : SaysRequest frame request
  pub names_no_file : number_at 4 4 frame ≡ 3 → number_at 40 4 frame ≡ 0

-- These bytes are sent, with some result, or the device ends at it.
pub data SendsFrame (bytes : List ℕ) : List Transfer → Type 0 where
  with_result : (result : WriteResult) → SendsFrame bytes (sent bytes result ∷ [])
  at_end : (end : DeviceEnd) → SendsFrame bytes (unsent bytes end ∷ [])

-- RELEASEDIR goes behind a frame that is the reply to what listed an open directory, under the number that comes next,
-- while there is one, and its reply is awaited then. Of two directories under one number it is the first.
pub data ReleasesBehind (frame : List ℕ) (next : ℕ) (directories : List (ℕ × Opened))
    : List Transfer → ℕ → List (ℕ × Opened) → Turn → Type 0 where
  releases : HasReplyHead frame → next < 2 ^ 63 → (before after : List (ℕ × Opened)) (directory : Opened)
      → directories ≡ before ++ (head_unique frame, directory) ∷ after → All (λ d. d.0 ≢ head_unique frame) before
      → (bytes : List ℕ) → IsReleasedir bytes next directory → (log : List Transfer) → SendsFrame bytes log
      → ReleasesBehind frame next directories log (next + 2) (before ++ after) (releasing next)
  releases_none : (HasReplyHead frame → next < 2 ^ 63 → All (λ d. d.0 ≢ head_unique frame) directories)
      → ReleasesBehind frame next directories [] next directories idle

-- One step, and what goes over the device at it.
pub data DriveStep (old : Driven) : List Transfer → Driven → Type 0 where
  -- The kernel does something without its server.
  alone : (new : Kernel) → ActsAlone old.kernel new → DriveStep old [] (record old { kernel = new })
  -- A request is read from the kernel, once each reply that was awaited came.
  reads : old.turn ≡ idle → (pick : Pick) → pick_refusal old.kernel pick ≡ None → (request : Request)
      → IsPicked old.kernel pick request → DriveStep old [] (record old {
        kernel = record old.kernel { queues = after_pick old.kernel.queues pick };
        turn = picked request;
      })
  -- It is sent, in a frame that spells it, unless OPENDIR goes before it.
  sends : (request : Request) → old.turn ≡ picked request
      → (old.asks ≡ true → old.next < 2 ^ 63 → (node : ℕ) → ListsNode request.body node → ⊥)
      → (frame : List ℕ) → IsSentFrame frame request → (log : List Transfer) → SendsFrame frame log
      → DriveStep old log (record old { turn = idle })
  -- Before one that lists a directory, OPENDIR is sent where it is asked, under a number that the kernel never allocates,
  -- while there is one.
  opens : (request : Request) → old.turn ≡ picked request → old.asks ≡ true → old.next < 2 ^ 63
      → (node : ℕ) → ListsNode request.body node → (frame : List ℕ) → IsOpendir frame old.next node
      → (log : List Transfer) → SendsFrame frame log
      → DriveStep old log (record old { next = old.next + 2; turn = opening request old.next node })
  -- OPENDIR is answered: with an fh; with ENOSYS, and is not asked again; with another error; or with what is no reply
  -- to it, which counts as EIO (this project's rule).
  is_given : (request : Request) (unique node : ℕ) → old.turn ≡ opening request unique node → (frame : List ℕ) (fh : ℕ)
      → GivesHandle frame unique fh → DriveStep old (received frame ∷ []) (record old {
        directories = old.directories ++ (request.unique, record { nodeid = node; fh = fh }) ∷ [];
        turn = opened request fh;
      })
  is_not_known : (request : Request) (unique node : ℕ) → old.turn ≡ opening request unique node → (frame : List ℕ)
      → GivesError frame unique not_known
      → DriveStep old (received frame ∷ []) (record old { asks = false; turn = picked request })
  is_refused : (request : Request) (unique node : ℕ) → old.turn ≡ opening request unique node → (frame : List ℕ)
      → (error : ℤ) → error ≢ not_known → GivesError frame unique error
      → DriveStep old (received frame ∷ []) (record old { turn = unopened request error })
  is_garbled : (request : Request) (unique node : ℕ) → old.turn ≡ opening request unique node → (frame : List ℕ)
      → HasReplyHead frame → head_unique frame ≡ unique → GivesNothing frame
      → DriveStep old (received frame ∷ []) (record old { turn = unopened request eio_error })
  -- What lists an open directory is sent with its fh.
  sends_opened : (request : Request) (fh : ℕ) → old.turn ≡ opened request fh → (frame : List ℕ)
      → IsSentFrame frame request → number_at 40 8 frame ≡ fh → (log : List Transfer) → SendsFrame frame log
      → DriveStep old log (record old { turn = idle })
  -- What lists one that could not be opened is not sent: the kernel takes that error as its reply.
  answers : (request : Request) (error : ℤ) → old.turn ≡ unopened request error → (bytes : List ℕ)
      → WrittenReply (record { unique = request.unique; error = error; content = empty_reply }) bytes
      → (result : WriteResult) (new : Kernel) → IsReplyTaken old.kernel bytes result new
      → DriveStep old [] (record old { kernel = new; turn = idle })
  -- A frame is received that is for the kernel: it waits behind those that came before it.
  waits : (frame : List ℕ) → (IsOtherFrame old.next frame → ⊥)
      → DriveStep old (received frame ∷ []) (record old { waiting = old.waiting ++ frame ∷ [] })
  -- One is received that is not for the kernel, and is set aside.
  sets_aside : (frame : List ℕ) → IsOtherFrame old.next frame → DriveStep old (received frame ∷ []) old
  -- The first frame that waits is written to the kernel, and RELEASEDIR goes behind it where it is the reply to what
  -- listed an open directory.
  writes : old.turn ≡ idle → (frame : List ℕ) (rest : List (List ℕ)) → old.waiting ≡ frame ∷ rest → (handed : List ℕ)
      → IsHandedOn frame handed → (result : WriteResult) (new : Kernel) → IsReplyTaken old.kernel handed result new
      → (log : List Transfer) (next : ℕ) (directories : List (ℕ × Opened)) (turn : Turn)
      → ReleasesBehind frame old.next old.directories log next directories turn → DriveStep old log (record old {
        kernel = new;
        waiting = rest;
        next = next;
        directories = directories;
        turn = turn;
      })
  -- RELEASEDIR is answered, whatever the reply says.
  is_released : (unique : ℕ) → old.turn ≡ releasing unique → (frame : List ℕ) → HasReplyHead frame
      → head_unique frame ≡ unique → DriveStep old (received frame ∷ []) (record old { turn = idle })
  -- The device ends as a frame is to be received.
  ends : (end : DeviceEnd) → DriveStep old (stopped end ∷ []) old

-- Steps of one kind follow one another.
pub data Runs {S : Type 0} (Step : S → List Transfer → S → Type 0) (old : S) : List Transfer → S → Type 0 where
  nothing : Runs Step old [] old
  next : (before : List Transfer) (mid : S) → Runs Step old before mid → (log : List Transfer) (new : S)
      → Step mid log new → Runs Step old (before ++ log) new

-- All that went over a device is so driven, one step after another.
abbrev pub Drives : Driven → List Transfer → Driven → Type 0
Drives = Runs DriveStep

-- What went over a device from one of its states to another is so driven.
abbrev pub DrivesOver : {D : Type 0} → (D → D → List Transfer → Type 0) → D → D → Driven → Driven → Type 0
DrivesOver logs old_device new_device old new = (log : List Transfer) × logs old_device new_device log × Drives old log new
