-- The moves of a driven run.
use Rattle.std.specs.Prelude.{◌≡◌, ◌++◌, ◌∷◌, [], ℕ, List, All, Option, Some, None, Result, Ok, Err, slice_get}
use Rattle.fuse_spec.specs.declared.NodeCount.{NodeCount}
use Rattle.fuse_spec.specs.declared.Refusal.{Refusal}
use Rattle.fuse_spec.specs.Kernel.Messages.{Request}
use Rattle.fuse_spec.specs.Values.Maps.{remove}
use Rattle.fuse_device.specs.Transfers.{Transfer}
use Rattle.fk_syscalls.specs.Values.{answer_of}
use Rattle.fk_syscalls.specs.declared.call.Answer.{Answer}
use Rattle.fk_kernel.specs.declared.read.Pick.{Pick}
use Rattle.fk_drive_frames.specs.declared.filling.FreeFields.{FreeFields}
use Rattle.fk_drive.specs.Driving.{Driven, idle}
use Rattle.fk_drive.specs.Sending.{SendsNext}
use Rattle.fk_drive.specs.Writing.{WritesNext}
use Rattle.fk_drive.specs.declared.end.DriveEnd.{DriveEnd}
use Rattle.fk_drive.specs.declared.end.NotSent.{NotSent}
use Rattle.fk_drive.specs.declared.end.NotSent.TheVariants.{Ended}
use Rattle.fk_drive.specs.declared.writing.Written.{Written}
use Rattle.fk_lookup_count.specs.CountedNodes.{listed_counts}
use Rattle.fw_world.specs.declared.event.Event.{Event}
use Rattle.fw_world.specs.declared.event.Outcome.{Outcome}
use Rattle.fw_world.specs.Acts.{Acts}
use Rattle.fw_drive.specs.Notes.{Note}

-- A move, with what it results in.
pub data Move (A : Type 0) : Type 0 where
  -- An event happens that needs no server.
  acts : Event → Result Outcome Refusal → Move A
  -- A request is read from the kernel, and sent with these free fields.
  sends : Pick → FreeFields → Result Request NotSent → Move A
  -- The next frame of the server is written to the kernel.
  writes : Result (Result (Written A) Refusal) DriveEnd → Move A
  -- The answer of a call is collected.
  collects : ℕ → Answer A → Move A
  -- The nodes are shown that the kernel counts.
  shows : List NodeCount → Move A
  -- Something else is said.
  notes : Note A → Move A

-- A move makes this of what is driven, and this goes over the device at it.
abbrev pub Moves : {A : Type 0} → Driven → Move A → List Transfer → Driven → Type 0
Moves old (acts event (Ok outcome)) log new =
    (log ≡ []) × Acts old.kernel event outcome new.kernel × (new ≡ record old { kernel = new.kernel })
Moves old (acts event (Err refusal)) log new = (log ≡ []) × (new ≡ old)
Moves old (sends pick free_fields result) log new = SendsNext result pick free_fields old log new
Moves old (writes result) log new = WritesNext result old log new
Moves old (collects call answer) log new =
    (log ≡ []) × (slice_get old.kernel.vfs.answers 0 ≡ Some (call, answer_of answer)) × (new ≡ record old {
      kernel = record old.kernel { vfs = record old.kernel.vfs { answers = remove old.kernel.vfs.answers call } };
    })
Moves old (shows nodes) log new = (log ≡ []) × (nodes ≡ listed_counts old.kernel.nodes) × (new ≡ old)
Moves old (notes note) log new = (log ≡ []) × (new ≡ old)

-- no answer waits
abbrev pub IsSettled : Driven → Type 0
IsSettled driven = driven.kernel.vfs.answers ≡ []

-- Before any move that does something the answers are collected that wait.
abbrev pub IsDue : {A : Type 0} → Driven → Move A → Type 0
IsDue old (collects call answer) = Unit {0}
IsDue old (notes note) = Unit {0}
IsDue old move = IsSettled old

-- A move that does something is made between requests.
abbrev pub IsBetween : {A : Type 0} → Driven → Move A → Type 0
IsBetween old (notes note) = Unit {0}
IsBetween old move = old.turn ≡ idle

-- Moves follow one another.
pub data MovesOn {A : Type 0} (old : Driven) : List (Move A) → List Transfer → Driven → Type 0 where
  no_move : MovesOn old [] [] old
  next_move : (moves : List (Move A)) (before : List Transfer) (mid : Driven) → MovesOn old moves before mid
      → (move : Move A) → IsBetween mid move → IsDue mid move → (log : List Transfer) (new : Driven) → Moves mid move log new
      → MovesOn old (moves ++ move ∷ []) (before ++ log) new

-- Why the run came to its end at a move, if it did.
abbrev pub end_of : {A : Type 0} → Move A → Option DriveEnd
end_of (sends pick free_fields (Err (Ended end))) = Some end
end_of (writes (Err end)) = Some end
end_of (writes (Ok (Ok written))) = written.end
end_of other = None

-- It came to its end at none of these.
abbrev pub GoOn : {A : Type 0} → List (Move A) → Type 0
GoOn moves = All (λ move. end_of move ≡ None) moves

-- something is said
abbrev pub IsNote : {A : Type 0} → Move A → Type 0
IsNote (notes note) = Unit {0}
IsNote move = ⊥
