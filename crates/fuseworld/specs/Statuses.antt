-- The exit statuses of the program.
use Rattle.std.specs.Prelude.{◌≡◌, ◌⊎◌, ℕ, true, false, List, [], ◌∷◌, Option, Some, None, Contains}
use Rattle.clap.specs.Words.{App, IsAmong, Text, fault_of, subcommand_of}
use Rattle.clap.specs.declared.error.kind.ErrorKind.{ErrorKind}
use Rattle.clap.specs.declared.error.kind.ErrorKind.TheVariants.{DisplayVersion, OutOfMemory}
use Rattle.fw_check.specs.declared.options.CheckOptions.{CheckOptions}
use Rattle.fw_tasks.specs.DriveWords.{go_together}
use Rattle.fuseworld.specs.ServeStatuses.{drive_statuses, serve_statuses}
use Rattle.fw_tasks.specs.Tasks.{AsksFor, options_of}
use Rattle.fw_tasks.specs.Values.{IsOffer}
use Rattle.fuseworld.specs.declared.capture.CaptureTask.{CaptureTask}
use Rattle.fuseworld.specs.declared.capture.CaptureTask.TheVariants as capture
use Rattle.fw_tasks.specs.declared.check_words.CheckTask.{CheckTask}
use Rattle.fw_tasks.specs.declared.command.Task.{Task}
use Rattle.fw_tasks.specs.declared.command.Task.TheVariants as task
use Rattle.fuseworld.specs.declared.doing.InputTask.{InputTask}
use Rattle.fuseworld.specs.declared.doing.InputTask.TheVariants as input
use Rattle.fw_tasks.specs.declared.frame_tasks.FrameTask.{FrameTask}
use Rattle.fw_tasks.specs.declared.frame_tasks.FrameTask.TheVariants as frame

-- the exit statuses of a task on one input
abbrev pub input_statuses : InputTask → List ℕ
input_statuses (input.Script name hex) = 0 ∷ 1 ∷ 3 ∷ 5 ∷ []
input_statuses (input.Picture name) = 0 ∷ 1 ∷ 3 ∷ 5 ∷ []
input_statuses (input.Frame hex words) = 0 ∷ 1 ∷ 3 ∷ 5 ∷ []
input_statuses (input.AnyFrame hex) = 0 ∷ 1 ∷ 3 ∷ 5 ∷ []
input_statuses (input.Reply name hex) = 0 ∷ 1 ∷ 2 ∷ 3 ∷ 5 ∷ []
input_statuses (input.AnyReply name asked hex) = 0 ∷ 1 ∷ 2 ∷ 3 ∷ 5 ∷ []
input_statuses input.Vectors = 0 ∷ 3 ∷ 5 ∷ []
input_statuses input.AllVectors = 0 ∷ 3 ∷ 5 ∷ []

-- the exit statuses of a command on a capture
abbrev pub capture_statuses : CaptureTask → List ℕ
capture_statuses capture.Decode = 0 ∷ 1 ∷ 3 ∷ 5 ∷ []
capture_statuses (capture.Sequence around) = 0 ∷ 1 ∷ 3 ∷ 5 ∷ []
capture_statuses (capture.Check o) = 0 ∷ 1 ∷ 3 ∷ 5 ∷ 6 ∷ []

-- the exit statuses of a check: 2 where two parties alone are asked for, or the life of a node in JSON or beside the table
abbrev pub statuses_with : Option CheckOptions → List ℕ
statuses_with None = 2 ∷ []
statuses_with (Some o) = capture_statuses (capture.Check o)

abbrev pub check_statuses : CheckTask → List ℕ
check_statuses t = statuses_with (options_of t)

-- the exit statuses of a command on frames
abbrev pub frame_statuses : FrameTask → List ℕ
frame_statuses (frame.Frame hex words) = 0 ∷ 1 ∷ 3 ∷ 5 ∷ []
frame_statuses (frame.AnyFrame hex) = 0 ∷ 1 ∷ 3 ∷ 5 ∷ []
frame_statuses (frame.Reply name hex) = 0 ∷ 1 ∷ 2 ∷ 3 ∷ 5 ∷ []
frame_statuses (frame.AnyReply name asked hex) = 0 ∷ 1 ∷ 2 ∷ 3 ∷ 5 ∷ []
frame_statuses (frame.Decode file) = 0 ∷ 1 ∷ 3 ∷ 5 ∷ []
frame_statuses (frame.Check t) = check_statuses t
frame_statuses frame.Vectors = 0 ∷ 3 ∷ 5 ∷ []
frame_statuses frame.AllVectors = 0 ∷ 3 ∷ 5 ∷ []

-- a run of the task may end with this exit status
abbrev pub EndsWith : Task → ℕ → Type 0
EndsWith task.Input = Contains (0 ∷ 1 ∷ 3 ∷ 5 ∷ [])
EndsWith (task.Run file hex) = Contains (0 ∷ 1 ∷ 3 ∷ 5 ∷ [])
EndsWith (task.Socket file path) = Contains (0 ∷ 1 ∷ 3 ∷ 4 ∷ 5 ∷ [])
EndsWith (task.Draw file around) = Contains (0 ∷ 1 ∷ 3 ∷ 5 ∷ [])
EndsWith (task.OnFrame t) = Contains (frame_statuses t)
EndsWith (task.Serve t) = Contains (serve_statuses t.capture t.is_checked)
EndsWith (task.Drive t) = λ status. (IsOffer t.offer.now → go_together t ≡ true → Contains drive_statuses status)
    × (¬ IsOffer t.offer.now → status ≡ 2) × (go_together t ≡ false → status ≡ 2)
EndsWith (task.Side t) = Contains (0 ∷ 1 ∷ 3 ∷ 5 ∷ [])

-- words that are refused with this kind of error end with this exit status
abbrev pub RefusesWith : ErrorKind → ℕ → Type 0
RefusesWith DisplayVersion status = Contains (0 ∷ 5 ∷ []) status
RefusesWith OutOfMemory status = status ≡ 3
RefusesWith _ status = status ≡ 2

-- the exit status at these words: that of the task for which they ask, or of a kind of error that they give
abbrev pub ExitsAt : App → List Text → ℕ → Type 0
ExitsAt app words status =
    ((fault_of app words ≡ []) × (t : Task) × AsksFor (subcommand_of app words) t × EndsWith t status)
    ⊎ ((kind : ErrorKind) × ((kind ≡ OutOfMemory) ⊎ IsAmong kind (fault_of app words)) × RefusesWith kind status)
