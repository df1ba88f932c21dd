-- What doing a task comes to, once its input and its output are open.
use Rattle.std.specs.Prelude.{ℕ, List, Option}
use Rattle.fw_any.specs.Endings.{EndsAnyFrame, EndsAnyReply}
use Rattle.fw_any.specs.Samples.{EndsAllVectors}
use Rattle.fw_check.specs.Endings.{EndsCheck}
use Rattle.fw_draw.specs.Endings.{EndsDrawing}
use Rattle.fw_frames.specs.Endings.{EndsFrame, EndsReply}
use Rattle.fw_script.specs.Endings.{EndsScript}
use Rattle.fw_script.specs.Scripts.{IsRunOf}
use Rattle.fw_sequence.specs.Endings.{EndsSequence}
use Rattle.fw_vectors.specs.Vectors.{EndsVectors}
use Rattle.fuseworld.specs.declared.capture.CaptureTask.{CaptureTask}
use Rattle.fuseworld.specs.declared.capture.CaptureTask.TheVariants as capture
use Rattle.fuseworld.specs.declared.doing.InputTask.{InputTask}
use Rattle.fuseworld.specs.declared.doing.InputTask.TheVariants as task

-- By the exit status: what the command's own contract says of the output and of standard error, of which `out` and
-- `faults` say what they hold.
abbrev pub Does : (A : Type 0) {W F : Type 0} → (out : W → Option (List ℕ)) → (faults : F → Option (List ℕ))
    → InputTask → (input : Option (List ℕ)) → (old_out new_out : W) → (old_faults new_faults : F) → (status : ℕ)
    → Type 0
Does A out faults (task.Script name hex) = EndsScript out faults (IsRunOf A hex) name.now
Does A out faults (task.Picture name) = EndsDrawing out faults name.now
Does A out faults (task.Frame hex words) = λ input old new before after. EndsFrame out words hex.now old new
Does A out faults (task.AnyFrame hex) = λ input old new before after. EndsAnyFrame out hex.now old new
Does A out faults (task.AnyReply name asked hex) = λ input old new before after. EndsAnyReply out name.now asked hex.now old new
Does A out faults (task.Reply name hex) = λ input old new before after. EndsReply out name.now hex.now old new
Does A out faults task.Vectors = λ input old new before after. EndsVectors out old new
Does A out faults task.AllVectors = λ input old new before after. EndsAllVectors out old new

-- The same of a task on a capture. Nothing is said of what `decode` prints.
abbrev pub DoesCapture : {W F : Type 0} → (out : W → Option (List ℕ)) → (faults : F → Option (List ℕ)) → CaptureTask
    → (name : List ℕ) → (input : Option (List ℕ)) → (old_out new_out : W) → (old_faults new_faults : F) → (status : ℕ)
    → Type 0
DoesCapture out faults capture.Decode = λ name input old new before after status. Unit {0}
DoesCapture out faults (capture.Check o) = EndsCheck out faults o
DoesCapture out faults (capture.Sequence around) = λ name input. EndsSequence out
