-- How lines that are read come to parts.
use Rattle.std.specs.Prelude.{◌≡◌, ◌≢◌, ◌<◌, ◌≤◌, ◌++◌, ◌∷◌, [], ℕ, List, Option, Some, None, length}
use Rattle.order_law.specs.Moments.{Act as ActValue, Part as PartValue, group}
use Rattle.fuse_text.specs.Lines.{lines_of}
use Rattle.fw_orders.specs.FileLines.{EndInGroup, FileLine as FileLineValue, FirstBadLine, IsLeftOut, LineSays, LineSaysNot, Make, Together as TogetherValue, alone, call, step, together}
use Rattle.fw_orders.specs.Saying.{act_of}
use Rattle.fw_orders.specs.declared.fault.LinesFault.{LinesFault}
use Rattle.fw_orders.specs.declared.fault.LinesFault.TheVariants as file_faults
use Rattle.fw_orders.specs.declared.read.FileLine.{FileLine}
use Rattle.fw_orders.specs.declared.read.FileLine.TheVariants as file_line
use Rattle.fw_orders.specs.declared.read.NotAdded.{NotAdded}
use Rattle.fw_orders.specs.declared.read.NotAdded.TheVariants as not_added
use Rattle.fw_orders.specs.declared.read.Together.{Together}
use Rattle.fw_orders.specs.declared.read.Together.TheVariants as one
use Rattle.fw_orders.specs.declared.stop.Stop.{Stop}
use Rattle.fw_orders.specs.declared.stop.Stop.TheVariants as stop

-- lines, as the definitions have them
abbrev pub together_of : Together → TogetherValue
together_of (one.Call act) = call (act_of act)
together_of (one.Step act) = step (act_of act)

abbrev pub file_line_of : FileLine → FileLineValue
file_line_of (file_line.Alone act) = alone (act_of act)
file_line_of (file_line.Together t) = together (together_of t)

-- The group that parts end with is taken from them; where they end with none, it is a new one.
pub data GroupTaken (old new : List PartValue) (calls : List ActValue) (due : Option ActValue) : Type 0 where
  last : old ≡ new ++ group calls due ∷ [] → GroupTaken old new calls due
  fresh : new ≡ old → ¬ (EndInGroup old) → calls ≡ [] → due ≡ None → GroupTaken old new calls due

-- A group gets one line more.
pub data IsJoined (calls : List ActValue) (due : Option ActValue) : TogetherValue → List ActValue → Option ActValue
    → Type 0 where
  a_call : (act : ActValue) → length calls < 8 → IsJoined calls due (call act) (calls ++ act ∷ []) due
  a_step : (act : ActValue) → due ≡ None → IsJoined calls due (step act) calls (Some act)

-- It has no place for that.
abbrev pub IsFull : List ActValue → Option ActValue → TogetherValue → NotAdded → Type 0
IsFull calls due one not_added.NoMemory = Unit {0}
IsFull calls due (call act) (not_added.Fault file_faults.TooManyCalls) = 8 ≤ length calls
IsFull calls due (step act) (not_added.Fault file_faults.SecondStep) = due ≢ None
IsFull calls due one other = ⊥

-- why a line is not added behind these
abbrev pub LeavesOut : List FileLineValue → TogetherValue → NotAdded → Type 0
LeavesOut said one not_added.NoMemory = Unit {0}
LeavesOut said one (not_added.Fault fault) = IsLeftOut said one fault

-- a line's own fault, or why it is left out
pub data IsNotAdded (said : List FileLineValue) (text : List ℕ) : LinesFault → Type 0 where
  its_own : (fault : _) → LineSaysNot text fault → IsNotAdded said text (file_faults.Line fault)
  not_joined : (one : TogetherValue) → LineSays text (together one) → (fault : LinesFault) → IsLeftOut said one fault
      → IsNotAdded said text fault

abbrev pub AddsNot : List FileLineValue → List ℕ → NotAdded → Type 0
AddsNot said text not_added.NoMemory = Unit {0}
AddsNot said text (not_added.Fault fault) = IsNotAdded said text fault

abbrev pub stopped_at : ℕ → NotAdded → Stop
stopped_at number not_added.NoMemory = stop.NoMemory
stopped_at number (not_added.Fault fault) = stop.BadLine number fault

-- a line is added
pub record Added (said : List FileLineValue) (text : List ℕ) (parts : List PartValue) : Type 0 where
  pub l : FileLineValue
  pub says : LineSays text l
  pub make : Make (said ++ l ∷ []) parts

-- why the lines of a file are not kept: the first bad one, or out of memory
abbrev pub ReadingEnds : List ℕ → Stop → Type 0
ReadingEnds text (stop.BadLine number fault) = FirstBadLine (lines_of text) number fault
ReadingEnds text stop.NoMemory = Unit {0}
ReadingEnds text other = ⊥
