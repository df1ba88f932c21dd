-- What the lines of a file of calls say, and the parts that they make.
use Rattle.std.specs.Prelude.{◌≡◌, ◌≢◌, ◌⊎◌, ◌<◌, ◌≤◌, ◌+◌, ◌++◌, ◌∷◌, [], ℕ, List, Option, Some, None, codes, length, map}
use Rattle.fuse_spec.specs.Calls.Calls.{write}
use Rattle.fuse_spec.specs.World.Events.{call as calling}
use Rattle.fw_script.specs.Lines.{LineHasWords, WordsFaultIs}
use Rattle.fw_script.specs.Scripts.{IsPassedOver}
use Rattle.fuse_text.specs.Words.{words_of}
use Rattle.fw_script.specs.declared.line.Line.{Line}
use Rattle.fw_script.specs.declared.line.Line.TheVariants as lines
use Rattle.fw_script.specs.declared.line.LineFault.{LineFault}
use Rattle.fw_script.specs.declared.line.LineFault.TheVariants as faults
use Rattle.fw_world.specs.Values.{event_of}
use Rattle.fw_world.specs.declared.event.Event.{Event}
use Rattle.fw_world.specs.declared.event.Event.TheVariants as event
use Rattle.order_law.specs.Moments.{Act, Part, line, forgetting}
use Rattle.order_law.specs.Moments.{alone as alone_part, group}
use Rattle.fw_orders.specs.Saying.{hex_bytes}
use Rattle.fw_orders.specs.declared.fault.LinesFault.{LinesFault}
use Rattle.fw_orders.specs.declared.fault.LinesFault.TheVariants as file_faults

-- ---- one line

-- a call
abbrev pub IsCall : Line → Type 0
IsCall (lines.Event (event.Call c)) = Unit {0}
IsCall (lines.CallWrite open_call offset hex) = Unit {0}
IsCall other = ⊥

-- what may come among calls: a signal for a call, or time that passes
abbrev pub IsStep : Line → Type 0
IsStep (lines.Event (event.Interrupt c fatal)) = Unit {0}
IsStep (lines.Event (event.Tick ms)) = Unit {0}
IsStep other = ⊥

-- what stands alone: a call, time that passes, a name that is dropped, or an eviction
abbrev pub IsAlone : Line → Type 0
IsAlone (lines.Event (event.Tick ms)) = Unit {0}
IsAlone (lines.Event (event.DropName directory name)) = Unit {0}
IsAlone (lines.Event (event.Evict node)) = Unit {0}
IsAlone l = IsCall l

abbrev pub MayJoin : Line → Type 0
MayJoin l = IsCall l ⊎ IsStep l

-- the step that a line is, which has the line's text in the script
abbrev pub step_said : List ℕ → Line → Option Act
step_said text (lines.Event e) = Some (line text (event_of e))
step_said text (lines.CallWrite open_call offset hex) =
    Some (line text (calling (write open_call offset (hex_bytes hex.now))))
step_said text lines.Show = None

-- A text has the words of such a line, which is this step.
pub record Says (Kind : Line → Type 0) (text : List ℕ) (act : Act) : Type 0 where
  pub l : Line
  pub words : LineHasWords l (words_of text)
  pub kind : Kind l
  pub is : step_said text l ≡ Some act

-- It has not: its words are those of no line, or those of a line of another kind.
pub data SaysNot (Kind : Line → Type 0) (text : List ℕ) : LineFault → Type 0 where
  no_line : (fault : LineFault) → WordsFaultIs (words_of text) fault → SaysNot Kind text fault
  no_such : (l : Line) → LineHasWords l (words_of text) → ¬ (Kind l) → SaysNot Kind text faults.UnknownEvent

-- What runs together with its neighbours: a call, or a step among calls.
pub data Together : Type 0 where
  call : (act : Act) → Together
  step : (act : Act) → Together

-- what stands behind `together`
pub data Joins (text : List ℕ) : Together → Type 0 where
  calls : (act : Act) → Says IsCall text act → Joins text (call act)
  steps : (act : Act) → Says IsStep text act → Joins text (step act)
  forgets : text ≡ codes "forget" → Joins text (step forgetting)

abbrev pub JoinsNot : List ℕ → LineFault → Type 0
JoinsNot text fault = (text ≢ codes "forget") × SaysNot MayJoin text fault

-- A line of a file.
pub data FileLine : Type 0 where
  alone : (act : Act) → FileLine
  together : (one : Together) → FileLine

-- A line that begins with `together ` runs together with its neighbours, any other stands alone.
abbrev pub IsTogether : (text rest : List ℕ) → Type 0
IsTogether text rest = text ≡ codes "together " ++ rest

pub data LineSays (text : List ℕ) : FileLine → Type 0 where
  by_itself : ((rest : List ℕ) → ¬ (IsTogether text rest)) → (act : Act) → Says IsAlone text act
      → LineSays text (alone act)
  with_others : (rest : List ℕ) → IsTogether text rest → (one : Together) → Joins rest one
      → LineSays text (together one)

pub data LineSaysNot (text : List ℕ) (fault : LineFault) : Type 0 where
  not_by_itself : ((rest : List ℕ) → ¬ (IsTogether text rest)) → SaysNot IsAlone text fault → LineSaysNot text fault
  not_with_others : (rest : List ℕ) → IsTogether text rest → JoinsNot rest fault → LineSaysNot text fault

-- ---- all lines

-- The lines say this, in their order; a line that is passed over says nothing.
pub data Say : List (List ℕ) → List FileLine → Type 0 where
  no_more : Say [] []
  passed_over : (texts : List (List ℕ)) (said : List FileLine) → Say texts said → (text : List ℕ) → IsPassedOver text
      → Say (texts ++ text ∷ []) said
  says : (texts : List (List ℕ)) (said : List FileLine) → Say texts said → (text : List ℕ) (l : FileLine)
      → LineSays text l → Say (texts ++ text ∷ []) (said ++ l ∷ [])

-- the calls among what runs together, and the steps
abbrev pub calls_in : List Together → List Act
calls_in [] = []
calls_in (call act ∷ run) = act ∷ calls_in run
calls_in (step act ∷ run) = calls_in run

abbrev pub steps_in : List Together → List Act
steps_in [] = []
steps_in (call act ∷ run) = steps_in run
steps_in (step act ∷ run) = act ∷ steps_in run

abbrev pub first_of : List Act → Option Act
first_of [] = None
first_of (act ∷ acts) = Some act

abbrev pub group_of : List Together → Part
group_of run = group (calls_in run) (first_of (steps_in run))

-- up to 8 calls and one step
pub record IsGroup (run : List Together) : Type 0 where
  pub few_calls : length (calls_in run) ≤ 8
  pub one_step : length (steps_in run) ≤ 1

-- the parts end with a group
abbrev pub EndInGroup : List Part → Type 0
EndInGroup parts =
    (before : List Part) × (calls : List Act) × (due : Option Act) × (parts ≡ before ++ group calls due ∷ [])

-- Lines make these parts: one alone is a part, and so are all neighbours that run together.
pub data Make : List FileLine → List Part → Type 0 where
  no_part : Make [] []
  one_alone : (said : List FileLine) (parts : List Part) → Make said parts → (act : Act)
      → Make (said ++ alone act ∷ []) (parts ++ alone_part act ∷ [])
  one_group : (said : List FileLine) (parts : List Part) → Make said parts → ¬ (EndInGroup parts)
      → (first : Together) (run : List Together) → IsGroup (first ∷ run)
      → Make (said ++ map together (first ∷ run)) (parts ++ group_of (first ∷ run) ∷ [])

-- The lines are good and make these parts; at most 256 say something.
pub record HaveParts (texts : List (List ℕ)) (parts : List Part) : Type 0 where
  pub said : List FileLine
  pub say : Say texts said
  pub few : length said ≤ 256
  pub make : Make said parts

-- What runs together cannot follow these lines: it is a ninth call, or a second step.
pub data IsLeftOut (said : List FileLine) : Together → LinesFault → Type 0 where
  ninth : (before : List FileLine) (run : List Together) (act : Act) → said ≡ before ++ map together run
      → length (calls_in run) ≡ 8 → IsLeftOut said (call act) file_faults.TooManyCalls
  second : (before : List FileLine) (run : List Together) (act : Act) → said ≡ before ++ map together run
      → length (steps_in run) ≡ 1 → IsLeftOut said (step act) file_faults.SecondStep

-- what is wrong with a line behind good ones that say this
pub data IsBad (said : List FileLine) (text : List ℕ) : LinesFault → Type 0 where
  beyond : length said ≡ 256 → IsBad said text file_faults.TooManyLines
  faulty : length said < 256 → (fault : LineFault) → LineSaysNot text fault → IsBad said text (file_faults.Line fault)
  left_out : length said < 256 → (one : Together) → LineSays text (together one) → (fault : LinesFault)
      → IsLeftOut said one fault → IsBad said text fault

-- The first line with a fault, by its number from 1 on.
pub record FirstBadLine (texts : List (List ℕ)) (number : ℕ) (fault : LinesFault) : Type 0 where
  pub before : List (List ℕ)
  pub text : List ℕ
  pub after : List (List ℕ)
  pub split : texts ≡ before ++ text ∷ after
  pub parts : List Part
  pub good : HaveParts before parts
  pub numbered : number ≡ length before + 1
  pub speaks : ¬ (IsPassedOver text)
  pub bad : IsBad good.said text fault
