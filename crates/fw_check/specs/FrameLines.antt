-- The lines of what is judged as it goes over a device: those of a capture's faults, with the number of the frame.
use Rattle.std.specs.Prelude.{ℕ, List, [], ◌∷◌, ◌++◌, Option, Some, None, codes, decimal}
use Rattle.fuse_protocol.specs.declared.agreed.Unjudged.{Unjudged}
use Rattle.fuse_sessions.specs.declared.act.Act.{Act}
use Rattle.fuse_sessions.specs.declared.fault.Fault.{Fault}
use Rattle.fuse_sessions.specs.Parties.{party_of}
use Rattle.fw_check.specs.FaultWords.{act_words, fault_words, party_word}
use Rattle.fw_check.specs.Unjudged.{unjudged_words}

abbrev pub frame_number : ℕ → List ℕ
frame_number number = codes "frame " ++ decimal number ++ codes ": "

-- `frame N: PARTY: RULE` or `frame N: warning: ..`, and what the act is about
abbrev pub frame_fault : (number : ℕ) → Act → Fault → List ℕ
frame_fault number a f = frame_number number ++ (party_word (party_of f) ++ codes ": " ++ fault_words f)
    ++ act_words a ++ codes "\n"

-- of a verdict, where it is a fault
abbrev pub frame_verdict : (number : ℕ) → Act → Option Fault → List ℕ
frame_verdict number a (Some f) = frame_fault number a f
frame_verdict number a None = []

-- the faults of a frame's acts, in their order
abbrev pub frame_faults : (number : ℕ) → List Act → List (Option Fault) → List ℕ
frame_faults number (a ∷ acts) (v ∷ verdicts) = frame_verdict number a v ++ frame_faults number acts verdicts
frame_faults number acts verdicts = []

-- why nothing is judged any more, once, where it is known from this frame on
abbrev pub frame_leaving : (number : ℕ) → (before after : Option Unjudged) → List ℕ
frame_leaving number None (Some why) =
    frame_number number ++ codes "not judged from here on: " ++ unjudged_words why ++ codes "\n"
frame_leaving number before after = []

-- all that is printed of a frame
abbrev pub frame_lines : (number : ℕ) → (before after : Option Unjudged) → List Act → List (Option Fault) → List ℕ
frame_lines number before after acts verdicts = frame_faults number acts verdicts ++ frame_leaving number before after
