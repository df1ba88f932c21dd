-- How replies are taken of which nothing is heard.
use Rattle.std.specs.Prelude.{◌≡◌, ℕ, List}
use Rattle.std.specs.Borrow.{Bor}
use Rattle.fuse_sessions.specs.declared.act.Act.{Act}
use Rattle.fuse_sessions.specs.declared.act.Taken.{Taken}
use Rattle.fuse_sessions.specs.declared.act.Taken.TheVariants as taken
use Rattle.fuse_sessions.specs.declared.fault.Fault.{Fault}
use Rattle.fuse_sessions.specs.declared.fault.Party.TheVariants.{Server}
use Rattle.fuse_sessions.specs.declared.known.Known.{Known}
use Rattle.fuse_sessions.specs.declared.transfer.Transfer.{Transfer as Said}
use Rattle.fuse_sessions.specs.declared.transfer.Transfer.TheVariants as said
use Rattle.fuse_sessions.specs.Faults.{HasFaultAt}
use Rattle.fuse_sessions.specs.Faultless.{HasNoFaultOf}
use Rattle.fuse_sessions.specs.Frames.{AreAccepted, AreActs}
use Rattle.fuse_sessions.specs.Parties.{party_of}
use Rattle.fuse_device.specs.Transfers.{Transfer}
use Rattle.fw_judged.specs.Judged.{Goes, Seen}
use Rattle.fw_judged.specs.Sides.{IsTaken, OfServer}
use Rattle.fw_judged.specs.declared.form.Form.{Form}
use Rattle.fw_judged.specs.declared.stage.Stage.{Stage}

-- As accepted, where the server has no fault in it.
abbrev pub AcceptedWhereServed : Type 0
AcceptedWhereServed = (s : Seen) (bytes : Bor (List ℕ)) (t : Taken) → IsTaken s (said.Written bytes t)
    → (acts : List Act) (later : Known) → AreActs s.known s.acts (said.Written bytes t) acts later
    → ((place : ℕ) (f : Fault) → HasFaultAt s.acts acts place f → party_of f ≡ Server → ⊥) → t ≡ taken.Accepted

-- Each that is seen over a device is accepted, where the server has no fault in the whole.
abbrev pub AllAcceptedWhereServed : Type 0
AllAcceptedWhereServed = (f : Form) (from : Stage) (s : Seen) (log : List Transfer) (to : Stage) (later : Seen) (text : List ℕ)
    → Goes f OfServer from s log to later text → HasNoFaultOf Server later.acts → AreAccepted s.transfers
    → AreAccepted later.transfers
