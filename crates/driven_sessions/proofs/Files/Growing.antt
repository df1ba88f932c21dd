-- How often a file is open in a session, after what a step sends or receives.
use Rattle.std.proofs.Common.{◌≡◌, ℕ, ◌+◌, ◌≤◌, true, List, [], ◌∷◌, ◌++◌, refl, ap, subst, arith}
use Rattle.std.specs.List.{list_all}
use Rattle.std.specs.Prelude.{sum_by}
use Rattle.std.specs.Borrow.{Bor}
use Rattle.std.proofs.lemmas.Bool.{and_parts, false≢true}
use Rattle.std.proofs.lemmas.List.Sums.{sum_by-cons}
use Rattle.fuse_device.specs.declared.device.DeviceEnd.{DeviceEnd}
use Rattle.fuse_device.specs.Transfers.{Transfer, received, stopped}
use Rattle.fuse_spec.specs.declared.Opened.{Opened}
use Rattle.fk_drive.specs.Driving.{SendsFrame, at_end, with_result}
use Rattle.fuse_protocol.specs.declared.opcode.Opcode.{Opcode}
use Rattle.fuse_protocol.specs.Requests.{RequestMessage}
use Rattle.protocol_law.specs.Law.{Carries}
use Rattle.fuse_sessions.specs.declared.act.Act.{Act}
use Rattle.fuse_sessions.specs.declared.act.Act.TheVariants as act
use Rattle.fuse_sessions.specs.declared.act.OpenFile.{OpenFile}
use Rattle.fuse_sessions.specs.declared.act.OpenKind.{OpenKind}
use Rattle.fuse_sessions.specs.declared.act.Taken.{Taken}
use Rattle.fuse_sessions.specs.declared.known.Known.{Known}
use Rattle.fuse_sessions.specs.declared.transfer.Transfer.{Transfer as Said}
use Rattle.fuse_sessions.specs.declared.transfer.Transfer.TheVariants as said
use Rattle.fuse_sessions.specs.Frames.{AreActs, AreReadActs, AreRequestActs, IsRequestOf, Lead}
use Rattle.fuse_sessions.specs.OpenFiles.{opened, releases_this}
use Rattle.fuse_sessions.specs.Sessions.{Session}
use Rattle.driven_sessions.specs.Driven.{HaveAgreed}
use Rattle.driven_sessions.specs.Transfers.{AreSaid, IsShaped}
use Rattle.driven_sessions.proofs.Calm.{AreWritten, is_written, written_server}
use Rattle.driven_sessions.proofs.Never.{by_judged}
use Rattle.driven_sessions.proofs.Files.FrameActs.{frame_acts}
use Rattle.driven_sessions.proofs.Files.Opened.{as_file, is_file, opened_on, opens_in, releases_in}
use Rattle.driven_sessions.proofs.Files.Rows.{HandleOf, Handles}

module _ (file : OpenFile) where
  written_releases : (acts : List Act) → AreWritten acts → releases_in file acts ≡ 0
  written_releases [] are = refl
  written_releases (a ∷ acts) are =
      let both = and_parts (is_written a) (list_all is_written acts) are in
      let sum = sum_by-cons (releases_this file) a acts in
      let first = none a both.0 in
      let rest = written_releases acts both.1 in
      omega (arith, sum, first, rest)
    where
      none : (a : Act) → is_written a ≡ true → releases_this file a ≡ 0
      none (act.Releases other) is = absurd (false≢true is)
      none a is = refl

  -- A server writes.
  pub written_opened : (k : Known) (s : Session) (b : Bor (List ℕ)) (t : Taken) (acts : List Act) (later : Known)
      → AreActs k s (said.Written b t) acts later → opened s file + opens_in file acts ≤ opened (s ++ acts) file
  written_opened k s b t acts later are =
      let on = opened_on file s acts in
      let none : releases_in file acts ≡ 0 = by_judged (releases_in file acts ≡ 0) k.unjudged
      (AreReadActs k s (said.Written b t) acts later) (λ why. (acts ≡ []) × (later ≡ k))
      (λ judged does. written_releases acts (written_server k b.now t s acts later does))
      (λ why unjudged none. ap (releases_in file) none.0) are in
      omega (arith, on, none)

  ended_opened : (k : Known) (s : Session) (acts : List Act) (later : Known) → AreActs k s said.Ended acts later
      → opened s file ≤ opened (s ++ acts) file
  ended_opened k s acts later are =
      let on = opened_on file s acts in
      let none : releases_in file acts ≡ 0 = by_judged (releases_in file acts ≡ 0) k.unjudged
      (AreReadActs k s said.Ended acts later) (λ why. (acts ≡ []) × (later ≡ k))
      (λ judged does. ap (releases_in file) does.0)
      (λ why unjudged none. ap (releases_in file) none.0) are in
      omega (arith, on, none)

  pub none_grows : (k : Known) (s : Session) (ts : List Said) → AreSaid [] ts → (later : Known) (all : Session)
      → Lead k s ts later all → opened all file ≡ opened s file
  none_grows k s [] is later all leads = ap (λ (x : Session). opened x file) leads.1
  none_grows k s (t ∷ ts) is later all leads = absurd is

  pub received_grows : (k : Known) (s : Session) (frame : List ℕ) (ts : List Said) → AreSaid (received frame ∷ []) ts
      → (later : Known) (all : Session) → Lead k s ts later all → opened s file ≤ opened all file
  received_grows k s frame (said.Written b t ∷ []) is later all (acts, known, are, leads) =
      let on = written_opened k s b t acts known are in
      let same : opened all file ≡ opened (s ++ acts) file = ap (λ (x : Session). opened x file) leads.1 in
      omega (arith, on, same)
  received_grows k s frame ts is later all leads = absurd search

  pub stopped_grows : (k : Known) (s : Session) (end : DeviceEnd) (ts : List Said)
      → AreSaid (stopped end ∷ []) ts → (later : Known) (all : Session) → Lead k s ts later all
      → opened s file ≤ opened all file
  stopped_grows k s end (said.Ended ∷ []) is later all (acts, known, are, leads) =
      let on = ended_opened k s acts known are in
      let same : opened all file ≡ opened (s ++ acts) file = ap (λ (x : Session). opened x file) leads.1 in
      omega (arith, on, same)
  stopped_grows k s end ts is later all leads = absurd search

module _ (which : OpenKind) (handles : Handles) (o : Opened) where
  -- A request is sent, or not.
  pub sends_grow : (k : Known) (s : Session) (frame : List ℕ) → ((o : Opcode) (m : RequestMessage) → IsRequestOf k.agreed frame (o, m)
      → HandleOf which handles o m.nodeid m.node m.handle) → IsShaped frame → (log : List Transfer) → SendsFrame frame log → (ts : List Said) → AreSaid log ts → (later : Known) (all : Session)
      (leads : Lead k s ts later all) → HaveAgreed Carries k s ts later all leads
      → opened s (as_file which o) ≤ opened all (as_file which o) + sum_by (is_file o) handles.released
  sends_grow k s frame handle_of shaped log (with_result result) (said.Request b ∷ []) is later all (acts, known, are, leads) agreed =
      let on = opened_on (as_file which o) s acts in
      let few : releases_in (as_file which o) acts ≤ sum_by (is_file o) handles.released =
      by_judged (releases_in (as_file which o) acts ≤ sum_by (is_file o) handles.released) k.unjudged
      (AreReadActs k s (said.Request b) acts known) (λ why. (acts ≡ []) × (known ≡ k))
      (λ judged does. (frame_acts which handles k frame handle_of shaped agreed.0 acts
      (subst (λ (l : List ℕ). AreRequestActs k l acts) is.0 does.0)).releases o)
      (λ why unjudged none. let zero : releases_in (as_file which o) acts ≡ 0 = ap (releases_in (as_file which o)) none.0 in omega (arith, zero)) are in
      let same : opened all (as_file which o) ≡ opened (s ++ acts) (as_file which o) = ap (λ (x : Session). opened x (as_file which o)) leads.1 in
      omega (arith, on, few, same)
  sends_grow k s frame handle_of shaped log (at_end end) (said.Ended ∷ []) is later all (acts, known, are, leads) agreed =
      let on = ended_opened (as_file which o) k s acts known are in
      let same : opened all (as_file which o) ≡ opened (s ++ acts) (as_file which o) = ap (λ (x : Session). opened x (as_file which o)) leads.1 in
      omega (arith, on, same)
  sends_grow k s frame handle_of shaped log went ts is later all leads agreed = absurd search
