-- Sessions that are free of faults about open files of a kind, part by part.
use Rattle.std.proofs.Common.{◌≡◌, ℕ, zero, suc, true, not, List, [], ◌∷◌, ◌++◌, Option, Some, None, append-nil, append_assoc, slice_get, take, refl, ap, sym, subst, ◌∙◌}
use Rattle.std.specs.Borrow.{Bor}
use Rattle.std.proofs.lemmas.Bool.{false≢true}
use Rattle.fuse_device.specs.Transfers.{Transfer, received, sent, stopped, unsent}
use Rattle.fk_drive.specs.Driving.{SendsFrame, at_end, with_result}
use Rattle.std.specs.Prelude.{MatchOption}
use Rattle.fuse_protocol.specs.declared.agreed.Unjudged.{Unjudged}
use Rattle.fuse_protocol.specs.declared.opcode.Opcode.{Opcode}
use Rattle.fuse_protocol.specs.Requests.{RequestMessage}
use Rattle.protocol_law.specs.Law.{Carries}
use Rattle.fuse_sessions.specs.declared.act.Act.{Act}
use Rattle.fuse_sessions.specs.declared.act.Act.TheVariants as act
use Rattle.fuse_sessions.specs.declared.act.OpenKind.{OpenKind}
use Rattle.fuse_sessions.specs.declared.act.Taken.{Taken}
use Rattle.fuse_sessions.specs.declared.fault.Fault.{Fault}
use Rattle.fuse_sessions.specs.declared.known.Known.{Known}
use Rattle.fuse_sessions.specs.declared.transfer.Transfer.{Transfer as Said}
use Rattle.fuse_sessions.specs.declared.transfer.Transfer.TheVariants as said
use Rattle.fuse_sessions.specs.Faults.{Breaks, HasFaultAt}
use Rattle.fuse_sessions.specs.Frames.{AreAccepted, AreActs, AreReadActs, AreRequestActs, IsRequestOf, Lead}
use Rattle.fuse_sessions.specs.Sessions.{Session}
use Rattle.driven_sessions.specs.Driven.{HaveAgreed}
use Rattle.driven_sessions.specs.Transfers.{AllSent, AreSaid, IsShaped}
use Rattle.driven_sessions.proofs.Calm.{is_written, pass_on, written_server}
use Rattle.driven_sessions.proofs.Never.{by_judged}
use Rattle.driven_sessions.specs.Files.{is_of}
use Rattle.driven_sessions.proofs.Files.FrameActs.{MayDo, frame_acts}
use Rattle.driven_sessions.proofs.Files.Rows.{AreApart, FilesFree, HandleOf, Handles, apart_free, free_parts}

pub accepted_parts : (first last : List Said) → AreAccepted (first ++ last) → AreAccepted first × AreAccepted last
accepted_parts [] last all = (tt, all)
accepted_parts (said.Written b t ∷ first) last all =
    let rest = accepted_parts first last all.1 in ((all.0, rest.0), rest.1)
accepted_parts (said.Request b ∷ first) last all = accepted_parts first last all
accepted_parts (said.SeveralReaders ∷ first) last all = accepted_parts first last all
accepted_parts (said.SeveralWriters ∷ first) last all = accepted_parts first last all
accepted_parts (said.Ended ∷ first) last all = accepted_parts first last all

module _ (which : OpenKind) where
  -- What a server writes is of no file that is used or released.
  is_apart_where_written : (a : Act) → is_written a ≡ true → not (is_of which a) ≡ true
  is_apart_where_written (act.Uses file) is = absurd (false≢true is)
  is_apart_where_written (act.Releases file) is = absurd (false≢true is)
  is_apart_where_written a is = refl

  written_apart : (k : Known) (s : Session) (b : Bor (List ℕ)) (t : Taken) (acts : List Act) (later : Known)
      → AreActs k s (said.Written b t) acts later → AreApart which acts
  written_apart k s b t acts later is = by_judged (AreApart which acts) k.unjudged (AreReadActs k s (said.Written b t) acts later)
      (λ why. (acts ≡ []) × (later ≡ k))
      (λ judged does. pass_on is_written (λ (a : Act). not (is_of which a)) is_apart_where_written acts
      (written_server k b.now t s acts later does))
      (λ why unjudged none. subst (AreApart which) (sym none.0) refl) is

  ended_apart : (k : Known) (s : Session) (acts : List Act) (later : Known) → AreActs k s said.Ended acts later → AreApart which acts
  ended_apart k s acts later is = by_judged (AreApart which acts) k.unjudged (AreReadActs k s said.Ended acts later)
      (λ why. (acts ≡ []) × (later ≡ k)) (λ judged does. subst (AreApart which) (sym does.0) refl)
      (λ why unjudged none. subst (AreApart which) (sym none.0) refl) is

  module _ (later : Known) (all : Session) where
    -- where nothing is sent
    pub quiet_free : (log : List Transfer) → AllSent (λ frame. ⊥) log → (ts : List Said) → AreSaid log ts → (k : Known) (s : Session)
        → FilesFree which [] s → Lead k s ts later all → FilesFree which [] all
    quiet_free [] such [] is k s free leads = subst (FilesFree which []) (sym leads.1) free
    quiet_free (sent frame result ∷ log) such ts is k s free leads = absurd such.0
    quiet_free (received frame ∷ log) such (said.Written b t ∷ ts) is k s free (acts, known, are, leads) = quiet_free log such ts is.1 known
        (s ++ acts) (free_parts which [] s acts free (apart_free which s acts (written_apart k s b t acts known are))) leads
    quiet_free (unsent frame end ∷ log) such (said.Ended ∷ ts) is k s free (acts, known, are, leads) = quiet_free log such ts is.1 known
        (s ++ acts) (free_parts which [] s acts free (apart_free which s acts (ended_apart k s acts known are))) leads
    quiet_free (stopped end ∷ log) such (said.Ended ∷ ts) is k s free (acts, known, are, leads) = quiet_free log such ts is.1 known
        (s ++ acts) (free_parts which [] s acts free (apart_free which s acts (ended_apart k s acts known are))) leads
    quiet_free log such ts is k s free leads = absurd search

    module _ (k : Known) (s : Session) (free : FilesFree which [] s) where
      pub sends_free : (frame : List ℕ) (handles : Handles) → ((o : Opcode) (m : RequestMessage) → IsRequestOf k.agreed frame (o, m)
          → HandleOf which handles o m.nodeid m.node m.handle) → IsShaped frame → (k.unjudged ≡ None → MayDo which handles s)
          → (log : List Transfer) → SendsFrame frame log → (ts : List Said) → AreSaid log ts → (leads : Lead k s ts later all)
          → HaveAgreed Carries k s ts later all leads → FilesFree which [] all
      sends_free frame handles handle_of shaped may log (with_result result) (said.Request b ∷ []) is (acts, known, are, leads) agreed =
          subst (FilesFree which []) (sym leads.1) (free_parts which [] s acts free
          (by_judged (FilesFree which s acts) k.unjudged (AreReadActs k s (said.Request b) acts known)
          (λ why. (acts ≡ []) × (known ≡ k)) (λ judged does. (frame_acts which handles k frame handle_of shaped agreed.0 acts
          (subst (λ (l : List ℕ). AreRequestActs k l acts) is.0 does.0)).free s (may judged))
          (λ why unjudged none. subst (FilesFree which s) (sym none.0) tt) are))
      sends_free frame handles handle_of shaped may log (at_end end) (said.Ended ∷ []) is (acts, known, are, leads) agreed =
          subst (FilesFree which []) (sym leads.1) (free_parts which [] s acts free (apart_free which s acts (ended_apart k s acts known are)))
      sends_free frame handles handle_of shaped may log went ts is leads agreed = absurd search

  -- No act of a file has a fault at its place.
  some_act : (a b : Act) → ◌≡◌ {A = Option Act} (Some a) (Some b) → a ≡ b
  some_act a b same = ap of same
    where
      of : Option Act → Act
      of None = a
      of (Some x) = x

  pub files_at : (s : Session) (acts : List Act) → FilesFree which s acts → (place : ℕ) (f : Fault) (has : HasFaultAt s acts place f)
      → is_of which has.act ≡ true → ⊥
  files_at s [] free place f has of = absurd (nowhere has.act has.stands)
    where
      nowhere : (a : Act) → slice_get [] place ≡ Some a → ⊥
      nowhere a e = cc
  files_at s (a ∷ acts) free zero f has of =
      let same : a ≡ has.act = some_act a has.act has.stands in
      free.0 (ap (is_of which) same ∙ of) f (subst (λ (t : Session). Breaks t a f) (append-nil s)
      (subst (λ (x : Act). Breaks (s ++ []) x f) (sym same) has.breaks))
  files_at s (a ∷ acts) free (suc place) f has of = files_at (s ++ a ∷ []) acts free.1 place f (record {
    act = has.act;
    stands = has.stands;
    breaks = subst (λ (t : Session). Breaks t has.act f) (sym (append_assoc s (a ∷ []) (take place acts))) has.breaks;
  }) of

-- Once frames cannot be read, the session goes on with none.
unread_same : (ts : List Said) (k : Known) (s : Session) (later : Known) (all : Session) (why : Unjudged) → k.unjudged ≡ Some why
    → Lead k s ts later all → all ≡ s
unread_same [] k s later all why unread leads = leads.1
unread_same (t ∷ ts) k s later all why unread (acts, known, are, leads) =
    let both : (acts ≡ []) × (known ≡ k) = subst (λ (o : Option Unjudged). MatchOption o (AreReadActs k s t acts known)
    (λ w. (acts ≡ []) × (known ≡ k))) unread are in
    unread_same ts known (s ++ acts) later all why (ap (λ (x : Known). x.unjudged) both.1 ∙ unread) leads
    ∙ ap (λ (l : List Act). s ++ l) both.0 ∙ append-nil s

-- Either frames can be read, or the session goes on with none.
pub where_read : (P : Session → Type 0) (k : Known) (ts : List Said) (s : Session) (later : Known) (whole : Session)
    → Lead k s ts later whole → P s → (k.unjudged ≡ None → P whole) → P whole
where_read P k ts s later whole leads was judged = by k.unjudged refl
  where
    by : (o : Option Unjudged) → k.unjudged ≡ o → P whole
    by None is = judged is
    by (Some why) is = subst P (sym (unread_same ts k s later whole why is leads)) was
