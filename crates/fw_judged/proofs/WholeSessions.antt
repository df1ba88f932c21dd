-- Where a whole session has no fault of the server, all its replies are accepted.
use Rattle.std.proofs.Common.{◌≡◌, inl, inr, ℕ, zero, suc, List, [], ◌∷◌, ◌++◌, append_assoc, append-nil, take, refl, sym, ◌∙◌, ap, subst}
use Rattle.std.specs.Borrow.{Bor}
use Rattle.fuse_device.specs.Transfers.{Transfer, received}
use Rattle.fuse_sessions.specs.declared.act.Act.{Act}
use Rattle.fuse_sessions.specs.declared.act.Taken.{Taken}
use Rattle.fuse_sessions.specs.declared.act.Taken.TheVariants as taken
use Rattle.fuse_sessions.specs.declared.fault.Fault.{Fault}
use Rattle.fuse_sessions.specs.declared.fault.Party.TheVariants.{Server}
use Rattle.fuse_sessions.specs.declared.transfer.Transfer.{Transfer as Said}
use Rattle.fuse_sessions.specs.declared.transfer.Transfer.TheVariants as said
use Rattle.fuse_sessions.specs.Faults.{Breaks, HasFaultAt}
use Rattle.fuse_sessions.specs.Faultless.{HasNoFaultOf}
use Rattle.fuse_sessions.specs.Frames.{AreAccepted, AreActs}
use Rattle.fuse_sessions.specs.Parties.{party_of}
use Rattle.fuse_sessions.specs.Sessions.{Session}
use Rattle.fw_judged.specs.Accepted.{AllAcceptedWhereServed}
use Rattle.fw_judged.specs.Judged.{Goes, Judges, Seen, Steps}
use Rattle.fw_judged.specs.Sides.{IsTaken, OfServer}
use Rattle.fw_judged.specs.declared.form.Form.{Form}
use Rattle.fw_judged.specs.declared.stage.Stage.{Stage}
use Rattle.fw_judged.specs.declared.stage.Stage.TheVariants as stage
use Rattle.fw_judged.proofs.Heard.{accepted_where_served}

-- ---- a fault in a part of a session

-- One act stands before, or was before.
before : (s : Session) (a : Act) (acts : List Act) (place : ℕ) (f : Fault) → HasFaultAt (s ++ a ∷ []) acts place f
    → HasFaultAt s (a ∷ acts) (suc place) f
before s a acts place f has = record {
  act = has.act;
  stands = has.stands;
  breaks = subst (λ (t : Session). Breaks t has.act f) (append_assoc s (a ∷ []) (take place acts)) has.breaks;
}

behind : (s : Session) (a : Act) (acts : List Act) (place : ℕ) (f : Fault) → HasFaultAt s (a ∷ acts) (suc place) f
    → HasFaultAt (s ++ a ∷ []) acts place f
behind s a acts place f has = record {
  act = has.act;
  stands = has.stands;
  breaks = subst (λ (t : Session). Breaks t has.act f) (sym (append_assoc s (a ∷ []) (take place acts))) has.breaks;
}

in_more : (s : Session) (acts more : List Act) (place : ℕ) (f : Fault) → HasFaultAt s acts place f
    → HasFaultAt s (acts ++ more) place f
in_more s [] more place f has = absurd (cc has.stands)
in_more s (a ∷ acts) more zero f has = record { act = has.act; stands = has.stands; breaks = has.breaks }
in_more s (a ∷ acts) more (suc n) f has =
    before s a (acts ++ more) n f (in_more (s ++ a ∷ []) acts more n f (behind s a acts n f has))

in_whole : (first : Session) (s : Session) (acts : List Act) (place : ℕ) (f : Fault) → HasFaultAt (first ++ s) acts place f
    → (whole : ℕ) × HasFaultAt first (s ++ acts) whole f
in_whole first [] acts place f has =
    (place, subst (λ (t : Session). HasFaultAt t acts place f) (append-nil first) has)
in_whole first (a ∷ s) acts place f has =
    let (whole, is) = in_whole (first ++ a ∷ []) s acts place f
    (subst (λ (t : Session). HasFaultAt t acts place f) (sym (append_assoc first (a ∷ []) s)) has) in
    (suc whole, before first a (s ++ acts) whole f is)

part_served : (s : Session) (acts more : List Act) → HasNoFaultOf Server ((s ++ acts) ++ more) → (place : ℕ) (f : Fault)
    → HasFaultAt s acts place f → party_of f ≡ Server → ⊥
part_served s acts more rightly place f has =
    let (whole, is) = in_whole [] s acts place f has in rightly whole f (in_more [] (s ++ acts) more whole f is)

-- ---- what was seen

-- One transfer more is the last.
last_accepted : (ts : List Said) (t : Said) → AreAccepted ts
    → ((bytes : Bor (List ℕ)) (x : Taken) → t ≡ said.Written bytes x → x ≡ taken.Accepted) → AreAccepted (ts ++ t ∷ [])
last_accepted [] (said.Written bytes x) were one = (one bytes x refl, tt)
last_accepted [] (said.Request bytes) were one = tt
last_accepted [] said.SeveralReaders were one = tt
last_accepted [] said.SeveralWriters were one = tt
last_accepted [] said.Ended were one = tt
last_accepted (said.Written bytes x ∷ ts) t were one = (were.0, last_accepted ts t were.1 one)
last_accepted (said.Request bytes ∷ ts) t were one = last_accepted ts t were one
last_accepted (said.SeveralReaders ∷ ts) t were one = last_accepted ts t were one
last_accepted (said.SeveralWriters ∷ ts) t were one = last_accepted ts t were one
last_accepted (said.Ended ∷ ts) t were one = last_accepted ts t were one

module _ (f : Form) where
  -- What is seen is behind what was.
  abbrev Grows : Seen → Seen → Type 0
  Grows s later = (more : List Act) × (later.acts ≡ s.acts ++ more)

  stays : (s later : Seen) → later ≡ s → Grows s later
  stays s later same = ([], ap (λ (x : Seen). x.acts) same ∙ sym (append-nil s.acts))

  judged_grows : (Says : Said → Type 0) (s later : Seen) (text : List ℕ) → Judges f Says s later text → Grows s later
  judged_grows Says s later text judges = (judges.acts, ap (λ (x : Seen). x.acts) judges.after)

  step_grows : (Says : Said → Type 0) (from : Stage) (s : Seen) (to : Stage) (later : Seen) (text : List ℕ)
      → Steps f Says from s to later text → Grows s later
  step_grows Says stage.Judging s stage.Judging later text judges = judged_grows Says s later text judges
  step_grows Says stage.Judging s stage.NoMemory later text is = stays s later is.0
  step_grows Says stage.Judging s stage.Refused later text (inl judges) = judged_grows Says s later text judges
  step_grows Says stage.Judging s stage.Refused later text (inr is) = stays s later is.0
  step_grows Says stage.NoMemory s stage.NoMemory later text is = stays s later is.0
  step_grows Says stage.Refused s stage.Refused later text is = stays s later is.0
  step_grows Says from s to later text is = absurd is

  goes_grow : (from : Stage) (s : Seen) (log : List Transfer) (to : Stage) (later : Seen) (text : List ℕ)
      → Goes f OfServer from s log to later text → Grows s later
  goes_grow from s [] to later text is = stays s later is.1
  goes_grow from s (t ∷ log) to later text (mid, next, first, rest, steps, goes, same) =
      let (more, one) = step_grows (λ said. OfServer s t said) from s mid next first steps in
      let (others, two) = goes_grow mid next log to later rest goes in
      (more ++ others, two ∙ ap (λ (l : Session). l ++ others) one ∙ append_assoc s.acts more others)

  judged_accepted : (t : Transfer) (s next : Seen) (text : List ℕ) → Judges f (λ said. OfServer s t said) s next text
      → (more : List Act) → HasNoFaultOf Server (next.acts ++ more) → AreAccepted s.transfers → AreAccepted next.transfers
  judged_accepted t s next text judges more rightly were =
      subst AreAccepted (sym (ap (λ (x : Seen). x.transfers) judges.after))
      (last_accepted s.transfers judges.said were (λ bytes x same.
      accepted_where_served s bytes x (taken_so bytes x t (subst (λ (u : Said). OfServer s t u) same judges.is)) judges.acts judges.known
      (subst (λ (u : Said). AreActs s.known s.acts u judges.acts judges.known) same judges.are)
      (part_served s.acts judges.acts more
      (subst (λ (l : Session). HasNoFaultOf Server (l ++ more)) (ap (λ (x : Seen). x.acts) judges.after) rightly))))
    where
      taken_so : (bytes : Bor (List ℕ)) (x : Taken) (t : Transfer) → OfServer s t (said.Written bytes x) → IsTaken s (said.Written bytes x)
      taken_so bytes x (received frame) is = is.1
      taken_so bytes x t is = absurd is

  step_accepted : (t : Transfer) (from : Stage) (s : Seen) (to : Stage) (next : Seen) (text : List ℕ)
      → Steps f (λ said. OfServer s t said) from s to next text → (more : List Act) → HasNoFaultOf Server (next.acts ++ more)
      → AreAccepted s.transfers → AreAccepted next.transfers
  step_accepted t stage.Judging s stage.Judging next text judges more rightly were =
      judged_accepted t s next text judges more rightly were
  step_accepted t stage.Judging s stage.NoMemory next text is more rightly were =
      subst AreAccepted (sym (ap (λ (x : Seen). x.transfers) is.0)) were
  step_accepted t stage.Judging s stage.Refused next text (inl judges) more rightly were =
      judged_accepted t s next text judges more rightly were
  step_accepted t stage.Judging s stage.Refused next text (inr is) more rightly were =
      subst AreAccepted (sym (ap (λ (x : Seen). x.transfers) is.0)) were
  step_accepted t stage.NoMemory s stage.NoMemory next text is more rightly were =
      subst AreAccepted (sym (ap (λ (x : Seen). x.transfers) is.0)) were
  step_accepted t stage.Refused s stage.Refused next text is more rightly were =
      subst AreAccepted (sym (ap (λ (x : Seen). x.transfers) is.0)) were
  step_accepted t from s to next text is more rightly were = absurd is

pub all_accepted : AllAcceptedWhereServed
all_accepted f from s [] to later text is rightly were =
    subst AreAccepted (sym (ap (λ (x : Seen). x.transfers) is.1)) were
all_accepted f from s (t ∷ log) to later text (mid, next, first, rest, steps, goes, same) rightly were =
    let (more, grown) = goes_grow f mid next log to later rest goes in
    all_accepted f mid next log to later rest goes rightly
    (step_accepted f t from s mid next first steps more (subst (λ (l : Session). HasNoFaultOf Server l) grown rightly) were)
