-- No session of a run shows a fault of the groups.
use Rattle.std.proofs.Common.{◌≡◌, ◌⊎◌, inl, inr, ℕ, zero, suc, ◌+◌, ◌≤◌, ◌%◌, Bool, true, false, List, [], ◌∷◌, ◌++◌, Option, Some, None, nat_eq, refl, sym, ◌∙◌, ap, subst, append-nil, arith, rules}
use Rattle.std.specs.Prelude.{MatchOption}
use Rattle.std.specs.Borrow.{Bor}
use Rattle.std.specs.List.{list_any}
use Rattle.std.proofs.lemmas.Bool.{false≢true}
use Rattle.fuse_device.specs.Transfers.{Transfer}
use Rattle.fuse_protocol.specs.declared.opcode.Opcode.{Opcode}
use Rattle.fuse_protocol.specs.declared.opcode.Opcode.TheVariants as op
use Rattle.fuse_protocol.specs.Pairs.{pairs_of_row}
use Rattle.fuse_protocol.specs.Places.{number_in, places_at}
use Rattle.fuse_protocol.specs.Table.{row_at}
use Rattle.fuse_protocol.specs.declared.agreed.Unjudged.{Unjudged}
use Rattle.fuse_sessions.specs.declared.act.Act.{Act}
use Rattle.fuse_sessions.specs.declared.act.Act.TheVariants as act
use Rattle.fuse_sessions.specs.declared.fault.Fault.{Fault}
use Rattle.fuse_sessions.specs.declared.fault.Fault.TheVariants as fault
use Rattle.fuse_sessions.specs.declared.act.Taken.{Taken}
use Rattle.fuse_sessions.specs.declared.known.Known.{Known}
use Rattle.fuse_sessions.specs.declared.transfer.Transfer.{Transfer as Said}
use Rattle.fuse_sessions.specs.declared.transfer.Transfer.TheVariants as said
use Rattle.fuse_sessions.specs.Faults.{Breaks, BreaksNumber}
use Rattle.fuse_sessions.specs.Frames.{AreActs, AreReadActs, AreRequestActs, Lead}
use Rattle.fuse_sessions.specs.Numbers.{reads as reads_under, was_read}
use Rattle.fuse_sessions.specs.RequestActs.{forgets_in, number_of}
use Rattle.fuse_sessions.specs.Sessions.{Session}
use Rattle.fuse_sessions.specs.UnreadRequests.{opcode_in, unique_in}
use Rattle.fk_drive.specs.Driving.{Driven, Drives, first_driven, next, nothing as none_yet}
use Rattle.fk_drive_theorem.specs.TakenOnce.{mounts_at, mounts_in}
use Rattle.fk_drive_theorem.proofs.OneEach.{run_one}
use Rattle.fk_drive_theorem.proofs.RunsTally.{run_tallied}
use Rattle.driven_sessions.specs.Driven.{NeverAccusedMountedOnce}
use Rattle.driven_sessions.specs.Groups.{is_of_used_numbers}
use Rattle.driven_sessions.specs.Transfers.{AreSaid}
use Rattle.driven_sessions.proofs.Calm.{AreCalm, is_of_numbers, written_calm}
use Rattle.driven_sessions.proofs.Doing.{Does, comes_again, forgets_many, forgets_one, interrupts, nothing as does_nothing, reads, request_does}
use Rattle.driven_sessions.proofs.Leading.{AreFree, calm_free, calm_none, calm_read, free_append, lead_parts, never_at, one_read, quiet_read, said_parts}
use Rattle.driven_sessions.proofs.Spent.{Adds, Goes, IsNoInterrupt, IsQuiet, Keeps, SentRight, cut_off, ends, keeps_still, nothing, quiet, receives, same_keeps, sends}
use Rattle.driven_sessions.proofs.Stepping.{mount_goes, step_goes}
use Rattle.driven_sessions.proofs.Within.{run_within}

-- the faults of numbers that a request's reading may show
abbrev pub is_of_readings : Fault → Bool
is_of_readings fault.OddNumber = true
is_of_readings fault.NumberUsedTwice = true
is_of_readings f = false

pub readings_within : (f : Fault) → is_of_readings f ≡ true → is_of_numbers f ≡ true
readings_within fault.OddNumber is = refl
readings_within fault.NumberUsedTwice is = refl
readings_within f is = cc

pub by_judged : (Goal : Type 0) (o : Option Unjudged) (P : Type 0) (R : Unjudged → Type 0) → (o ≡ None → P → Goal)
    → ((why : Unjudged) → o ≡ Some why → R why → Goal) → MatchOption o P R → Goal
by_judged Goal None P R judged unjudged is = judged refl is
by_judged Goal (Some why) P R judged unjudged is = unjudged why refl is

-- ---- what is read

-- A number that is even and was not read shows no fault.
read_free : (s : Session) (u : ℕ) → u % 2 ≡ 0 → was_read s u ≡ false → (f : Fault) → BreaksNumber s u f
    → is_of_readings f ≡ true → ⊥
read_free s u even fresh fault.OddNumber b is = omega (arith, even, b)
read_free s u even fresh fault.NumberUsedTwice b is = false≢true (sym fresh ∙ b.1)
read_free s u even fresh fault.NumberOutOfOrder b is = false≢true is
read_free s u even fresh f b is = b

forget_free : (s : Session) (pairs : List (ℕ × ℕ)) → AreFree is_of_readings s (forgets_in pairs)
forget_free s [] = tt
forget_free s (p ∷ pairs) = (λ f b is. one f b is, forget_free (s ++ act.Forgets p.0 p.1 ∷ []) pairs)
  where
    one : (f : Fault) → Breaks s (act.Forgets p.0 p.1) f → is_of_readings f ≡ true → ⊥
    one fault.ForgetOfTheRoot b is = cc
    one fault.ForgetOfNoLookup b is = cc
    one fault.ForgetOfMoreThanIsCounted b is = cc
    one fault.ForgetOfANodeInUse b is = cc
    one f b is = b

interrupt_free : (s : Session) (u o : ℕ) (f : Fault) → Breaks s (act.Interrupts u o) f → is_of_readings f ≡ true → ⊥
interrupt_free s u o fault.InterruptUnderAnotherNumber b is = cc
interrupt_free s u o fault.InterruptOfNothing b is = cc
interrupt_free s u o fault.InterruptTooOften b is = cc
interrupt_free s u o f b is = b

forgets_none : (u : ℕ) (pairs : List (ℕ × ℕ)) → list_any (reads_under u) (forgets_in pairs) ≡ false
forgets_none u [] = refl
forgets_none u (p ∷ pairs) = forgets_none u pairs

pub not_interrupt : (n : ℕ) → (n ≡ 36 → ⊥) → nat_eq n 36 ≡ false
not_interrupt n other = by (nat_eq n 36) refl
  where
    by : (b : Bool) → nat_eq n 36 ≡ b → b ≡ false
    by true e = absurd (other (grind (arith, rules, e)))
    by false e = refl

-- What a frame that may be sent does.
pub record SentWell (frame : List ℕ) (s : Session) (acts : List Act) : Type 0 where
  pub free : AreFree is_of_readings s acts
  pub adds : Adds s frame (s ++ acts)

module _ (k : Known) (frame : List ℕ) (s : Session) (acts : List Act) (right : SentRight frame s) where
  -- it reads one request, among acts that read none and show nothing
  one_reading : IsNoInterrupt frame → (before after : List Act) → AreCalm before → (o : Option Opcode)
      → acts ≡ before ++ act.Read o (unique_in frame) ∷ after → ((t : Session) → AreFree is_of_readings t after)
      → ((u : ℕ) → list_any (reads_under u) after ≡ false) → SentWell frame s acts
  one_reading none before after calm o same free quiet_after = record {
    free = subst (AreFree is_of_readings s) (sym same)
        (free_append is_of_readings s before (act.Read o (unique_in frame) ∷ after)
        (calm_free is_of_readings readings_within s before calm) (
          read_free (s ++ before) (unique_in frame) (right.even none)
              (calm_read (unique_in frame) s before calm ∙ right.fresh none),
          free (s ++ before ++ act.Read o (unique_in frame) ∷ []),
        ));
    adds = λ u is. by u (one_read u (unique_in frame) o s before after (calm_none u before calm) (quiet_after u)
        (subst (λ (l : List Act). was_read (s ++ l) u ≡ true) same is));
  }
    where
      by : (u : ℕ) → (was_read s u ≡ true) ⊎ (u ≡ unique_in frame)
          → (was_read s u ≡ true) ⊎ (IsNoInterrupt frame × (u ≡ unique_in frame))
      by u (inl was) = inl was
      by u (inr is) = inr (none, is)

  -- it reads none
  none_reading : AreFree is_of_readings s acts → ((u : ℕ) → list_any (reads_under u) acts ≡ false) → SentWell frame s acts
  none_reading free none = record { free = free; adds = λ u is. inl (sym (quiet_read u s acts (none u)) ∙ is) }

  does_well : Does k.agreed frame acts → SentWell frame s acts
  does_well (reads other before after calm calm_after o same) =
      one_reading (not_interrupt (opcode_in frame) other) before after calm o same
      (λ t. calm_free is_of_readings readings_within t after calm_after) (λ u. calm_none u after calm_after)
  does_well (forgets_one m is same) =
      let pairs : List (ℕ × ℕ) = (m.nodeid, number_of (number_in (places_at op.Forget).forgotten m.fixed)) ∷ [] in
      one_reading (ap (λ (n : ℕ). nat_eq n 36) is.opcode) (act.Arrives ∷ act.Begins op.Forget ∷ []) (forgets_in pairs) refl
      (Some op.Forget) same (λ t. forget_free t pairs) (λ u. forgets_none u pairs)
  does_well (forgets_many m is same) =
      let pairs : List (ℕ × ℕ) = pairs_of_row (row_at op.BatchForget).tail m.tail in
      one_reading (ap (λ (n : ℕ). nat_eq n 36) is.opcode) (act.Arrives ∷ act.Begins op.BatchForget ∷ []) (forgets_in pairs)
      refl (Some op.BatchForget) same (λ t. forget_free t pairs) (λ u. forgets_none u pairs)
  does_well (interrupts m is same) =
      let front : List Act = act.Arrives ∷ act.Begins op.Interrupt ∷ [] in
      let original : ℕ = number_of (number_in (places_at op.Interrupt).interrupted m.fixed) in
      none_reading (subst (AreFree is_of_readings s) (sym same)
      (free_append is_of_readings s front (act.Interrupts (unique_in frame) original ∷ [])
      (calm_free is_of_readings readings_within s front refl)
      (interrupt_free (s ++ front) (unique_in frame) original, tt))) (λ u. ap (list_any (reads_under u)) same)
  does_well (comes_again high other o m same) = let low = right.low other in absurd (omega (arith, high, low))
  does_well (does_nothing calm) =
      none_reading (calm_free is_of_readings readings_within s acts calm) (λ u. calm_none u acts calm)

  sent_well : AreRequestActs k frame acts → SentWell frame s acts
  sent_well does = does_well (request_does k frame acts does)

unjudged_well : (frame : List ℕ) (s : Session) (acts : List Act) → acts ≡ [] → SentWell frame s acts
unjudged_well frame s acts none = record {
  free = subst (AreFree is_of_readings s) (sym none) tt;
  adds = λ u is. inl (ap (λ (l : List Act). was_read l u) (sym (append-nil s))
      ∙ ap (λ (l : List Act). was_read (s ++ l) u) (sym none) ∙ is);
}

-- ---- a step

pub written_is_calm : (k : Known) (s : Session) (b : Bor (List ℕ)) (t : Taken) (acts : List Act) (later : Known)
    → AreActs k s (said.Written b t) acts later → AreCalm acts
written_is_calm k s b t acts later is = by_judged (AreCalm acts) k.unjudged (AreReadActs k s (said.Written b t) acts later)
    (λ why. (acts ≡ []) × (later ≡ k)) (λ judged does. written_calm k b.now t s acts later does)
    (λ why unjudged none. calm_of none.0) is
  where
    calm_of : acts ≡ [] → AreCalm acts
    calm_of none = subst AreCalm (sym none) refl

pub ended_calm : (k : Known) (s : Session) (acts : List Act) (later : Known) → AreActs k s said.Ended acts later → AreCalm acts
ended_calm k s acts later is = by_judged (AreCalm acts) k.unjudged (AreReadActs k s said.Ended acts later)
    (λ why. (acts ≡ []) × (later ≡ k)) (λ judged does. subst AreCalm (sym does.0) refl)
    (λ why unjudged none. subst AreCalm (sym none.0) refl) is

-- What is so between the steps.
pub record Runs (mounts : ℕ) (d : Driven) (s : Session) : Type 0 where
  pub keeps : Keeps mounts d s
  pub free : AreFree is_of_readings [] s

module _ (mounts : ℕ) (new : Driven) (k : Known) (s : Session) (free : AreFree is_of_readings [] s) where
  calm_on : (acts : List Act) → AreCalm acts → Keeps mounts new s → Runs mounts new (s ++ acts)
  calm_on acts calm keeps = record {
    keeps = keeps_still mounts new new s (s ++ acts) keeps (same_keeps new.kernel) (λ r is. is) (λ is. is) refl
        (λ u is. sym (calm_read u s acts calm) ∙ is);
    free = free_append is_of_readings [] s acts free (calm_free is_of_readings readings_within s acts calm);
  }

  request_on : (b : Bor (List ℕ)) (frame : List ℕ) → b.now ≡ frame → (acts : List Act) (later : Known) → SentRight frame s
      → AreActs k s (said.Request b) acts later → SentWell frame s acts
  request_on b frame same acts later right is = by_judged (SentWell frame s acts) k.unjudged
      (AreReadActs k s (said.Request b) acts later) (λ why. (acts ≡ []) × (later ≡ k))
      (λ judged does. sent_well k frame s acts right (subst (λ (l : List ℕ). AreRequestActs k l acts) same does.0))
      (λ why unjudged none. unjudged_well frame s acts none.0) is

  quiet_on : (log : List Transfer) → IsQuiet log → Keeps mounts new s → (ts : List Said) → AreSaid log ts
      → (later : Known) (all : Session) → Lead k s ts later all → Runs mounts new all
  quiet_on log nothing keeps [] is later all leads = subst (Runs mounts new) (sym leads.1) (record { keeps = keeps; free = free })
  quiet_on log (receives frame) keeps (said.Written b t ∷ []) is later all (acts, known, are, leads) =
      subst (Runs mounts new) (sym leads.1) (calm_on acts (written_is_calm k s b t acts known are) keeps)
  quiet_on log (cut_off frame end) keeps (said.Ended ∷ []) is later all (acts, known, are, leads) =
      subst (Runs mounts new) (sym leads.1) (calm_on acts (ended_calm k s acts known are) keeps)
  quiet_on log (ends end) keeps (said.Ended ∷ []) is later all (acts, known, are, leads) =
      subst (Runs mounts new) (sym leads.1) (calm_on acts (ended_calm k s acts known are) keeps)
  quiet_on log nothing keeps ts is later all leads = absurd search
  quiet_on log (receives frame) keeps ts is later all leads = absurd search
  quiet_on log (cut_off frame end) keeps ts is later all leads = absurd search
  quiet_on log (ends end) keeps ts is later all leads = absurd search

  goes_on : (log : List Transfer) → Goes mounts s new log → (ts : List Said) → AreSaid log ts
      → (later : Known) (all : Session) → Lead k s ts later all → Runs mounts new all
  goes_on log (quiet log' still keeps) ts is later all leads = quiet_on log' still keeps ts is later all leads
  goes_on log (sends frame result right after) (said.Request b ∷ []) is later all (acts, known, are, leads) =
      let well = request_on b frame is.0 acts known right are in
      subst (Runs mounts new) (sym leads.1) (record {
        keeps = after (s ++ acts) well.adds;
        free = free_append is_of_readings [] s acts free well.free;
      })
  goes_on log (sends frame result right after) ts is later all leads = absurd search

-- ---- a run

first_keeps : (asks : Bool) (s : Session) → ((u : ℕ) → was_read s u ≡ false) → Keeps 0 (first_driven asks) s
first_keeps asks s none = record {
  numbered = λ live. absurd (false≢true live);
  holds = λ r is. absurd (cc is);
  low = omega arith;
  even = refl;
  spent = λ u is. absurd (false≢true (sym (none u) ∙ is));
  before = λ zero. (refl, refl);
}

module _ (asks : Bool) (k : Known) (s : Session) (free : AreFree is_of_readings [] s)
    (none : (u : ℕ) → was_read s u ≡ false) where
  pub run_on : (log : List Transfer) (new : Driven) (run : Drives (first_driven asks) log new) → mounts_in run ≤ 1
      → (ts : List Said) → AreSaid log ts → (later : Known) (all : Session) → Lead k s ts later all
      → Runs (mounts_in run) new all
  run_on log new none_yet one [] is later all leads =
      subst (Runs 0 (first_driven asks)) (sym leads.1) (record { keeps = first_keeps asks s none; free = free })
  run_on log new none_yet one (t ∷ ts) is later all leads = absurd is
  run_on log new (next before mid run last end step) one ts is later all leads =
      let parts = said_parts before last ts is in
      let led = lead_parts k s parts.first parts.last later all (subst (λ (l : List Said). Lead k s l later all) parts.all leads) in
      let was = run_on before mid run (omega (arith, one)) parts.first parts.said led.known led.session led.before in
      by led.session all (mounts_at step) refl (λ still. step_goes (mounts_in run) led.session mid last end step still
      (run_tallied 2 (omega arith) asks before mid run).empty (run_one asks before mid run)
      (run_within asks before mid run) (run_within asks (before ++ last) end (next before mid run last end step))
      was.keeps) (λ mounts zero. mount_goes led.session mid last end step mounts
      (subst (λ (n : ℕ). Keeps n mid led.session) zero was.keeps))
      (λ n goes. goes_on n end led.known led.session was.free last goes parts.last parts.said_more later all led.behind)
    where
      by : (S A : Session) (n : ℕ) → mounts_at step ≡ n → (mounts_at step ≡ 0 → Goes (mounts_in run) S end last)
          → (mounts_at step ≡ 1 → mounts_in run ≡ 0 → Goes 1 S end last)
          → ((n : ℕ) → Goes n S end last → Runs n end A) → Runs (mounts_in run + mounts_at step) end A
      by S A zero e stays mounts on = subst (λ (n : ℕ). Runs n end A) (omega (arith, e)) (on (mounts_in run) (stays e))
      by S A (suc n) e stays mounts on = subst (λ (n : ℕ). Runs n end A) (omega (arith, e, one))
          (on 1 (mounts (omega (arith, e, one)) (omega (arith, e, one))))

readings_never : (group : Fault → Bool) → ((f : Fault) → group f ≡ true → is_of_readings f ≡ true) → NeverAccusedMountedOnce group
readings_never group within asks log new run one s (ts, is, k, (acts, known, are, leads)) place f has of =
    let first : acts ≡ act.SeveralReaders ∷ [] = are.0 in
    let runs = run_on asks known acts (subst (AreFree is_of_readings []) (sym first)
    (calm_free is_of_readings readings_within [] (act.SeveralReaders ∷ []) refl))
    (λ u. ap (λ (l : List Act). was_read l u) first) log new run one ts is k s leads in
    never_at is_of_readings [] s runs.free place f has (within f of)

pub used_numbers_never : NeverAccusedMountedOnce is_of_used_numbers
used_numbers_never = readings_never is_of_used_numbers within
  where
    within : (f : Fault) → is_of_used_numbers f ≡ true → is_of_readings f ≡ true
    within fault.NumberUsedTwice is = refl
    within f is = absurd (false≢true is)
