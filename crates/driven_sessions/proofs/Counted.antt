-- Each lookup that the kernel of a run counts, or has to forget, is counted in the session.
use Rattle.std.proofs.Common.{◌≡◌, ℕ, ◌≤◌, Bool, false, List, [], ◌∷◌, ◌++◌, None, refl, ap, sym, subst, arith}
use Rattle.std.proofs.lemmas.Bool.{false≢true}
use Rattle.fuse_device.specs.Transfers.{Transfer}
use Rattle.fk_drive.specs.Driving.{Driven, Drives, first_driven, nothing, next as behind}
use Rattle.fk_drive_theorem.specs.Tallies.{tally_of}
use Rattle.fk_drive_theorem.specs.TakenOnce.{mounts_in}
use Rattle.fk_drive_theorem.proofs.OneEach.{run_one}
use Rattle.fk_drive_theorem.proofs.RunsTally.{run_forgets, run_tallied}
use Rattle.protocol_law.specs.Law.{Carries}
use Rattle.fuse_sessions.specs.declared.act.Act.TheVariants as act
use Rattle.fuse_sessions.specs.declared.act.Act.{Act}
use Rattle.fuse_sessions.specs.declared.known.Known.{Known}
use Rattle.fuse_sessions.specs.declared.transfer.Transfer.{Transfer as Said}
use Rattle.fuse_sessions.specs.Frames.{Lead}
use Rattle.fuse_sessions.specs.Numbers.{was_read}
use Rattle.fuse_sessions.specs.Sessions.{Session}
use Rattle.driven_sessions.specs.Counted.{LookupsAreCounted}
use Rattle.driven_sessions.specs.Driven.{HaveAgreed}
use Rattle.driven_sessions.specs.Taken.{AreTaken, Outcome, outcomes_of}
use Rattle.driven_sessions.specs.Transfers.{AreSaid}
use Rattle.driven_sessions.proofs.Asks.{AllAsk}
use Rattle.driven_sessions.proofs.Counting.{Counts, step_counts}
use Rattle.driven_sessions.proofs.Heard.{judged_before}
use Rattle.driven_sessions.proofs.Leading.{AreFree, calm_free, said_parts}
use Rattle.driven_sessions.proofs.Never.{is_of_readings, readings_within, run_on}
use Rattle.driven_sessions.proofs.Outcomes.{GoOn, goes_before, goes_same, left_run, taken_parts}
use Rattle.driven_sessions.proofs.Telling.{IsOwnNumber, Tells, Tied, step_tells}
use Rattle.driven_sessions.proofs.Within.{run_within}

-- What is so between the steps.
pub record RunCounts (id : ℕ) (asks : Bool) (all : List Outcome) (log : List Transfer) (new : Driven)
    (run : Drives (first_driven asks) log new) (s : Session) : Type 0 where
  pub tells : Tells (mounts_in run) new s
  pub counts : Counts id (mounts_in run) (tally_of id run) all (outcomes_of run) new s

module _ (id : ℕ) (low : 2 ≤ id) (asks : Bool) (all : List Outcome) (k : Known) (s : Session)
    (first : s ≡ act.SeveralReaders ∷ []) (free : AreFree is_of_readings [] s) (none : (u : ℕ) → was_read s u ≡ false) where
  begins : RunCounts id asks all [] (first_driven asks) nothing s
  begins = record {
    tells = record {
      well = λ live. absurd (false≢true live);
      above = λ live. absurd (false≢true live);
      asks = subst (AllAsk (Tied (first_driven asks).kernel)) (sym first) tt;
      holds = λ r holds. absurd (cc holds);
      before = λ zero. subst (AllAsk IsOwnNumber) (sym first) tt;
    };
    counts = record { owed = 0; owes = (refl, refl); balance = omega arith; failing = tt };
  }

  pub run_counts : (log : List Transfer) (new : Driven) (run : Drives (first_driven asks) log new) → mounts_in run ≤ 1
      → GoOn (outcomes_of run) all → (ts : List Said) → AreSaid log ts → (later : Known) (whole : Session)
      (leads : Lead k s ts later whole) → AreTaken k s ts later whole leads all → HaveAgreed Carries k s ts later whole leads
      → later.unjudged ≡ None → RunCounts id asks all log new run whole
  run_counts log new nothing few goes [] is later whole leads taken agreed judged =
      subst (RunCounts id asks all [] (first_driven asks) nothing) (sym leads.1) begins
  run_counts log new nothing few goes (t ∷ ts) is later whole leads taken agreed judged = absurd is
  run_counts log new (behind before mid run last end step) few goes ts is later whole leads taken agreed judged =
      let parts = said_parts before last ts is in
      let both : (l : Lead k s (parts.first ++ parts.last) later whole)
      × AreTaken k s (parts.first ++ parts.last) later whole l all × HaveAgreed Carries k s (parts.first ++ parts.last) later whole l =
      subst (λ (us : List Said). (l : Lead k s us later whole) × AreTaken k s us later whole l all × HaveAgreed Carries k s us later whole l)
      parts.all (leads, taken, agreed) in
      let led = taken_parts k s parts.first parts.last later whole both.0 all both.1 in
      let have = led.agreed both.2 in
      let was = run_counts before mid run (omega (arith, few)) (goes_before mid last end step (outcomes_of run) all goes) parts.first
      parts.said led.known led.session led.before led.taken have.0
      (judged_before parts.last led.known led.session later whole led.behind judged) in
      let keeps = (run_on asks k s free none before mid run (omega (arith, few)) parts.first parts.said led.known led.session
      led.before).keeps in
      let one = run_one asks before mid run in
      let empty = (run_tallied id low asks before mid run).empty in
      let within = run_within asks before mid run in
      record {
        tells = step_tells (mounts_in run) mid led.session was.tells keeps one empty within led.known later whole parts.last last end
            step few (run_within asks (before ++ last) end (behind before mid run last end step)) parts.said_more led.behind have.1;
        counts = step_counts id low (mounts_in run) (tally_of id run) all (outcomes_of run) mid led.known led.session was.counts
            was.tells one empty within (run_forgets id low asks before mid run).never_more parts.last later whole led.behind last end
            step few goes parts.said_more (subst (AreTaken led.known led.session parts.last later whole led.behind)
            (left_run (first_driven asks) before mid run parts.first parts.said all) led.taken_more) have.1 judged;
      }

pub lookups_are_counted : LookupsAreCounted
lookups_are_counted asks log new run one ts is k s (acts, known, are, leads) taken agreed judged id low =
    let first : acts ≡ act.SeveralReaders ∷ [] = are.0 in
    let runs = run_counts id low asks (outcomes_of run) known acts first (subst (AreFree is_of_readings []) (sym first)
    (calm_free is_of_readings readings_within [] (act.SeveralReaders ∷ []) refl))
    (λ u. ap (λ (l : List Act). was_read l u) first) log new run one (goes_same (outcomes_of run)) ts is k s leads taken agreed.1
    judged in
    let balance = runs.counts.balance in
    let tally = (run_forgets id low asks log new run).balance in
    omega (arith, balance, tally)
