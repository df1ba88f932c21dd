-- In a run a kernel forgets no node that a request names which waits.
use Rattle.std.proofs.Common.{refl, ap, take, ◌≡◌, ℕ, ◌≤◌, Bool, false, List, [], ◌∷◌, ◌++◌, None, sym, subst, arith}
use Rattle.fuse_device.specs.Transfers.{Transfer}
use Rattle.fk_drive.specs.Driving.{Driven, Drives, first_driven, next as behind, nothing as none_yet}
use Rattle.fk_drive_theorem.specs.TakenOnce.{mounts_in}
use Rattle.protocol_law.specs.Law.{Carries}
use Rattle.fuse_sessions.specs.declared.act.Act.TheVariants as act
use Rattle.fuse_sessions.specs.declared.known.Known.{Known}
use Rattle.fuse_sessions.specs.declared.transfer.Transfer.{Transfer as Said}
use Rattle.fuse_sessions.specs.Frames.{AreAccepted, Lead}
use Rattle.fuse_sessions.specs.Numbers.{was_read}
use Rattle.fuse_sessions.specs.Sessions.{Session}
use Rattle.driven_sessions.specs.Driven.{HaveAgreed}
use Rattle.driven_sessions.specs.Taken.{AreTaken, Outcome, outcomes_of}
use Rattle.driven_sessions.specs.Transfers.{AreSaid}
use Rattle.driven_sessions.proofs.Counted.{run_counts}
use Rattle.driven_sessions.proofs.Heard.{judged_before}
use Rattle.driven_sessions.proofs.Leading.{AreFree, said_parts}
use Rattle.driven_sessions.proofs.Never.{is_of_readings, run_on}
use Rattle.driven_sessions.proofs.Outcomes.{GoOn, goes_before, taken_parts}
use Rattle.driven_sessions.proofs.Served.{added, added_all, free_first, free_last, is_of_server}
use Rattle.driven_sessions.proofs.Files.Free.{accepted_parts}
use Rattle.fk_drive_theorem.proofs.RunsTally.{run_forgets}
use Rattle.fuse_sessions.specs.declared.act.Act.{Act}
use Rattle.driven_sessions.specs.Forgets.{NamedAreKept}
use Rattle.driven_sessions.proofs.Forgetting.{run_forgetting}
use Rattle.driven_sessions.proofs.KnownNodes.{run_knowing}
use Rattle.driven_sessions.proofs.LargeForgets.{run_good}
use Rattle.driven_sessions.proofs.Leading.{calm_free}
use Rattle.driven_sessions.proofs.Never.{readings_within}
use Rattle.driven_sessions.proofs.Outcomes.{goes_same}
use Rattle.driven_sessions.proofs.Served.{free_if, taken_where_served}
use Rattle.fuse_sessions.specs.Waiting.{waiting}
use Rattle.driven_sessions.proofs.Asks.{EachAsked}
use Rattle.driven_sessions.proofs.Files.ForgetActs.{AllSuch, NamesNot, all_at, named_on, none_named}
use Rattle.driven_sessions.proofs.Files.ForgetFrames.{step_such}
use Rattle.driven_sessions.proofs.Files.ForgetSteps.{NamedKept, step_named}
use Rattle.driven_sessions.proofs.Files.Free.{where_read}
use Rattle.driven_sessions.proofs.Files.RunPresent.{run_present}

-- ---- a run

abbrev pub IsUnnamed : Session → ℕ → Type 0
IsUnnamed s id = EachAsked (NamesNot id) (waiting s)

pub record RunNamed (d : Driven) (k : Known) (s : Session) : Type 0 where
  pub kept : k.unjudged ≡ None → NamedKept d s
  pub all : AllSuch IsUnnamed named_on [] s

module _ (asks : Bool) (os : List Outcome) (k : Known) (s : Session) (first : s ≡ act.SeveralReaders ∷ [])
    (readings : AreFree is_of_readings [] s) (none : (u : ℕ) → was_read s u ≡ false) where
  pub run_named : (log : List Transfer) (new : Driven) (run : Drives (first_driven asks) log new) → mounts_in run ≤ 1
      → GoOn (outcomes_of run) os → (ts : List Said) → AreSaid log ts → (later : Known) (whole : Session)
      (leads : Lead k s ts later whole) → AreTaken k s ts later whole leads os → HaveAgreed Carries k s ts later whole leads
      → AreAccepted ts → AreFree is_of_server [] whole → RunNamed new later whole
  run_named log new none_yet few goes [] is later whole leads taken agreed accepted free =
      subst (RunNamed (first_driven asks) later) (sym leads.1) (subst (RunNamed (first_driven asks) later) (sym first) (record {
        kept = λ judged. record {
          last = λ id low some last. absurd (omega (arith, some));
          own = tt;
          numbers = λ u awaits. absurd (cc awaits);
        };
        all = tt;
      }))
  run_named log new none_yet few goes (t ∷ ts) is later whole leads taken agreed accepted free = absurd is
  run_named log new (behind before mid run last end step) few goes ts is later whole leads taken agreed accepted free =
      let parts = said_parts before last ts is in
      let both : (l : Lead k s (parts.first ++ parts.last) later whole)
      × AreTaken k s (parts.first ++ parts.last) later whole l os × HaveAgreed Carries k s (parts.first ++ parts.last) later whole l =
      subst (λ (us : List Said). (l : Lead k s us later whole) × AreTaken k s us later whole l os
      × HaveAgreed Carries k s us later whole l) parts.all (leads, taken, agreed) in
      let led = taken_parts k s parts.first parts.last later whole both.0 os both.1 in
      let have = led.agreed both.2 in
      let goes_so = goes_before mid last end step (outcomes_of run) os goes in
      let all = accepted_parts parts.first parts.last (subst AreAccepted parts.all accepted) in
      let more = added led.known led.session parts.last later whole led.behind in
      let grown : whole ≡ led.session ++ more = added_all led.known led.session parts.last later whole led.behind in
      let free_all = subst (AreFree is_of_server []) grown free in
      let free_so = free_first [] led.session more free_all in
      let free_more = free_last [] led.session more free_all in
      let was = run_named before mid run (omega (arith, few)) goes_so parts.first parts.said led.known led.session led.before led.taken
      have.0 all.0 free_so in
      let keeps = (run_on asks k s readings none before mid run (omega (arith, few)) parts.first parts.said led.known led.session
      led.before).keeps in
      record {
        kept = λ judged.
            let judged_so = judged_before parts.last led.known led.session later whole led.behind judged in
            let known = run_present asks os k s first readings none before mid run (omega (arith, few)) goes_so parts.first parts.said
            led.known led.session led.before led.taken have.0 all.0 free_so judged_so in
            let tells = (run_counts 2 (omega arith) asks os k s first readings none before mid run (omega (arith, few)) goes_so parts.first
            parts.said led.known led.session led.before led.taken have.0 judged_so).tells in
            step_named (mounts_in run) mid led.known led.session (was.kept judged_so) known.present known.ties tells keeps
            (run_knowing asks before mid run) (run_forgetting asks before mid run) parts.last later whole led.behind have.1 judged all.1
            free_more last end step parts.said_more (λ id low.
            let counts = (run_counts id low asks os k s first readings none (before ++ last) end (behind before mid run last end step) few
            goes ts is later whole leads taken agreed judged).counts in
            let balance = counts.balance in
            let tally = (run_forgets id low asks (before ++ last) end (behind before mid run last end step)).balance in
            omega (arith, balance, tally));
        all = where_read (AllSuch IsUnnamed named_on []) led.known parts.last led.session later whole led.behind was.all (λ judged.
            step_such IsUnnamed named_on later whole led.known led.session was.all mid (was.kept judged).last (run_good asks before mid run) last end step
            parts.last parts.said_more led.behind);
      }

pub named_are_kept : NamedAreKept
named_are_kept asks log new run one ts is accepted k s (acts, known, are, leads) right agreed place node lookups stands some last =
    let first : acts ≡ act.SeveralReaders ∷ [] = are.0 in
    let taken = taken_where_served asks log new run ts is accepted k s (acts, known, are, leads) right in
    let named = run_named asks (outcomes_of run) known acts first (subst (AreFree is_of_readings []) (sym first)
    (calm_free is_of_readings readings_within [] (act.SeveralReaders ∷ []) refl))
    (λ u. ap (λ (l : List Act). was_read l u) first) log new run one (goes_same (outcomes_of run)) ts is k s leads taken agreed.1
    accepted (free_if [] s right) in
    none_named node (waiting (take place s)) (all_at IsUnnamed named_on [] s named.all place node lookups stands some last)
