-- In a run a kernel forgets no node of which a directory is open.
use Rattle.std.proofs.Common.{length, length-append, inl, refl, ap, ◌<◌, ◌^◌, ◌≡◌, ℕ, ◌≤◌, Bool, false, List, [], ◌∷◌, ◌++◌, None, sym, subst, arith}
use Rattle.fuse_device.specs.Transfers.{Transfer}
use Rattle.fk_drive.specs.Driving.{Driven, Drives, first_driven, next as behind, nothing as none_yet}
use Rattle.fk_drive_theorem.specs.TakenOnce.{mounts_in}
use Rattle.protocol_law.specs.Law.{Carries}
use Rattle.fuse_sessions.specs.declared.act.Act.TheVariants as act
use Rattle.fuse_sessions.specs.declared.known.Known.{Known}
use Rattle.fuse_sessions.specs.declared.transfer.Transfer.{Transfer as Said}
use Rattle.fuse_sessions.specs.Frames.{AreAccepted, Lead}
use Rattle.fuse_sessions.specs.Numbers.{was_read}
use Rattle.fuse_sessions.specs.Sessions.{Session}
use Rattle.driven_sessions.specs.Driven.{HaveAgreed}
use Rattle.driven_sessions.specs.Taken.{AreTaken, Outcome, outcomes_of}
use Rattle.driven_sessions.specs.Transfers.{AreSaid}
use Rattle.driven_sessions.proofs.Counted.{run_counts}
use Rattle.driven_sessions.proofs.Heard.{judged_before}
use Rattle.driven_sessions.proofs.Leading.{AreFree, said_parts}
use Rattle.driven_sessions.proofs.Never.{is_of_readings, run_on}
use Rattle.driven_sessions.proofs.Outcomes.{GoOn, goes_before, taken_parts}
use Rattle.driven_sessions.proofs.Served.{added, added_all, free_first, free_last, is_of_server}
use Rattle.driven_sessions.proofs.Files.Free.{accepted_parts}
use Rattle.fuse_device.specs.Transfers.{received, sent, stopped, unsent}
use Rattle.fk_drive_theorem.proofs.RunsTally.{run_forgets}
use Rattle.fuse_sessions.specs.declared.act.Act.{Act}
use Rattle.driven_sessions.specs.Forgets.{AreAllSent, OpenedAreKept}
use Rattle.driven_sessions.proofs.Forgetting.{run_forgetting}
use Rattle.driven_sessions.proofs.KnownNodes.{run_knowing}
use Rattle.driven_sessions.proofs.LargeForgets.{run_good}
use Rattle.driven_sessions.proofs.Leading.{calm_free}
use Rattle.driven_sessions.proofs.Never.{readings_within}
use Rattle.driven_sessions.proofs.Outcomes.{goes_same}
use Rattle.driven_sessions.proofs.Served.{free_if, taken_where_served}
use Rattle.driven_sessions.proofs.Files.ForgetActs.{AllSuch, all_at}
use Rattle.driven_sessions.proofs.Files.ForgetFrames.{step_such}
use Rattle.driven_sessions.proofs.Files.Free.{where_read}
use Rattle.driven_sessions.proofs.Files.RunPresent.{Presence, run_present}
use Rattle.driven_sessions.proofs.Uncounted.{run_named as run_listed}
use Rattle.driven_sessions.proofs.Files.DirectoriesShown.{DirectoriesShown, step_shown}
use Rattle.driven_sessions.proofs.Files.DirectoriesUsedRightly.{run_next}
use Rattle.driven_sessions.proofs.Files.ForgetFrames.{HasLast}
use Rattle.driven_sessions.proofs.Files.NamedKept.{run_named}
use Rattle.driven_sessions.proofs.Files.UnopenedSteps.{IsUnopened, step_unopened, unopened_on}
use Rattle.driven_sessions.proofs.Telling.{Tells}

all_sent_parts : (first last : List Transfer) → AreAllSent (first ++ last) → AreAllSent first × AreAllSent last
all_sent_parts [] last all = (tt, all)
all_sent_parts (unsent frame end ∷ first) last all = absurd all
all_sent_parts (sent frame result ∷ first) last all = all_sent_parts first last all
all_sent_parts (received frame ∷ first) last all = all_sent_parts first last all
all_sent_parts (stopped end ∷ first) last all = all_sent_parts first last all

record RunUnopened (d : Driven) (k : Known) (s : Session) : Type 0 where
  shown : k.unjudged ≡ None → DirectoriesShown d s
  unopened_last : k.unjudged ≡ None → HasLast IsUnopened d s
  every : AllSuch IsUnopened unopened_on [] s

module _ (asks : Bool) (os : List Outcome) (k : Known) (s : Session) (first : s ≡ act.SeveralReaders ∷ [])
    (readings : AreFree is_of_readings [] s) (none : (u : ℕ) → was_read s u ≡ false) where
  run_unopened : (log : List Transfer) (new : Driven) (run : Drives (first_driven asks) log new) → length log < 2 ^ 61 → AreAllSent log
      → mounts_in run ≤ 1 → GoOn (outcomes_of run) os → (ts : List Said) → AreSaid log ts → (later : Known) (whole : Session)
      (leads : Lead k s ts later whole) → AreTaken k s ts later whole leads os → HaveAgreed Carries k s ts later whole leads
      → AreAccepted ts → AreFree is_of_server [] whole → RunUnopened new later whole
  run_unopened log new none_yet short all_sent few goes [] is later whole leads taken agreed accepted free =
      subst (RunUnopened (first_driven asks) later) (sym leads.1) (subst (RunUnopened (first_driven asks) later) (sym first) (record {
        shown = λ judged. record { all = inl (λ p. omega arith); asks = tt };
        unopened_last = λ judged id low some last fh. absurd (omega (arith, some));
        every = tt;
      }))
  run_unopened log new none_yet short all_sent few goes (t ∷ ts) is later whole leads taken agreed accepted free = absurd is
  run_unopened log new (behind before mid run last end step) short all_sent few goes ts is later whole leads taken agreed accepted free =
      let parts = said_parts before last ts is in
      let both : (l : Lead k s (parts.first ++ parts.last) later whole)
      × AreTaken k s (parts.first ++ parts.last) later whole l os × HaveAgreed Carries k s (parts.first ++ parts.last) later whole l =
      subst (λ (us : List Said). (l : Lead k s us later whole) × AreTaken k s us later whole l os
      × HaveAgreed Carries k s us later whole l) parts.all (leads, taken, agreed) in
      let led = taken_parts k s parts.first parts.last later whole both.0 os both.1 in
      let have = led.agreed both.2 in
      let goes_so = goes_before mid last end step (outcomes_of run) os goes in
      let all = accepted_parts parts.first parts.last (subst AreAccepted parts.all accepted) in
      let more = added led.known led.session parts.last later whole led.behind in
      let grown : whole ≡ led.session ++ more = added_all led.known led.session parts.last later whole led.behind in
      let free_all = subst (AreFree is_of_server []) grown free in
      let free_so = free_first [] led.session more free_all in
      let free_more = free_last [] led.session more free_all in
      let went = all_sent_parts before last all_sent in
      let sum = length-append before last in
      let was = run_unopened before mid run (omega (arith, short, sum)) went.0 (omega (arith, few)) goes_so parts.first parts.said led.known
      led.session led.before led.taken have.0 all.0 free_so in
      let low = run_next asks before mid run in
      let below : mid.next < 2 ^ 63 = omega (arith, low, short, sum) in
      let named = run_named asks os k s first readings none before mid run (omega (arith, few)) goes_so parts.first parts.said led.known
      led.session led.before led.taken have.0 all.0 free_so in
      let listed = run_listed asks os k s first readings none before mid run (omega (arith, few)) goes_so parts.first parts.said led.known
      led.session led.before led.taken have.0 in
      let keeps = (run_on asks k s readings none before mid run (omega (arith, few)) parts.first parts.said led.known led.session
      led.before).keeps in
      let known : led.known.unjudged ≡ None → Presence mid led.session = λ judged. run_present asks os k s first readings none before mid
      run (omega (arith, few)) goes_so parts.first parts.said led.known led.session led.before led.taken have.0 all.0 free_so judged in
      let tells : led.known.unjudged ≡ None → Tells (mounts_in run) mid led.session = λ judged. (run_counts 2 (omega arith) asks os k s
      first readings none before mid run (omega (arith, few)) goes_so parts.first parts.said led.known led.session led.before led.taken
      have.0 judged).tells in
      record {
        shown = λ judged.
            let so = judged_before parts.last led.known led.session later whole led.behind judged in
            step_shown (mounts_in run) mid led.known led.session (was.shown so) (named.kept so) (known so).present (tells so) keeps
            parts.last later whole led.behind have.1 judged all.1 free_more last end step parts.said_more went.1;
        unopened_last = λ judged.
            let so = judged_before parts.last led.known led.session later whole led.behind judged in
            step_unopened (mounts_in run) mid led.known led.session (was.unopened_last so) (was.shown so) (named.kept so)
            (known so).present (tells so) keeps (listed.listed so below) (run_knowing asks before mid run)
            (run_forgetting asks before mid run) parts.last later whole led.behind have.1 judged all.1 free_more last end step
            parts.said_more (λ id two.
            let counts = (run_counts id two asks os k s first readings none (before ++ last) end (behind before mid run last end step) few
            goes ts is later whole leads taken agreed judged).counts in
            let balance = counts.balance in
            let tally = (run_forgets id two asks (before ++ last) end (behind before mid run last end step)).balance in
            omega (arith, balance, tally));
        every = where_read (AllSuch IsUnopened unopened_on []) led.known parts.last led.session later whole led.behind was.every (λ judged.
            step_such IsUnopened unopened_on later whole led.known led.session was.every mid (was.unopened_last judged)
            (run_good asks before mid run) last end step parts.last parts.said_more led.behind);
      }

pub opened_are_kept : OpenedAreKept
opened_are_kept asks log new run short all_sent one ts is accepted k s (acts, known, are, leads) right agreed place node lookups fh stands
    some last =
    let first : acts ≡ act.SeveralReaders ∷ [] = are.0 in
    let taken = taken_where_served asks log new run ts is accepted k s (acts, known, are, leads) right in
    let unopened = run_unopened asks (outcomes_of run) known acts first (subst (AreFree is_of_readings []) (sym first)
    (calm_free is_of_readings readings_within [] (act.SeveralReaders ∷ []) refl))
    (λ u. ap (λ (l : List Act). was_read l u) first) log new run short all_sent one (goes_same (outcomes_of run)) ts is k s leads taken
    agreed.1 accepted (free_if [] s right) in
    all_at IsUnopened unopened_on [] s unopened.every place node lookups stands some last fh
