-- What waits in the session of a run, and what the kernel has of it.
use Rattle.std.proofs.Common.{◌≡◌, ℕ, ◌≤◌, Bool, false, List, [], ◌∷◌, ◌++◌, None, sym, subst, arith}
use Rattle.fuse_device.specs.Transfers.{Transfer}
use Rattle.fk_drive.specs.Driving.{Driven, Drives, first_driven, next as behind, nothing as none_yet}
use Rattle.fk_drive_theorem.specs.TakenOnce.{mounts_in}
use Rattle.fk_drive_theorem.proofs.OneEach.{run_one}
use Rattle.fk_drive_theorem.proofs.RunsTally.{run_tallied}
use Rattle.protocol_law.specs.Law.{Carries}
use Rattle.fuse_sessions.specs.declared.act.Act.TheVariants as act
use Rattle.fuse_sessions.specs.declared.known.Known.{Known}
use Rattle.fuse_sessions.specs.declared.transfer.Transfer.{Transfer as Said}
use Rattle.fuse_sessions.specs.Frames.{AreAccepted, Lead}
use Rattle.fuse_sessions.specs.Numbers.{was_read}
use Rattle.fuse_sessions.specs.Sessions.{Session}
use Rattle.driven_sessions.specs.Driven.{HaveAgreed}
use Rattle.driven_sessions.specs.Taken.{AreTaken, Outcome, outcomes_of}
use Rattle.driven_sessions.specs.Transfers.{AreSaid}
use Rattle.driven_sessions.proofs.Counted.{run_counts}
use Rattle.driven_sessions.proofs.Heard.{judged_before}
use Rattle.driven_sessions.proofs.Leading.{AreFree, said_parts}
use Rattle.driven_sessions.proofs.Never.{is_of_readings, run_on}
use Rattle.driven_sessions.proofs.Outcomes.{GoOn, goes_before, taken_parts}
use Rattle.driven_sessions.proofs.Served.{added, added_all, free_first, free_last, is_of_server}
use Rattle.driven_sessions.proofs.Files.Free.{accepted_parts}
use Rattle.driven_sessions.proofs.Files.Present.{Present, present_on}
use Rattle.driven_sessions.proofs.Files.Ties.{Ties, step_ties}

pub record Presence (d : Driven) (s : Session) : Type 0 where
  pub ties : Ties d s
  pub present : Present d s

module _ (asks : Bool) (os : List Outcome) (k : Known) (s : Session) (first : s ≡ act.SeveralReaders ∷ [])
    (readings : AreFree is_of_readings [] s) (none : (u : ℕ) → was_read s u ≡ false) where
  pub run_present : (log : List Transfer) (new : Driven) (run : Drives (first_driven asks) log new) → mounts_in run ≤ 1
      → GoOn (outcomes_of run) os → (ts : List Said) → AreSaid log ts → (later : Known) (whole : Session)
      (leads : Lead k s ts later whole) → AreTaken k s ts later whole leads os → HaveAgreed Carries k s ts later whole leads
      → AreAccepted ts → AreFree is_of_server [] whole → later.unjudged ≡ None → Presence new whole
  run_present log new none_yet few goes [] is later whole leads taken agreed accepted free judged =
      subst (Presence (first_driven asks)) (sym leads.1) (subst (Presence (first_driven asks)) (sym first) (record {
        ties = record { asks = tt; holds = λ r holds. absurd (cc holds) };
        present = record {
          waiting_there = tt;
          holds = λ r holds. absurd (cc holds);
          own = tt;
          even = tt;
          read = tt;
          answered = tt;
        };
      }))
  run_present log new none_yet few goes (t ∷ ts) is later whole leads taken agreed accepted free judged = absurd is
  run_present log new (behind before mid run last end step) few goes ts is later whole leads taken agreed accepted free judged =
      let parts = said_parts before last ts is in
      let both : (l : Lead k s (parts.first ++ parts.last) later whole)
      × AreTaken k s (parts.first ++ parts.last) later whole l os × HaveAgreed Carries k s (parts.first ++ parts.last) later whole l =
      subst (λ (us : List Said). (l : Lead k s us later whole) × AreTaken k s us later whole l os
      × HaveAgreed Carries k s us later whole l) parts.all (leads, taken, agreed) in
      let led = taken_parts k s parts.first parts.last later whole both.0 os both.1 in
      let have = led.agreed both.2 in
      let goes_so = goes_before mid last end step (outcomes_of run) os goes in
      let all = accepted_parts parts.first parts.last (subst AreAccepted parts.all accepted) in
      let more = added led.known led.session parts.last later whole led.behind in
      let grown : whole ≡ led.session ++ more = added_all led.known led.session parts.last later whole led.behind in
      let free_all = subst (AreFree is_of_server []) grown free in
      let judged_mid = judged_before parts.last led.known led.session later whole led.behind judged in
      let was = run_present before mid run (omega (arith, few)) goes_so parts.first parts.said led.known led.session led.before led.taken
      have.0 all.0 (free_first [] led.session more free_all) judged_mid in
      let tells = (run_counts 2 (omega arith) asks os k s first readings none before mid run (omega (arith, few)) goes_so parts.first
      parts.said led.known led.session led.before led.taken have.0 judged_mid).tells in
      let tells_next = (run_counts 2 (omega arith) asks os k s first readings none (before ++ last) end
      (behind before mid run last end step) few goes ts is later whole leads taken agreed judged).tells in
      let keeps = (run_on asks k s readings none before mid run (omega (arith, few)) parts.first parts.said led.known led.session
      led.before).keeps in
      let one = run_one asks before mid run in
      let empty = (run_tallied 2 (omega arith) asks before mid run).empty in
      let free_more = free_last [] led.session more free_all in
      record {
        ties = step_ties (mounts_in run) mid led.session was.ties keeps one empty tells led.known later whole parts.last last end step
            few tells_next parts.said_more led.behind have.1;
        present = present_on (mounts_in run) mid led.session was.present was.ties tells keeps one empty led.known later whole parts.last
            led.behind last end step few parts.said_more have.1 judged all.1 free_more;
      }
