-- Each node is counted in a session as often as the kernel counts it.
use Rattle.std.proofs.Common.{◌≡◌, ℕ, ◌+◌, ◌≤◌, Bool, false, List, [], ◌∷◌, ◌++◌, None, refl, ap, sym, subst, arith}
use Rattle.fuse_device.specs.Transfers.{Transfer}
use Rattle.fuse_spec.specs.Kernel.Kernel.{Kernel}
use Rattle.fk_drive.specs.Driving.{Driven, Drives, first_driven, next as behind, nothing}
use Rattle.fk_drive_theorem.specs.Tallies.{no_lookups, tally_of}
use Rattle.fk_drive_theorem.specs.TakenOnce.{mounts_in}
use Rattle.fk_drive_theorem.proofs.OneEach.{run_one}
use Rattle.fk_drive_theorem.proofs.RunsTally.{run_forgets, run_tallied}
use Rattle.protocol_law.specs.Law.{Carries}
use Rattle.fuse_sessions.specs.declared.act.Act.{Act}
use Rattle.fuse_sessions.specs.declared.act.Act.TheVariants as act
use Rattle.fuse_sessions.specs.declared.known.Known.{Known}
use Rattle.fuse_sessions.specs.declared.transfer.Transfer.{Transfer as Said}
use Rattle.fuse_sessions.specs.declared.transfer.Transfer.TheVariants as said
use Rattle.fuse_sessions.specs.Counts.{most_count}
use Rattle.fuse_sessions.specs.Frames.{Lead}
use Rattle.fuse_sessions.specs.Numbers.{was_read}
use Rattle.fuse_sessions.specs.Sessions.{Session}
use Rattle.driven_sessions.specs.Counted.{IsPlainRun, LookupsAreSame}
use Rattle.driven_sessions.specs.Driven.{HaveAgreed}
use Rattle.driven_sessions.specs.Taken.{AreRefusedToo, AreTaken, Outcome, aside, outcomes_of, waiting, written}
use Rattle.driven_sessions.specs.Transfers.{AreSaid}
use Rattle.driven_sessions.proofs.Asks.{AllAsk}
use Rattle.driven_sessions.proofs.Counted.{lookups_are_counted, run_counts}
use Rattle.driven_sessions.proofs.Counting.{held_back}
use Rattle.driven_sessions.proofs.CountingOnly.{Given, IsKernels, Most, step_most}
use Rattle.driven_sessions.proofs.Heard.{judged_before}
use Rattle.driven_sessions.proofs.Leading.{AreFree, calm_free, said_parts}
use Rattle.driven_sessions.proofs.Never.{is_of_readings, readings_within, run_on}
use Rattle.driven_sessions.proofs.Outcomes.{GoOn, goes_before, goes_same, left_by, left_run, taken_parts}
use Rattle.driven_sessions.proofs.Owing.{Owes}
use Rattle.driven_sessions.proofs.Within.{run_within}

-- ---- what is refused in a part of a run

none_refused : (ts : List Said) → AreRefusedToo ts []
none_refused [] = tt
none_refused (said.Written bytes t ∷ ts) = tt
none_refused (said.Request bytes ∷ ts) = none_refused ts
none_refused (said.SeveralReaders ∷ ts) = none_refused ts
none_refused (said.SeveralWriters ∷ ts) = none_refused ts
none_refused (said.Ended ∷ ts) = none_refused ts

refused_parts : (first last : List Said) (all : List Outcome) → AreRefusedToo (first ++ last) all
    → AreRefusedToo first all × AreRefusedToo last (left_by first all)
refused_parts [] last all refused = (tt, refused)
refused_parts (said.Written bytes t ∷ first) last [] refused = (tt, none_refused last)
refused_parts (said.Written bytes t ∷ first) last (o ∷ all) refused =
    let rest = refused_parts first last all refused.1 in ((refused.0, rest.0), rest.1)
refused_parts (said.Request bytes ∷ first) last all refused = refused_parts first last all refused
refused_parts (said.SeveralReaders ∷ first) last all refused = refused_parts first last all refused
refused_parts (said.SeveralWriters ∷ first) last all refused = refused_parts first last all refused
refused_parts (said.Ended ∷ first) last all refused = refused_parts first last all refused

-- Frames that wait in the end give nothing.
settled : (id count : ℕ) (kernel : Kernel) (frames : List (List ℕ)) (now : List Outcome) (n : ℕ)
    → Owes (Given id count kernel) frames now now n → n ≡ 0
settled id count kernel frames [] n owes = owes.1
settled id count kernel frames (aside ∷ now) n owes = settled id count kernel frames now n owes
settled id count kernel frames (written result ∷ now) n owes = settled id count kernel frames now n owes
settled id count kernel [] (waiting ∷ now) n owes = absurd owes
settled id count kernel (frame ∷ frames) (waiting ∷ now) n (g, m, sum, such, rest) =
    let none = such.refused (λ e. cc e) in
    let more = settled id count kernel frames now m rest in
    omega (arith, sum, none, more)

-- ---- a run

module _ (id : ℕ) (low : 2 ≤ id) (asks : Bool) (all : List Outcome) (k : Known) (s : Session)
    (first : s ≡ act.SeveralReaders ∷ []) (free : AreFree is_of_readings [] s) (none : (u : ℕ) → was_read s u ≡ false) where
  begins : Most id 0 no_lookups all [] (first_driven asks) s
  begins =
      let zero : most_count s id ≡ 0 = ap (λ (x : Session). most_count x id) first in record {
        owed = 0;
        owes = (refl, refl);
        bound = λ live. omega (arith, zero);
        before = λ e. zero;
        kernels = subst (AllAsk IsKernels) (sym first) tt;
      }

  run_most : (log : List Transfer) (new : Driven) (run : Drives (first_driven asks) log new) → mounts_in run ≤ 1 → IsPlainRun run
      → GoOn (outcomes_of run) all → (ts : List Said) → AreSaid log ts → (later : Known) (whole : Session)
      (leads : Lead k s ts later whole) → AreTaken k s ts later whole leads all → AreRefusedToo ts all
      → HaveAgreed Carries k s ts later whole leads → later.unjudged ≡ None
      → Most id (mounts_in run) (tally_of id run) all (outcomes_of run) new whole
  run_most log new nothing few plain goes [] is later whole leads taken refused agreed judged =
      subst (Most id 0 no_lookups all [] (first_driven asks)) (sym leads.1) begins
  run_most log new nothing few plain goes (t ∷ ts) is later whole leads taken refused agreed judged = absurd is
  run_most log new (behind before mid run last end step) few plain goes ts is later whole leads taken refused agreed judged =
      let parts = said_parts before last ts is in
      let both : (l : Lead k s (parts.first ++ parts.last) later whole)
      × AreTaken k s (parts.first ++ parts.last) later whole l all × HaveAgreed Carries k s (parts.first ++ parts.last) later whole l =
      subst (λ (us : List Said). (l : Lead k s us later whole) × AreTaken k s us later whole l all × HaveAgreed Carries k s us later whole l)
      parts.all (leads, taken, agreed) in
      let led = taken_parts k s parts.first parts.last later whole both.0 all both.1 in
      let have = led.agreed both.2 in
      let split = refused_parts parts.first parts.last all (subst (λ (us : List Said). AreRefusedToo us all) parts.all refused) in
      let goes_so = goes_before mid last end step (outcomes_of run) all goes in
      let judged_so = judged_before parts.last led.known led.session later whole led.behind judged in
      let left = left_run (first_driven asks) before mid run parts.first parts.said all in
      let was = run_most before mid run (omega (arith, few)) plain.1 goes_so parts.first parts.said led.known led.session led.before
      led.taken split.0 have.0 judged_so in
      let tells = (run_counts id low asks all k s first free none before mid run (omega (arith, few)) goes_so parts.first parts.said
      led.known led.session led.before led.taken have.0 judged_so).tells in
      let keeps = (run_on asks k s free none before mid run (omega (arith, few)) parts.first parts.said led.known led.session
      led.before).keeps in
      step_most id low (mounts_in run) (tally_of id run) all (outcomes_of run) mid led.known led.session was tells keeps
      (run_one asks before mid run) (run_tallied id low asks before mid run).empty (run_within asks before mid run)
      (run_forgets id low asks before mid run).never_more parts.last later whole led.behind have.1 last end step plain.0 few goes
      parts.said_more (subst (AreTaken led.known led.session parts.last later whole led.behind) left led.taken_more)
      (subst (AreRefusedToo parts.last) left split.1) judged

pub lookups_are_the_same : LookupsAreSame
lookups_are_the_same asks log new run one plain ts is k s (acts, known, are, leads) taken refused agreed judged live idles id low =
    let first : acts ≡ act.SeveralReaders ∷ [] = are.0 in
    let least = lookups_are_counted asks log new run one ts is k s (acts, known, are, leads) taken agreed judged id low in
    let most = run_most id low asks (outcomes_of run) known acts first (subst (AreFree is_of_readings []) (sym first)
    (calm_free is_of_readings readings_within [] (act.SeveralReaders ∷ []) refl))
    (λ u. ap (λ (l : List Act). was_read l u) first) log new run one plain (goes_same (outcomes_of run)) ts is k s leads taken refused
    agreed.1 judged in
    let bound = most.bound live in
    let none = settled id (mounts_in run) new.kernel new.waiting (outcomes_of run) most.owed most.owes in
    let tally = (run_forgets id low asks log new run).balance in
    let back : held_back id new.turn ≡ 0 = ap (held_back id) idles in
    omega (arith, least, bound, none, tally, back)
