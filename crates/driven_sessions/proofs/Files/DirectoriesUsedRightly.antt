-- In a run a kernel uses and releases its directories as it may.
use Rattle.std.proofs.Common.{length, length-append, ◌+◌, ◌*◌, ◌<◌, ◌^◌, ◌||◌, ◌≡◌, ℕ, ◌≤◌, Bool, true, false, List, [], ◌∷◌, ◌++◌, None, refl, ap, sym, subst, ◌∙◌, arith}
use Rattle.std.specs.List.{list_any}
use Rattle.std.proofs.lemmas.List.Folds.{list_any-append}
use Rattle.std.proofs.lemmas.Bool.{false≢true}
use Rattle.fuse_device.specs.Transfers.{Transfer}
use Rattle.fuse_spec.specs.declared.Opened.{Opened}
use Rattle.fk_drive.specs.Driving.{Driven, DriveStep, Drives, ReleasesBehind, SendsFrame, Turn, at_end, first_driven, opens, releases, releases_none, with_result, writes, next as behind, nothing as none_yet}
use Rattle.fk_drive_theorem.specs.TakenOnce.{mounts_in}
use Rattle.protocol_law.specs.Law.{Carries}
use Rattle.fuse_sessions.specs.declared.act.Act.{Act}
use Rattle.fuse_sessions.specs.declared.act.Act.TheVariants as act
use Rattle.fuse_sessions.specs.declared.act.OpenKind.TheVariants as kind
use Rattle.fuse_sessions.specs.declared.known.Known.{Known}
use Rattle.fuse_sessions.specs.declared.transfer.Transfer.{Transfer as Said}
use Rattle.fuse_sessions.specs.Frames.{AreAccepted, Lead}
use Rattle.fuse_sessions.specs.Numbers.{was_read}
use Rattle.fuse_sessions.specs.OpenFiles.{has_none, opens_none}
use Rattle.fuse_sessions.specs.Sessions.{Session}
use Rattle.driven_sessions.specs.Driven.{HaveAgreed}
use Rattle.driven_sessions.specs.Taken.{AreTaken, Outcome, outcomes_of}
use Rattle.driven_sessions.specs.Transfers.{AreSaid}
use Rattle.driven_sessions.proofs.Counted.{run_counts}
use Rattle.driven_sessions.proofs.Heard.{judged_before}
use Rattle.driven_sessions.proofs.Leading.{AreFree, calm_free, said_parts}
use Rattle.driven_sessions.proofs.Never.{is_of_readings, readings_within, run_on}
use Rattle.driven_sessions.proofs.Outcomes.{GoOn, goes_before, goes_same, taken_parts}
use Rattle.driven_sessions.proofs.Served.{added, added_all, free_first, free_if, free_last, is_of_server, taken_where_served}
use Rattle.driven_sessions.specs.Files.{DirectoriesAreUsedRightly}
use Rattle.driven_sessions.proofs.Files.DirectorySteps.{directories_free, step_directories}
use Rattle.driven_sessions.proofs.Files.Free.{accepted_parts, files_at, where_read}
use Rattle.driven_sessions.proofs.Files.OpenDirectories.{OpenDirectories}
use Rattle.driven_sessions.proofs.Files.RunPresent.{Presence, run_present}
use Rattle.driven_sessions.proofs.Telling.{Tells}
use Rattle.driven_sessions.proofs.Files.Rows.{FilesFree, apart_free}

-- ---- numbers of OPENDIR and RELEASEDIR

-- Each takes a transfer.
went_one : (bytes : List ℕ) (log : List Transfer) → SendsFrame bytes log → length log ≡ 1
went_one bytes log (with_result result) = refl
went_one bytes log (at_end end) = refl

step_next : (old : Driven) (log : List Transfer) (new : Driven) → DriveStep old log new → new.next ≤ old.next + 2 * length log
step_next old log new (opens request turn asks_it below node lists frame mine log' went) =
    let one = went_one frame log' went in omega (arith, one)
step_next old log new (writes idles frame rest there handed on result l took log' coming left turn behind_it) =
    by log' coming left turn behind_it
  where
    by : (log : List Transfer) (coming : ℕ) (left : List (ℕ × Opened)) (turn : Turn)
        → ReleasesBehind frame old.next old.directories log coming left turn → coming ≤ old.next + 2 * length log
    by log coming left turn (releases head below before after directory is_it apart bytes mine over went) =
        let one = went_one bytes log went in omega (arith, one)
    by log coming left turn (releases_none unlisted) = omega arith
step_next old log new step = omega arith

pub run_next : (asks : Bool) (log : List Transfer) (new : Driven) → Drives (first_driven asks) log new
    → new.next ≤ 2 ^ 62 + 2 * length log
run_next asks log new none_yet = omega arith
run_next asks log new (behind before mid run last end step) =
    let was = run_next asks before mid run in
    let more = step_next mid last end step in
    let sum = length-append before last in
    omega (arith, was, more, sum)

-- ---- a run

-- What none says of the whole, none says of the first part.
none_first : (xs ys : List Act) → has_none (xs ++ ys) kind.Directory ≡ false → has_none xs kind.Directory ≡ false
none_first xs ys none = by (has_none xs kind.Directory) refl
  where
    by : (b : Bool) → has_none xs kind.Directory ≡ b → b ≡ false
    by false is = refl
    by true is = absurd (false≢true (sym none ∙ list_any-append (opens_none kind.Directory) xs ys
        ∙ ap (λ (b : Bool). b || list_any (opens_none kind.Directory) ys) is))

record RunDirectories (d : Driven) (k : Known) (s : Session) : Type 0 where
  open_so : k.unjudged ≡ None → OpenDirectories d s
  free : FilesFree kind.Directory [] s

module _ (os : List Outcome) (k : Known) (s : Session) (first : s ≡ act.SeveralReaders ∷ [])
    (readings : AreFree is_of_readings [] s) (none : (u : ℕ) → was_read s u ≡ false) where
  run_directories : (log : List Transfer) (new : Driven) (run : Drives (first_driven true) log new) → length log < 2 ^ 61
      → mounts_in run ≤ 1 → GoOn (outcomes_of run) os → (ts : List Said) → AreSaid log ts → (later : Known) (whole : Session)
      (leads : Lead k s ts later whole) → AreTaken k s ts later whole leads os → HaveAgreed Carries k s ts later whole leads
      → AreAccepted ts → AreFree is_of_server [] whole → has_none whole kind.Directory ≡ false → RunDirectories new later whole
  run_directories log new none_yet short few goes [] is later whole leads taken agreed accepted free some =
      subst (RunDirectories (first_driven true) later) (sym leads.1) (subst (RunDirectories (first_driven true) later) (sym first) (record {
        open_so = λ judged. record { asks = refl; balance = λ o. omega arith; listed = tt; numbers = tt; turn = tt };
        free = apart_free kind.Directory [] (act.SeveralReaders ∷ []) refl;
      }))
  run_directories log new none_yet short few goes (t ∷ ts) is later whole leads taken agreed accepted free some = absurd is
  run_directories log new (behind before mid run last end step) short few goes ts is later whole leads taken agreed accepted free some =
      let parts = said_parts before last ts is in
      let both : (l : Lead k s (parts.first ++ parts.last) later whole)
      × AreTaken k s (parts.first ++ parts.last) later whole l os × HaveAgreed Carries k s (parts.first ++ parts.last) later whole l =
      subst (λ (us : List Said). (l : Lead k s us later whole) × AreTaken k s us later whole l os
      × HaveAgreed Carries k s us later whole l) parts.all (leads, taken, agreed) in
      let led = taken_parts k s parts.first parts.last later whole both.0 os both.1 in
      let have = led.agreed both.2 in
      let goes_so = goes_before mid last end step (outcomes_of run) os goes in
      let all = accepted_parts parts.first parts.last (subst AreAccepted parts.all accepted) in
      let more = added led.known led.session parts.last later whole led.behind in
      let grown : whole ≡ led.session ++ more = added_all led.known led.session parts.last later whole led.behind in
      let free_all = subst (AreFree is_of_server []) grown free in
      let free_so = free_first [] led.session more free_all in
      let free_more = free_last [] led.session more free_all in
      let some_so = none_first led.session more (sym (ap (λ (l : Session). has_none l kind.Directory) grown) ∙ some) in
      let sum = length-append before last in
      let was = run_directories before mid run (omega (arith, short, sum)) (omega (arith, few)) goes_so parts.first parts.said led.known
      led.session led.before led.taken have.0 all.0 free_so some_so in
      let low = run_next true before mid run in
      let below : mid.next < 2 ^ 63 = omega (arith, low, short, sum) in
      let known : led.known.unjudged ≡ None → Presence mid led.session = λ judged. run_present true os k s first readings none before mid
      run (omega (arith, few)) goes_so parts.first parts.said led.known led.session led.before led.taken have.0 all.0 free_so judged in
      let tells : led.known.unjudged ≡ None → Tells (mounts_in run) mid led.session = λ judged. (run_counts 2 (omega arith) true os k s
      first readings none before mid run (omega (arith, few)) goes_so parts.first parts.said led.known led.session led.before led.taken
      have.0 judged).tells in
      let keeps = (run_on true k s readings none before mid run (omega (arith, few)) parts.first parts.said led.known led.session
      led.before).keeps in
      record {
        open_so = λ judged.
            let judged_so = judged_before parts.last led.known led.session later whole led.behind judged in
            step_directories (mounts_in run) mid led.known led.session (was.open_so judged_so) (known judged_so).present (tells judged_so)
            keeps below parts.last later whole led.behind have.1 judged all.1 free_more some last end step parts.said_more;
        free = where_read (FilesFree kind.Directory []) led.known parts.last led.session later whole led.behind was.free (λ judged.
            directories_free (mounts_in run) mid led.known led.session (was.open_so judged) (known judged).present (tells judged)
            keeps below parts.last later whole led.behind have.1 was.free last end step parts.said_more);
      }

pub directories_used_rightly : DirectoriesAreUsedRightly
directories_used_rightly log new run short one ts is accepted k s (acts, known, are, leads) right some agreed place f has of =
    let first : acts ≡ act.SeveralReaders ∷ [] = are.0 in
    let taken = taken_where_served true log new run ts is accepted k s (acts, known, are, leads) right in
    let all = run_directories (outcomes_of run) known acts first (subst (AreFree is_of_readings []) (sym first)
    (calm_free is_of_readings readings_within [] (act.SeveralReaders ∷ []) refl))
    (λ u. ap (λ (l : List Act). was_read l u) first) log new run short one (goes_same (outcomes_of run)) ts is k s leads taken agreed.1
    accepted (free_if [] s right) some in
    files_at kind.Directory [] s all.free place f has of
