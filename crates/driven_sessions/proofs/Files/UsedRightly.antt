-- In a run a kernel uses and releases its files as it may.
use Rattle.std.proofs.Common.{◌≡◌, inl, inr, ℕ, ◌≤◌, ◌&&◌, Bool, false, cond, nat_eq, List, [], ◌∷◌, ◌++◌, Some, None, refl, ap, sym, subst, ◌∙◌, arith}
use Rattle.std.specs.List.{list_all}
use Rattle.std.specs.Prelude.{sum_by}
use Rattle.std.proofs.lemmas.List.Sums.{sum_by-cons}
use Rattle.fuse_device.specs.Transfers.{Transfer}
use Rattle.fuse_spec.specs.declared.Opened.{Opened}
use Rattle.fuse_spec.specs.Kernel.Messages.{Request, RequestBody}
use Rattle.fuse_theorem.specs.OpenNumbers.{OpensApart}
use Rattle.fuse_theorem.proofs.Calls.Finding.{same_is}
use Rattle.fk_drive.specs.Driving.{Driven, DriveStep, Drives, ReleasesBehind, SendsFrame, Turn, alone, answers, first_driven, opens, releases, releases_none, sends, sends_opened, writes, next as behind, nothing as none_yet}
use Rattle.fk_drive_theorem.specs.TakenOnce.{mounts_in}
use Rattle.fk_drive_theorem.proofs.OneEach.{run_one}
use Rattle.fk_drive_theorem.proofs.RunsTally.{run_tallied}
use Rattle.protocol_law.specs.Law.{Carries}
use Rattle.fuse_sessions.specs.declared.act.Act.{Act}
use Rattle.fuse_sessions.specs.declared.act.Act.TheVariants as act
use Rattle.fuse_sessions.specs.declared.act.OpenKind.TheVariants as kind
use Rattle.fuse_sessions.specs.declared.known.Known.{Known}
use Rattle.fuse_sessions.specs.declared.transfer.Transfer.{Transfer as Said}
use Rattle.fuse_sessions.specs.Frames.{AreAccepted, Lead}
use Rattle.fuse_sessions.specs.Numbers.{was_read}
use Rattle.fuse_sessions.specs.Sessions.{Session}
use Rattle.fuse_sessions.specs.Waiting.{waiting}
use Rattle.driven_sessions.specs.Driven.{HaveAgreed}
use Rattle.driven_sessions.specs.Taken.{AreTaken, Outcome, outcomes_of}
use Rattle.driven_sessions.specs.Transfers.{AreSaid, IsShaped}
use Rattle.driven_sessions.proofs.Asking.{once_each}
use Rattle.driven_sessions.proofs.Counted.{run_counts}
use Rattle.driven_sessions.proofs.Heard.{judged_before}
use Rattle.driven_sessions.proofs.Leading.{AreFree, calm_free, said_parts}
use Rattle.driven_sessions.proofs.Never.{is_of_readings, readings_within, run_on}
use Rattle.driven_sessions.proofs.Outcomes.{GoOn, goes_before, goes_same, taken_parts}
use Rattle.driven_sessions.proofs.Served.{added, added_all, free_first, free_if, free_last, is_of_server, taken_where_served}
use Rattle.driven_sessions.proofs.Shapes.{own_shaped, said_shaped}
use Rattle.driven_sessions.proofs.Spent.{held}
use Rattle.driven_sessions.proofs.Within.{run_within}
use Rattle.driven_sessions.specs.Files.{AreCertain, FilesAreUsedRightly, is_certain}
use Rattle.driven_sessions.proofs.Files.Balance.{Files, releases_of, step_on, uses_of}
use Rattle.driven_sessions.proofs.Files.FrameActs.{MayDo}
use Rattle.driven_sessions.proofs.Files.Free.{accepted_parts, files_at, quiet_free, sends_free}
use Rattle.driven_sessions.proofs.Files.Frames.{SaysFiles, no_files, own_files, request_files}
use Rattle.driven_sessions.proofs.Files.KernelFiles.{alone_leaves, taken_apart}
use Rattle.driven_sessions.proofs.Files.Last.{Last, none_used, step_last}
use Rattle.driven_sessions.proofs.Files.Opened.{is_file, open_file}
use Rattle.driven_sessions.proofs.Files.Replies.{all_first, all_last}
use Rattle.driven_sessions.proofs.Files.Rows.{FilesFree, apart_free, files_of, handle_of}
use Rattle.driven_sessions.proofs.Files.RunPresent.{run_present}

-- ---- numbers of calls and files are apart in a run

run_apart : (asks : Bool) (log : List Transfer) (new : Driven) → Drives (first_driven asks) log new
    → OpensApart new.kernel.vfs new.kernel.closing
run_apart asks log new none_yet = record {
  once = λ n. omega arith;
  below = λ n high. refl;
  opens = tt;
  closing = tt;
  uses = λ call state at. absurd (cc at);
}
run_apart asks log new (behind before mid run last end step) =
    by last end step (run_apart asks before mid run)
  where
    by : (log : List Transfer) (new : Driven) → DriveStep mid log new → OpensApart mid.kernel.vfs mid.kernel.closing
        → OpensApart new.kernel.vfs new.kernel.closing
    by log new (alone l acts) apart =
        (alone_leaves mid.kernel l acts apart (once_each mid.kernel.queues (run_one asks before mid run))).apart
    by log new (answers request error turn bytes reply result l took) apart = taken_apart mid.kernel bytes result l took apart
    by log new (writes idles frame rest there handed on result l took log' coming left turn behind_it) apart =
        taken_apart mid.kernel handed result l took apart
    by log new step apart = apart

-- ---- what is so between the steps

record RunFiles (o : Opened) (count : ℕ) (d : Driven) (s : Session) : Type 0 where
  files : Files o count d s
  last : Last o d s

module _ (asks : Bool) (os : List Outcome) (k : Known) (s : Session) (first : s ≡ act.SeveralReaders ∷ [])
    (readings : AreFree is_of_readings [] s) (none : (u : ℕ) → was_read s u ≡ false) where
  module _ (o : Opened) where
    begins : RunFiles o 0 (first_driven asks) s
    begins = record {
      files = record { owed = 0; owes = refl; balance = omega arith; uses = omega arith };
      last = λ some once. absurd (omega (arith, some));
    }

    run_files : (log : List Transfer) (new : Driven) (run : Drives (first_driven asks) log new) → mounts_in run ≤ 1
        → GoOn (outcomes_of run) os → (ts : List Said) → AreSaid log ts → (later : Known) (whole : Session)
        (leads : Lead k s ts later whole) → AreTaken k s ts later whole leads os → HaveAgreed Carries k s ts later whole leads
        → AreAccepted ts → AreFree is_of_server [] whole → AreCertain whole → later.unjudged ≡ None
        → RunFiles o (mounts_in run) new whole
    run_files log new none_yet few goes [] is later whole leads taken agreed accepted free certain judged =
        subst (RunFiles o 0 (first_driven asks)) (sym leads.1) begins
    run_files log new none_yet few goes (t ∷ ts) is later whole leads taken agreed accepted free certain judged = absurd is
    run_files log new (behind before mid run last end step) few goes ts is later whole leads taken agreed accepted free certain judged =
        let parts = said_parts before last ts is in
        let both : (l : Lead k s (parts.first ++ parts.last) later whole)
        × AreTaken k s (parts.first ++ parts.last) later whole l os × HaveAgreed Carries k s (parts.first ++ parts.last) later whole l =
        subst (λ (us : List Said). (l : Lead k s us later whole) × AreTaken k s us later whole l os
        × HaveAgreed Carries k s us later whole l) parts.all (leads, taken, agreed) in
        let led = taken_parts k s parts.first parts.last later whole both.0 os both.1 in
        let have = led.agreed both.2 in
        let goes_so = goes_before mid last end step (outcomes_of run) os goes in
        let all = accepted_parts parts.first parts.last (subst AreAccepted parts.all accepted) in
        let more = added led.known led.session parts.last later whole led.behind in
        let grown : whole ≡ led.session ++ more = added_all led.known led.session parts.last later whole led.behind in
        let free_all = subst (AreFree is_of_server []) grown free in
        let certain_all : AreCertain (led.session ++ more) = sym (ap (list_all is_certain) grown) ∙ certain in
        let judged_mid = judged_before parts.last led.known led.session later whole led.behind judged in
        let was = run_files before mid run (omega (arith, few)) goes_so parts.first parts.said led.known led.session led.before led.taken
        have.0 all.0 (free_first [] led.session more free_all) (all_first is_certain led.session more certain_all) judged_mid in
        let known = run_present asks os k s first readings none before mid run (omega (arith, few)) goes_so parts.first parts.said led.known
        led.session led.before led.taken have.0 all.0 (free_first [] led.session more free_all) judged_mid in
        let tells = (run_counts 2 (omega arith) asks os k s first readings none before mid run (omega (arith, few)) goes_so parts.first
        parts.said led.known led.session led.before led.taken have.0 judged_mid).tells in
        let keeps = (run_on asks k s readings none before mid run (omega (arith, few)) parts.first parts.said led.known led.session
        led.before).keeps in
        let one = run_one asks before mid run in
        let empty = (run_tallied 2 (omega arith) asks before mid run).empty in
        let within = run_within asks before mid run in
        let apart = run_apart asks before mid run in
        let free_more = free_last [] led.session more free_all in
        let certain_more = all_last is_certain led.session more certain_all in
        record {
          files = step_on o (mounts_in run) mid led.known led.session was.files tells known.ties keeps one empty within apart parts.last
              later whole led.behind last end step few parts.said_more have.1 judged all.1 free_more certain_more;
          last = step_last o (mounts_in run) mid led.session was.last was.files known.present known.ties tells one apart led.known later whole
              parts.last led.behind last end step parts.said_more have.1;
        }

  -- ---- the session is free of faults about files

  -- What is held may be sent.
  may_send : (count : ℕ) (d : Driven) (t : Session) → ((o : Opened) → RunFiles o count d t) → (r : Request) → held d.turn ≡ Some r
      → MayDo kind.File (files_of r.body) t
  may_send count d t each r holds = record {
    used = λ p of.
        let uses = (each p).files.uses in
        let mine : uses_of p (held d.turn) ≡ sum_by (is_file p) (p ∷ []) = ap (uses_of p) holds ∙ ap (sum_by (is_file p)) of in
        let sum = sum_by-cons (is_file p) p [] in
        let self = self_file p in
        omega (arith, uses, mine, sum, self);
    released = λ p of.
        let balance = (each p).files.balance in
        let mine : releases_of p (held d.turn) ≡ sum_by (is_file p) (p ∷ []) = ap (releases_of p) holds ∙ ap (sum_by (is_file p)) of in
        let sum = sum_by-cons (is_file p) p [] in
        let self = self_file p in (
          omega (arith, balance, mine, sum, self),
          λ once. none_used (open_file p) (waiting t) ((each p).last (omega (arith, mine, sum, self)) once),
        );
  }
    where
      self_file : (p : Opened) → is_file p p ≡ 1
      self_file p = ap (λ (b : Bool). cond {A = ℕ} (b && nat_eq p.fh p.fh) 1 0) (same_is p.nodeid)
          ∙ ap (λ (b : Bool). cond {A = ℕ} b 1 0) (same_is p.fh)

module _ (later : Known) (all : Session) (k : Known) (s : Session) (free : FilesFree kind.File [] s) where
  ours_free : (frame : List ℕ) (body : RequestBody) → SaysFiles body frame → IsShaped frame
      → (k.unjudged ≡ None → MayDo kind.File (files_of body) s) → (log : List Transfer) → SendsFrame frame log → (ts : List Said)
      → AreSaid log ts → (leads : Lead k s ts later all) → HaveAgreed Carries k s ts later all leads → FilesFree kind.File [] all
  ours_free frame body says = sends_free kind.File later all k s free frame (files_of body) (handle_of body k frame says)

  own_may : MayDo kind.File (files_of no_files) s
  own_may = record { used = λ p of. absurd (cc of); released = λ p of. absurd (cc of) }

  step_free : (old : Driven) → (k.unjudged ≡ None → (r : Request) → held old.turn ≡ Some r → MayDo kind.File (files_of r.body) s)
      → (log : List Transfer) (new : Driven) → DriveStep old log new → (ts : List Said) → AreSaid log ts
      → (leads : Lead k s ts later all) → HaveAgreed Carries k s ts later all leads → FilesFree kind.File [] all
  step_free old may log new (sends request turn unlisted frame goes log' went) ts is leads agreed = ours_free frame request.body (request_files frame request goes) (said_shaped frame request goes.says) (λ judged. may judged request (ap held turn)) log went ts
      is leads agreed
  step_free old may log new (sends_opened request fh turn frame goes handle log' went) ts is leads agreed = ours_free frame
      request.body (request_files frame request goes) (said_shaped frame request goes.says)
      (λ judged. may judged request (ap held turn)) log went ts is leads agreed
  step_free old may log new (opens request turn asks_it below node lists frame mine log' went) ts is leads agreed = ours_free frame no_files (own_files frame old.next below (inl (node, mine))) (own_shaped frame old.next below (inl (node, mine)))
      (λ judged. own_may) log went ts is leads agreed
  step_free old may log new (writes idles frame rest there handed on result l took log' coming left turn behind_it) ts is leads agreed =
      by log' coming left turn behind_it is
    where
      by : (log : List Transfer) (coming : ℕ) (left : List (ℕ × Opened)) (turn : Turn)
          → ReleasesBehind frame old.next old.directories log coming left turn → AreSaid log ts → FilesFree kind.File [] all
      by log coming left turn (releases head below before after directory is_it apart bytes mine over went) said_so = ours_free bytes no_files (own_files bytes old.next below (inr (directory, mine))) (own_shaped bytes old.next below (inr (directory, mine)))
          (λ judged. own_may) log went ts said_so leads agreed
      by log coming left turn (releases_none unlisted) said_so = quiet_free kind.File later all [] tt ts said_so k s free leads
  step_free old may log new step ts is leads agreed = quiet_free kind.File later all log tt ts is k s free leads

module _ (asks : Bool) (os : List Outcome) (k : Known) (s : Session) (first : s ≡ act.SeveralReaders ∷ [])
    (readings : AreFree is_of_readings [] s) (none : (u : ℕ) → was_read s u ≡ false) where
  run_free : (log : List Transfer) (new : Driven) (run : Drives (first_driven asks) log new) → mounts_in run ≤ 1
      → GoOn (outcomes_of run) os → (ts : List Said) → AreSaid log ts → (later : Known) (whole : Session)
      (leads : Lead k s ts later whole) → AreTaken k s ts later whole leads os → HaveAgreed Carries k s ts later whole leads
      → AreAccepted ts → AreFree is_of_server [] whole → AreCertain whole → FilesFree kind.File [] whole
  run_free log new none_yet few goes [] is later whole leads taken agreed accepted free certain =
      subst (FilesFree kind.File []) (sym leads.1) (subst (FilesFree kind.File []) (sym first) (apart_free kind.File [] (act.SeveralReaders ∷ []) refl))
  run_free log new none_yet few goes (t ∷ ts) is later whole leads taken agreed accepted free certain = absurd is
  run_free log new (behind before mid run last end step) few goes ts is later whole leads taken agreed accepted free certain =
      let parts = said_parts before last ts is in
      let both : (l : Lead k s (parts.first ++ parts.last) later whole)
      × AreTaken k s (parts.first ++ parts.last) later whole l os × HaveAgreed Carries k s (parts.first ++ parts.last) later whole l =
      subst (λ (us : List Said). (l : Lead k s us later whole) × AreTaken k s us later whole l os
      × HaveAgreed Carries k s us later whole l) parts.all (leads, taken, agreed) in
      let led = taken_parts k s parts.first parts.last later whole both.0 os both.1 in
      let have = led.agreed both.2 in
      let goes_so = goes_before mid last end step (outcomes_of run) os goes in
      let all = accepted_parts parts.first parts.last (subst AreAccepted parts.all accepted) in
      let more = added led.known led.session parts.last later whole led.behind in
      let grown : whole ≡ led.session ++ more = added_all led.known led.session parts.last later whole led.behind in
      let free_so = free_first [] led.session more (subst (AreFree is_of_server []) grown free) in
      let certain_so = all_first is_certain led.session more (sym (ap (list_all is_certain) grown) ∙ certain) in
      let was = run_free before mid run (omega (arith, few)) goes_so parts.first parts.said led.known led.session led.before led.taken
      have.0 all.0 free_so certain_so in
      step_free later whole led.known led.session was mid
      (λ judged. may_send asks os k s first readings none (mounts_in run) mid led.session
      (λ o. run_files asks os k s first readings none o before mid run (omega (arith, few)) goes_so parts.first parts.said led.known
      led.session led.before led.taken have.0 all.0 free_so certain_so judged)) last end step parts.last parts.said_more led.behind have.1

pub files_used_rightly : FilesAreUsedRightly
files_used_rightly asks log new run one ts is accepted k s (acts, known, are, leads) right certain agreed place f has of =
    let first : acts ≡ act.SeveralReaders ∷ [] = are.0 in
    let taken = taken_where_served asks log new run ts is accepted k s (acts, known, are, leads) right in
    let free = run_free asks (outcomes_of run) known acts first (subst (AreFree is_of_readings []) (sym first)
    (calm_free is_of_readings readings_within [] (act.SeveralReaders ∷ []) refl))
    (λ u. ap (λ (l : List Act). was_read l u) first) log new run one (goes_same (outcomes_of run)) ts is k s leads taken agreed.1
    accepted (free_if [] s right) certain in
    files_at kind.File [] s free place f has of
