-- A check, line by line.
use Rattle.std.proofs.Common.{◌≡◌, ◌+◌, ◌⊎◌, ◌++◌, ℕ, Bool, true, false, List, [], ◌∷◌, Option, Some, None, Result, Ok, Err, if◌then◌else◌, length, is_err, append_assoc, append-nil, length-append, arith, refl, sym, ap, subst, ◌∙◌, inl, inr}
use Rattle.std.specs.Prelude.{IfSome, OnOk}
use Rattle.std.specs.Io.KnownBytes.{Appends}
use Rattle.fuse_sessions.specs.declared.act.Act.{Act}
use Rattle.fuse_sessions.specs.declared.fault.Fault.{Fault}
use Rattle.fuse_sessions.specs.declared.transfer.Transfer.{Transfer}
use Rattle.fuse_sessions.specs.declared.transfer.Transfer.TheVariants as transfer
use Rattle.fuse_sessions.specs.Sessions.{Session}
use Rattle.fuse_sessions.specs.Waiting.{waiting}
use Rattle.fuse_capture.specs.declared.line.CaptureLine.{CaptureLine}
use Rattle.fuse_capture.specs.declared.line.CaptureLine.TheVariants as line
use Rattle.fuse_capture.specs.Lines.{IsPassedOver, IsTextOf, LineSays}
use Rattle.fuse_text.specs.Words.{words_of}
use Rattle.fuse_capture.specs.Readings.{HasTime, IsTransferOf}
use Rattle.fw_check.specs.declared.counts.Counts.{Counts}
use Rattle.fw_check.specs.declared.options.CheckForm.{CheckForm}
use Rattle.fw_check.specs.declared.options.CheckForm.TheVariants.{Json, Words}
use Rattle.fw_check.specs.declared.options.CheckOptions.{CheckOptions}
use Rattle.fw_check.specs.declared.remains.Remains.{Remains}
use Rattle.fuse_capture.specs.declared.line.CaptureFault.{CaptureFault}
use Rattle.fuse_text.specs.declared.stop.Stop.{Stop}
use Rattle.fuse_text.specs.declared.stop.Stop.TheVariants.{BadLine, CannotRead, NoMemory, OutputRefused}
use Rattle.fw_check.specs.Asked.{asked_verdicts}
use Rattle.fw_check.specs.Checks.{Judged, Checks, passed_over, says, no_line, nothing_judged, counts_of, end_text, start_in}
use Rattle.fuse_text.specs.Lines.{lines_of}
use Rattle.fw_check.specs.Forms.{closing_text, counts_text, head_text, transfer_lines}
use Rattle.fw_check.specs.Names.{with_names}
use Rattle.fuse_text.specs.Outputs.{AppendsSome}
use Rattle.fw_check.specs.Past.{traces_of}
use Rattle.fw_check.specs.Standing.{file_count, node_count, remains_of}
use Rattle.fw_check.specs.Summary.{LineTimeIs, TimeIs, after_asked, line_time, table_text}
use Rattle.fw_check.specs.Running.{AllChecked, AreCounts, CheckEnds, ChecksMore, IsJudgedSo, IsKept, AreLeft, IsUpTo, LineEnds, NextEnds, PrintsEnd, SaidEnds, SeenState, StopsIn, judged_after}
use Rattle.fuse_text.specs.Lines.{IsTaken}
use Rattle.std.proofs.KnownBytes.{Appends-trans}
use Rattle.fuse_text.proofs.Writes.{some_first, some_then}

-- ---- results

pub from_no_error : {T E : Type 0} (P : Type 0) (r : Result T E) (test : Bool) → test ≡ is_err r → test ≡ false
    → OnOk r P → P
from_no_error P (Ok x) test is no_error h = h
from_no_error P (Err e) test is no_error h = cc

pub map_some : {T : Type 0} (P Q : T → Type 0) (o : Option T) → ((x : T) → P x → Q x) → IfSome o P → IfSome o Q
map_some P Q None f h = tt
map_some P Q (Some x) f h = f x h

at_some : {T : Type 0} (P : T → Type 0) (o : Option T) (x : T) → o ≡ Some x → IfSome o P → P x
at_some P o x is h = rw is at h

-- ---- one line

pub line_passed_over : (o : CheckOptions) (lines : List (List ℕ)) (j : Judged) (line : List ℕ) → Checks o lines j → IsPassedOver line
    → ChecksMore o (lines ++ line ∷ []) j j []
line_passed_over o lines j line checks is = record {
  checks = passed_over lines j checks line is;
  text = sym (append-nil j.text);
}

-- the time of a line's frame is that of its transfer
at_frame : (words : List (List ℕ)) (l : CaptureLine) (t : Transfer) → IsTransferOf l t → HasTime words l → TimeIs words t (line_time l)
at_frame words (line.Request f) (transfer.Request bytes) is timed = timed
at_frame words (line.Request f) (transfer.Written bytes taken) is timed = absurd is
at_frame words (line.Request f) transfer.SeveralReaders is timed = absurd is
at_frame words (line.Request f) transfer.SeveralWriters is timed = absurd is
at_frame words (line.Request f) transfer.Ended is timed = absurd is
at_frame words (line.Written f result) (transfer.Request bytes) is timed = absurd is
at_frame words (line.Written f result) (transfer.Written bytes taken) is timed = timed
at_frame words (line.Written f result) transfer.SeveralReaders is timed = absurd is
at_frame words (line.Written f result) transfer.SeveralWriters is timed = absurd is
at_frame words (line.Written f result) transfer.Ended is timed = absurd is
at_frame words line.SeveralReaders (transfer.Request bytes) is timed = absurd is
at_frame words line.SeveralReaders (transfer.Written bytes taken) is timed = absurd is
at_frame words line.SeveralReaders transfer.SeveralReaders is timed = refl
at_frame words line.SeveralReaders transfer.SeveralWriters is timed = absurd is
at_frame words line.SeveralReaders transfer.Ended is timed = absurd is
at_frame words line.SeveralWriters (transfer.Request bytes) is timed = absurd is
at_frame words line.SeveralWriters (transfer.Written bytes taken) is timed = absurd is
at_frame words line.SeveralWriters transfer.SeveralReaders is timed = absurd is
at_frame words line.SeveralWriters transfer.SeveralWriters is timed = refl
at_frame words line.SeveralWriters transfer.Ended is timed = absurd is
at_frame words line.Ended (transfer.Request bytes) is timed = absurd is
at_frame words line.Ended (transfer.Written bytes taken) is timed = absurd is
at_frame words line.Ended transfer.SeveralReaders is timed = absurd is
at_frame words line.Ended transfer.SeveralWriters is timed = absurd is
at_frame words line.Ended transfer.Ended is timed = refl

pub time_said : (line : List ℕ) (l : CaptureLine) → ((text : List ℕ) → IsTextOf line text → HasTime (words_of text) l)
    → (t : Transfer) → IsTransferOf l t → LineTimeIs line t (line_time l)
time_said line l timed t is text of_line = at_frame (words_of text) l t is (timed text of_line)

module _ (o : CheckOptions) (number : ℕ) (j : Judged) (l : CaptureLine) (shown : List Act) (verdicts : List (Option Fault))
    (judge : SeenState) (c : Counts) (so : IsJudgedSo o j number l shown verdicts judge c) where
  -- what was judged with the transfer that a line says, and the text of these acts and verdicts
  abbrev judged_as : List Act → List (Option Fault) → Judged
  judged_as acts vs = judged_after j so.transfer so.acts so.names vs judge.session.known
      (after_asked o.is_summary j.exchanges so.transfer (line_time l)) (j.past ++ traces_of number j.acts so.acts)
      (j.text ++ transfer_lines o number j.past j.known judge.session.known j.acts so.transfer acts vs)

  abbrev judged_with : Judged
  judged_with = judged_as shown verdicts

-- the lines with the one that says the transfer
said_checks : (o : CheckOptions) (lines : List (List ℕ)) (j : Judged) (line : List ℕ) (l : CaptureLine) (shown : List Act)
    (verdicts : List (Option Fault)) (judge : SeenState) (c : Counts) → Checks o lines j
    → (so : IsJudgedSo o j (length lines + 1) l shown verdicts judge c) → LineSays line so.transfer
    → LineTimeIs line so.transfer (line_time l)
    → Checks o (lines ++ line ∷ []) (judged_with o (length lines + 1) j l shown verdicts judge c so)
said_checks o lines j line l shown verdicts judge c checks so is at =
    let n = length lines + 1 in
    let asked = asked_verdicts o.only (with_names so.is_missing so.all) in
    subst (λ (vs : List (Option Fault)). Checks o (lines ++ line ∷ []) (judged_as o n j l shown verdicts judge c so shown vs))
    (sym so.asked)
    (subst (λ (acts : List Act). Checks o (lines ++ line ∷ []) (judged_as o n j l shown verdicts judge c so acts asked))
    (sym so.removal)
    (says lines j checks line so.transfer is (line_time l) at so.acts judge.session.known so.are so.all so.each so.faults
    so.names so.is_missing so.removes))

module _ (o : CheckOptions) (lines : List (List ℕ)) (j : Judged) (line : List ℕ) (l : CaptureLine) (shown : List Act)
    (verdicts : List (Option Fault)) (judge : SeenState) (c : Counts) (checks : Checks o lines j)
    (so : IsJudgedSo o j (length lines + 1) l shown verdicts judge c) (is : LineSays line so.transfer)
    (at : LineTimeIs line so.transfer (line_time l)) where
  abbrev after_line : Judged
  after_line = judged_with o (length lines + 1) j l shown verdicts judge c so

  abbrev text_of_line : List ℕ
  text_of_line = transfer_lines o (length lines + 1) j.past j.known judge.session.known j.acts so.transfer shown verdicts

  one_more : ChecksMore o (lines ++ line ∷ []) j after_line text_of_line
  one_more = record { checks = said_checks o lines j line l shown verdicts judge c checks so is at; text = refl }

next_said : {T : Type 0} (o : CheckOptions) (r : Result T (Stop CaptureFault)) (lines : List (List ℕ)) (j : Judged) (line : List ℕ)
    (l : CaptureLine) (judge : SeenState) (c : Counts) (had has : Option (List ℕ)) → Checks o lines j
    → ((t : Transfer) → IsTransferOf l t → LineSays line t) → ((t : Transfer) → IsTransferOf l t → LineTimeIs line t (line_time l))
    → SaidEnds o j (length lines + 1) l judge c r had has → LineEnds o lines j line judge c r had has
next_said o (Ok done) lines j line l judge c had has checks said at (shown, verdicts, so, appends) =
    let is = said so.transfer so.is in
    let time = at so.transfer so.is in (
      after_line o lines j line l shown verdicts judge c checks so is time,
      text_of_line o lines j line l shown verdicts judge c checks so is time,
      one_more o lines j line l shown verdicts judge c checks so is time,
      so.kept (j.text ++ text_of_line o lines j line l shown verdicts judge c checks so is time),
      appends,
    )
next_said o (Err OutputRefused) lines j line l judge c had has checks said at (shown, verdicts, so, some) =
    let is = said so.transfer so.is in
    let time = at so.transfer so.is in (
      after_line o lines j line l shown verdicts judge c checks so is time,
      text_of_line o lines j line l shown verdicts judge c checks so is time,
      one_more o lines j line l shown verdicts judge c checks so is time,
      some,
    )
next_said o (Err NoMemory) lines j line l judge c had has checks said at h = h
next_said o (Err CannotRead) lines j line l judge c had has checks said at h = absurd h
next_said o (Err (BadLine n f)) lines j line l judge c had has checks said at h = absurd h

pub line_said : {T : Type 0} (o : CheckOptions) (r : Result T (Stop CaptureFault)) (lines : List (List ℕ)) (j : Judged) (line : List ℕ) (number : ℕ)
    (l : CaptureLine) (judge : SeenState) (c : Counts) (had has : Option (List ℕ)) → Checks o lines j
    → ((t : Transfer) → IsTransferOf l t → LineSays line t) → ((t : Transfer) → IsTransferOf l t → LineTimeIs line t (line_time l))
    → number ≡ length lines + 1
    → SaidEnds o j number l judge c r had has → LineEnds o lines j line judge c r had has
line_said o r lines j line number l judge c had has checks said at is h =
    next_said o r lines j line l judge c had has checks said at (subst (λ n. SaidEnds o j n l judge c r had has) is h)

-- ---- the next line

-- what was printed, and what is printed of one line more
printed_more : (had mid has : Option (List ℕ)) (text more next : List ℕ) → next ≡ text ++ more → Appends had mid text
    → Appends mid has more → Appends had has next
printed_more had mid has text more next is before after =
    subst (Appends had has) (sym is) (Appends-trans had mid has text more before after)

printed_still : (had mid has : Option (List ℕ)) (text : List ℕ) → Appends had mid text → Appends mid has []
    → Appends had has text
printed_still had mid has text before after =
    printed_more had mid has text [] text (sym (append-nil text)) before after

-- the line that was taken is the next one
next_is : (rest : List ℕ) (is_more : Bool) (line : List ℕ) (left : Option (List ℕ)) → IsTaken rest is_more line left
    → (after : List (List ℕ)) × (lines_of rest ≡ line ∷ after)
next_is rest true line left (later, is, lines) = (lines_of later, lines)
next_is rest false line left lines = ([], lines)

after_next : (all done : List (List ℕ)) (line : List ℕ) (rest after : List (List ℕ)) → all ≡ done ++ rest
    → rest ≡ line ∷ after → all ≡ (done ++ line ∷ []) ++ after
after_next all done line rest after e next =
    e ∙ ap (λ (l : List (List ℕ)). done ++ l) next ∙ sym (append_assoc done (line ∷ []) after)

module _ (o : CheckOptions) (capture : List ℕ) (known left : Option (List ℕ)) (number : ℕ) (judge : SeenState) (c : Counts)
    (had mid : Option (List ℕ)) (upto : IsUpTo o capture known number judge c had mid) where
  pub next_done : (is_more : Bool) (line : List ℕ) (later : SeenState) (counts : Counts) (has : Option (List ℕ))
      → IfSome known (λ bytes. IsTaken bytes is_more line left)
      → LineEnds {T = Unit {0}} o upto.done upto.judged line later counts (Ok tt) mid has
      → NextEnds o capture left number later counts (Ok is_more) had has
  next_done true line later counts has taken (next, more, checks, kept, appends) =
      let (rest, is, lines) = at_some (λ bytes. IsTaken bytes true line left) known upto.rest upto.is_left taken in
      let size = length-append upto.done (line ∷ []) in
      record {
        done = upto.done ++ line ∷ [];
        rest = rest;
        judged = next;
        is_left = is;
        lines = after_next (lines_of capture) upto.done line (lines_of upto.rest) (lines_of rest) upto.lines lines;
        count = omega (arith, size, upto.count);
        checks = checks.checks;
        kept = kept;
        printed = printed_more had mid has upto.judged.text more next.text checks.text upto.printed appends;
      }
  next_done false line later counts has taken (next, more, checks, kept, appends) =
      let last = at_some (λ bytes. IsTaken bytes false line left) known upto.rest upto.is_left taken in
      record {
        judged = next;
        checks = subst (λ (l : List (List ℕ)). Checks o l next)
            (sym (upto.lines ∙ ap (λ (l : List (List ℕ)). upto.done ++ l) last)) checks.checks;
        kept = kept;
        printed = printed_more had mid has upto.judged.text more next.text checks.text upto.printed appends;
      }

  -- the line is not done
  pub next_stopped : (is_more : Bool) (line : List ℕ) (later : SeenState) (counts : Counts) (has : Option (List ℕ))
      (s : Stop CaptureFault) → IfSome known (λ bytes. IsTaken bytes is_more line left)
      → LineEnds {T = Unit {0}} o upto.done upto.judged line later counts (Err s) mid has → StopsIn o capture s had has
  next_stopped is_more line later counts has (BadLine n f) taken (number_is, is, still) =
      let next = next_is upto.rest is_more line left
      (at_some (λ bytes. IsTaken bytes is_more line left) known upto.rest upto.is_left taken) in
      record {
        done = upto.done;
        rest = lines_of upto.rest;
        lines = upto.lines;
        judged = upto.judged;
        checks = upto.checks;
        says = (line, next.0, next.1, is, number_is, printed_still had mid has upto.judged.text upto.printed still);
      }
  next_stopped is_more line later counts has CannotRead taken h = absurd h
  next_stopped is_more line later counts has NoMemory taken still = record {
    done = upto.done;
    rest = lines_of upto.rest;
    lines = upto.lines;
    judged = upto.judged;
    checks = upto.checks;
    says = printed_still had mid has upto.judged.text upto.printed still;
  }
  next_stopped is_more line later counts has OutputRefused taken (next, more, checks, some) =
      let following = next_is upto.rest is_more line left
      (at_some (λ bytes. IsTaken bytes is_more line left) known upto.rest upto.is_left taken) in
      record {
        done = upto.done ++ line ∷ [];
        rest = following.0;
        lines = after_next (lines_of capture) upto.done line (lines_of upto.rest) following.0 upto.lines following.1;
        judged = next;
        checks = checks.checks;
        says = some_first had has next.text (end_text o next) (next.text ++ end_text o next) refl
            (some_then had mid has upto.judged.text more next.text checks.text upto.printed some);
      }

  -- the next line cannot be read
  pub next_unread : (s : Stop CaptureFault) → (s ≡ CannotRead) ⊎ (s ≡ NoMemory) → StopsIn o capture s had mid
  next_unread s (inl is) = rw is record {
    done = upto.done;
    rest = lines_of upto.rest;
    lines = upto.lines;
    judged = upto.judged;
    checks = upto.checks;
    says = upto.printed;
  }
  next_unread s (inr is) = rw is record {
    done = upto.done;
    rest = lines_of upto.rest;
    lines = upto.lines;
    judged = upto.judged;
    checks = upto.checks;
    says = upto.printed;
  }

-- what is kept says nothing of what was printed
kept_printed : (is_joined : Bool) (text : List ℕ) (judge : SeenState) (c : Counts) → IsKept (nothing_judged is_joined) judge c
    → IsKept (record (nothing_judged is_joined) { text = text }) judge c
kept_printed is_joined text judge c kept = record {
  start = kept.start;
  seen = kept.seen;
  named = kept.named;
  stands = kept.stands;
  known = kept.known;
  exchanges = kept.exchanges;
  past = kept.past;
  counts = record {
    requests = kept.counts.requests;
    replies = kept.counts.replies;
    notifications = kept.counts.notifications;
    refused = kept.counts.refused;
    entries = kept.counts.entries;
    forgotten = kept.counts.forgotten;
    kernel = kept.counts.kernel;
    server = kept.counts.server;
    device = kept.counts.device;
    warnings = kept.counts.warnings;
  };
}

-- before the first line
pub at_start : (o : CheckOptions) (known had has : Option (List ℕ)) (judge : SeenState) (c : Counts)
    → Appends had has (head_text o.form) → IsKept (nothing_judged o.is_joined) judge c
    → IfSome known (λ capture. IsUpTo o capture known 1 judge c had has)
at_start o None had has judge c begun kept = tt
at_start o (Some capture) had has judge c begun kept = record {
  done = [];
  rest = capture;
  judged = start_in o;
  is_left = refl;
  lines = refl;
  count = omega arith;
  checks = no_line;
  kept = kept_printed o.is_joined (head_text o.form) judge c kept;
  printed = begun;
}

-- the output refuses what stands before the first line
pub not_begun : (o : CheckOptions) (known had has : Option (List ℕ)) → AppendsSome had has (head_text o.form)
    → IfSome known (λ capture. StopsIn o capture OutputRefused had has)
not_begun o None had has some = tt
not_begun o (Some capture) had has some = record {
  done = [];
  rest = lines_of capture;
  lines = refl;
  judged = start_in o;
  checks = no_line;
  says = some_first had has (head_text o.form) (end_text o (start_in o))
      (head_text o.form ++ end_text o (start_in o)) refl some;
}

-- ---- the end

-- each count of what is left
abbrev make : (unanswered nodes files : ℕ) → Remains
make unanswered nodes files = record { unanswered = unanswered; nodes = nodes; files = files }

pub left_of : (s : Session) (unanswered nodes files : ℕ) → unanswered ≡ length (waiting s) → nodes ≡ node_count s
    → files ≡ file_count s → make unanswered nodes files ≡ remains_of s
left_of s unanswered nodes files a b c = by unanswered nodes files _ _ _ a b c
  where
    by : (u n f u' n' f' : ℕ) → u ≡ u' → n ≡ n' → f ≡ f' → make u n f ≡ make u' n' f'
    by u n f u' n' f' e g h = rw (e, g, h) refl

-- the counts that are kept are those of what was judged
counts_are : (form : CheckForm) (n : Remains) (j : Judged) (c : Counts) → AreCounts j c
    → counts_text form n c ≡ counts_text form n (counts_of j)
counts_are Words n j c are = rw (
  are.requests,
  are.replies,
  are.notifications,
  are.refused,
  are.entries,
  are.forgotten,
  are.kernel,
  are.server,
  are.device,
  are.warnings,
) refl
counts_are Json n j c are = rw (
  are.requests,
  are.replies,
  are.notifications,
  are.refused,
  are.entries,
  are.forgotten,
  are.kernel,
  are.server,
  are.device,
  are.warnings,
) refl

-- with the table and with what is left
ends_are : (o : CheckOptions) (n : Remains) (j : Judged) (judge : SeenState) (c : Counts) → IsKept j judge c
    → AreLeft judge.session judge.nodes judge.files n → closing_text o judge.exchanges n c ≡ end_text o j
ends_are o n j judge c kept lefts =
    ap (λ (l : List ℕ). (if o.is_summary then table_text o.form judge.exchanges else []) ++ l)
    (counts_are o.form n j c kept.counts ∙ ap (λ k. counts_text o.form k (counts_of j)) (lefts kept.start j.transfers j.acts kept.seen kept.stands))
    ∙ ap (λ e. closing_text o e (remains_of j.acts) (counts_of j)) (sym kept.exchanges)

pub all_ends : {T : Type 0} (o : CheckOptions) (n : Remains) (r : Result T (Stop CaptureFault)) (capture : List ℕ) (judge : SeenState)
    (c : Counts) (had mid has : Option (List ℕ)) → AreLeft judge.session judge.nodes judge.files n → AllChecked o capture judge c had mid
    → PrintsEnd o judge.exchanges n c r mid has → CheckEnds o capture c r had has
all_ends o n (Ok done) capture judge c had mid has lefts all appends =
    let same = ends_are o n all.judged judge c all.kept lefts in
    record {
      judged = all.judged;
      checks = all.checks;
      counts = all.kept.counts;
      printed = Appends-trans had mid has all.judged.text (end_text o all.judged) all.printed
          (subst (Appends mid has) same appends);
    }
all_ends o n (Err OutputRefused) capture judge c had mid has lefts all some =
    let same = ends_are o n all.judged judge c all.kept lefts in
    record {
      done = lines_of capture;
      rest = [];
      lines = sym (append-nil (lines_of capture));
      judged = all.judged;
      checks = all.checks;
      says = some_then had mid has all.judged.text (end_text o all.judged)
          (all.judged.text ++ end_text o all.judged) refl all.printed (subst (AppendsSome mid has) same some);
    }
all_ends o n (Err NoMemory) capture judge c had mid has lefts all still = record {
  done = lines_of capture;
  rest = [];
  lines = sym (append-nil (lines_of capture));
  judged = all.judged;
  checks = all.checks;
  says = printed_still had mid has all.judged.text all.printed still;
}
all_ends o n (Err CannotRead) capture judge c had mid has lefts all h = absurd h
all_ends o n (Err (BadLine k f)) capture judge c had mid has lefts all h = absurd h
