-- What became of the frames of a part of a run, by what became of them in the whole.
use Rattle.std.proofs.Common.{◌≡◌, ℕ, List, [], ◌∷◌, ◌++◌, refl, sym, ◌∙◌, ap, subst}
use Rattle.fuse_device.specs.Transfers.{Transfer, received, sent, stopped, unsent}
use Rattle.fuse_spec.specs.declared.Opened.{Opened}
use Rattle.fuse_spec.specs.declared.WriteResult.{WriteResult}
use Rattle.fk_drive.specs.Driving.{Driven, DriveStep, Drives, ReleasesBehind, Turn, waits, writes, releases, releases_none, with_result, at_end, nothing, next as behind}
use Rattle.fuse_sessions.specs.declared.known.Known.{Known}
use Rattle.fuse_sessions.specs.declared.transfer.Transfer.{Transfer as Said}
use Rattle.fuse_sessions.specs.declared.transfer.Transfer.TheVariants as said
use Rattle.fuse_sessions.specs.Frames.{Lead}
use Rattle.fuse_sessions.specs.Sessions.{Session}
use Rattle.protocol_law.specs.Law.{Carries}
use Rattle.driven_sessions.specs.Driven.{HaveAgreed}
use Rattle.driven_sessions.specs.Taken.{AreTaken, Outcome, all_aside, aside, first_written, outcomes_after, outcomes_of, waiting, written}
use Rattle.driven_sessions.specs.Transfers.{AreSaid}
use Rattle.driven_sessions.proofs.Leading.{said_parts}

-- ---- outcomes that go on

-- These are the outcomes so far, and those: what was written stays so.
abbrev pub GoOn : (now all : List Outcome) → Type 0
GoOn [] all = Unit {0}
GoOn (aside ∷ now) [] = ⊥
GoOn (waiting ∷ now) [] = ⊥
GoOn (written result ∷ now) [] = ⊥
GoOn (aside ∷ now) (o ∷ all) = GoOn now all
GoOn (waiting ∷ now) (o ∷ all) = GoOn now all
GoOn (written result ∷ now) (o ∷ all) = (o ≡ written result) × GoOn now all

pub goes_same : (all : List Outcome) → GoOn all all
goes_same [] = tt
goes_same (aside ∷ all) = goes_same all
goes_same (waiting ∷ all) = goes_same all
goes_same (written result ∷ all) = (refl, goes_same all)

goes_first : (now more all : List Outcome) → GoOn (now ++ more) all → GoOn now all
goes_first [] more all on = tt
goes_first (aside ∷ now) more [] on = on
goes_first (waiting ∷ now) more [] on = on
goes_first (written result ∷ now) more [] on = on
goes_first (aside ∷ now) more (o ∷ all) on = goes_first now more all on
goes_first (waiting ∷ now) more (o ∷ all) on = goes_first now more all on
goes_first (written result ∷ now) more (o ∷ all) on = (on.0, goes_first now more all on.1)

goes_written : (result : WriteResult) (now all : List Outcome) → GoOn (first_written result now) all → GoOn now all
goes_written result [] all on = tt
goes_written result (aside ∷ now) [] on = on
goes_written result (waiting ∷ now) [] on = on
goes_written result (written other ∷ now) [] on = on
goes_written result (aside ∷ now) (o ∷ all) on = goes_written result now all on
goes_written result (waiting ∷ now) (o ∷ all) on = on.1
goes_written result (written other ∷ now) (o ∷ all) on = (on.0, goes_written result now all on.1)

-- So they did before a step.
pub goes_before : (old : Driven) (log : List Transfer) (new : Driven) (step : DriveStep old log new) (now all : List Outcome)
    → GoOn (outcomes_after step now) all → GoOn now all
goes_before old log new (waits frame is) now all on = goes_first now (waiting ∷ []) all on
goes_before old log new (writes idles frame rest there handed on_one result k took log' coming left turn release) now all on =
    goes_written result now all on
goes_before old log new step now all on = goes_first now (all_aside log) all on

-- ---- what is left

-- the outcomes behind as many
abbrev pub left_of : (now all : List Outcome) → List Outcome
left_of [] all = all
left_of (x ∷ now) [] = []
left_of (x ∷ now) (o ∷ all) = left_of now all

left_append : (now more all : List Outcome) → left_of (now ++ more) all ≡ left_of more (left_of now all)
left_append [] more all = refl
left_append (x ∷ now) [] [] = refl
left_append (x ∷ now) (y ∷ more) [] = refl
left_append (x ∷ now) more (o ∷ all) = left_append now more all

left_written : (result : WriteResult) (now all : List Outcome) → left_of (first_written result now) all ≡ left_of now all
left_written result [] all = refl
left_written result (aside ∷ now) [] = refl
left_written result (waiting ∷ now) [] = refl
left_written result (written other ∷ now) [] = refl
left_written result (aside ∷ now) (o ∷ all) = left_written result now all
left_written result (waiting ∷ now) (o ∷ all) = refl
left_written result (written other ∷ now) (o ∷ all) = left_written result now all

-- the outcomes behind those of these transfers
abbrev pub left_by : List Said → List Outcome → List Outcome
left_by [] all = all
left_by (said.Written bytes t ∷ ts) [] = []
left_by (said.Written bytes t ∷ ts) (o ∷ all) = left_by ts all
left_by (t ∷ ts) all = left_by ts all

left_none : (ts : List Said) → left_by ts [] ≡ []
left_none [] = refl
left_none (said.Written bytes t ∷ ts) = refl
left_none (said.Request bytes ∷ ts) = left_none ts
left_none (said.SeveralReaders ∷ ts) = left_none ts
left_none (said.SeveralWriters ∷ ts) = left_none ts
left_none (said.Ended ∷ ts) = left_none ts

left_by_append : (first last : List Said) (all : List Outcome) → left_by (first ++ last) all ≡ left_by last (left_by first all)
left_by_append [] last all = refl
left_by_append (said.Written bytes t ∷ first) last [] = sym (left_none last)
left_by_append (said.Written bytes t ∷ first) last (o ∷ all) = left_by_append first last all
left_by_append (said.Request bytes ∷ first) last all = left_by_append first last all
left_by_append (said.SeveralReaders ∷ first) last all = left_by_append first last all
left_by_append (said.SeveralWriters ∷ first) last all = left_by_append first last all
left_by_append (said.Ended ∷ first) last all = left_by_append first last all

left_aside : (log : List Transfer) (ts : List Said) → AreSaid log ts → (all : List Outcome)
    → left_by ts all ≡ left_of (all_aside log) all
left_aside [] [] is all = refl
left_aside (received frame ∷ log) (said.Written bytes t ∷ ts) is [] = refl
left_aside (received frame ∷ log) (said.Written bytes t ∷ ts) is (o ∷ all) = left_aside log ts is.1 all
left_aside (sent frame result ∷ log) (said.Request bytes ∷ ts) is all = left_aside log ts is.1 all
left_aside (unsent frame end ∷ log) (said.Ended ∷ ts) is all = left_aside log ts is.1 all
left_aside (stopped end ∷ log) (said.Ended ∷ ts) is all = left_aside log ts is.1 all
left_aside log ts is all = absurd search

-- A frame that is written to the kernel is none that is received.
released_aside : (frame : List ℕ) (next : ℕ) (directories : List (ℕ × Opened)) (log : List Transfer) (coming : ℕ)
    (left : List (ℕ × Opened)) (turn : Turn) → ReleasesBehind frame next directories log coming left turn → all_aside log ≡ []
released_aside frame next directories log coming left turn
    (releases head below before after directory is apart bytes own log' (with_result result)) = refl
released_aside frame next directories log coming left turn
    (releases head below before after directory is apart bytes own log' (at_end end)) = refl
released_aside frame next directories log coming left turn (releases_none none) = refl

left_step : (old : Driven) (log : List Transfer) (new : Driven) (step : DriveStep old log new) (ts : List Said) → AreSaid log ts
    → (now all : List Outcome) → left_by ts (left_of now all) ≡ left_of (outcomes_after step now) all
left_step old log new (waits frame is_one) ts is now all =
    left_aside log ts is (left_of now all) ∙ same (left_of now all) ∙ sym (left_append now (waiting ∷ []) all)
  where
    same : (xs : List Outcome) → left_of (all_aside log) xs ≡ left_of (waiting ∷ []) xs
    same [] = refl
    same (x ∷ xs) = refl
left_step old log new (writes idles frame rest there handed on result k took log' coming left turn release) ts is now all =
    left_aside log ts is (left_of now all) ∙ ap (λ (l : List Outcome). left_of l (left_of now all))
    (released_aside frame old.next old.directories log' coming left turn release) ∙ sym (left_written result now all)
left_step old log new step ts is now all = left_aside log ts is (left_of now all) ∙ sym (left_append now (all_aside log) all)

-- What is left behind the transfers of a run is left behind its outcomes.
pub left_run : (old : Driven) (log : List Transfer) (new : Driven) (run : Drives old log new) (ts : List Said) → AreSaid log ts
    → (all : List Outcome) → left_by ts all ≡ left_of (outcomes_of run) all
left_run old log new nothing [] is all = refl
left_run old log new nothing (t ∷ ts) is all = absurd is
left_run old log new (behind before mid run last end step) ts is all =
    let parts = said_parts before last ts is in
    ap (λ (l : List Said). left_by l all) parts.all ∙ left_by_append parts.first parts.last all
    ∙ ap (left_by parts.last) (left_run old before mid run parts.first parts.said all)
    ∙ left_step mid last end step parts.last parts.said_more (outcomes_of run) all

-- Of transfers in two parts: how they lead on, and what was taken.
pub record TakenBy (k : Known) (s : Session) (first last : List Said) (later : Known) (all : Session)
    (leads : Lead k s (first ++ last) later all) (os : List Outcome) : Type 0 where
  pub known : Known
  pub session : Session
  pub before : Lead k s first known session
  pub behind : Lead known session last later all
  pub taken : AreTaken k s first known session before os
  pub taken_more : AreTaken known session last later all behind (left_by first os)
  pub agreed : HaveAgreed Carries k s (first ++ last) later all leads
      → HaveAgreed Carries k s first known session before × HaveAgreed Carries known session last later all behind

none_taken : (k : Known) (s : Session) (ts : List Said) (later : Known) (all : Session) (leads : Lead k s ts later all)
    → AreTaken k s ts later all leads []
none_taken k s [] later all leads = tt
none_taken k s (said.Written bytes t ∷ ts) later all leads = tt
none_taken k s (said.Request bytes ∷ ts) later all (acts, known, are, leads) = none_taken known (s ++ acts) ts later all leads
none_taken k s (said.SeveralReaders ∷ ts) later all (acts, known, are, leads) = none_taken known (s ++ acts) ts later all leads
none_taken k s (said.SeveralWriters ∷ ts) later all (acts, known, are, leads) = none_taken known (s ++ acts) ts later all leads
none_taken k s (said.Ended ∷ ts) later all (acts, known, are, leads) = none_taken known (s ++ acts) ts later all leads

pub taken_parts : (k : Known) (s : Session) (first last : List Said) (later : Known) (all : Session)
    (leads : Lead k s (first ++ last) later all) (os : List Outcome) → AreTaken k s (first ++ last) later all leads os
    → TakenBy k s first last later all leads os
taken_parts k s [] last later all leads os are = record {
  known = k;
  session = s;
  before = (refl, refl);
  behind = leads;
  taken = tt;
  taken_more = are;
  agreed = λ have. (tt, have);
}
taken_parts k s (said.Written bytes t ∷ first) last later all (acts, known, are, leads) [] taken =
    let rest = taken_parts known (s ++ acts) first last later all leads [] (none_taken known (s ++ acts) (first ++ last) later all leads) in
    record {
      known = rest.known;
      session = rest.session;
      before = (acts, known, are, rest.before);
      behind = rest.behind;
      taken = tt;
      taken_more = none_taken rest.known rest.session last later all rest.behind;
      agreed = λ have. let more = rest.agreed have.1 in ((have.0, more.0), more.1);
    }
taken_parts k s (said.Written bytes t ∷ first) last later all (acts, known, are, leads) (o ∷ os) taken =
    let rest = taken_parts known (s ++ acts) first last later all leads os taken.1 in
    record {
      known = rest.known;
      session = rest.session;
      before = (acts, known, are, rest.before);
      behind = rest.behind;
      taken = (taken.0, rest.taken);
      taken_more = rest.taken_more;
      agreed = λ have. let more = rest.agreed have.1 in ((have.0, more.0), more.1);
    }
taken_parts k s (said.Request bytes ∷ first) last later all (acts, known, are, leads) os taken =
    let rest = taken_parts known (s ++ acts) first last later all leads os taken in
    record {
      known = rest.known;
      session = rest.session;
      before = (acts, known, are, rest.before);
      behind = rest.behind;
      taken = rest.taken;
      taken_more = rest.taken_more;
      agreed = λ have. let more = rest.agreed have.1 in ((have.0, more.0), more.1);
    }
taken_parts k s (said.SeveralReaders ∷ first) last later all (acts, known, are, leads) os taken =
    let rest = taken_parts known (s ++ acts) first last later all leads os taken in
    record {
      known = rest.known;
      session = rest.session;
      before = (acts, known, are, rest.before);
      behind = rest.behind;
      taken = rest.taken;
      taken_more = rest.taken_more;
      agreed = λ have. let more = rest.agreed have.1 in ((have.0, more.0), more.1);
    }
taken_parts k s (said.SeveralWriters ∷ first) last later all (acts, known, are, leads) os taken =
    let rest = taken_parts known (s ++ acts) first last later all leads os taken in
    record {
      known = rest.known;
      session = rest.session;
      before = (acts, known, are, rest.before);
      behind = rest.behind;
      taken = rest.taken;
      taken_more = rest.taken_more;
      agreed = λ have. let more = rest.agreed have.1 in ((have.0, more.0), more.1);
    }
taken_parts k s (said.Ended ∷ first) last later all (acts, known, are, leads) os taken =
    let rest = taken_parts known (s ++ acts) first last later all leads os taken in
    record {
      known = rest.known;
      session = rest.session;
      before = (acts, known, are, rest.before);
      behind = rest.behind;
      taken = rest.taken;
      taken_more = rest.taken_more;
      agreed = λ have. let more = rest.agreed have.1 in ((have.0, more.0), more.1);
    }

-- ---- frames that wait

-- Each frame that waits is such, with what becomes of it.
module _ (IsSuch : List ℕ → Outcome → Type 0) where
  abbrev pub AllWait : (frames : List (List ℕ)) (now all : List Outcome) → Type 0
  AllWait frames [] all = frames ≡ []
  AllWait frames (aside ∷ now) [] = ⊥
  AllWait frames (waiting ∷ now) [] = ⊥
  AllWait frames (written result ∷ now) [] = ⊥
  AllWait frames (aside ∷ now) (o ∷ all) = AllWait frames now all
  AllWait frames (written result ∷ now) (o ∷ all) = AllWait frames now all
  AllWait [] (waiting ∷ now) (o ∷ all) = ⊥
  AllWait (frame ∷ frames) (waiting ∷ now) (o ∷ all) = IsSuch frame o × AllWait frames now all

  -- The first is such with its result, and the others wait on.
  pub first_waits : (frame : List ℕ) (rest : List (List ℕ)) (result : WriteResult) (now all : List Outcome)
      → AllWait (frame ∷ rest) now all → GoOn (first_written result now) all
      → IsSuch frame (written result) × AllWait rest (first_written result now) all
  first_waits frame rest result [] all wait on = absurd (cc wait)
  first_waits frame rest result (aside ∷ now) [] wait on = absurd wait
  first_waits frame rest result (waiting ∷ now) [] wait on = absurd wait
  first_waits frame rest result (written other ∷ now) [] wait on = absurd wait
  first_waits frame rest result (aside ∷ now) (o ∷ all) wait on = first_waits frame rest result now all wait on
  first_waits frame rest result (waiting ∷ now) (o ∷ all) wait on = (subst (IsSuch frame) on.0 wait.0, wait.1)
  first_waits frame rest result (written other ∷ now) (o ∷ all) wait on = first_waits frame rest result now all wait on.1

  none_more : (frames : List (List ℕ)) (log : List Transfer) (all : List Outcome) → frames ≡ [] → GoOn (all_aside log) all
      → AllWait frames (all_aside log) all
  none_more frames [] all none on = none
  none_more frames (received frame ∷ log) [] none on = on
  none_more frames (received frame ∷ log) (o ∷ all) none on = none_more frames log all none on
  none_more frames (sent frame result ∷ log) all none on = none_more frames log all none on
  none_more frames (unsent frame end ∷ log) all none on = none_more frames log all none on
  none_more frames (stopped end ∷ log) all none on = none_more frames log all none on

  -- None more waits.
  pub aside_waits : (frames : List (List ℕ)) (log : List Transfer) (now all : List Outcome) → AllWait frames now all
      → GoOn (now ++ all_aside log) all → AllWait frames (now ++ all_aside log) all
  aside_waits frames log [] all wait on = none_more frames log all wait on
  aside_waits frames log (aside ∷ now) [] wait on = on
  aside_waits frames log (waiting ∷ now) [] wait on = on
  aside_waits frames log (written result ∷ now) [] wait on = on
  aside_waits frames log (aside ∷ now) (o ∷ all) wait on = aside_waits frames log now all wait on
  aside_waits frames log (written result ∷ now) (o ∷ all) wait on = aside_waits frames log now all wait on.1
  aside_waits [] log (waiting ∷ now) (o ∷ all) wait on = wait
  aside_waits (frame ∷ frames) log (waiting ∷ now) (o ∷ all) wait on = (wait.0, aside_waits frames log now all wait.1 on)

  -- One more waits.
  pub last_waits : (frames : List (List ℕ)) (frame : List ℕ) (now all : List Outcome) → AllWait frames now all
      → GoOn (now ++ waiting ∷ []) all → ((o : Outcome) (more : List Outcome) → left_of now all ≡ o ∷ more → IsSuch frame o)
      → AllWait (frames ++ frame ∷ []) (now ++ waiting ∷ []) all
  last_waits frames frame [] [] wait on such = absurd on
  last_waits frames frame [] (o ∷ all) wait on such =
      subst (λ (l : List (List ℕ)). AllWait (l ++ frame ∷ []) (waiting ∷ []) (o ∷ all)) (sym wait) (such o all refl, refl)
  last_waits frames frame (aside ∷ now) [] wait on such = absurd on
  last_waits frames frame (waiting ∷ now) [] wait on such = absurd on
  last_waits frames frame (written result ∷ now) [] wait on such = absurd on
  last_waits frames frame (aside ∷ now) (o ∷ all) wait on such = last_waits frames frame now all wait on such
  last_waits frames frame (written result ∷ now) (o ∷ all) wait on such = last_waits frames frame now all wait on.1 such
  last_waits [] frame (waiting ∷ now) (o ∷ all) wait on such = absurd wait
  last_waits (first ∷ frames) frame (waiting ∷ now) (o ∷ all) wait on such =
      (wait.0, last_waits frames frame now all wait.1 on such)
