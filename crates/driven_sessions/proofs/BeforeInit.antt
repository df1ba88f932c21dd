-- No request of a run but INIT comes before INIT's reply is accepted.
use Rattle.std.proofs.Common.{inl, ◌%◌, ◌≡◌, ℕ, Bool, true, false, ◌||◌, List, [], ◌∷◌, ◌++◌, nat_eq, refl, ap, sym, subst, subst₂, ◌∙◌, arith}
use Rattle.std.specs.Borrow.{Bor}
use Rattle.std.specs.List.{list_all, list_any}
use Rattle.std.proofs.lemmas.Bool.{false≢true}
use Rattle.std.proofs.lemmas.List.Folds.{list_any-append}
use Rattle.fuse_device.specs.Transfers.{Transfer, received}
use Rattle.fuse_spec.specs.declared.Opened.{Opened}
use Rattle.fuse_spec.specs.declared.WriteResult.TheVariants.{Accepted}
use Rattle.fuse_spec.specs.Kernel.Messages.{Request}
use Rattle.fuse_frames.specs.RequestTies.{SaysRequest}
use Rattle.fk_drive.specs.Driving.{Driven, DriveStep, Drives, ReleasesBehind, SendsFrame, Turn, first_driven, idle, picked, alone, reads, sends, opens, is_given, is_not_known, is_refused, is_garbled, sends_opened, answers, waits, sets_aside, writes, is_released, ends, releases, releases_none, with_result, at_end, nothing, next as behind}
use Rattle.fk_drive.specs.KernelSteps.{mounts}
use Rattle.fk_drive_theorem.proofs.RunsTally.{run_tallied}
use Rattle.fk_drive_theorem.proofs.WrittenCounted.{EmptyUnlessLive}
use Rattle.fuse_sessions.specs.declared.act.Act.{Act}
use Rattle.fuse_sessions.specs.declared.act.Act.TheVariants as act
use Rattle.fuse_sessions.specs.declared.act.Taken.{Taken}
use Rattle.fuse_sessions.specs.declared.known.Known.{Known}
use Rattle.fuse_sessions.specs.declared.transfer.Transfer.{Transfer as Said}
use Rattle.fuse_sessions.specs.declared.transfer.Transfer.TheVariants as said
use Rattle.fuse_sessions.specs.Frames.{AreActs, IsWritten, Lead}
use Rattle.fuse_sessions.specs.Numbers.{has_agreed, is_agreement}
use Rattle.fuse_sessions.specs.Sessions.{Session}
use Rattle.fuse_sessions.specs.UnreadRequests.{opcode_in}
use Rattle.fuse_sessions.specs.Waiting.{waits as waits_in}
use Rattle.driven_sessions.specs.Driven.{NeverAccusedWhereTaken}
use Rattle.driven_sessions.specs.Groups.{is_of_early_requests}
use Rattle.driven_sessions.specs.Taken.{AreTaken, IsTaken, Outcome, all_aside, first_written, outcomes_after, outcomes_of, waiting, written}
use Rattle.driven_sessions.specs.Transfers.{AreSaid, IsShaped}
use Rattle.driven_sessions.proofs.Early.{IsEarly, alone_early, mounted_early, read_early, taken_early}
use Rattle.driven_sessions.proofs.Frames.{frame_init, is_init_body}
use Rattle.driven_sessions.proofs.InitReplies.{AgreesFrame, IsInitReply, agreeing_init, written_agrees}
use Rattle.driven_sessions.proofs.Leading.{AreFree, free_append, never_at, said_parts}
use Rattle.driven_sessions.proofs.Outcomes.{AllWait, GoOn, aside_waits, first_waits, goes_before, goes_same, last_waits, left_of, left_run, taken_parts}
use Rattle.driven_sessions.proofs.Shapes.{said_shaped}
use Rattle.driven_sessions.proofs.Stages.{lists_no_init, no_middle}
use Rattle.driven_sessions.proofs.Timely.{AgreedFree, AreTimely, agreed_on, is_timely, said_timely, timely_free}
use Rattle.driven_sessions.proofs.Unagreed.{Unagreed, asks_init, ended_on, init_on, judged_acts, waits_init, written_on}

-- A frame that is accepted does not agree.
abbrev AgreesNot : List ℕ → Outcome → Type 0
AgreesNot frame o = o ≡ written Accepted → AgreesFrame frame → ⊥

-- INIT is held, or nothing.
abbrev IsInitTurn : Turn → Type 0
IsInitTurn idle = Unit {0}
IsInitTurn (picked r) = is_init_body r.body ≡ true
IsInitTurn turn = ⊥

-- The session has agreed; or neither it nor the kernel has, and no frame that waits will make the kernel ready. `all` are
-- the outcomes of the whole run, and `now` those so far.
data Stage (all now : List Outcome) (d : Driven) (k : Known) (s : Session) : Type 0 where
  agreed : has_agreed s ≡ true → Stage all now d k s
  early : (read : Bool) → IsEarly read d.kernel → IsInitTurn d.turn → d.directories ≡ [] → Unagreed k s
      → AllWait AgreesNot d.waiting now all → Stage all now d k s

-- That, and no request came too early.
record Until (all now : List Outcome) (d : Driven) (k : Known) (s : Session) : Type 0 where
  stage : Stage all now d k s
  free : AreFree is_of_early_requests [] s

leads_on : (all now : List Outcome) (new : Driven) (known : Known) (s : Session) (later : Known) (whole : Session)
    → Lead known s [] later whole → Until all now new known s → Until all now new later whole
leads_on all now new known s later whole leads until =
    subst₂ (λ (x : Known) (y : Session). Until all now new x y) (sym leads.0) (sym leads.1) until

module _ (all now : List Outcome) (new : Driven) (k : Known) (s : Session) (free : AreFree is_of_early_requests [] s) where
  -- acts that are timely go on
  on : (acts : List Act) (later : Known) → AreTimely false acts → Stage all now new later (s ++ acts)
      → Until all now new later (s ++ acts)
  on acts later timely stage = record {
    stage = stage;
    free = free_append is_of_early_requests [] s acts free
        (timely_free s acts false (λ no. absurd (false≢true no)) timely);
  }

  -- nothing went over the device
  none_on : Stage all now new k s → (ts : List Said) → AreSaid [] ts → (later : Known) (whole : Session)
      → Lead k s ts later whole → Until all now new later whole
  none_on stage [] is later whole leads = leads_on all now new k s later whole leads (record { stage = stage; free = free })
  none_on stage (t ∷ ts) is later whole leads = absurd is

  -- one transfer
  one_on : (acts : List Act) (known later : Known) (whole : Session) → Lead known (s ++ acts) [] later whole
      → AreTimely false acts → Stage all now new known (s ++ acts) → Until all now new later whole
  one_on acts known later whole leads timely stage =
      leads_on all now new known (s ++ acts) later whole leads (on acts known timely stage)

  -- a frame of a server: it agrees, or the stage goes on
  written_one : (b : Bor (List ℕ)) (t : Taken) (acts : List Act) (known : Known) → AreActs k s (said.Written b t) acts known
      → (list_any is_agreement acts ≡ false → Stage all now new known (s ++ acts)) → Until all now new known (s ++ acts)
  written_one b t acts known are stage = on acts known (said_timely k s acts known false (said.Written b t) tt are)
      (by (list_any is_agreement acts) refl)
    where
      or_true : (b : Bool) → (b || true) ≡ true
      or_true true = refl
      or_true false = refl

      by : (b : Bool) → list_any is_agreement acts ≡ b → Stage all now new known (s ++ acts)
      by true agrees = agreed (list_any-append is_agreement s acts
          ∙ ap (λ (b : Bool). list_any is_agreement s || b) agrees ∙ or_true (list_any is_agreement s))
      by false none = stage none

-- A frame that agrees, and that was taken so, agrees in the session.
accepted_agrees : (k : Known) (s : Session) (was : Unagreed k s) (b : Bor (List ℕ)) (t : Taken) (acts : List Act)
    (later : Known) → AreActs k s (said.Written b t) acts later → IsTaken k s b.now t (written Accepted) → AgreesFrame b.now
    → list_any is_agreement acts ≡ true
accepted_agrees k s was b t acts later are is agrees =
    let init : IsInitReply b.now = agreeing_init b.now agrees in
    let told = is was.unjudged (init.whole, inl init.succeeds) (ap (λ (n : ℕ). n % 2) init.under) in
    written_agrees k b.now init s acts later
    (λ none. told.1 (ap (waits_in s) init.under ∙ none)) (waits_init s was.asks 2)
    (subst (λ (x : Taken). IsWritten k s b.now x acts later) told.0
    (judged_acts k s (said.Written b t) acts later was.unjudged are))

-- ---- a step

module _ (all now : List Outcome) (old : Driven) (k : Known) (s : Session) (free : AreFree is_of_early_requests [] s)
    (holds : IsInitTurn old.turn) (closed : old.directories ≡ []) (was : Unagreed k s)
    (wait : AllWait AgreesNot old.waiting now all) where
  -- No request is held but INIT.
  held_init : (turn : Turn) → old.turn ≡ turn → IsInitTurn turn
  held_init turn is = subst IsInitTurn is holds

  -- The next three are how it goes on where no frame for the kernel is received.
  still : (read : Bool) (log : List Transfer) (new : Driven) → IsEarly read new.kernel → IsInitTurn new.turn
      → new.directories ≡ [] → new.waiting ≡ old.waiting → GoOn (now ++ all_aside log) all → (known : Known) (later : Session)
      → Unagreed known later → Stage all (now ++ all_aside log) new known later
  still read log new is_early turn none same goes known later unagreed = early read is_early turn none unagreed
      (subst (λ (l : List (List ℕ)). AllWait AgreesNot l (now ++ all_aside log) all) (sym same)
      (aside_waits AgreesNot old.waiting log now all wait goes))

  ended_goes : (read : Bool) (log : List Transfer) (new : Driven) → IsEarly read new.kernel → IsInitTurn new.turn
      → new.directories ≡ [] → new.waiting ≡ old.waiting → GoOn (now ++ all_aside log) all → (later : Known) (whole : Session)
      → Lead k s (said.Ended ∷ []) later whole → Until all (now ++ all_aside log) new later whole
  ended_goes read log new is_early turn none same goes later whole (acts, known, are, leads) =
      one_on all (now ++ all_aside log) new k s free acts known later whole leads
      (said_timely k s acts known false said.Ended tt are)
      (still read log new is_early turn none same goes known (s ++ acts) (ended_on k s was acts known are))

  written_goes : (read : Bool) (log : List Transfer) (new : Driven) → IsEarly read new.kernel → IsInitTurn new.turn
      → new.directories ≡ [] → new.waiting ≡ old.waiting → GoOn (now ++ all_aside log) all → (b : Bor (List ℕ)) (t : Taken)
      (later : Known) (whole : Session) → Lead k s (said.Written b t ∷ []) later whole
      → Until all (now ++ all_aside log) new later whole
  written_goes read log new is_early turn none same goes b t later whole (acts, known, are, leads) =
      leads_on all (now ++ all_aside log) new known (s ++ acts) later whole leads
      (written_one all (now ++ all_aside log) new k s free b t acts known are
      (λ no. still read log new is_early turn none same goes known (s ++ acts) (written_on k s was acts known b t are no)))

  -- INIT is sent, or the device ends.
  init_goes : (read : Bool) (new : Driven) → IsEarly read new.kernel → IsInitTurn new.turn → new.directories ≡ []
      → new.waiting ≡ old.waiting → (request : Request) → is_init_body request.body ≡ true → (frame : List ℕ)
      → SaysRequest frame request → (log : List Transfer) → SendsFrame frame log → GoOn (now ++ all_aside log) all
      → (ts : List Said) → AreSaid log ts → (later : Known) (whole : Session) → Lead k s ts later whole
      → Until all (now ++ all_aside log) new later whole
  init_goes read new is_early turn none same request init frame says log (with_result result) goes (said.Request b ∷ []) is
      later whole (acts, known, are, leads) =
      let on = init_on k s was acts known b (subst IsShaped (sym is.0) (said_shaped frame request says))
      (ap (λ (l : List ℕ). nat_eq (opcode_in l) 26) is.0 ∙ frame_init frame request says ∙ init) are in
      one_on all (now ++ all_aside log) new k s free acts known later whole leads on.timely
      (still read log new is_early turn none same goes known (s ++ acts) on.goes)
  init_goes read new is_early turn none same request init frame says log (at_end end) goes (said.Ended ∷ []) is later whole
      leads = ended_goes read log new is_early turn none same goes later whole leads
  init_goes read new is_early turn none same request init frame says log went goes ts is later whole leads = absurd search

  -- A frame for the kernel is received.
  received_goes : (read : Bool) → IsEarly read old.kernel → (frame : List ℕ) → GoOn (now ++ waiting ∷ []) all
      → (ts : List Said) → AreSaid (received frame ∷ []) ts → (later : Known) (whole : Session)
      (leads : Lead k s ts later whole) → AreTaken k s ts later whole leads (left_of now all)
      → Until all (now ++ waiting ∷ []) (record old { waiting = old.waiting ++ frame ∷ [] }) later whole
  received_goes read is_early frame goes (said.Written b t ∷ []) is later whole (acts, known, are, leads) taken =
      leads_on all (now ++ waiting ∷ []) (record old { waiting = old.waiting ++ frame ∷ [] }) known (s ++ acts) later whole leads
      (written_one all (now ++ waiting ∷ []) (record old { waiting = old.waiting ++ frame ∷ [] }) k s free b t acts known are
      (λ no. early read is_early holds closed (written_on k s was acts known b t are no)
      (last_waits AgreesNot old.waiting frame now all wait goes (λ o more same accepted agrees. false≢true
      (sym no ∙ accepted_agrees k s was b t acts known are (subst (IsTaken k s b.now t) accepted
      (taken_first (left_of now all) o more same taken)) (subst AgreesFrame (sym is.0) agrees))))))
    where
      taken_first : (os : List Outcome) (o : Outcome) (more : List Outcome) → os ≡ o ∷ more
          → AreTaken k s (said.Written b t ∷ []) later whole (acts, known, are, leads) os → IsTaken k s b.now t o
      taken_first os o more same taken = (subst (AreTaken k s (said.Written b t ∷ []) later whole (acts, known, are, leads)) same
          taken).0
  received_goes read is_early frame goes ts is later whole leads taken = absurd search

  module _ (read : Bool) (is_early : IsEarly read old.kernel) where
    early_goes : (log : List Transfer) (new : Driven) (step : DriveStep old log new) → EmptyUnlessLive old.kernel
        → GoOn (outcomes_after step now) all → (ts : List Said) → AreSaid log ts → (later : Known) (whole : Session)
        (leads : Lead k s ts later whole) → AreTaken k s ts later whole leads (left_of now all)
        → Until all (outcomes_after step now) new later whole
    early_goes log new (alone l (mounts may)) empty goes ts is later whole leads taken =
        none_on all (now ++ []) new k s free
        (still false [] new (mounted_early old.kernel) holds closed refl goes k s was) ts is later whole leads
    early_goes log new (alone l acts) empty goes ts is later whole leads taken =
        none_on all (now ++ []) new k s free
        (still read [] new (alone_early read old.kernel l acts refl is_early) holds closed refl goes k s was) ts is later whole
        leads
    early_goes log new (reads idles pick may request picks) empty goes ts is later whole leads taken =
        let init = read_early read old.kernel pick request may picks is_early in
        none_on all (now ++ []) new k s free (still true [] new init.early init.is closed refl goes k s was) ts is later whole leads
    early_goes log new (sends request turn unlisted frame says log' went) empty goes ts is later whole leads taken =
        init_goes read new is_early tt closed refl request (held_init (picked request) turn) frame says.says log went goes ts is later
        whole leads
    early_goes log new (opens request turn asks below node lists frame own log' went) empty goes ts is later whole leads taken =
        absurd (false≢true (sym (lists_no_init request.body node lists) ∙ held_init (picked request) turn))
    early_goes log new (is_given request unique node turn frame fh gives) empty goes ts is later whole leads taken =
        absurd (held_init _ turn)
    early_goes log new (is_not_known request unique node turn frame gives) empty goes ts is later whole leads taken =
        absurd (held_init _ turn)
    early_goes log new (is_refused request unique node turn frame error other gives) empty goes ts is later whole leads taken =
        absurd (held_init _ turn)
    early_goes log new (is_garbled request unique node turn frame head same gives) empty goes ts is later whole leads taken =
        absurd (held_init _ turn)
    early_goes log new (sends_opened request fh turn frame says handle log' went) empty goes ts is later whole leads taken =
        absurd (held_init _ turn)
    early_goes log new (answers request error turn bytes reply result l took) empty goes ts is later whole leads taken =
        absurd (held_init _ turn)
    early_goes log new (waits frame own_one) empty goes ts is later whole leads taken =
        received_goes read is_early frame goes ts is later whole leads taken
    early_goes log new (sets_aside frame other) empty goes (said.Written b t ∷ []) is later whole leads taken =
        written_goes read log new is_early holds closed refl goes b t later whole leads
    early_goes log new (sets_aside frame other) empty goes ts is later whole leads taken = absurd search
    early_goes log new (writes idles frame rest there handed on result l took log' coming left turn release) empty goes ts is
        later whole leads taken = by log' coming left turn release ts is later whole leads
      where
        first : AgreesNot frame (written result) × AllWait AgreesNot rest (first_written result now) all
        first = first_waits AgreesNot frame rest result now all
            (subst (λ (f : List (List ℕ)). AllWait AgreesNot f now all) there wait) goes

        by : (log : List Transfer) (coming : ℕ) (left : List (ℕ × Opened)) (turn : Turn)
            → ReleasesBehind frame old.next old.directories log coming left turn → (ts : List Said) → AreSaid log ts
            → (later : Known) (whole : Session) → Lead k s ts later whole
            → Until all (first_written result now) (record old {
              kernel = l;
              waiting = rest;
              next = coming;
              directories = left;
              turn = turn;
            }) later whole
        by log coming left turn (releases head below before after directory is apart bytes own over went) =
            absurd (no_middle before after _ (sym closed ∙ is))
        by log coming left turn (releases_none unlisted) =
            let still_early : IsEarly read l = taken_early read old.kernel handed result l took empty
            (λ agrees accepted. first.0 (ap written accepted) (handed, on, agrees)) is_early in
            none_on all (first_written result now) (record old { kernel = l; waiting = rest; turn = idle }) k s free
            (early read still_early tt closed was first.1)
    early_goes log new (is_released unique turn frame head same) empty goes ts is later whole leads taken =
        absurd (held_init _ turn)
    early_goes log new (ends end) empty goes (said.Ended ∷ []) is later whole leads taken =
        ended_goes read log new is_early holds closed refl goes later whole leads
    early_goes log new (ends end) empty goes ts is later whole leads taken = absurd search

-- ---- a run

-- A step goes on, where the session has agreed or not.
until_goes : (all now : List Outcome) (old : Driven) (log : List Transfer) (new : Driven) (step : DriveStep old log new) (k : Known)
    (s : Session) → EmptyUnlessLive old.kernel → GoOn (outcomes_after step now) all → (ts : List Said) → AreSaid log ts
    → (later : Known) (whole : Session) (leads : Lead k s ts later whole) → AreTaken k s ts later whole leads (left_of now all)
    → Until all now old k s → Until all (outcomes_after step now) new later whole
until_goes all now old log new step k s empty goes ts is later whole leads taken until = by until.stage
  where
    by : Stage all now old k s → Until all (outcomes_after step now) new later whole
    by (agreed has) =
        let more : AgreedFree whole = agreed_on ts k s later whole leads (record { agreed = has; free = until.free }) in
        record { stage = agreed more.agreed; free = more.free }
    by (early read is_early turn closed was wait) = early_goes all now old k s until.free turn closed was wait read is_early log
        new step empty goes ts is later whole leads taken

module _ (asks : Bool) (all : List Outcome) (k : Known) (s : Session) (free : AreFree is_of_early_requests [] s)
    (first : Unagreed k s) where
  run_until : (log : List Transfer) (new : Driven) (run : Drives (first_driven asks) log new) → GoOn (outcomes_of run) all
      → (ts : List Said) → AreSaid log ts → (later : Known) (whole : Session) (leads : Lead k s ts later whole)
      → AreTaken k s ts later whole leads all → Until all (outcomes_of run) new later whole
  run_until log new nothing goes ts is later whole leads taken =
      none_on all [] (first_driven asks) k s free
      (early false (λ live. absurd (false≢true live)) tt refl first refl) ts is later whole leads
  run_until log new (behind before mid run last end step) goes ts is later whole leads taken =
      let parts = said_parts before last ts is in
      let both : (l : Lead k s (parts.first ++ parts.last) later whole) × AreTaken k s (parts.first ++ parts.last) later whole l all =
      subst (λ (us : List Said). (l : Lead k s us later whole) × AreTaken k s us later whole l all) parts.all (leads, taken) in
      let led = taken_parts k s parts.first parts.last later whole both.0 all both.1 in
      until_goes all (outcomes_of run) mid last end step led.known led.session
      (run_tallied 2 (omega arith) asks before mid run).empty goes parts.last parts.said_more later whole led.behind
      (subst (AreTaken led.known led.session parts.last later whole led.behind)
      (left_run (first_driven asks) before mid run parts.first parts.said all) led.taken_more)
      (run_until before mid run (goes_before mid last end step (outcomes_of run) all goes) parts.first parts.said led.known
      led.session led.before led.taken)

pub early_requests_never : NeverAccusedWhereTaken is_of_early_requests
early_requests_never asks log new run ts is k s (acts, known, are, leads) taken place f has of =
    let first : acts ≡ act.SeveralReaders ∷ [] = are.0 in
    let unagreed : Unagreed known acts = record {
      agreed = ap (λ (x : Known). x.agreed) are.1;
      unjudged = ap (λ (x : Known). x.unjudged) are.1;
      asks = ap (list_all asks_init) first;
    } in
    let until = run_until asks (outcomes_of run) known acts (timely_free [] acts false (λ no. absurd (false≢true no))
    (ap (list_all (is_timely false)) first)) unagreed log new run (goes_same (outcomes_of run)) ts is k s leads taken in
    never_at is_of_early_requests [] s until.free place f has of
