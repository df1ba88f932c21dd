-- A kernel that mounts once sends its INIT before anything else, or never.
use Rattle.std.proofs.Common.{◌≡◌, inl, inr, ℕ, ◌+◌, ◌≤◌, ◌<◌, ◌^◌, Bool, true, false, true≢false, List, [], ◌∷◌, ◌++◌, Some, None, nat_eq, refl, ap, sym, subst, ◌∙◌, arith}
use Rattle.fuse_spec.specs.declared.Opened.{Opened}
use Rattle.fuse_spec.specs.declared.WriteResult.{WriteResult}
use Rattle.fuse_spec.specs.Kernel.Kernel.{Kernel, is_live}
use Rattle.fuse_spec.specs.Kernel.Messages.{Request, RequestBody}
use Rattle.fuse_frames.specs.RequestTies.{SaysRequest}
use Rattle.fuse_device.specs.Transfers.{Transfer, received, sent, unsent, stopped}
use Rattle.fk_drive_frames.specs.OwnRequests.{ListsNode, readdir, readdirplus}
use Rattle.fk_drive.specs.Driving.{Driven, DriveStep, Drives, ReleasesBehind, SendsFrame, Turn, first_driven, idle, releasing, alone, reads, sends, opens, is_given, is_not_known, is_refused, is_garbled, sends_opened, answers, waits, sets_aside, writes, is_released, ends, releases, releases_none, with_result, at_end, nothing, next as behind}
use Rattle.fk_drive.specs.KernelSteps.{IsReplyTaken, mounts}
use Rattle.fk_drive_theorem.specs.TakenOnce.{mounts_alone, mounts_at, mounts_in}
use Rattle.fk_drive_theorem.proofs.OneEach.{OneEach, run_one}
use Rattle.fk_drive_theorem.proofs.RunsTally.{run_tallied}
use Rattle.fk_drive_theorem.proofs.WrittenCounted.{EmptyUnlessLive}
use Rattle.fuse_sessions.specs.UnreadRequests.{opcode_in}
use Rattle.driven_sessions.proofs.Frames.{IsOwn, frame_init, is_init_body, own_other}
use Rattle.driven_sessions.proofs.InitNumbers.{InitsBearFirst, picked_no_init, picked_passed, run_first}
use Rattle.driven_sessions.proofs.Numbers.{Passed, moves_passed, passed_stable}
use Rattle.driven_sessions.proofs.Reading.{picked_alive}
use Rattle.driven_sessions.proofs.Spent.{held, none_held, some_request}
use Rattle.driven_sessions.proofs.Steps.{WhileLive, alone_dead, alone_keeps, taken_dead, taken_keeps}
use Rattle.driven_sessions.proofs.Starting.{Waits, WaitsOn, alone_waits, is_gone, mounted_waits, read_waits, taken_waits, waits_on}

-- INIT is sent only before anything else is. `any` says whether something was sent before.
abbrev pub InitsFirst : (any : Bool) → List Transfer → Type 0
InitsFirst any [] = Unit {0}
InitsFirst any (sent frame result ∷ log) = (nat_eq (opcode_in frame) 26 ≡ true → any ≡ false) × InitsFirst true log
InitsFirst any (received frame ∷ log) = InitsFirst any log
InitsFirst any (unsent frame end ∷ log) = InitsFirst any log
InitsFirst any (stopped end ∷ log) = InitsFirst any log

abbrev has_sent : (any : Bool) → List Transfer → Bool
has_sent any [] = any
has_sent any (sent frame result ∷ log) = has_sent true log
has_sent any (received frame ∷ log) = has_sent any log
has_sent any (unsent frame end ∷ log) = has_sent any log
has_sent any (stopped end ∷ log) = has_sent any log

firsts_append : (any : Bool) (log more : List Transfer) → InitsFirst any log → InitsFirst (has_sent any log) more
    → InitsFirst any (log ++ more)
firsts_append any [] more first last = last
firsts_append any (sent frame result ∷ log) more first last = (first.0, firsts_append true log more first.1 last)
firsts_append any (received frame ∷ log) more first last = firsts_append any log more first last
firsts_append any (unsent frame end ∷ log) more first last = firsts_append any log more first last
firsts_append any (stopped end ∷ log) more first last = firsts_append any log more first last

sent_append : (any : Bool) (log more : List Transfer) → has_sent any (log ++ more) ≡ has_sent (has_sent any log) more
sent_append any [] more = refl
sent_append any (sent frame result ∷ log) more = sent_append true log more
sent_append any (received frame ∷ log) more = sent_append any log more
sent_append any (unsent frame end ∷ log) more = sent_append any log more
sent_append any (stopped end ∷ log) more = sent_append any log more

-- No INIT is held.
abbrev HoldsNoInit : Turn → Type 0
HoldsNoInit turn = (r : Request) → held turn ≡ Some r → is_init_body r.body ≡ false

-- How far it has come: it is not live, or INIT alone is queued, and nothing was sent; or INIT was read, and is held
-- only while nothing was sent.
data Stage (any : Bool) (count : ℕ) (d : Driven) : Type 0 where
  is_dead : is_live d.kernel.phase ≡ false → held d.turn ≡ None → d.directories ≡ [] → any ≡ false → Stage any count d
  is_waiting : 1 ≤ count → Waits d.kernel → held d.turn ≡ None → d.directories ≡ [] → any ≡ false → Stage any count d
  has_begun : 1 ≤ count → WhileLive (Passed 2) d.kernel → (any ≡ true → HoldsNoInit d.turn) → Stage any count d

-- A step goes on so.
abbrev Goes : (any : Bool) (count : ℕ) → List Transfer → Driven → Type 0
Goes any count log new = InitsFirst any log × Stage (has_sent any log) count new

-- ---- while nothing was sent

pub no_middle : {X : Type 0} (before after : List X) (x : X) → [] ≡ before ++ x ∷ after → ⊥
no_middle [] after x e = cc e
no_middle (y ∷ before) after x e = cc e

-- not the kernel by itself, nor a read of it
abbrev IsOther : {old : Driven} {log : List Transfer} {new : Driven} → DriveStep old log new → Type 0
IsOther (alone k acts) = ⊥
IsOther (reads idles pick may request is) = ⊥
IsOther step = Unit {0}

module _ (Is : Kernel → Type 0) (taken : (old : Kernel) (bytes : List ℕ) (result : WriteResult) (new : Kernel)
    → IsReplyTaken old bytes result new → EmptyUnlessLive old → Is old → Is new) where
  -- Nothing is sent, and nothing is held.
  record Stays (any : Bool) (log : List Transfer) (new : Driven) : Type 0 where
    firsts : InitsFirst any log
    same : has_sent any log ≡ any
    kernel : Is new.kernel
    none : held new.turn ≡ None
    closed : new.directories ≡ []

  other_stays : (any : Bool) (old : Driven) (log : List Transfer) (new : Driven) (step : DriveStep old log new) → IsOther step
      → EmptyUnlessLive old.kernel → Is old.kernel → held old.turn ≡ None → old.directories ≡ [] → Stays any log new
  other_stays any old log new (alone k acts) other empty was none closed = absurd other
  other_stays any old log new (reads idles pick may request is) other empty was none closed = absurd other
  other_stays any old log new (sends request turn unlisted frame says log' went) other empty was none closed =
      absurd (none_held (held old.turn) request none (ap held turn))
  other_stays any old log new (opens request turn asks below node lists frame is log' went) other empty was none closed =
      absurd (none_held (held old.turn) request none (ap held turn))
  other_stays any old log new (is_given request unique node turn frame fh gives) other empty was none closed =
      absurd (none_held (held old.turn) request none (ap held turn))
  other_stays any old log new (is_not_known request unique node turn frame gives) other empty was none closed =
      absurd (none_held (held old.turn) request none (ap held turn))
  other_stays any old log new (is_refused request unique node turn frame error not gives) other empty was none closed =
      absurd (none_held (held old.turn) request none (ap held turn))
  other_stays any old log new (is_garbled request unique node turn frame head same gives) other empty was none closed =
      absurd (none_held (held old.turn) request none (ap held turn))
  other_stays any old log new (sends_opened request fh turn frame says handle log' went) other empty was none closed =
      absurd (none_held (held old.turn) request none (ap held turn))
  other_stays any old log new (answers request error turn bytes written result k took) other empty was none closed =
      absurd (none_held (held old.turn) request none (ap held turn))
  other_stays any old log new (waits frame own_one) other empty was none closed =
      record { firsts = tt; same = refl; kernel = was; none = none; closed = closed }
  other_stays any old log new (sets_aside frame is) other empty was none closed =
      record { firsts = tt; same = refl; kernel = was; none = none; closed = closed }
  other_stays any old log new (writes idles frame rest there handed on result k took log' coming left turn release) other
      empty was none closed = by log' coming left turn release
    where
      by : (log : List Transfer) (coming : ℕ) (left : List (ℕ × Opened)) (turn : Turn)
          → ReleasesBehind frame old.next old.directories log coming left turn → Stays any log (record old {
            kernel = k;
            waiting = rest;
            next = coming;
            directories = left;
            turn = turn;
          })
      by log coming left turn (releases head below before after directory is apart bytes own over went) =
          absurd (no_middle before after _ (sym closed ∙ is))
      by log coming left turn (releases_none unlisted) = record {
        firsts = tt;
        same = refl;
        kernel = taken old.kernel handed result k took empty was;
        none = refl;
        closed = closed;
      }
  other_stays any old log new (is_released unique turn frame head same) other empty was none closed =
      record { firsts = tt; same = refl; kernel = was; none = refl; closed = closed }
  other_stays any old log new (ends end) other empty was none closed =
      record { firsts = tt; same = refl; kernel = was; none = none; closed = closed }

still_dead : (any : Bool) (count : ℕ) (log : List Transfer) (new : Driven)
    → Stays (λ (k : Kernel). is_live k.phase ≡ false) taken_dead any log new → any ≡ false → Goes any count log new
still_dead any count log new stays nothing_sent =
    (stays.firsts, is_dead stays.kernel stays.none stays.closed (stays.same ∙ nothing_sent))

still_waiting : (any : Bool) (count : ℕ) (log : List Transfer) (new : Driven)
    → Stays Waits (λ old bytes result new took empty w. taken_waits old bytes result new took w) any log new → any ≡ false
    → 1 ≤ count → Goes any count log new
still_waiting any count log new stays nothing_sent some =
    (stays.firsts, is_waiting some stays.kernel stays.none stays.closed (stays.same ∙ nothing_sent))

module _ (any : Bool) (count : ℕ) (nothing_sent : any ≡ false) where
  dead_goes : (old : Driven) (log : List Transfer) (new : Driven) (step : DriveStep old log new) → EmptyUnlessLive old.kernel
      → is_live old.kernel.phase ≡ false → held old.turn ≡ None → old.directories ≡ [] → Goes any (count + mounts_at step) log new
  dead_goes old log new (alone k (mounts may)) empty dead none closed =
      (tt, is_waiting (omega arith) (mounted_waits old.kernel) none closed nothing_sent)
  dead_goes old log new (alone k acts) empty dead none closed =
      (tt, is_dead (alone_dead old.kernel k acts refl dead) none closed nothing_sent)
  dead_goes old log new (reads idles pick may request is) empty dead none closed =
      absurd (true≢false (sym (picked_alive old.kernel pick may) ∙ dead))
  dead_goes old log new step empty dead none closed = still_dead any (count + mounts_at step) log new
      (other_stays (λ (k : Kernel). is_live k.phase ≡ false) taken_dead any old log new step tt empty dead none closed) nothing_sent

  waiting_goes : (old : Driven) (log : List Transfer) (new : Driven) (step : DriveStep old log new)
      → count + mounts_at step ≤ 1 → EmptyUnlessLive old.kernel → OneEach old.kernel.queues → 1 ≤ count → Waits old.kernel
      → held old.turn ≡ None → old.directories ≡ [] → Goes any (count + mounts_at step) log new
  waiting_goes old log new (alone k acts) few empty one some w none closed =
      by (alone_waits old.kernel k acts (omega (arith, few, some)) w)
    where
      by : WaitsOn k → Goes any (count + mounts_alone acts) [] (record old { kernel = k })
      by (waits_on w) = (tt, is_waiting (omega (arith, some)) w none closed nothing_sent)
      by (is_gone dead) = (tt, is_dead dead none closed nothing_sent)
  waiting_goes old log new (reads idles pick may request is) few empty one some w none closed = (
    tt,
    has_begun (omega (arith, some)) (λ live. read_waits old.kernel pick request one is w)
        (λ sent. absurd (true≢false (sym sent ∙ nothing_sent))),
  )
  waiting_goes old log new step few empty one some w none closed = still_waiting any (count + mounts_at step) log new
      (other_stays Waits (λ old bytes result new took empty w. taken_waits old bytes result new took w) any old log new step tt
      empty w none closed) nothing_sent (omega (arith, some))

-- ---- once INIT was read

pub lists_no_init : (body : RequestBody) (node : ℕ) → ListsNode body node → is_init_body body ≡ false
lists_no_init body node (readdir of after size) = refl
lists_no_init body node (readdirplus of after size) = refl

held_firsts : (any : Bool) (frame : List ℕ) (r : Request) → (any ≡ true → is_init_body r.body ≡ false) → SaysRequest frame r
    → (log : List Transfer) → SendsFrame frame log → InitsFirst any log
held_firsts any frame r other says log (with_result result) = (λ init. by any other init, tt)
  where
    by : (b : Bool) → (b ≡ true → is_init_body r.body ≡ false) → nat_eq (opcode_in frame) 26 ≡ true → b ≡ false
    by false other init = refl
    by true other init = absurd (true≢false (sym init ∙ frame_init frame r says ∙ other refl))
held_firsts any frame r other says log (at_end end) = tt

own_firsts : (any : Bool) (frame : List ℕ) (unique : ℕ) → unique < 2 ^ 63 → IsOwn frame unique → (log : List Transfer)
    → SendsFrame frame log → InitsFirst any log
own_firsts any frame unique low own log (with_result result) =
    (λ init. absurd (true≢false (sym init ∙ own_other 26 refl refl frame unique low own)), tt)
own_firsts any frame unique low own log (at_end end) = tt

none_holds : (turn : Turn) → held turn ≡ None → HoldsNoInit turn
none_holds turn none r is = absurd (none_held (held turn) r none is)

moved_holds : (a b : Turn) → held b ≡ held a → HoldsNoInit a → HoldsNoInit b
moved_holds a b same other r is = other r (sym same ∙ is)

module _ (any : Bool) (count : ℕ) (some : 1 ≤ count) where
  begun_goes : (old : Driven) (log : List Transfer) (new : Driven) (step : DriveStep old log new)
      → count + mounts_at step ≤ 1 → EmptyUnlessLive old.kernel → InitsBearFirst old.kernel.queues
      → WhileLive (Passed 2) old.kernel → (any ≡ true → HoldsNoInit old.turn) → Goes any (count + mounts_at step) log new
  begun_goes old log new (alone k acts) few empty first passed other = (
    tt,
    has_begun (omega (arith, some))
        (alone_keeps (Passed 2) (passed_stable 2) (moves_passed 2) old.kernel k acts (omega (arith, few, some)) passed) other,
  )
  begun_goes old log new (reads idles pick may request is) few empty first passed other =
      let live = picked_alive old.kernel pick may in (
        tt,
        has_begun (omega (arith, some)) (λ alive. picked_passed 2 old.kernel.queues pick (passed alive))
            (λ sent r same. subst (λ (q : Request). is_init_body q.body ≡ false) (some_request request r same)
            (picked_no_init old.kernel pick request (passed live) first is)),
      )
  begun_goes old log new (sends request turn unlisted frame says log' went) few empty first passed other = (
    held_firsts any frame request (λ sent. other sent request (ap held turn)) says.says log went,
    has_begun (omega (arith, some)) passed (λ sent. none_holds idle refl),
  )
  begun_goes old log new (opens request turn asks below node lists frame is log' went) few empty first passed other = (
    own_firsts any frame old.next below (inl (node, is)) log went,
    has_begun (omega (arith, some)) passed
        (λ sent r same. subst (λ (q : Request). is_init_body q.body ≡ false) (some_request request r same)
        (lists_no_init request.body node lists)),
  )
  begun_goes old log new (is_given request unique node turn frame fh gives) few empty first passed other =
      (tt, has_begun (omega (arith, some)) passed (λ sent. moved_holds old.turn new.turn (sym (ap held turn)) (other sent)))
  begun_goes old log new (is_not_known request unique node turn frame gives) few empty first passed other =
      (tt, has_begun (omega (arith, some)) passed (λ sent. moved_holds old.turn new.turn (sym (ap held turn)) (other sent)))
  begun_goes old log new (is_refused request unique node turn frame error not gives) few empty first passed other =
      (tt, has_begun (omega (arith, some)) passed (λ sent. moved_holds old.turn new.turn (sym (ap held turn)) (other sent)))
  begun_goes old log new (is_garbled request unique node turn frame head same gives) few empty first passed other =
      (tt, has_begun (omega (arith, some)) passed (λ sent. moved_holds old.turn new.turn (sym (ap held turn)) (other sent)))
  begun_goes old log new (sends_opened request fh turn frame says handle log' went) few empty first passed other = (
    held_firsts any frame request (λ sent. other sent request (ap held turn)) says.says log went,
    has_begun (omega (arith, some)) passed (λ sent. none_holds idle refl),
  )
  begun_goes old log new (answers request error turn bytes written result k took) few empty first passed other = (
    tt,
    has_begun (omega (arith, some))
        (taken_keeps (Passed 2) (passed_stable 2) (moves_passed 2) old.kernel bytes result k took empty passed)
        (λ sent. none_holds idle refl),
  )
  begun_goes old log new (waits frame own_one) few empty first passed other =
      (tt, has_begun (omega (arith, some)) passed other)
  begun_goes old log new (sets_aside frame is) few empty first passed other =
      (tt, has_begun (omega (arith, some)) passed other)
  begun_goes old log new (writes idles frame rest there handed on result k took log' coming left turn release) few empty first
      passed other = by log' coming left turn release
    where
      keeps : WhileLive (Passed 2) k
      keeps = taken_keeps (Passed 2) (passed_stable 2) (moves_passed 2) old.kernel handed result k took empty passed

      by : (log : List Transfer) (coming : ℕ) (left : List (ℕ × Opened)) (turn : Turn)
          → ReleasesBehind frame old.next old.directories log coming left turn → Goes any (count + 0) log (record old {
            kernel = k;
            waiting = rest;
            next = coming;
            directories = left;
            turn = turn;
          })
      by log coming left turn (releases head below before after directory there apart bytes is over went) = (
        own_firsts any bytes old.next below (inr (directory, is)) log went,
        has_begun (omega (arith, some)) keeps (λ sent. none_holds (releasing old.next) refl),
      )
      by log coming left turn (releases_none unlisted) =
          (tt, has_begun (omega (arith, some)) keeps (λ sent. none_holds idle refl))
  begun_goes old log new (is_released unique turn frame head same) few empty first passed other =
      (tt, has_begun (omega (arith, some)) passed (λ sent. none_holds idle refl))
  begun_goes old log new (ends end) few empty first passed other = (tt, has_begun (omega (arith, some)) passed other)

-- ---- a run

step_goes : (any : Bool) (count : ℕ) (old : Driven) (log : List Transfer) (new : Driven) (step : DriveStep old log new)
    → count + mounts_at step ≤ 1 → EmptyUnlessLive old.kernel → OneEach old.kernel.queues → InitsBearFirst old.kernel.queues
    → Stage any count old → Goes any (count + mounts_at step) log new
step_goes any count old log new step few empty one first (is_dead dead none closed nothing_sent) =
    dead_goes any count nothing_sent old log new step empty dead none closed
step_goes any count old log new step few empty one first (is_waiting some w none closed nothing_sent) =
    waiting_goes any count nothing_sent old log new step few empty one some w none closed
step_goes any count old log new step few empty one first (has_begun some passed other) =
    begun_goes any count some old log new step few empty first passed other

module _ (asks : Bool) where
  run_goes : (log : List Transfer) (new : Driven) (run : Drives (first_driven asks) log new) → mounts_in run ≤ 1
      → Goes false (mounts_in run) log new
  run_goes log new nothing few = (tt, is_dead refl refl refl refl)
  run_goes log new (behind before mid run last end step) few =
      let was = run_goes before mid run (omega (arith, few)) in
      let now = step_goes (has_sent false before) (mounts_in run) mid last end step few
      (run_tallied 2 (omega arith) asks before mid run).empty (run_one asks before mid run) (run_first asks before mid run) was.1 in (
        firsts_append false before last was.0 now.0,
        subst (λ (b : Bool). Stage b (mounts_in run + mounts_at step) end) (sym (sent_append false before last)) now.1,
      )

pub run_inits : (asks : Bool) (log : List Transfer) (new : Driven) (run : Drives (first_driven asks) log new)
    → mounts_in run ≤ 1 → InitsFirst false log
run_inits asks log new run few = (run_goes asks log new run few).0
