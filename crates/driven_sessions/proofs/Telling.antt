-- A session says of each request that waits in the kernel what it asks.
use Rattle.std.proofs.Common.{◌≡◌, inl, inr, ℕ, ◌+◌, ◌≤◌, ◌<◌, ◌^◌, Bool, true, false, List, [], ◌∷◌, ◌++◌, Some, nat_eq, refl, ap, sym, subst, ◌∙◌, arith}
use Rattle.std.specs.List.{list_all}
use Rattle.std.proofs.lemmas.Bool.Decides.{nat_tests}
use Rattle.fuse_device.specs.Transfers.{Transfer, received, sent, stopped, unsent}
use Rattle.fuse_spec.specs.declared.Opened.{Opened}
use Rattle.fuse_spec.specs.Kernel.Kernel.{Kernel}
use Rattle.fuse_spec.specs.Kernel.Messages.{Request}
use Rattle.fuse_frames.specs.RequestTies.{SaysRequest, asked_opcode}
use Rattle.fk_wire.specs.declared.opcode.Opcode.{Opcode as CodecOpcode}
use Rattle.fk_drive.specs.Driving.{Driven, DriveStep, ReleasesBehind, SendsFrame, Turn, alone, reads, sends, opens, is_given, is_not_known, is_refused, is_garbled, sends_opened, answers, writes, is_released, releases, releases_none, with_result, at_end}
use Rattle.fk_drive.specs.KernelSteps.{mounts}
use Rattle.fk_drive_theorem.specs.TakenOnce.{mounts_at}
use Rattle.fk_drive_theorem.proofs.OneEach.{OneEach}
use Rattle.fk_drive_theorem.proofs.WrittenCounted.{EmptyUnlessLive}
use Rattle.fuse_protocol.specs.declared.opcode.Opcode.{Opcode}
use Rattle.fuse_protocol.specs.declared.opcode.Opcode.TheVariants as op
use Rattle.fuse_protocol.proofs.Codes.{same_opcode}
use Rattle.protocol_law.specs.Law.{Carries}
use Rattle.protocol_law.specs.ReplyLaw.{table_opcode}
use Rattle.fuse_sessions.specs.declared.act.Act.{Act}
use Rattle.fuse_sessions.specs.declared.act.Asked.{Asked}
use Rattle.fuse_sessions.specs.declared.known.Known.{Known}
use Rattle.fuse_sessions.specs.declared.transfer.Transfer.{Transfer as Said}
use Rattle.fuse_sessions.specs.declared.transfer.Transfer.TheVariants as said
use Rattle.fuse_sessions.specs.Frames.{AreReadActs, AreRequestActs, Lead}
use Rattle.fuse_sessions.specs.RequestActs.{request_acts}
use Rattle.fuse_sessions.specs.Sessions.{Session}
use Rattle.fuse_sessions.specs.UnreadRequests.{opcode_in, unique_in}
use Rattle.driven_sessions.specs.Driven.{HaveAgreed}
use Rattle.driven_sessions.specs.Transfers.{AllSent, AreSaid, IsShaped}
use Rattle.driven_sessions.proofs.Asks.{AllAsk, AsksCode, AsksOpcode, append_ask, map_ask, request_asks, sent_asks, shown_ask}
use Rattle.driven_sessions.proofs.Calm.{is_shown, written_shown}
use Rattle.driven_sessions.proofs.Frames.{IsOwn, frame_interrupt, is_interrupt, own_head}
use Rattle.driven_sessions.proofs.Never.{by_judged}
use Rattle.driven_sessions.proofs.Picking.{Above, above_stable, moves_above, picked_above, picked_asks}
use Rattle.driven_sessions.proofs.Reading.{picked_alive, picks}
use Rattle.driven_sessions.proofs.Replying.{Knows, WellNumbered, step_knows, step_well}
use Rattle.driven_sessions.proofs.Shapes.{own_shaped, said_shaped}
use Rattle.driven_sessions.proofs.Spent.{Keeps, held, none_held, some_request}
use Rattle.driven_sessions.proofs.Steps.{WhileLive, alone_keeps, taken_keeps}

-- ---- requests of a session

-- Each request that a frame is read as is such.
abbrev pub FrameAsks : (ℕ → Asked → Type 0) → List ℕ → Type 0
FrameAsks IsSuch frame = (k : Known) (acts : List Act) → Carries k.agreed → AreRequestActs k frame acts → AllAsk IsSuch acts

module _ (IsSuch : ℕ → Asked → Type 0) where
  none_ask : (acts : List Act) → acts ≡ [] → AllAsk IsSuch acts
  none_ask acts none = subst (AllAsk IsSuch) (sym none) tt

  pub asks_grow : (log : List Transfer) → AllSent (FrameAsks IsSuch) log → (ts : List Said) → AreSaid log ts → (k : Known)
      (s : Session) (later : Known) (all : Session) (leads : Lead k s ts later all) → HaveAgreed Carries k s ts later all leads
      → AllAsk IsSuch s → AllAsk IsSuch all
  asks_grow [] such [] is k s later all leads agreed was = subst (AllAsk IsSuch) (sym leads.1) was
  asks_grow (sent frame result ∷ log) such (said.Request b ∷ ts) is k s later all (acts, known, are, leads) agreed was =
      asks_grow log such.1 ts is.1 known (s ++ acts) later all leads agreed.1 (append_ask IsSuch s acts was
      (by_judged (AllAsk IsSuch acts) k.unjudged (AreReadActs k s (said.Request b) acts known)
      (λ why. (acts ≡ []) × (known ≡ k))
      (λ judged does. such.0 k acts agreed.0 (subst (λ (l : List ℕ). AreRequestActs k l acts) is.0 does.0))
      (λ why unjudged none. none_ask acts none.0) are))
  asks_grow (received frame ∷ log) such (said.Written b t ∷ ts) is k s later all (acts, known, are, leads) agreed was =
      asks_grow log such ts is.1 known (s ++ acts) later all leads agreed.1 (append_ask IsSuch s acts was
      (by_judged (AllAsk IsSuch acts) k.unjudged (AreReadActs k s (said.Written b t) acts known)
      (λ why. (acts ≡ []) × (known ≡ k))
      (λ judged does. shown_ask IsSuch acts (written_shown k b.now t s acts known does))
      (λ why unjudged none. none_ask acts none.0) are))
  asks_grow (unsent frame end ∷ log) such (said.Ended ∷ ts) is k s later all (acts, known, are, leads) agreed was =
      asks_grow log such ts is.1 known (s ++ acts) later all leads agreed.1 (append_ask IsSuch s acts was
      (by_judged (AllAsk IsSuch acts) k.unjudged (AreReadActs k s said.Ended acts known)
      (λ why. (acts ≡ []) × (known ≡ k)) (λ judged does. shown_ask IsSuch acts (ap (list_all is_shown) does.0))
      (λ why unjudged none. none_ask acts none.0) are))
  asks_grow (stopped end ∷ log) such (said.Ended ∷ ts) is k s later all (acts, known, are, leads) agreed was =
      asks_grow log such ts is.1 known (s ++ acts) later all leads agreed.1 (append_ask IsSuch s acts was
      (by_judged (AllAsk IsSuch acts) k.unjudged (AreReadActs k s said.Ended acts known)
      (λ why. (acts ≡ []) × (known ≡ k)) (λ judged does. shown_ask IsSuch acts (ap (list_all is_shown) does.0))
      (λ why unjudged none. none_ask acts none.0) are))
  asks_grow log such ts is k s later all leads agreed was = absurd search

-- A frame that is an INTERRUPT asks nothing.
pub interrupt_asks : (IsSuch : ℕ → Asked → Type 0) (frame : List ℕ) → IsShaped frame → opcode_in frame ≡ 36 → FrameAsks IsSuch frame
interrupt_asks IsSuch frame shaped code k acts carries (inl ((o, m), is, does)) =
    let same = same_opcode o op.Interrupt (sym is.opcode ∙ code) in
    subst (AllAsk IsSuch) (sym (does ∙ ap (λ (p : Opcode). request_acts k.has_resent p m) same)) tt
interrupt_asks IsSuch frame shaped code k acts carries (inr (none, does)) =
    let one = shaped k.agreed carries in absurd (none (one.0, one.1) one.2)

-- ---- what is tied

-- A request of the kernel's that was sent: while it awaits a reply, that is one to its opcode.
abbrev pub Tied : Kernel → ℕ → Asked → Type 0
Tied k u a = u < 2 ^ 62 → (2 ≤ u) × (o : CodecOpcode) × (a.opcode ≡ Some (table_opcode o)) × Knows o u k

abbrev pub IsOwnNumber : ℕ → Asked → Type 0
IsOwnNumber u a = 2 ^ 62 ≤ u

pub record Tells (count : ℕ) (d : Driven) (s : Session) : Type 0 where
  pub well : WellNumbered d.kernel
  pub above : WhileLive Above d.kernel
  pub asks : AllAsk (Tied d.kernel) s
  pub holds : (r : Request) → held d.turn ≡ Some r → is_interrupt r.body ≡ false
      → (2 ≤ r.unique) × Knows (asked_opcode r.body) r.unique d.kernel
  pub before : count ≡ 0 → AllAsk IsOwnNumber s

-- ---- a frame that is sent

own_tied : (k : Kernel) (u : ℕ) (a : Asked) → 2 ^ 62 ≤ u → Tied k u a
own_tied k u a high low = absurd (omega (arith, high, low))

pub own_asks : (frame : List ℕ) (unique : ℕ) → 2 ^ 62 ≤ unique → unique < 2 ^ 63 → IsOwn frame unique → FrameAsks IsOwnNumber frame
own_asks frame unique high low own k acts carries does =
    let head = own_head frame unique low own in
    let number : unique_in frame ≡ unique = head.1 in
    map_ask (AsksCode (unique_in frame) (opcode_in frame)) IsOwnNumber
    (λ u a is. let same = is.0 in omega (arith, high, same, number)) acts
    (sent_asks k frame acts (own_shaped frame unique low own) carries does)

own_asks_tied : (kernel : Kernel) (frame : List ℕ) → FrameAsks IsOwnNumber frame → FrameAsks (Tied kernel) frame
own_asks_tied kernel frame asks k acts carries does =
    map_ask IsOwnNumber (Tied kernel) (own_tied kernel) acts (asks k acts carries does)

request_tied : (kernel : Kernel) (frame : List ℕ) (r : Request) → SaysRequest frame r
    → (is_interrupt r.body ≡ false → (2 ≤ r.unique) × Knows (asked_opcode r.body) r.unique kernel)
    → FrameAsks (Tied kernel) frame
request_tied kernel frame r says holds = by (is_interrupt r.body) refl
  where
    code : is_interrupt r.body ≡ true → opcode_in frame ≡ 36
    code is = by_test (frame_interrupt frame r says ∙ is)
      where
        by_test : nat_eq (opcode_in frame) 36 ≡ true → opcode_in frame ≡ 36
        by_test e = grind (arith, nat_tests, e)

    by : (b : Bool) → is_interrupt r.body ≡ b → FrameAsks (Tied kernel) frame
    by true is = interrupt_asks (Tied kernel) frame (said_shaped frame r says) (code is)
    by false other = λ k acts carries does. map_ask (AsksOpcode r) (Tied kernel)
        (λ u a is. λ low. (
          (let two = (holds other).0 in let same = is.0 in omega (arith, two, same)),
          asked_opcode r.body,
          is.1,
          subst (λ (n : ℕ). Knows (asked_opcode r.body) n kernel) (sym is.0) (holds other).1,
        )) acts (request_asks k frame acts r says (said_shaped frame r says) carries does)

-- ---- a step

abbrev IsNoRead : {old : Driven} {log : List Transfer} {new : Driven} → DriveStep old log new → Type 0
IsNoRead (reads idles pick may request is) = ⊥
IsNoRead step = Unit {0}

-- A request that is held after another step than a read was held before it.
pub held_before : (old : Driven) (log : List Transfer) (new : Driven) (step : DriveStep old log new) → IsNoRead step → (r : Request)
    → held new.turn ≡ Some r → held old.turn ≡ Some r
held_before old log new (reads idles pick may request is) other r holds = absurd other
held_before old log new (sends request turn unlisted frame says log' went) other r holds = cc holds
held_before old log new (opens request turn asks below node lists frame own log' went) other r holds = ap held turn ∙ holds
held_before old log new (is_given request unique node turn frame fh gives) other r holds = ap held turn ∙ holds
held_before old log new (is_not_known request unique node turn frame gives) other r holds = ap held turn ∙ holds
held_before old log new (is_refused request unique node turn frame error apart gives) other r holds = ap held turn ∙ holds
held_before old log new (is_garbled request unique node turn frame head same gives) other r holds = ap held turn ∙ holds
held_before old log new (sends_opened request fh turn frame says handle log' went) other r holds = cc holds
held_before old log new (answers request error turn bytes reply result l took) other r holds = cc holds
held_before old log new (writes idles frame rest there handed on result l took log' coming left turn release) other r holds =
    by log' coming left turn release holds
  where
    by : (log : List Transfer) (coming : ℕ) (left : List (ℕ × Opened)) (turn : Turn)
        → ReleasesBehind frame old.next old.directories log coming left turn → held turn ≡ Some r → held old.turn ≡ Some r
    by log coming left turn (releases head below before after directory is apart bytes own over went) holds = cc holds
    by log coming left turn (releases_none unlisted) holds = cc holds
held_before old log new (is_released unique turn frame head same) other r holds = cc holds
held_before old log new step other r holds = holds

module _ (count : ℕ) (old : Driven) (s : Session) (tells : Tells count old s) (keeps : Keeps count old s)
    (one : OneEach old.kernel.queues) (empty : EmptyUnlessLive old.kernel) where
  frames_tied : (log : List Transfer) (new : Driven) → DriveStep old log new → AllSent (FrameAsks (Tied old.kernel)) log
  frames_tied log new (sends request turn unlisted frame says log' went) = by log' went
    where
      by : (log : List Transfer) → SendsFrame frame log → AllSent (FrameAsks (Tied old.kernel)) log
      by log (with_result result) =
          (request_tied old.kernel frame request says.says (λ other. tells.holds request (ap held turn) other), tt)
      by log (at_end end) = tt
  frames_tied log new (sends_opened request fh turn frame says handle log' went) = by log' went
    where
      by : (log : List Transfer) → SendsFrame frame log → AllSent (FrameAsks (Tied old.kernel)) log
      by log (with_result result) =
          (request_tied old.kernel frame request says.says (λ other. tells.holds request (ap held turn) other), tt)
      by log (at_end end) = tt
  frames_tied log new (opens request turn asks below node lists frame own log' went) = by log' went
    where
      by : (log : List Transfer) → SendsFrame frame log → AllSent (FrameAsks (Tied old.kernel)) log
      by log (with_result result) =
          (own_asks_tied old.kernel frame (own_asks frame old.next keeps.low below (inl (node, own))), tt)
      by log (at_end end) = tt
  frames_tied log new (writes idles frame rest there handed on result l took log' coming left turn release) =
      by log' coming left turn release
    where
      by : (log : List Transfer) (coming : ℕ) (left : List (ℕ × Opened)) (turn : Turn)
          → ReleasesBehind frame old.next old.directories log coming left turn → AllSent (FrameAsks (Tied old.kernel)) log
      by log coming left turn
          (releases head below before after directory is apart bytes own over (with_result result)) =
          (own_asks_tied old.kernel bytes (own_asks bytes old.next keeps.low below (inr (directory, own))), tt)
      by log coming left turn (releases head below before after directory is apart bytes own over (at_end end)) = tt
      by log coming left turn (releases_none unlisted) = tt
  frames_tied log new step = tt

  frames_own : count ≡ 0 → (log : List Transfer) (new : Driven) → DriveStep old log new → AllSent (FrameAsks IsOwnNumber) log
  frames_own zero log new (sends request turn unlisted frame says log' went) =
      absurd (none_held (held old.turn) request (keeps.before zero).1 (ap held turn))
  frames_own zero log new (sends_opened request fh turn frame says handle log' went) =
      absurd (none_held (held old.turn) request (keeps.before zero).1 (ap held turn))
  frames_own zero log new (opens request turn asks below node lists frame own log' went) =
      absurd (none_held (held old.turn) request (keeps.before zero).1 (ap held turn))
  frames_own zero log new (writes idles frame rest there handed on result l took log' coming left turn release) =
      by log' coming left turn release
    where
      by : (log : List Transfer) (coming : ℕ) (left : List (ℕ × Opened)) (turn : Turn)
          → ReleasesBehind frame old.next old.directories log coming left turn → AllSent (FrameAsks IsOwnNumber) log
      by log coming left turn
          (releases head below before after directory is apart bytes own over (with_result result)) =
          (own_asks bytes old.next keeps.low below (inr (directory, own)), tt)
      by log coming left turn (releases head below before after directory is apart bytes own over (at_end end)) = tt
      by log coming left turn (releases_none unlisted) = tt
  frames_own zero log new step = tt

  -- ---- the kernel

  step_above : (log : List Transfer) (new : Driven) → DriveStep old log new → WhileLive Above new.kernel
  step_above log new (alone k (mounts may)) live = record { next = omega arith; requests = (omega arith, tt) }
  step_above log new (alone k acts) live = alone_keeps Above above_stable moves_above old.kernel k acts refl tells.above live
  step_above log new (reads idles pick may request is) live =
      picked_above old.kernel.queues pick (tells.above (picked_alive old.kernel pick may))
  step_above log new (answers request error turn bytes reply result l took) live =
      taken_keeps Above above_stable moves_above old.kernel bytes result l took empty tells.above live
  step_above log new (writes idles frame rest there handed on result l took log' coming left turn release) live =
      taken_keeps Above above_stable moves_above old.kernel handed result l took empty tells.above live
  step_above log new step live = tells.above live

  -- ---- what is so after it

  module _ (within : old.kernel.queues.next ≤ 2 ^ 62) (k : Known) (later : Known) (all : Session) (ts : List Said) where
    -- the session, where the kernel does not mount
    session_tied : (log : List Transfer) (new : Driven) (step : DriveStep old log new) → mounts_at step ≡ 0 → AreSaid log ts
        → (leads : Lead k s ts later all) → HaveAgreed Carries k s ts later all leads → AllAsk (Tied new.kernel) all
    session_tied log new step still is leads agreed = map_ask (Tied old.kernel) (Tied new.kernel) (λ u a tied low.
        let was = tied low in (
          was.0,
          was.1,
          was.2,
          step_knows old one empty tells.well log new step still was.1 u was.3,
        )) all (asks_grow (Tied old.kernel) log (frames_tied log new step) ts is k s later all leads agreed tells.asks)

    -- It holds what it held.
    same_holds : (log : List Transfer) (new : Driven) (step : DriveStep old log new) → mounts_at step ≡ 0
        → ((r : Request) → held new.turn ≡ Some r → held old.turn ≡ Some r) → (r : Request) → held new.turn ≡ Some r
        → is_interrupt r.body ≡ false → (2 ≤ r.unique) × Knows (asked_opcode r.body) r.unique new.kernel
    same_holds log new step still before r holds other =
        let was = tells.holds r (before r holds) other in
        (was.0, step_knows old one empty tells.well log new step still (asked_opcode r.body) r.unique was.1)

    still_tells : (log : List Transfer) (new : Driven) (step : DriveStep old log new) → mounts_at step ≡ 0
        → ((r : Request) → held new.turn ≡ Some r → is_interrupt r.body ≡ false
        → (2 ≤ r.unique) × Knows (asked_opcode r.body) r.unique new.kernel) → AreSaid log ts
        → (leads : Lead k s ts later all) → HaveAgreed Carries k s ts later all leads → Tells (count + mounts_at step) new all
    still_tells log new step still holds is leads agreed = record {
      well = step_well old one empty tells.well log new step;
      above = step_above log new step;
      asks = session_tied log new step still is leads agreed;
      holds = holds;
      before = λ zero.
          let none : count ≡ 0 = omega (arith, zero) in
          asks_grow IsOwnNumber log (frames_own none log new step) ts is k s later all leads agreed (tells.before none);
    }

    pub step_tells : (log : List Transfer) (new : Driven) (step : DriveStep old log new) → count + mounts_at step ≤ 1
        → new.kernel.queues.next ≤ 2 ^ 62 → AreSaid log ts → (leads : Lead k s ts later all)
        → HaveAgreed Carries k s ts later all leads → Tells (count + mounts_at step) new all
    step_tells log new (alone l (mounts may)) few high is leads agreed =
        let none : count ≡ 0 = omega (arith, few) in record {
          well = step_well old one empty tells.well log new (alone l (mounts may));
          above = step_above log new (alone l (mounts may));
          asks = map_ask IsOwnNumber (Tied new.kernel) (own_tied new.kernel) all (asks_grow IsOwnNumber log tt ts is k s later all leads
              agreed (tells.before none));
          holds = λ r holds other. absurd (none_held (held old.turn) r (keeps.before none).1 holds);
          before = λ zero. absurd (omega (arith, zero));
        }
    step_tells log new (reads idles pick may request picked_one) few high is leads agreed =
        let live = picked_alive old.kernel pick may in
        still_tells log new (reads idles pick may request picked_one) refl (λ r holds other.
        let same = some_request request r holds in
        let apart : is_interrupt request.body ≡ false = ap (λ (q : Request). is_interrupt q.body) same ∙ other in
        let right = (picks old.kernel live (keeps.numbered live) one within pick request picked_one high).right in
        let number = right.request apart in
        let asks = picked_asks old.kernel one (tells.above live) pick request picked_one apart in
        subst (λ (q : Request). (2 ≤ q.unique) × Knows (asked_opcode q.body) q.unique new.kernel) same
        (asks.low, (λ alive. (number.passed alive, asks.only)))) is leads agreed
    step_tells log new step few high is leads agreed = still_tells log new step refl
        (same_holds log new step refl (held_before old log new step tt)) is leads agreed
