-- What each frame of a run is by itself: INTERRUPTs have their requests' numbers.
use Rattle.std.proofs.Common.{◌≡◌, inl, inr, ◌<◌, ◌^◌, ℕ, ◌+◌, ◌-◌, ◌%◌, Bool, true, true≢false, List, [], ◌∷◌, ◌++◌, Some, None, nat_eq, refl, ap, sym, subst, ◌∙◌, arith}
use Rattle.std.proofs.lemmas.Bool.{false≢true}
use Rattle.fk_fields.specs.Fields.{number_at}
use Rattle.fuse_device.specs.Transfers.{Transfer, received, sent, unsent, stopped}
use Rattle.fuse_spec.specs.declared.Opened.{Opened}
use Rattle.fuse_spec.specs.Kernel.Kernel.{Kernel}
use Rattle.fuse_spec.specs.Kernel.Messages.{Request, RequestBody, interrupt}
use Rattle.fuse_frames.specs.RequestTies.{SaysRequest}
use Rattle.fk_kernel.specs.Picks.{IsPicked}
use Rattle.fk_kernel.specs.declared.read.Pick.{Pick}
use Rattle.fk_kernel.specs.declared.read.Pick.TheVariants.{Interrupt, Forgets, Pending}
use Rattle.fk_drive.specs.Driving.{Driven, DriveStep, Drives, ReleasesBehind, SendsFrame, Turn, first_driven, alone, reads, sends, opens, is_given, is_not_known, is_refused, is_garbled, sends_opened, answers, waits, sets_aside, writes, is_released, ends, releases, releases_none, nothing, next as behind, with_result, at_end}
use Rattle.fuse_sessions.specs.UnreadRequests.{opcode_in, unique_in}
use Rattle.driven_sessions.specs.Transfers.{AllSent}
use Rattle.driven_sessions.proofs.Evens.{AreEven, Evens, run_evens}
use Rattle.driven_sessions.proofs.Frames.{frame_interrupt, frame_original, frame_unique, is_interrupt, IsOwn, own_head}
use Rattle.driven_sessions.proofs.Reading.{forgetting, queued}
use Rattle.driven_sessions.proofs.Spent.{held, none_held, some_request}

all_append : (IsSuch : List ℕ → Type 0) (log more : List Transfer) → AllSent IsSuch log → AllSent IsSuch more
    → AllSent IsSuch (log ++ more)
all_append IsSuch [] more first last = last
all_append IsSuch (sent frame result ∷ log) more first last = (first.0, all_append IsSuch log more first.1 last)
all_append IsSuch (received frame ∷ log) more first last = all_append IsSuch log more first last
all_append IsSuch (unsent frame end ∷ log) more first last = all_append IsSuch log more first last
all_append IsSuch (stopped end ∷ log) more first last = all_append IsSuch log more first last

-- The numbers of OPENDIR and RELEASEDIR are even.
step_even : (old : Driven) (log : List Transfer) (new : Driven) → DriveStep old log new → old.next % 2 ≡ 0
    → new.next % 2 ≡ 0
step_even old log new (opens request turn asks below node lists frame is log' went) even = omega (arith, even)
step_even old log new (writes idles frame rest there handed on result k taken log' coming directories turn release) even =
    by log' coming directories turn release
  where
    by : (log : List Transfer) (coming : ℕ) (left : List (ℕ × Opened)) (turn : Turn)
        → ReleasesBehind frame old.next old.directories log coming left turn → coming % 2 ≡ 0
    by log coming left turn (releases head below before after directory same apart bytes is over went) = omega (arith, even)
    by log coming left turn (releases_none none) = even
step_even old log new step even = even

pub run_even : (asks : Bool) (log : List Transfer) (new : Driven) → Drives (first_driven asks) log new
    → new.next % 2 ≡ 0
run_even asks log new nothing = refl
run_even asks log new (behind before mid run last end step) = step_even mid last end step (run_even asks before mid run)

-- The kernel was such before each step of a run.
abbrev pub Were : (Kernel → Type 0) → {old : Driven} {log : List Transfer} {new : Driven} → Drives old log new → Type 0
Were Fine nothing = Unit {0}
Were Fine (behind before mid run last end step) = Were Fine run × Fine mid.kernel

were_always : (Fine : Kernel → Type 0) (asks : Bool)
    → ((log : List Transfer) (new : Driven) → Drives (first_driven asks) log new → Fine new.kernel)
    → (log : List Transfer) (new : Driven) (run : Drives (first_driven asks) log new) → Were Fine run
were_always Fine asks fine log new nothing = tt
were_always Fine asks fine log new (behind before mid run last end step) =
    (were_always Fine asks fine before mid run, fine before mid run)

-- What is held is such, and what is sent, if what is picked is, and what is not the kernel's.
module _ (IsGood : Request → Type 0) (IsSuch : List ℕ → Type 0) (Fine : Kernel → Type 0)
    (good : (k : Kernel) (pick : Pick) (r : Request) → Fine k → IsPicked k pick r → IsGood r)
    (such : (frame : List ℕ) (r : Request) → IsGood r → SaysRequest frame r → IsSuch frame)
    (own_such : (frame : List ℕ) (unique : ℕ) → unique % 2 ≡ 0 → unique < 2 ^ 63 → IsOwn frame unique → IsSuch frame) where
  abbrev HeldGood : Turn → Type 0
  HeldGood turn = (r : Request) → held turn ≡ Some r → IsGood r

  held_sent : (turn : Turn) (r : Request) → HeldGood turn → held turn ≡ Some r → (frame : List ℕ) → SaysRequest frame r
      → (log : List Transfer) → SendsFrame frame log → AllSent IsSuch log
  held_sent turn r right holds frame says log (with_result result) = (such frame r (right r holds) says, tt)
  held_sent turn r right holds frame says log (at_end end) = tt

  own_sent : (frame : List ℕ) (unique : ℕ) → unique % 2 ≡ 0 → unique < 2 ^ 63 → IsOwn frame unique → (log : List Transfer) → SendsFrame frame log
      → AllSent IsSuch log
  own_sent frame unique even low own log (with_result result) = (own_such frame unique even low own, tt)
  own_sent frame unique even low own log (at_end end) = tt

  released_sent : (frame : List ℕ) (coming : ℕ) → coming % 2 ≡ 0 → (directories : List (ℕ × Opened)) (log : List Transfer) (later : ℕ)
      (left : List (ℕ × Opened)) (turn : Turn) → ReleasesBehind frame coming directories log later left turn
      → AllSent IsSuch log × (held turn ≡ None)
  released_sent frame coming even directories log later left turn
      (releases head below before after directory there apart bytes is log' went) =
      (own_sent bytes coming even below (inr (directory, is)) log went, refl)
  released_sent frame coming even directories log later left turn (releases_none none) = (tt, refl)

  abbrev Right : List Transfer → Driven → Type 0
  Right log new = AllSent IsSuch log × HeldGood new.turn

  moved : (a b : Turn) → held b ≡ held a → HeldGood a → HeldGood b
  moved a b same right r is = right r (sym same ∙ is)

  none_right : (turn : Turn) → held turn ≡ None → HeldGood turn
  none_right turn none r is = absurd (none_held (held turn) r none is)

  step_right : (old : Driven) (log : List Transfer) (new : Driven) → DriveStep old log new → Fine old.kernel → old.next % 2 ≡ 0
      → HeldGood old.turn → Right log new
  step_right old log new (alone k acts) fine even right = (tt, right)
  step_right old log new (reads idles pick may request is) fine even right =
      (tt, λ r same. subst IsGood (some_request request r same) (good old.kernel pick request fine is))
  step_right old log new (sends request turn unlisted frame says log' went) fine even right =
      (held_sent old.turn request right (ap held turn) frame says.says log went, none_right new.turn refl)
  step_right old log new (opens request turn asks below node lists frame is log' went) fine even right =
      (own_sent frame old.next even below (inl (node, is)) log went, moved old.turn new.turn (sym (ap held turn)) right)
  step_right old log new (is_given request unique node turn frame fh gives) fine even right =
      (tt, moved old.turn new.turn (sym (ap held turn)) right)
  step_right old log new (is_not_known request unique node turn frame gives) fine even right =
      (tt, moved old.turn new.turn (sym (ap held turn)) right)
  step_right old log new (is_refused request unique node turn frame error other gives) fine even right =
      (tt, moved old.turn new.turn (sym (ap held turn)) right)
  step_right old log new (is_garbled request unique node turn frame head same gives) fine even right =
      (tt, moved old.turn new.turn (sym (ap held turn)) right)
  step_right old log new (sends_opened request fh turn frame says handle log' went) fine even right =
      (held_sent old.turn request right (ap held turn) frame says.says log went, none_right new.turn refl)
  step_right old log new (answers request error turn bytes written result k taken) fine even right =
      (tt, none_right new.turn refl)
  step_right old log new (waits frame own_one) fine even right = (tt, right)
  step_right old log new (sets_aside frame other) fine even right = (tt, right)
  step_right old log new (writes idles frame rest there handed on result k taken log' coming directories turn release) fine
      even right =
      let both = released_sent frame old.next even old.directories log coming directories turn release in
      (both.0, none_right turn both.1)
  step_right old log new (is_released unique turn frame head same) fine even right = (tt, none_right new.turn refl)
  step_right old log new (ends end) fine even right = (tt, right)

  module _ (asks : Bool) where
    pub run_sends_where : (log : List Transfer) (new : Driven) (run : Drives (first_driven asks) log new) → Were Fine run
        → AllSent IsSuch log × HeldGood new.turn
    run_sends_where log new nothing were = (tt, none_right new.turn refl)
    run_sends_where log new (behind before mid run last end step) were =
        let was = run_sends_where before mid run were.0 in
        let now = step_right mid last end step were.1 (run_even asks before mid run) was.1 in
        (all_append IsSuch before last was.0 now.0, now.1)

    pub run_sends : ((log : List Transfer) (new : Driven) → Drives (first_driven asks) log new → Fine new.kernel)
        → (log : List Transfer) (new : Driven) → Drives (first_driven asks) log new
        → AllSent IsSuch log × HeldGood new.turn
    run_sends fine log new run = run_sends_where log new run (were_always Fine asks fine log new run)

-- ---- INTERRUPTs

-- An INTERRUPT's number is one above that of its request.
abbrev pub IsInterruptRight : List ℕ → Type 0
IsInterruptRight frame = nat_eq (opcode_in frame) 36 ≡ true → unique_in frame ≡ number_at 40 8 frame + 1

abbrev IsRight : Request → Type 0
IsRight r = (original : ℕ) → r.body ≡ interrupt original → r.unique ≡ original + 1

picked_right : (k : Kernel) (pick : Pick) (r : Request) → Evens k.queues → IsPicked k pick r → (original : ℕ)
    → r.body ≡ interrupt original → r.unique ≡ original + 1
picked_right k Interrupt r evens is original body =
    let there : original ≡ is.original = ap of (sym body ∙ ap (λ (q : Request). q.body) is.is) in
    let even : is.original % 2 ≡ 0 = first k.queues.interrupts is.first evens.interrupts in
    let unique : r.unique ≡ is.original - is.original % 2 + 1 = ap (λ (q : Request). q.unique) is.is in
    omega (arith, there, even, unique)
  where
    of : RequestBody → ℕ
    of (interrupt n) = n
    of b = original

    first : (ns : List ℕ) → ns ≡ is.original ∷ is.rest → AreEven ns → is.original % 2 ≡ 0
    first ns same all = (subst AreEven same all).0
picked_right k (Forgets count) r evens is original body =
    absurd (true≢false (sym (ap is_interrupt body) ∙ ap (λ (q : Request). is_interrupt q.body) is.is ∙ forgetting is.forgets))
picked_right k (Pending place) r evens is original body =
    absurd (true≢false (sym (ap is_interrupt body) ∙ queued k is.purpose r.body is.body))

interrupt_sent : (frame : List ℕ) (r : Request) → ((original : ℕ) → r.body ≡ interrupt original → r.unique ≡ original + 1)
    → SaysRequest frame r → IsInterruptRight frame
interrupt_sent frame r right says is =
    let body = frame_original frame r says (sym (frame_interrupt frame r says) ∙ is) in
    frame_unique frame r says ∙ right (number_at 40 8 frame) body

pub run_right : (asks : Bool) (log : List Transfer) (new : Driven) → Drives (first_driven asks) log new
    → AllSent IsInterruptRight log
run_right asks log new run = (run_sends IsRight IsInterruptRight (λ k. Evens k.queues) picked_right interrupt_sent
    (λ frame unique even low own is. absurd (false≢true (sym (own_head frame unique low own).0 ∙ is))) asks (run_evens asks) log new run).0
