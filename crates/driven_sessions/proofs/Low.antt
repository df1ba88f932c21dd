-- No request of a run has a number with the highest bit, but INTERRUPTs: so none is one that is read once more.
use Rattle.std.proofs.Common.{◌≡◌, ℕ, ◌+◌, ◌≤◌, ◌<◌, ◌%◌, ◌^◌, Bool, true, false, cond, List, [], ◌∷◌, Option, Some, None, drop, nat_eq, option_map, slice_get, refl, ap, sym, subst, ◌∙◌, arith}
use Rattle.std.specs.Option.{option_map_or}
use Rattle.std.proofs.lemmas.Bool.{false≢true}
use Rattle.fuse_spec.specs.declared.Purpose.{Purpose}
use Rattle.fuse_spec.specs.Kernel.Kernel.{Kernel, is_live}
use Rattle.fuse_spec.specs.Kernel.Messages.{Request}
use Rattle.fuse_spec.specs.Kernel.QueueCalls.{after_reading, can_read_forgets}
use Rattle.fuse_spec.specs.Kernel.Queues.{QueueState, is_unread, pending}
use Rattle.fuse_frames.specs.RequestTies.{SaysRequest}
use Rattle.fuse_device.specs.Transfers.{Transfer}
use Rattle.fk_kernel.specs.Picks.{IsPicked, after_pick}
use Rattle.fk_kernel.specs.declared.read.Pick.{Pick}
use Rattle.fk_kernel.specs.declared.read.Pick.TheVariants.{Interrupt, Forgets, Pending}
use Rattle.fk_drive.specs.Driving.{Driven, DriveStep, Drives, first_driven, alone, reads, answers, writes, nothing, next as behind}
use Rattle.fk_drive.specs.KernelSteps.{ActsAlone, mounts}
use Rattle.fk_drive_theorem.proofs.RunsTally.{run_tallied}
use Rattle.fk_drive_theorem.proofs.WrittenCounted.{EmptyUnlessLive}
use Rattle.fuse_sessions.specs.declared.act.Act.{Act}
use Rattle.fuse_sessions.specs.declared.act.Act.TheVariants as act
use Rattle.fuse_sessions.specs.declared.fault.Fault.{Fault}
use Rattle.fuse_sessions.specs.declared.fault.Fault.TheVariants as fault
use Rattle.fuse_sessions.specs.Faults.{Breaks, BreaksForget, BreaksInterrupt, BreaksNumber}
use Rattle.fuse_sessions.specs.Sessions.{Session}
use Rattle.fuse_sessions.specs.UnreadRequests.{opcode_in, unique_in}
use Rattle.driven_sessions.specs.Driven.{NeverAccused}
use Rattle.driven_sessions.specs.Groups.{is_of_resends}
use Rattle.driven_sessions.specs.Transfers.{AllSent}
use Rattle.driven_sessions.proofs.Calm.{calm_law, is_of_numbers}
use Rattle.driven_sessions.proofs.Frames.{IsOwn, frame_interrupt, frame_unique, is_interrupt, own_head}
use Rattle.driven_sessions.proofs.Leading.{HasSeveral}
use Rattle.driven_sessions.proofs.Numbers.{Each, Entry, Numbered, each_at, moves_numbered, numbered_later, numbered_stable, reading_numbered}
use Rattle.driven_sessions.proofs.Plain.{does_plain, is_plain, plain_free}
use Rattle.driven_sessions.proofs.Sending.{Were, run_sends_where}
use Rattle.driven_sessions.proofs.Single.{ShowsNoneAmong, among_free}
use Rattle.driven_sessions.proofs.Steps.{WhileLive, alone_keeps, taken_keeps}
use Rattle.driven_sessions.proofs.Within.{run_within}

-- ---- the kernel's numbers, however often it mounts

alone_numbered : (old new : Kernel) → ActsAlone old new → WhileLive Numbered old → WhileLive Numbered new
alone_numbered old new (mounts may) was live = record { next = refl; requests = ((refl, omega arith), tt) }
alone_numbered old new acts was live = alone_keeps Numbered numbered_stable moves_numbered old new acts refl was live

picked_numbered : (q : QueueState Purpose) (pick : Pick) → Numbered q → Numbered (after_pick q pick)
picked_numbered q Interrupt n =
    numbered_later q (record q { interrupts = drop 1 q.interrupts }) refl (omega arith) n.next n
picked_numbered q (Forgets count) n = by (can_read_forgets q count)
  where
    by : (b : Bool) → Numbered (cond b (record q { forgets = drop count q.forgets; next = q.next + 2 }) q)
    by true =
        let even = n.next in
        numbered_later q (record q { forgets = drop count q.forgets; next = q.next + 2 }) refl (omega arith)
        (omega (arith, even)) n
    by false = n
picked_numbered q (Pending place) n = by (slice_get (pending q) place)
  where
    by : (o : Option Entry) → Numbered (option_map_or (λ (e : Entry). after_reading q e.0 e.1.mark) o q)
    by None = n
    by (Some e) = reading_numbered q e.0 e.1.mark n

step_numbered : (old : Driven) (log : List Transfer) (new : Driven) → DriveStep old log new → EmptyUnlessLive old.kernel
    → WhileLive Numbered old.kernel → WhileLive Numbered new.kernel
step_numbered old log new (alone k acts) empty was = alone_numbered old.kernel k acts was
step_numbered old log new (reads idle pick may request is) empty was =
    λ live. picked_numbered old.kernel.queues pick (was live)
step_numbered old log new (answers request error turn bytes written result k taken) empty was =
    taken_keeps Numbered numbered_stable moves_numbered old.kernel bytes result k taken empty was
step_numbered old log new (writes idles frame rest there handed on result k taken log' coming left turn release) empty was =
    taken_keeps Numbered numbered_stable moves_numbered old.kernel handed result k taken empty was
step_numbered old log new step empty was = was

-- Its coming number is not past the limit, and those of its requests are below.
record IsLow (k : Kernel) : Type 0 where
  few : k.queues.next ≤ 2 ^ 62
  requests : Each (λ (e : Entry). e.0 < k.queues.next) k.queues.requests

is_low : (k : Kernel) → k.queues.next ≤ 2 ^ 62 → EmptyUnlessLive k → WhileLive Numbered k → IsLow k
is_low k few empty numbered = record { few = few; requests = by (is_live k.phase) refl }
  where
    below : (es : List Entry) → Each (λ (e : Entry). (e.0 % 2 ≡ 0) × (e.0 < k.queues.next)) es
        → Each (λ (e : Entry). e.0 < k.queues.next) es
    below [] all = tt
    below (e ∷ es) all = (all.0.1, below es all.1)

    by : (b : Bool) → is_live k.phase ≡ b → Each (λ (e : Entry). e.0 < k.queues.next) k.queues.requests
    by true live = below k.queues.requests (numbered live).requests
    by false dead = subst (Each (λ (e : Entry). e.0 < k.queues.next)) (sym (empty dead).1) tt

module _ (asks : Bool) where
  run_numbered : (log : List Transfer) (new : Driven) → Drives (first_driven asks) log new → WhileLive Numbered new.kernel
  run_numbered log new nothing = λ live. absurd (false≢true live)
  run_numbered log new (behind before mid run last end step) =
      step_numbered mid last end step (run_tallied 2 (omega arith) asks before mid run).empty (run_numbered before mid run)

  were_low : (log : List Transfer) (new : Driven) (run : Drives (first_driven asks) log new)
      → Were IsLow run
  were_low log new nothing = tt
  were_low log new (behind before mid run last end step) = (
    were_low before mid run,
    is_low mid.kernel (run_within asks before mid run) (run_tallied 2 (omega arith) asks before mid run).empty
        (run_numbered before mid run),
  )

-- ---- the numbers of what is sent

-- It is an INTERRUPT, or low.
abbrev IsLowFrame : List ℕ → Type 0
IsLowFrame frame = nat_eq (opcode_in frame) 36 ≡ false → unique_in frame < 2 ^ 63

abbrev IsLowRequest : Request → Type 0
IsLowRequest r = is_interrupt r.body ≡ false → r.unique < 2 ^ 63

picked_low : (k : Kernel) (pick : Pick) (r : Request) → IsLow k → IsPicked k pick r → is_interrupt r.body ≡ false
    → r.unique < 2 ^ 63
picked_low k Interrupt r low is other =
    absurd (false≢true (sym other ∙ ap (λ (q : Request). is_interrupt q.body) is.is))
picked_low k (Forgets count) r low is other =
    let few = low.few in
    let unique : r.unique ≡ k.queues.next = ap (λ (q : Request). q.unique) is.is in
    omega (arith, few, unique)
picked_low k (Pending place) r low is other = by (slice_get (pending k.queues) place) refl is.pending
  where
    first_of : Option (ℕ × Purpose) → ℕ
    first_of None = 0
    first_of (Some p) = p.0

    by : (o : Option Entry) → slice_get (pending k.queues) place ≡ o
        → option_map {U = ℕ × Purpose} (λ (e : Entry). (e.0, e.1.kept)) o ≡ Some (r.unique, is.purpose) → r.unique < 2 ^ 63
    by None at found = absurd (cc found)
    by (Some e) at found =
        let known = each_at (λ (x : Entry). x.0 < k.queues.next) (λ x. is_unread x.1.mark) k.queues.requests place e
        low.requests at in
        let below : e.0 < k.queues.next = known.1 in
        let few = low.few in
        let same : e.0 ≡ r.unique = ap first_of found in
        omega (arith, below, few, same)

low_sent : (frame : List ℕ) (r : Request) → (is_interrupt r.body ≡ false → r.unique < 2 ^ 63) → SaysRequest frame r
    → IsLowFrame frame
low_sent frame r low says none =
    let below = low (sym (frame_interrupt frame r says) ∙ none) in
    let unique = frame_unique frame r says in
    omega (arith, below, unique)

own_low : (frame : List ℕ) (unique : ℕ) → unique % 2 ≡ 0 → unique < 2 ^ 63 → IsOwn frame unique → IsLowFrame frame
own_low frame unique even low own none =
    let same = (own_head frame unique low own).1 in omega (arith, low, same)

run_low : (asks : Bool) (log : List Transfer) (new : Driven) (run : Drives (first_driven asks) log new)
    → AllSent IsLowFrame log
run_low asks log new run = (run_sends_where IsLowRequest IsLowFrame IsLow picked_low low_sent own_low asks log new run
    (were_low asks log new run)).0

-- ---- the group

resends_within : (f : Fault) → is_of_resends f ≡ true → is_of_numbers f ≡ true
resends_within fault.ResendOfNothing is = refl
resends_within f is = absurd (false≢true is)

number_apart : (s : Session) (u : ℕ) (f : Fault) → BreaksNumber s u f → is_of_resends f ≡ true → ⊥
number_apart s u fault.OddNumber b is = false≢true is
number_apart s u fault.NumberUsedTwice b is = false≢true is
number_apart s u fault.NumberOutOfOrder b is = false≢true is
number_apart s u f b is = b

interrupt_apart : (s : Session) (u o : ℕ) (f : Fault) → BreaksInterrupt s u o f → is_of_resends f ≡ true → ⊥
interrupt_apart s u o fault.InterruptUnderAnotherNumber b is = false≢true is
interrupt_apart s u o fault.InterruptOfNothing b is = false≢true is
interrupt_apart s u o fault.InterruptTooOften b is = false≢true is
interrupt_apart s u o f b is = b

forget_apart : (s : Session) (node lookups : ℕ) (f : Fault) → BreaksForget s node lookups f → is_of_resends f ≡ true → ⊥
forget_apart s node lookups fault.ForgetOfTheRoot b is = false≢true is
forget_apart s node lookups fault.ForgetOfNoLookup b is = false≢true is
forget_apart s node lookups fault.ForgetOfMoreThanIsCounted b is = false≢true is
forget_apart s node lookups fault.ForgetOfANodeInUse b is = false≢true is
forget_apart s node lookups f b is = b

none_again : (s : Session) (a : Act) (f : Fault) → HasSeveral s → is_plain false a ≡ true → Breaks s a f
    → is_of_resends f ≡ true → ⊥
none_again s (act.Faulty that) f several plain b is = calm_law s (act.Faulty that) f plain b (resends_within f is)
none_again s (act.Read o u) f several plain b is = number_apart s u f b is
none_again s (act.Resent u o) f several plain b is = false≢true plain
none_again s (act.Interrupts u o) f several plain b is = interrupt_apart s u o f b is
none_again s (act.Forgets node lookups) f several plain b is = forget_apart s node lookups f b is
none_again s a f several plain b is = calm_law s a f refl b (resends_within f is)

low_shown : ShowsNoneAmong is_of_resends IsLowFrame
low_shown agreed frame s acts several low does = plain_free false is_of_resends none_again s acts several
    (does_plain false agreed frame acts (λ high other. let below = low other in absurd (omega (arith, high, below))) does)

pub resends_never : NeverAccused is_of_resends
resends_never asks log new run =
    among_free is_of_resends resends_within IsLowFrame low_shown log (run_low asks log new run)
