-- No forget of a run is of more lookups than are counted in the session.
use Rattle.std.proofs.Common.{◌≡◌, inl, inr, ℕ, ◌≤◌, ◌<◌, ◌^◌, Bool, true, false, cond, List, [], ◌∷◌, ◌++◌, Some, None, nat_eq, refl, ap, sym, subst, ◌∙◌, arith}
use Rattle.std.proofs.lemmas.Bool.{false≢true}
use Rattle.std.proofs.lemmas.List.Sums.{sum_by-cons}
use Rattle.fk_fields.specs.Fields.{number_at}
use Rattle.fuse_device.specs.Transfers.{Transfer, received, sent, stopped, unsent}
use Rattle.fuse_spec.specs.declared.Opened.{Opened}
use Rattle.fuse_spec.specs.Kernel.Messages.{Forget, Request}
use Rattle.fuse_spec.specs.Server.Server.{forgets_of, forgotten}
use Rattle.fuse_theorem.proofs.Calls.Finding.{same_is}
use Rattle.fuse_frames.specs.RequestTies.{SaysRequest}
use Rattle.fk_drive.specs.Driving.{Driven, DriveStep, Drives, ReleasesBehind, SendsFrame, Turn, first_driven, sends, opens, sends_opened, writes, releases, releases_none, with_result, at_end, nothing as none_yet, next as behind}
use Rattle.fk_drive_theorem.specs.TakenOnce.{mounts_in}
use Rattle.fk_drive_theorem.proofs.RunsTally.{run_forgets}
use Rattle.fuse_protocol.specs.declared.agreed.Agreed.{Agreed}
use Rattle.fuse_protocol.specs.declared.opcode.Opcode.{Opcode}
use Rattle.fuse_protocol.specs.declared.opcode.Opcode.TheVariants as op
use Rattle.fuse_protocol.specs.Pairs.{pairs_of_row}
use Rattle.fuse_protocol.specs.Places.{number_in, places_at}
use Rattle.fuse_protocol.specs.Table.{row_at}
use Rattle.protocol_law.specs.Law.{Carries}
use Rattle.fuse_sessions.specs.declared.act.Act.{Act}
use Rattle.fuse_sessions.specs.declared.act.Act.TheVariants as act
use Rattle.fuse_sessions.specs.declared.fault.Fault.{Fault}
use Rattle.fuse_sessions.specs.declared.fault.Fault.TheVariants as fault
use Rattle.fuse_sessions.specs.declared.known.Known.{Known}
use Rattle.fuse_sessions.specs.declared.transfer.Transfer.{Transfer as Said}
use Rattle.fuse_sessions.specs.declared.transfer.Transfer.TheVariants as said
use Rattle.fuse_sessions.specs.Counts.{most_count}
use Rattle.fuse_sessions.specs.Faults.{Breaks, BreaksNumber}
use Rattle.fuse_sessions.specs.Frames.{AreReadActs, AreRequestActs, Lead}
use Rattle.fuse_sessions.specs.Numbers.{was_read}
use Rattle.fuse_sessions.specs.RequestActs.{asked_of, forgets_in, number_of}
use Rattle.fuse_sessions.specs.Sessions.{Session}
use Rattle.fuse_sessions.specs.UnreadRequests.{unique_in}
use Rattle.driven_sessions.specs.Driven.{HaveAgreed, NeverAccusedMountedOnceWhereTaken}
use Rattle.driven_sessions.specs.Groups.{is_of_large_forgets}
use Rattle.driven_sessions.specs.Taken.{AreTaken, Outcome, outcomes_of}
use Rattle.driven_sessions.specs.Transfers.{AllSent, AreSaid}
use Rattle.driven_sessions.proofs.Calm.{AreCalm, is_of_numbers}
use Rattle.driven_sessions.proofs.Counted.{run_counts}
use Rattle.driven_sessions.proofs.Counting.{back_of, held_back}
use Rattle.driven_sessions.proofs.Doing.{Does, comes_again, forgets_many, forgets_one, interrupts, nothing, reads, request_does}
use Rattle.driven_sessions.proofs.Forgetting.{AreForgets, Forgetting, run_forgetting}
use Rattle.driven_sessions.proofs.Forgotten.{pairs_read, picked_good}
use Rattle.driven_sessions.proofs.Frames.{IsOwn, SaysForgets, frame_forgets, own_head}
use Rattle.driven_sessions.proofs.Leading.{AreFree, calm_free, free_append, never_at, said_parts}
use Rattle.driven_sessions.proofs.Never.{by_judged, ended_calm, is_of_readings, readings_within, written_is_calm}
use Rattle.driven_sessions.proofs.Outcomes.{GoOn, goes_before, goes_same, taken_parts}
use Rattle.driven_sessions.proofs.Sending.{run_sends}
use Rattle.driven_sessions.proofs.Single.{front, struct_number}
use Rattle.driven_sessions.proofs.Spent.{held}
use Rattle.driven_sessions.proofs.Takes.{count_on}

large_within : (f : Fault) → is_of_large_forgets f ≡ true → is_of_numbers f ≡ true
large_within fault.ForgetOfMoreThanIsCounted is = refl
large_within f is = absurd (false≢true is)

-- They are forgets of nodes, each of no more lookups than are counted.
abbrev Within : Session → List Forget → Type 0
Within s fs = AreForgets fs × ((id : ℕ) → 2 ≤ id → forgotten id fs ≤ most_count s id)

-- ---- the acts of a frame

forgets_free : (s : Session) (pairs : List Forget) → AreForgets pairs
    → ((id : ℕ) → 2 ≤ id → forgotten id pairs ≤ most_count s id) → AreFree is_of_large_forgets s (forgets_in pairs)
forgets_free s [] all few = tt
forgets_free s (p ∷ pairs) all few = (
  λ f b is. one f b is,
  forgets_free (s ++ act.Forgets p.0 p.1 ∷ []) pairs all.1 (λ id low.
      let on = count_on id s (act.Forgets p.0 p.1 ∷ []) in
      let le = few id low in
      let sum = sum_by-cons (λ (f : Forget). cond (nat_eq f.0 id) f.1 0) p pairs in
      omega (arith, on, le, sum)),
)
  where
    one : (f : Fault) → Breaks s (act.Forgets p.0 p.1) f → is_of_large_forgets f ≡ true → ⊥
    one fault.ForgetOfTheRoot b is = false≢true is
    one fault.ForgetOfNoLookup b is = false≢true is
    one fault.ForgetOfMoreThanIsCounted b is =
        let le = few p.0 all.0.0 in
        let sum = sum_by-cons (λ (f : Forget). cond (nat_eq f.0 p.0) f.1 0) p pairs in
        let mine : cond (nat_eq p.0 p.0) p.1 0 ≡ p.1 = ap (λ (b : Bool). cond b p.1 0) (same_is p.0) in
        let more = b.1 in
        omega (arith, le, sum, mine, more)
    one fault.ForgetOfANodeInUse b is = false≢true is
    one f b is = b

reading_apart : (s : Session) (u : ℕ) (f : Fault) → BreaksNumber s u f → is_of_large_forgets f ≡ true → ⊥
reading_apart s u fault.OddNumber b is = false≢true is
reading_apart s u fault.NumberUsedTwice b is = false≢true is
reading_apart s u fault.NumberOutOfOrder b is = false≢true is
reading_apart s u f b is = b

interrupt_apart : (s : Session) (u o : ℕ) (f : Fault) → Breaks s (act.Interrupts u o) f → is_of_large_forgets f ≡ true → ⊥
interrupt_apart s u o fault.InterruptUnderAnotherNumber b is = false≢true is
interrupt_apart s u o fault.InterruptOfNothing b is = false≢true is
interrupt_apart s u o fault.InterruptTooOften b is = false≢true is
interrupt_apart s u o f b is = b

again_apart : (s : Session) (u o : ℕ) (f : Fault) → Breaks s (act.Resent u o) f → is_of_large_forgets f ≡ true → ⊥
again_apart s u o fault.ResendOfNothing b is = false≢true is
again_apart s u o f b is = b

front_free : (s : Session) (o : Opcode) (more : List Act) → AreFree is_of_large_forgets (s ++ front o) more
    → AreFree is_of_large_forgets s (front o ++ more)
front_free s o more free = free_append is_of_large_forgets s (front o) more
    (calm_free is_of_large_forgets large_within s (front o) refl) free

-- Forgets behind the reading of their request.
read_forgets : (s : Session) (o : Opcode) (u : ℕ) (pairs : List Forget) → Within s pairs
    → AreFree is_of_large_forgets s (front o ++ act.Read (Some o) u ∷ forgets_in pairs)
read_forgets s o u pairs fine = front_free s o (act.Read (Some o) u ∷ forgets_in pairs) (
  reading_apart (s ++ front o) u,
  forgets_free (s ++ front o ++ act.Read (Some o) u ∷ []) pairs fine.0 (λ id low.
      let one = count_on id s (front o) in
      let two = count_on id (s ++ front o) (act.Read (Some o) u ∷ []) in
      let le = fine.1 id low in
      omega (arith, one, two, le)),
)

forgets_shown : (agreed : Agreed) (frame : List ℕ) (s : Session) (acts : List Act) → SaysForgets (Within s) frame
    → Does agreed frame acts → AreFree is_of_large_forgets s acts
forgets_shown agreed frame s acts says (reads other before after calm calm_after o same) =
    subst (AreFree is_of_large_forgets s) (sym same)
    (free_append is_of_large_forgets s before (act.Read o (unique_in frame) ∷ after)
    (calm_free is_of_large_forgets large_within s before calm) (
      reading_apart (s ++ before) (unique_in frame),
      calm_free is_of_large_forgets large_within (s ++ before ++ act.Read o (unique_in frame) ∷ []) after calm_after,
    ))
forgets_shown agreed frame s acts says (forgets_one m is same) =
    let lookups : ℕ = number_of (number_in (places_at op.Forget).forgotten m.fixed) in
    let whole = is.whole in
    let number : lookups ≡ number_at 40 8 frame = struct_number frame m.fixed (omega (arith, whole)) is.fixed in
    let said : Within s ((number_at 16 8 frame, number_at 40 8 frame) ∷ []) =
    says.one (ap (λ (n : ℕ). nat_eq n 2) is.opcode) in
    let fine : Within s ((m.nodeid, lookups) ∷ []) =
    subst (λ (n : ℕ). Within s ((m.nodeid, n) ∷ [])) (sym number)
    (subst (λ (n : ℕ). Within s ((n, number_at 40 8 frame) ∷ [])) is.nodeid said) in
    subst (AreFree is_of_large_forgets s) (sym same)
    (read_forgets s op.Forget (unique_in frame) ((m.nodeid, lookups) ∷ []) fine)
forgets_shown agreed frame s acts says (forgets_many m is same) =
    let pairs : List Forget = pairs_of_row (row_at op.BatchForget).tail m.tail in
    let said = says.many (ap (λ (n : ℕ). nat_eq n 42) is.opcode) in
    let fine : Within s pairs = subst (Within s) (sym (pairs_read agreed frame m is said.0 said.1 said.2)) said.3 in
    subst (AreFree is_of_large_forgets s) (sym same) (read_forgets s op.BatchForget (unique_in frame) pairs fine)
forgets_shown agreed frame s acts says (interrupts m is same) =
    let original : ℕ = number_of (number_in (places_at op.Interrupt).interrupted m.fixed) in
    subst (AreFree is_of_large_forgets s) (sym same)
    (front_free s op.Interrupt (act.Interrupts (unique_in frame) original ∷ [])
    (interrupt_apart (s ++ front op.Interrupt) (unique_in frame) original, tt))
forgets_shown agreed frame s acts says (comes_again high other o m same) =
    subst (AreFree is_of_large_forgets s) (sym same)
    (front_free s o (act.Resent m.unique _ ∷ act.Asks m.unique (asked_of o m) ∷ [])
    (again_apart (s ++ front o) m.unique _, ((λ f b is. b), tt)))
forgets_shown agreed frame s acts says (nothing calm) = calm_free is_of_large_forgets large_within s acts calm

-- ---- a step

calm_more : (s : Session) → AreFree is_of_large_forgets [] s → (acts : List Act) → AreCalm acts
    → AreFree is_of_large_forgets [] (s ++ acts)
calm_more s free acts calm =
    free_append is_of_large_forgets [] s acts free (calm_free is_of_large_forgets large_within s acts calm)

-- where nothing is sent
quiet_free : (log : List Transfer) → AllSent (λ frame. ⊥) log → (ts : List Said) → AreSaid log ts → (k : Known) (s : Session)
    → AreFree is_of_large_forgets [] s → (later : Known) (all : Session) → Lead k s ts later all → AreFree is_of_large_forgets [] all
quiet_free [] such [] is k s free later all leads = subst (AreFree is_of_large_forgets []) (sym leads.1) free
quiet_free (sent frame result ∷ log) such ts is k s free later all leads = absurd such.0
quiet_free (received frame ∷ log) such (said.Written b t ∷ ts) is k s free later all (acts, known, are, leads) =
    quiet_free log such ts is.1 known (s ++ acts) (calm_more s free acts (written_is_calm k s b t acts known are)) later all leads
quiet_free (unsent frame end ∷ log) such (said.Ended ∷ ts) is k s free later all (acts, known, are, leads) =
    quiet_free log such ts is.1 known (s ++ acts) (calm_more s free acts (ended_calm k s acts known are)) later all leads
quiet_free (stopped end ∷ log) such (said.Ended ∷ ts) is k s free later all (acts, known, are, leads) =
    quiet_free log such ts is.1 known (s ++ acts) (calm_more s free acts (ended_calm k s acts known are)) later all leads
quiet_free log such ts is k s free later all leads = absurd search

module _ (k : Known) (s : Session) (free : AreFree is_of_large_forgets [] s) (later : Known) (all : Session) where
  acts_free : (acts : List Act) → AreFree is_of_large_forgets s acts → all ≡ s ++ acts → AreFree is_of_large_forgets [] all
  acts_free acts are same = subst (AreFree is_of_large_forgets []) (sym same) (free_append is_of_large_forgets [] s acts free are)

  sends_free : (frame : List ℕ) → (k.unjudged ≡ None → SaysForgets (Within s) frame) → (log : List Transfer)
      → SendsFrame frame log → (ts : List Said) → AreSaid log ts → Lead k s ts later all → AreFree is_of_large_forgets [] all
  sends_free frame says log (with_result result) (said.Request b ∷ []) is (acts, known, are, leads) = acts_free acts
      (by_judged (AreFree is_of_large_forgets s acts) k.unjudged (AreReadActs k s (said.Request b) acts known)
      (λ why. (acts ≡ []) × (known ≡ k)) (λ judged does. forgets_shown k.agreed frame s acts (says judged)
      (request_does k frame acts (subst (λ (l : List ℕ). AreRequestActs k l acts) is.0 does.0)))
      (λ why unjudged none. subst (AreFree is_of_large_forgets s) (sym none.0) tt) are) leads.1
  sends_free frame says log (at_end end) (said.Ended ∷ []) is (acts, known, are, leads) =
      acts_free acts (calm_free is_of_large_forgets large_within s acts (ended_calm k s acts known are)) leads.1
  sends_free frame says log went ts is leads = absurd search

own_says : (s : Session) (frame : List ℕ) (unique : ℕ) → unique < 2 ^ 63 → IsOwn frame unique → SaysForgets (Within s) frame
own_says s frame unique low own =
    let head = own_head frame unique low own in record {
      one = λ e. absurd (false≢true (sym head.2 ∙ e));
      many = λ e. absurd (false≢true (sym head.3 ∙ e));
    }

module _ (k : Known) (s : Session) (free : AreFree is_of_large_forgets [] s) (later : Known) (all : Session) (old : Driven)
    (good : (r : Request) → held old.turn ≡ Some r → AreForgets (forgets_of r.body))
    (few : k.unjudged ≡ None → (id : ℕ) → 2 ≤ id → held_back id old.turn ≤ most_count s id) where
  -- what is held is of lookups that are counted
  held_says : (frame : List ℕ) (r : Request) → SaysRequest frame r → held old.turn ≡ Some r → k.unjudged ≡ None
      → SaysForgets (Within s) frame
  held_says frame r says holds judged = frame_forgets (Within s) frame r says (
    good r holds,
    λ id low.
        let le = few judged id low in
        let same : held_back id old.turn ≡ forgotten id (forgets_of r.body) = ap (back_of id) holds in
        omega (arith, le, same),
  )

  step_free : (log : List Transfer) (new : Driven) → DriveStep old log new → (ts : List Said) → AreSaid log ts
      → Lead k s ts later all → AreFree is_of_large_forgets [] all
  step_free log new (sends request turn unlisted frame says log' went) ts is leads = sends_free k s free later all frame
      (held_says frame request says.says (ap held turn)) log went ts is leads
  step_free log new (sends_opened request fh turn frame says handle log' went) ts is leads = sends_free k s free later all frame
      (held_says frame request says.says (ap held turn)) log went ts is leads
  step_free log new (opens request turn asks below node lists frame own log' went) ts is leads =
      sends_free k s free later all frame (λ judged. own_says s frame old.next below (inl (node, own))) log went ts is leads
  step_free log new (writes idles frame rest there handed on result l took log' coming left turn release) ts is leads =
      by log' coming left turn release ts is leads
    where
      by : (log : List Transfer) (coming : ℕ) (left : List (ℕ × Opened)) (turn : Turn)
          → ReleasesBehind frame old.next old.directories log coming left turn → (ts : List Said) → AreSaid log ts
          → Lead k s ts later all → AreFree is_of_large_forgets [] all
      by log coming left turn (releases head below before after directory is apart bytes own over went) ts said leads =
          sends_free k s free later all bytes (λ judged. own_says s bytes old.next below (inr (directory, own))) log went ts said leads
      by log coming left turn (releases_none unlisted) ts said leads =
          quiet_free [] tt ts said k s free later all leads
  step_free log new step ts is leads = quiet_free log tt ts is k s free later all leads

-- ---- a run

pub run_good : (asks : Bool) (log : List Transfer) (new : Driven) → Drives (first_driven asks) log new → (r : Request)
    → held new.turn ≡ Some r → AreForgets (forgets_of r.body)
run_good asks log new run = (run_sends (λ (r : Request). AreForgets (forgets_of r.body)) (λ frame. Unit {0}) Forgetting picked_good
    (λ frame r good says. tt) (λ frame unique even low own. tt) asks (run_forgetting asks) log new run).1

module _ (asks : Bool) (os : List Outcome) (k : Known) (s : Session) (first : s ≡ act.SeveralReaders ∷ [])
    (free : AreFree is_of_readings [] s) (none : (u : ℕ) → was_read s u ≡ false) where
  run_free : (log : List Transfer) (new : Driven) (run : Drives (first_driven asks) log new) → mounts_in run ≤ 1
      → GoOn (outcomes_of run) os → (ts : List Said) → AreSaid log ts → (later : Known) (whole : Session)
      (leads : Lead k s ts later whole) → AreTaken k s ts later whole leads os → HaveAgreed Carries k s ts later whole leads
      → AreFree is_of_large_forgets [] whole
  run_free log new none_yet few goes [] is later whole leads taken agreed =
      subst (AreFree is_of_large_forgets []) (sym leads.1) (subst (AreFree is_of_large_forgets []) (sym first)
      (calm_free is_of_large_forgets large_within [] (act.SeveralReaders ∷ []) refl))
  run_free log new none_yet few goes (t ∷ ts) is later whole leads taken agreed = absurd is
  run_free log new (behind before mid run last end step) few goes ts is later whole leads taken agreed =
      let parts = said_parts before last ts is in
      let both : (l : Lead k s (parts.first ++ parts.last) later whole)
      × AreTaken k s (parts.first ++ parts.last) later whole l os × HaveAgreed Carries k s (parts.first ++ parts.last) later whole l =
      subst (λ (us : List Said). (l : Lead k s us later whole) × AreTaken k s us later whole l os × HaveAgreed Carries k s us later whole l)
      parts.all (leads, taken, agreed) in
      let led = taken_parts k s parts.first parts.last later whole both.0 os both.1 in
      let have = led.agreed both.2 in
      let goes_so = goes_before mid last end step (outcomes_of run) os goes in
      let was = run_free before mid run (omega (arith, few)) goes_so parts.first parts.said led.known led.session led.before led.taken
      have.0 in
      step_free led.known led.session was later whole mid (run_good asks before mid run) (λ judged id low.
      let counts = (run_counts id low asks os k s first free none before mid run (omega (arith, few)) goes_so parts.first parts.said
      led.known led.session led.before led.taken have.0 judged).counts in
      let balance = counts.balance in
      let never = (run_forgets id low asks before mid run).never_more in
      omega (arith, balance, never)) last end step parts.last parts.said_more led.behind

pub large_forgets_never : NeverAccusedMountedOnceWhereTaken is_of_large_forgets
large_forgets_never asks log new run one ts is k s (acts, known, are, leads) taken agreed place f has of =
    let first : acts ≡ act.SeveralReaders ∷ [] = are.0 in
    let free = run_free asks (outcomes_of run) known acts first (subst (AreFree is_of_readings []) (sym first)
    (calm_free is_of_readings readings_within [] (act.SeveralReaders ∷ []) refl))
    (λ u. ap (λ (l : List Act). was_read l u) first) log new run one (goes_same (outcomes_of run)) ts is k s leads taken agreed.1 in
    never_at is_of_large_forgets [] s free place f has of
