-- What one call of a driver comes to, and the answers that are collected behind it.
use Rattle.std.proofs.Common.{◌≡◌, ◌⊎◌, ◌++◌, ℕ, List, [], ◌∷◌, None, Some, refl, sym, ap, subst, ◌∙◌, append-nil, inl, inr, length, slice_get}
use Rattle.std.specs.Prelude.{IfErr, IfNone, IfSome, OnOk, Option, Result, Ok, Err}
use Rattle.fuse_spec.specs.declared.Refusal.{Refusal}
use Rattle.fuse_spec.specs.Calls.Answers.{Answer as KernelAnswer}
use Rattle.fuse_spec.specs.Kernel.Kernel.{Kernel}
use Rattle.fuse_spec.specs.Kernel.Messages.{Request}
use Rattle.fuse_spec.specs.Values.Maps.{remove}
use Rattle.fuse_device.specs.Transfers.{Transfer}
use Rattle.fuse_frames.specs.RequestTies.{IsRequestFrame, asked_opcode}
use Rattle.fk_wire.specs.declared.opcode.Opcode.{Opcode}
use Rattle.fk_syscalls.specs.Values.{answer_of}
use Rattle.fk_syscalls.specs.declared.call.Answer.{Answer}
use Rattle.fk_kernel.specs.declared.read.Pick.{Pick}
use Rattle.fk_drive_frames.specs.declared.filling.FreeFields.{FreeFields}
use Rattle.fk_drive.specs.Driving.{Driven, Turn, idle}
use Rattle.fk_drive.specs.Releasing.{EndsBehind as EndsBehindFrame}
use Rattle.fk_drive.specs.declared.end.DriveEnd.{DriveEnd}
use Rattle.fk_drive.specs.declared.end.NotSent.{NotSent}
use Rattle.fk_drive.specs.declared.end.NotSent.TheVariants.{Refused, Ended}
use Rattle.fk_drive.specs.declared.writing.Written.{Written}
use Rattle.fw_world.specs.declared.event.Outcome.TheVariants as outcome
use Rattle.fw_drive.specs.Findings.{Tells, Told, is_any_wrong}
use Rattle.fw_drive.specs.LineMoves.{FirstThen, IsCollected, IsSentBy, IsWritten, Perhaps}
use Rattle.fw_drive.specs.Moves.{IsSettled, Move, Moves, sends, writes, collects}
use Rattle.fw_drive.specs.Notes.{Note, notes_text}
use Rattle.fw_drive.specs.Printed.{Gets, GetsAt, IsRequestLine, IsWrittenLine, of_frame, outcome_text, refusal_text}
use Rattle.fw_drive.specs.Printing.{HasPrinted}
use Rattle.fw_drive.specs.Runs.{Collects, EndsBehind, Goes, IsUnprinted, at, stop_of}
use Rattle.fw_drive.specs.declared.form.Form.{Form}
use Rattle.fw_drive.specs.declared.stop.Stop.{Stop}
use Rattle.fw_drive.proofs.Following.{collects_behind, ended_at, on_any, one_goes, one_went, receives_keep, said_on, several, weaker}
use Rattle.fw_drive.proofs.Texts.{gets_all_at, own_result, said_collected, said_moves, text_said}
use Rattle.fw_drive.proofs.LineRuns.{perhaps}

-- ---- answers

-- the kernel handed out an answer
pub collects_move : {A : Type 0} (old new : Driven) (call : ℕ) (answer : Answer A)
    → Some (call, answer_of answer) ≡ slice_get old.kernel.vfs.answers 0
    → new.kernel ≡ record old.kernel { vfs = record old.kernel.vfs { answers = remove old.kernel.vfs.answers call } }
    → new ≡ record old { kernel = new.kernel } → Moves (at old idle) (collects call answer) [] (at new idle)
collects_move old new call answer first kernel same =
    (refl, sym first, ap (λ (d : Driven). at d idle) (same ∙ ap (λ (k : Kernel). record old { kernel = k }) kernel))

no_first : {X : Type 0} (xs : List X) → slice_get xs 0 ≡ None → xs ≡ []
no_first [] none = refl
no_first (x ∷ xs) none = absurd (cc none)

-- it had none
pub none_waits : (driver : Driven) → ◌≡◌ {A = Option (ℕ × KernelAnswer)} None (slice_get driver.kernel.vfs.answers 0)
    → IsSettled driver
none_waits driver first = no_first driver.kernel.vfs.answers (sym first)

pub stayed : (old new : Driven) → new.kernel ≡ old.kernel → new ≡ record old { kernel = new.kernel } → new ≡ old
stayed old new kernel same = same ∙ ap (λ (k : Kernel). record old { kernel = k }) kernel

pub if_none : {X : Type 0} (o : Option X) (P : Type 0) → P → IfNone o P
if_none None P holds = holds
if_none (Some x) P holds = tt

-- ---- requests

-- the next request was sent, with this result
abbrev pub Sent : (A : Type 0) {D : Type 0} → (D → D → List Transfer → Type 0) → D → D → Pick → Driven → Driven
    → Result Request NotSent → Type 0
Sent A logs d e pick old new r = (fields : FreeFields) × (turn : Turn) × (log : List Transfer) × logs d e log
    × Moves {A = A} (at old idle) (sends pick fields r) log (at new turn)

-- the next frame was written
abbrev pub Received : (A : Type 0) {D : Type 0} → (D → D → List Transfer → Type 0) → D → D → Driven → Driven
    → Result (Result (Written A) Refusal) DriveEnd → Type 0
Received A logs d e old new r = (turn : Turn) × (log : List Transfer) × logs d e log
    × Moves {A = A} (at old idle) (writes r) log (at new turn)

module _ (A : Type 0) {D : Type 0} (logs : D → D → List Transfer → Type 0) (f : Form) (d e : D) (pick : Pick)
    (had has : Told) (old mid new : Driven) where
  -- and then answers were collected
  pub request_collects : {T : Type 0} (r : Result Request NotSent) (frame : Request) → r ≡ Ok frame
      → Sent A logs d e pick old mid r → (s : Result T Stop) → (before : List (Note A)) (line : List ℕ)
      → IsRequestLine A f frame line → Collects A f (notes_text before ++ line) (is_any_wrong before) had has mid new s
      → Goes A logs f d e had has old new s (Perhaps s (FirstThen (IsSentBy pick) IsCollected))
  request_collects r frame is sent s before line says more =
      let (fields, turn, log, over, moves) =
      subst (λ (t : Result Request NotSent). Sent A logs d e pick old mid t) is sent in
      weaker A logs f d e had has old new s (FirstThen (IsSentBy pick) IsCollected)
      (Perhaps s (FirstThen (IsSentBy pick) IsCollected))
      (collects_behind A logs f d e had has old mid new turn before (sends pick fields (Ok frame)) line says log
      (IsSentBy pick) refl refl refl over moves moves.1.1 s more) (perhaps s (FirstThen (IsSentBy pick) IsCollected))

module _ (A : Type 0) {D : Type 0} (logs : D → D → List Transfer → Type 0) (f : Form) (d e : D) (pick : Pick)
    (had has : Told) (old new : Driven) where
  -- the kernel refused to be read
  pub request_refused : {T : Type 0} (r : Result Request NotSent) (refusal : Refusal) → r ≡ Err (Refused refusal)
      → Sent A logs d e pick old new r → (s : Result T Stop) → IfErr s IsUnprinted → (before : List (Note A))
      → Gets s had.0 has.0 (notes_text before ++ of_frame f (refusal_text A refusal))
      → Tells s had.1 has.1 (is_any_wrong before)
      → Goes A logs f d e had has old new s (Perhaps s (FirstThen (IsSentBy pick) IsCollected))
  request_refused r refusal is sent s own before printed told =
      let (fields, turn, log, over, moves) =
      subst (λ (t : Result Request NotSent). Sent A logs d e pick old new t) is sent in
      weaker A logs f d e had has old new s (FirstThen (IsSentBy pick) IsCollected)
      (Perhaps s (FirstThen (IsSentBy pick) IsCollected))
      (one_goes A logs f d e had has old new turn before (sends pick fields (Err (Refused refusal)))
      (of_frame f (refusal_text A refusal)) refl log (IsSentBy pick) IsCollected refl over moves s
      (one_went {A = A} s (sends pick fields (Err (Refused refusal))) (own_result s own) refl)
      (on_any s (turn ≡ idle) (ap (λ (t : Driven). t.turn) moves.1))
      (λ settled. on_any s (IsSettled new) (ap (λ (t : Driven). t.kernel.vfs.answers) moves.1 ∙ settled)) printed refl told)
      (perhaps s (FirstThen (IsSentBy pick) IsCollected))

  -- the run came to its end
  pub request_ended : {T : Type 0} (r : Result Request NotSent) (end : DriveEnd) → r ≡ Err (Ended end)
      → Sent A logs d e pick old new r → (stop : Stop) → (stop ≡ stop_of end) ⊎ IsUnprinted stop
      → (before : List (Note A)) → GetsAt stop had.0 has.0 (notes_text before)
      → Goes A {T = T} logs f d e had has old new (Err stop)
      (Perhaps {T = T} {E = Stop} (Err stop) (FirstThen (IsSentBy pick) IsCollected))
  request_ended {T} r end is sent stop why before printed =
      let (fields, turn, log, over, moves) =
      subst (λ (t : Result Request NotSent). Sent A logs d e pick old new t) is sent in
      weaker A logs f d e had has old new (Err stop) (FirstThen (IsSentBy pick) IsCollected)
      (Perhaps {T = T} {E = Stop} (Err stop) (FirstThen (IsSentBy pick) IsCollected))
      (one_goes A logs f d e had has old new turn before (sends pick fields (Err (Ended end))) [] refl log (IsSentBy pick)
      IsCollected refl over moves (Err stop) (ended_at stop (sends pick fields (Err (Ended end))) [] end refl why) tt
      (λ settled. tt) (subst (λ (l : List ℕ). GetsAt stop had.0 has.0 l) (sym (append-nil (notes_text before))) printed) refl tt)
      (perhaps {T = T} (Err stop) (FirstThen (IsSentBy pick) IsCollected))

-- ---- frames

-- no reply is awaited where the run goes on behind a frame
between_frames : (end : Option DriveEnd) (new : Driven) (turn : Turn) (log : List Transfer) → end ≡ None
    → EndsBehindFrame end (at new turn) log → turn ≡ idle
between_frames None new turn log none is = is.1
between_frames (Some end) new turn log none is = absurd (cc none)

module _ (A : Type 0) {D : Type 0} (logs : D → D → List Transfer → Type 0) (f : Form) (d e : D)
    (had has : Told) (old mid new : Driven) where
  -- what is printed of a frame, and answers that are collected behind it
  abbrev pub CollectsBehind : {T : Type 0} → Written A → Result T Stop → Type 0
  CollectsBehind written s = (before : List (Note A)) × (line : List ℕ) × IsWrittenLine f written line
      × Collects A f (notes_text before ++ line) (is_any_wrong before) had has mid new s

  noted : {T : Type 0} (written : Written A) → Received A logs d e old mid (Ok (Ok written)) → (o : Option DriveEnd)
      → written.end ≡ o → (s : Result T Stop) → IfSome o (λ end. (new ≡ mid) × EndsBehind f written end had.0 has.0 s)
      → IfNone o (CollectsBehind written s) → Goes A logs f d e had has old new s (FirstThen IsWritten IsCollected)
  noted written (turn, log, over, moves) None none s some (before, line, says, more) =
      collects_behind A logs f d e had has old mid new turn before (writes (Ok (Ok written))) line says log IsWritten tt none refl
      over moves (between_frames written.end mid turn log none moves.1) s more
  noted written (turn, log, over, moves) (Some end) ended (Ok x) some more = absurd some.1.failed
  noted {T} written (turn, log, over, moves) (Some end) ended (Err stop) some more =
      let behind = some.1 in
      let Are : List (Move A) → Type 0 = FirstThen IsWritten IsCollected in
      subst (λ (n : Driven). Goes A {T = T} logs f d e had has old n (Err stop) Are) (sym some.0)
      (several A logs f d e had has old mid mid turn behind.before (writes (Ok (Ok written))) behind.line behind.is log IsWritten
      IsCollected tt over moves (said_moves behind.after) (said_collected behind.after) (said_on mid turn behind.after)
      (notes_text behind.after) (text_said f behind.after) (Err stop)
      (ended_at stop (writes (Ok (Ok written))) behind.after end ended behind.stop) tt (λ settled. tt) behind.printed refl tt)

  -- a frame was written and noted, and answers were collected where the run goes on behind it
  pub frame_noted : {T : Type 0} (r : Result (Result (Written A) Refusal) DriveEnd) (written : Written A)
      → r ≡ Ok (Ok written) → Received A logs d e old mid r → (s : Result T Stop)
      → IfSome written.end (λ end. (new ≡ mid) × EndsBehind f written end had.0 has.0 s)
      → IfNone written.end (CollectsBehind written s)
      → Goes A logs f d e had has old new s (Perhaps s (FirstThen IsWritten IsCollected))
  frame_noted r written is received s some more =
      let goes = subst (λ (t : Result (Result (Written A) Refusal) DriveEnd). Received A logs d e old mid t) is received in
      weaker A logs f d e had has old new s (FirstThen IsWritten IsCollected) (Perhaps s (FirstThen IsWritten IsCollected))
      (noted written goes written.end refl s some more) (perhaps s (FirstThen IsWritten IsCollected))

module _ (A : Type 0) {D : Type 0} (logs : D → D → List Transfer → Type 0) (f : Form) (d e : D)
    (had has : Told) (old new : Driven) where
  -- the kernel refused it
  pub frame_refused : {T : Type 0} (r : Result (Result (Written A) Refusal) DriveEnd) (refusal : Refusal)
      → r ≡ Ok (Err refusal) → Received A logs d e old new r → (s : Result T Stop) → IfErr s IsUnprinted
      → (before : List (Note A)) → Gets s had.0 has.0 (notes_text before ++ of_frame f (refusal_text A refusal))
      → Tells s had.1 has.1 (is_any_wrong before)
      → Goes A logs f d e had has old new s (Perhaps s (FirstThen IsWritten IsCollected))
  frame_refused r refusal is received s own before printed told =
      let (turn, log, over, moves) =
      subst (λ (t : Result (Result (Written A) Refusal) DriveEnd). Received A logs d e old new t) is received in
      weaker A logs f d e had has old new s (FirstThen IsWritten IsCollected) (Perhaps s (FirstThen IsWritten IsCollected))
      (one_goes A logs f d e had has old new turn before (writes (Ok (Err refusal))) (of_frame f (refusal_text A refusal)) refl
      log IsWritten IsCollected tt over moves s
      (one_went {A = A} s (writes (Ok (Err refusal))) (own_result s own) refl)
      (on_any s (turn ≡ idle) moves.2)
      (λ settled. on_any s (IsSettled new)
      (ap (λ (k : Kernel). k.vfs.answers) (receives_keep (at old idle) log (at new turn) moves.0) ∙ settled)) printed refl
      told)
      (perhaps s (FirstThen IsWritten IsCollected))

  -- the run came to its end
  pub frame_ended : {T : Type 0} (r : Result (Result (Written A) Refusal) DriveEnd) (end : DriveEnd) → r ≡ Err end
      → Received A logs d e old new r → (stop : Stop) → (stop ≡ stop_of end) ⊎ IsUnprinted stop
      → (before : List (Note A)) → GetsAt stop had.0 has.0 (notes_text before)
      → Goes A {T = T} logs f d e had has old new (Err stop)
      (Perhaps {T = T} {E = Stop} (Err stop) (FirstThen IsWritten IsCollected))
  frame_ended {T} r end is received stop why before printed =
      let (turn, log, over, moves) =
      subst (λ (t : Result (Result (Written A) Refusal) DriveEnd). Received A logs d e old new t) is received in
      weaker A logs f d e had has old new (Err stop) (FirstThen IsWritten IsCollected)
      (Perhaps {T = T} {E = Stop} (Err stop) (FirstThen IsWritten IsCollected))
      (one_goes A logs f d e had has old new turn before (writes (Err end)) [] refl log IsWritten IsCollected tt over moves
      (Err stop) (ended_at stop (writes (Err end)) [] end refl why) tt (λ settled. tt)
      (subst (λ (l : List ℕ). GetsAt stop had.0 has.0 l) (sym (append-nil (notes_text before))) printed) refl tt)
      (perhaps {T = T} (Err stop) (FirstThen IsWritten IsCollected))

-- why a run ends behind what was noted
pub ends_behind_notes : {A : Type 0} (printed : Result (Unit {0}) Stop) (last stop : Stop) (end : DriveEnd)
    (had has : Told) → stop ≡ stop_of end → OnOk printed (last ≡ stop) → IfErr printed (λ s. last ≡ s)
    → HasPrinted A printed had has
    → ((last ≡ stop_of end) ⊎ IsUnprinted last) × (said : List (Note A)) × GetsAt last had.0 has.0 (notes_text said)
ends_behind_notes (Ok _) last stop end had has is same _ (own, said, all, told) =
    (inl (same ∙ is), said, gets_all_at last had.0 has.0 (notes_text said) all)
ends_behind_notes (Err s) last stop end had has is _ same (own, said, some, told) = (
  inr (subst IsUnprinted (sym same) own),
  said,
  subst (λ (t : Stop). GetsAt t had.0 has.0 (notes_text said)) (sym same) some,
)

-- ---- lines

pub request_line : (A : Type 0) (f : Form) (request : Request) (frame : List ℕ) (unique : ℕ) (opcode : Opcode) (len : ℕ)
    → IsRequestFrame frame request → unique ≡ request.unique → opcode ≡ asked_opcode request.body → len ≡ length frame
    → IsRequestLine A f request (of_frame f (outcome_text A (outcome.Read unique opcode len)))
request_line A f request frame unique opcode len is numbered asked long = (
  frame,
  is,
  ap (λ (u : ℕ). of_frame f (outcome_text A (outcome.Read u opcode len))) numbered
      ∙ ap (λ (o : Opcode). of_frame f (outcome_text A (outcome.Read request.unique o len))) asked
      ∙ ap (λ (l : ℕ). of_frame f (outcome_text A (outcome.Read request.unique (asked_opcode request.body) l))) long,
)

pub if_some : {X : Type 0} (o : Option X) (P : X → Type 0) → ((x : X) → P x) → IfSome o P
if_some None P holds = tt
if_some (Some x) P holds = holds x

pub ends_some : {A T : Type 0} (f : Form) (written : Written A) (o : Option DriveEnd) (end : DriveEnd)
    (had has : Option (List ℕ)) (driver : Driven) (r : Result T Stop) → o ≡ Some end → EndsBehind f written end had has r
    → IfSome o (λ e. (driver ≡ driver) × EndsBehind f written e had has r)
ends_some f written o end had has driver r is behind =
    subst (λ (p : Option DriveEnd). IfSome p (λ e. (driver ≡ driver) × EndsBehind f written e had has r)) (sym is)
    (refl, behind)

-- nothing more was printed behind a frame, or the run came to its end there
pub ends_behind : {A T : Type 0} (f : Form) (written : Written A) (end : DriveEnd) (had has : Option (List ℕ)) (stop : Stop)
    → (stop ≡ stop_of end) ⊎ IsUnprinted stop → (before after : List (Note A)) (line : List ℕ)
    → IsWrittenLine f written line → GetsAt stop had has (notes_text before ++ (line ++ notes_text after))
    → EndsBehind {T = T} f written end had has (Err stop)
ends_behind f written end had has stop why before after line is printed = record {
  failed = tt;
  stop = why;
  before = before;
  after = after;
  line = line;
  is = is;
  printed = printed;
}
