-- What waits in a session as it goes on.
use Rattle.std.proofs.Common.{◌≡◌, inl, inr, ℕ, ◌≤◌, ◌<◌, ◌%◌, ◌^◌, ◌==◌, ◌||◌, ◌&&◌, Bool, true, false, not, cond, List, [], ◌∷◌, ◌++◌, Option, Some, None, MatchBool, filter, nat_eq, nat_le, if◌then◌else◌, append-nil, append_assoc, refl, ap, sym, subst, ◌∙◌, arith}
use Rattle.std.specs.List.{list_any}
use Rattle.std.proofs.lemmas.Bool.{false≢true}
use Rattle.std.proofs.lemmas.Bool.Decides.{nat_tests}
use Rattle.std.proofs.lemmas.List.Folds.{list_any-append}
use Rattle.fuse_device.specs.Transfers.{Transfer, received, sent, stopped, unsent}
use Rattle.fuse_spec.specs.declared.Opened.{Opened}
use Rattle.fuse_spec.specs.Kernel.Messages.{Request, RequestBody, asks, batch_forget, forget, init, interrupt, release}
use Rattle.fuse_theorem.proofs.Calls.Finding.{same_is}
use Rattle.fuse_frames.specs.RequestTies.{asked_opcode}
use Rattle.fk_wire.specs.Opcodes.{code_of as codec_code}
use Rattle.fk_drive.specs.Driving.{Driven, DriveStep, IsSentFrame, ReleasesBehind, SendsFrame, Turn, at_end, opens, releases, releases_none, sends, sends_opened, with_result, writes}
use Rattle.fk_drive.proofs.SentFrames.{said_opcode}
use Rattle.fuse_protocol.specs.declared.opcode.Opcode.{Opcode}
use Rattle.fuse_protocol.specs.declared.opcode.Opcode.TheVariants as op
use Rattle.fuse_protocol.specs.Pairs.{pairs_of_row}
use Rattle.fuse_protocol.specs.Requests.{RequestMessage}
use Rattle.fuse_protocol.specs.Table.{row_at}
use Rattle.fuse_protocol.proofs.Codes.{same_opcode}
use Rattle.protocol_law.specs.Law.{Carries}
use Rattle.fuse_sessions.specs.declared.act.Act.{Act}
use Rattle.fuse_sessions.specs.declared.act.Act.TheVariants as act
use Rattle.fuse_sessions.specs.declared.act.Asked.{Asked}
use Rattle.fuse_sessions.specs.declared.act.OpenKind.TheVariants as kind
use Rattle.fuse_sessions.specs.declared.act.Fit.{Fit}
use Rattle.fuse_sessions.specs.declared.act.Fit.TheVariants as fit
use Rattle.fuse_sessions.specs.declared.act.Taken.TheVariants as taken
use Rattle.fuse_sessions.specs.declared.fault.Fault.TheVariants as fault
use Rattle.fuse_sessions.specs.declared.known.Known.{Known}
use Rattle.fuse_sessions.specs.declared.transfer.Transfer.{Transfer as Said}
use Rattle.fuse_sessions.specs.declared.transfer.Transfer.TheVariants as said
use Rattle.fuse_sessions.specs.Fits.{fit_in, fit_of_another}
use Rattle.fuse_sessions.specs.Frames.{AreReadActs, AreRequestActs, IsNotified, IsReplyBy, IsReplyTo, IsRequestOf, IsWritten, Lead, error_in, eintr_acts, interrupt_acts, is_to_interrupt, listed_acts, number_in, replied, said_acts}
use Rattle.fuse_sessions.specs.Numbers.{reads, was_read}
use Rattle.fuse_sessions.specs.RequestActs.{asked_of, asking, forgets_in, request_acts, resend_bit, resent}
use Rattle.fuse_sessions.specs.Sessions.{Session}
use Rattle.fuse_sessions.specs.UnreadRequests.{opcode_in, unique_in}
use Rattle.fuse_sessions.specs.Waiting.{asked_by, ends, waiting, waits}
use Rattle.fuse_sessions.proofs.Laws.{waiting-more}
use Rattle.fuse_replies.specs.Replies.{IsErrorWord}
use Rattle.driven_sessions.specs.Driven.{HaveAgreed}
use Rattle.driven_sessions.specs.Taken.{HasHeader}
use Rattle.driven_sessions.specs.Transfers.{AllSent, AreSaid, IsShaped}
use Rattle.driven_sessions.proofs.Asks.{AllAsk, EachAsked, append_ask, map_ask, shown_ask}
use Rattle.driven_sessions.proofs.Calm.{written_shown}
use Rattle.driven_sessions.proofs.Doing.{behind}
use Rattle.driven_sessions.proofs.Frames.{IsOwn}
use Rattle.driven_sessions.proofs.Leading.{AreFree}
use Rattle.driven_sessions.proofs.Never.{by_judged}
use Rattle.driven_sessions.proofs.Served.{is_of_server, reply_waits}
use Rattle.driven_sessions.proofs.Shapes.{said_shaped}
use Rattle.driven_sessions.proofs.Spent.{held}
use Rattle.driven_sessions.proofs.Telling.{FrameAsks}
use Rattle.driven_sessions.proofs.Files.FrameActs.{AsksFor, file_acts}
use Rattle.driven_sessions.proofs.Files.Rows.{files_of}
use Rattle.driven_sessions.proofs.Files.Frames.{SaysFiles}
use Rattle.driven_sessions.proofs.Files.Opened.{each_on}

-- ---- the frames of a step

-- Each frame that a step sends is such, where those of the request that is held are, and those of OPENDIR and RELEASEDIR.
pub step_sent : (IsSuch : List ℕ → Type 0) (old : Driven)
    → ((r : Request) → held old.turn ≡ Some r → (frame : List ℕ) → IsSentFrame frame r → IsSuch frame)
    → ((frame : List ℕ) → IsOwn frame old.next → old.next < 2 ^ 63 → IsSuch frame)
    → (log : List Transfer) (new : Driven) → DriveStep old log new → AllSent IsSuch log
step_sent IsSuch old of_request of_own log new (sends request turn unlisted frame goes log' went) = by log' went
  where
    by : (log : List Transfer) → SendsFrame frame log → AllSent IsSuch log
    by log (with_result result) = (of_request request (ap held turn) frame goes, tt)
    by log (at_end end) = tt
step_sent IsSuch old of_request of_own log new (sends_opened request fh turn frame goes handle log' went) = by log' went
  where
    by : (log : List Transfer) → SendsFrame frame log → AllSent IsSuch log
    by log (with_result result) = (of_request request (ap held turn) frame goes, tt)
    by log (at_end end) = tt
step_sent IsSuch old of_request of_own log new (opens request turn asks_it below node lists frame own log' went) = by log' went
  where
    by : (log : List Transfer) → SendsFrame frame log → AllSent IsSuch log
    by log (with_result result) = (of_own frame (inl (node, own)) below, tt)
    by log (at_end end) = tt
step_sent IsSuch old of_request of_own log new
    (writes idles frame rest there handed on result l took log' coming left turn behind_it) = by log' coming left turn behind_it
  where
    by : (log : List Transfer) (coming : ℕ) (left : List (ℕ × Opened)) (turn : Turn)
        → ReleasesBehind frame old.next old.directories log coming left turn → AllSent IsSuch log
    by log coming left turn (releases head below before after directory is apart bytes own over (with_result result)) =
        (of_own bytes (inr (directory, own)) below, tt)
    by log coming left turn (releases head below before after directory is apart bytes own over (at_end end)) = tt
    by log coming left turn (releases_none unlisted) = tt
step_sent IsSuch old of_request of_own log new step = tt

-- ---- a session as it leads on

module _ (P : ℕ → Asked → Type 0) where
  acts_wait : (s acts : Session) → AllAsk P acts → EachAsked P (waiting s) → EachAsked P (waiting (s ++ acts))
  acts_wait s acts all each = each_on P s acts each all

  -- What waits is such, where what frames ask is.
  pub waits_grow : (log : List Transfer) → AllSent (FrameAsks P) log → (ts : List Said) → AreSaid log ts → (k : Known)
      (s : Session) (later : Known) (all : Session) (leads : Lead k s ts later all) → HaveAgreed Carries k s ts later all leads
      → EachAsked P (waiting s) → EachAsked P (waiting all)
  waits_grow [] such [] is k s later all leads agreed was = subst (λ (l : Session). EachAsked P (waiting l)) (sym leads.1) was
  waits_grow (sent frame result ∷ log) such (said.Request b ∷ ts) is k s later all (acts, known, are, leads) agreed was =
      waits_grow log such.1 ts is.1 known (s ++ acts) later all leads agreed.1 (acts_wait s acts
      (by_judged (AllAsk P acts) k.unjudged (AreReadActs k s (said.Request b) acts known)
      (λ why. (acts ≡ []) × (known ≡ k))
      (λ judged does. such.0 k acts agreed.0 (subst (λ (l : List ℕ). AreRequestActs k l acts) is.0 does.0))
      (λ why unjudged none. subst (AllAsk P) (sym none.0) tt) are) was)
  waits_grow (received frame ∷ log) such (said.Written b t ∷ ts) is k s later all (acts, known, are, leads) agreed was =
      waits_grow log such ts is.1 known (s ++ acts) later all leads agreed.1 (acts_wait s acts
      (by_judged (AllAsk P acts) k.unjudged (AreReadActs k s (said.Written b t) acts known)
      (λ why. (acts ≡ []) × (known ≡ k))
      (λ judged does. shown_ask P acts (written_shown k b.now t s acts known does))
      (λ why unjudged none. subst (AllAsk P) (sym none.0) tt) are) was)
  waits_grow (unsent frame end ∷ log) such (said.Ended ∷ ts) is k s later all (acts, known, are, leads) agreed was =
      waits_grow log such ts is.1 known (s ++ acts) later all leads agreed.1 (acts_wait s acts
      (by_judged (AllAsk P acts) k.unjudged (AreReadActs k s said.Ended acts known)
      (λ why. (acts ≡ []) × (known ≡ k)) (λ judged does. subst (AllAsk P) (sym does.0) tt)
      (λ why unjudged none. subst (AllAsk P) (sym none.0) tt) are) was)
  waits_grow (stopped end ∷ log) such (said.Ended ∷ ts) is k s later all (acts, known, are, leads) agreed was =
      waits_grow log such ts is.1 known (s ++ acts) later all leads agreed.1 (acts_wait s acts
      (by_judged (AllAsk P acts) k.unjudged (AreReadActs k s said.Ended acts known)
      (λ why. (acts ≡ []) × (known ≡ k)) (λ judged does. subst (AllAsk P) (sym does.0) tt)
      (λ why unjudged none. subst (AllAsk P) (sym none.0) tt) are) was)
  waits_grow log such ts is k s later all leads agreed was = absurd search

-- ---- frames that ask nothing

-- Whether a request awaits a reply of its own: all but FORGET, BATCH_FORGET and INTERRUPT.
abbrev pub awaits_reply : RequestBody → Bool
awaits_reply (init flags) = true
awaits_reply (asks operation) = true
awaits_reply (release o) = true
awaits_reply (forget f) = false
awaits_reply (batch_forget fs) = false
awaits_reply (interrupt original) = false

forgets_ask : (P : ℕ → Asked → Type 0) (pairs : List (ℕ × ℕ)) → AllAsk P (forgets_in pairs)
forgets_ask P [] = tt
forgets_ask P (p ∷ pairs) = forgets_ask P pairs

row_asks : (P : ℕ → Asked → Type 0) (k : Known) (o : Opcode) (m : RequestMessage) → (o ≡ op.Forget) → AllAsk P (request_acts k.has_resent o m)
row_asks P k o m is = subst (λ (p : Opcode). AllAsk P (request_acts k.has_resent p m)) (sym is) tt

batch_asks : (P : ℕ → Asked → Type 0) (k : Known) (o : Opcode) (m : RequestMessage) → (o ≡ op.BatchForget)
    → AllAsk P (request_acts k.has_resent o m)
batch_asks P k o m is = subst (λ (p : Opcode). AllAsk P (request_acts k.has_resent p m)) (sym is)
    (forgets_ask P (pairs_of_row (row_at op.BatchForget).tail m.tail))

interrupt_row_asks : (P : ℕ → Asked → Type 0) (k : Known) (o : Opcode) (m : RequestMessage) → (o ≡ op.Interrupt)
    → AllAsk P (request_acts k.has_resent o m)
interrupt_row_asks P k o m is = subst (λ (p : Opcode). AllAsk P (request_acts k.has_resent p m)) (sym is) tt

pub none_asked : (P : ℕ → Asked → Type 0) (frame : List ℕ) (r : Request) → IsSentFrame frame r → awaits_reply r.body ≡ false
    → FrameAsks P frame
none_asked P frame r goes none k acts carries (inl ((o, m), is, does)) = subst (AllAsk P) (sym does) (by r.body none code)
  where
    code : opcode_in frame ≡ codec_code (asked_opcode r.body)
    code = goes.says.spells.3.1.0 ∙ said_opcode goes.says.message.nodeid goes.says.message.content r.body goes.says.says

    by : (body : RequestBody) → awaits_reply body ≡ false → opcode_in frame ≡ codec_code (asked_opcode body)
        → AllAsk P (request_acts k.has_resent o m)
    by (forget f) none at = row_asks P k o m (same_opcode o op.Forget (sym is.opcode ∙ at))
    by (batch_forget fs) none at = batch_asks P k o m (same_opcode o op.BatchForget (sym is.opcode ∙ at))
    by (interrupt original) none at = interrupt_row_asks P k o m (same_opcode o op.Interrupt (sym is.opcode ∙ at))
    by body none at = absurd (false≢true (sym none))
none_asked P frame r goes none k acts carries (inr (unread, does)) =
    let one = said_shaped frame r goes.says k.agreed carries in absurd (unread (one.0, one.1) one.2)

-- ---- what was asked was read

any_first : (test : Act → Bool) (xs ys : List Act) → list_any test xs ≡ true → list_any test (xs ++ ys) ≡ true
any_first test xs ys is = list_any-append test xs ys ∙ ap (λ (b : Bool). b || list_any test ys) is

pub any_last : (test : Act → Bool) (xs ys : List Act) → list_any test ys ≡ true → list_any test (xs ++ ys) ≡ true
any_last test xs ys is = list_any-append test xs ys ∙ ap (λ (b : Bool). list_any test xs || b) is ∙ or_true (list_any test xs)
  where
    or_true : (b : Bool) → (b || true) ≡ true
    or_true true = refl
    or_true false = refl

pub read_on : (s acts : Session) (u : ℕ) → was_read s u ≡ true → was_read (s ++ acts) u ≡ true
read_on s acts u is = any_first (reads u) s acts is

-- Each request that acts ask is read in them.
abbrev AreRead : List Act → Type 0
AreRead acts = AllAsk (λ u a. list_any (reads u) acts ≡ true) acts

row_read : (o : Opcode) (m : RequestMessage) (again : Bool)
    → list_any (reads m.unique) (act.Arrives ∷ act.Begins o ∷ (if again then resent o m else asking o m (asked_of o m))) ≡ true
row_read o m true = ap (λ (b : Bool). b || false) (same_is m.unique)
row_read o m false = any_first (reads m.unique) (act.Arrives ∷ act.Begins o ∷ act.Read (Some o) m.unique ∷ []) (behind o m (asked_of o m))
    (ap (λ (b : Bool). b || false) (same_is m.unique))

frame_reads : (body : RequestBody) (k : Known) (frame : List ℕ) → SaysFiles body frame → IsShaped frame → Carries k.agreed
    → (acts : List Act) → AreRequestActs k frame acts → AreRead acts
frame_reads body k frame says shaped carries acts (inl ((o, m), is, does)) = subst AreRead (sym does) (by o is number)
  where
    number : AllAsk (λ u a. u ≡ m.unique) (request_acts k.has_resent o m)
    number = map_ask (λ u a. (u ≡ unique_in frame) × AsksFor kind.File (files_of body) a) (λ u a. u ≡ m.unique) (λ u a is_it. is_it.0 ∙ is.unique)
        (request_acts k.has_resent o m)
        (file_acts body k frame says shaped carries (request_acts k.has_resent o m) (inl ((o, m), is, refl))).asks

    asking_row : (p : Opcode) → AllAsk (λ u a. u ≡ m.unique)
        (act.Arrives ∷ act.Begins p ∷ (if k.has_resent && nat_le resend_bit m.unique then resent p m else asking p m (asked_of p m)))
        → AreRead (act.Arrives ∷ act.Begins p ∷ (if k.has_resent && nat_le resend_bit m.unique then resent p m
        else asking p m (asked_of p m)))
    asking_row p all = map_ask (λ u a. u ≡ m.unique) (λ u a. list_any (reads u) (act.Arrives ∷ act.Begins p
        ∷ (if k.has_resent && nat_le resend_bit m.unique then resent p m else asking p m (asked_of p m))) ≡ true)
        (λ u a same. subst (λ (n : ℕ). list_any (reads n) (act.Arrives ∷ act.Begins p
        ∷ (if k.has_resent && nat_le resend_bit m.unique then resent p m else asking p m (asked_of p m))) ≡ true) (sym same)
        (row_read p m (k.has_resent && nat_le resend_bit m.unique))) (act.Arrives ∷ act.Begins p
        ∷ (if k.has_resent && nat_le resend_bit m.unique then resent p m else asking p m (asked_of p m))) all

    by : (p : Opcode) → IsRequestOf k.agreed frame (p, m) → AllAsk (λ u a. u ≡ m.unique) (request_acts k.has_resent p m)
        → AreRead (request_acts k.has_resent p m)
    by op.Interrupt at all = tt
    by op.NotifyReply at all = tt
    by op.Forget at all = tt
    by op.BatchForget at all = forgets_ask (λ u a. list_any (reads u) (request_acts k.has_resent op.BatchForget m) ≡ true)
        (pairs_of_row (row_at op.BatchForget).tail m.tail)
    by p at all = asking_row p all
frame_reads body k frame says shaped carries acts (inr (none, does)) =
    let one = shaped k.agreed carries in absurd (none (one.0, one.1) one.2)

-- Each request of a session was read in it.
abbrev pub WereRead : Session → Type 0
WereRead s = AllAsk (λ u a. was_read s u ≡ true) s

-- A frame is that of some body.
abbrev pub HasBody : List ℕ → Type 0
HasBody frame = (body : RequestBody) × SaysFiles body frame × IsShaped frame

reads_on : (s acts : Session) → WereRead s → AreRead acts → WereRead (s ++ acts)
reads_on s acts was all = append_ask (λ u a. was_read (s ++ acts) u ≡ true) s acts
    (map_ask (λ u a. was_read s u ≡ true) (λ u a. was_read (s ++ acts) u ≡ true) (λ u a is. read_on s acts u is) s was)
    (map_ask (λ u a. list_any (reads u) acts ≡ true) (λ u a. was_read (s ++ acts) u ≡ true)
    (λ u a is. any_last (reads u) s acts is) acts all)

pub reads_grow : (log : List Transfer) → AllSent HasBody log → (ts : List Said) → AreSaid log ts → (k : Known)
    (s : Session) (later : Known) (all : Session) (leads : Lead k s ts later all) → HaveAgreed Carries k s ts later all leads
    → WereRead s → WereRead all
reads_grow [] such [] is k s later all leads agreed was = subst WereRead (sym leads.1) was
reads_grow (sent frame result ∷ log) such (said.Request b ∷ ts) is k s later all (acts, known, are, leads) agreed was =
    reads_grow log such.1 ts is.1 known (s ++ acts) later all leads agreed.1 (reads_on s acts was
    (by_judged (AreRead acts) k.unjudged (AreReadActs k s (said.Request b) acts known)
    (λ why. (acts ≡ []) × (known ≡ k))
    (λ judged does. frame_reads such.0.0 k frame such.0.1 such.0.2 agreed.0 acts
    (subst (λ (l : List ℕ). AreRequestActs k l acts) is.0 does.0))
    (λ why unjudged none. subst AreRead (sym none.0) tt) are))
reads_grow (received frame ∷ log) such (said.Written b t ∷ ts) is k s later all (acts, known, are, leads) agreed was =
    reads_grow log such ts is.1 known (s ++ acts) later all leads agreed.1 (reads_on s acts was
    (by_judged (AreRead acts) k.unjudged (AreReadActs k s (said.Written b t) acts known)
    (λ why. (acts ≡ []) × (known ≡ k))
    (λ judged does. shown_ask (λ u a. list_any (reads u) acts ≡ true) acts (written_shown k b.now t s acts known does))
    (λ why unjudged none. subst AreRead (sym none.0) tt) are))
reads_grow (unsent frame end ∷ log) such (said.Ended ∷ ts) is k s later all (acts, known, are, leads) agreed was =
    reads_grow log such ts is.1 known (s ++ acts) later all leads agreed.1 (reads_on s acts was
    (by_judged (AreRead acts) k.unjudged (AreReadActs k s said.Ended acts known)
    (λ why. (acts ≡ []) × (known ≡ k)) (λ judged does. subst AreRead (sym does.0) tt)
    (λ why unjudged none. subst AreRead (sym none.0) tt) are))
reads_grow (stopped end ∷ log) such (said.Ended ∷ ts) is k s later all (acts, known, are, leads) agreed was =
    reads_grow log such ts is.1 known (s ++ acts) later all leads agreed.1 (reads_on s acts was
    (by_judged (AreRead acts) k.unjudged (AreReadActs k s said.Ended acts known)
    (λ why. (acts ≡ []) × (known ≡ k)) (λ judged does. subst AreRead (sym does.0) tt)
    (λ why unjudged none. subst AreRead (sym none.0) tt) are))
reads_grow log such ts is k s later all leads agreed was = absurd search

-- ---- an accepted reply

-- the act answers what waits under a number
abbrev answers : ℕ → Act → Bool
answers u (act.Replies n taken.Accepted) = nat_eq n u
answers u a = false

kept_apart : (u : ℕ) (a : Act) → answers u a ≡ true → (n : ℕ) → not (ends n a) ≡ true → n ≡ u → ⊥
kept_apart u (act.Replies m taken.Accepted) is n kept same =
    false≢true (sym (ap (λ (b : Bool). not (b && true)) (ap (nat_eq m) same ∙ is)) ∙ kept)
kept_apart u a is n kept same = false≢true is

answer_asks : (u : ℕ) (a : Act) → answers u a ≡ true → asked_by a ≡ []
answer_asks u (act.Replies m taken.Accepted) is = refl
answer_asks u (act.Asks n asked) is = absurd (false≢true is)
answer_asks u a is = refl

kept_each : (u : ℕ) (a : Act) → answers u a ≡ true → (es : List (ℕ × Asked))
    → EachAsked (λ n x. n ≡ u → ⊥) (filter (λ (e : ℕ × Asked). not (ends e.0 a)) es)
kept_each u a is [] = tt
kept_each u a is (e ∷ es) = by (not (ends e.0 a)) refl (kept_each u a is es)
  where
    by : (b : Bool) → not (ends e.0 a) ≡ b
        → EachAsked (λ n x. n ≡ u → ⊥) (filter (λ (x : ℕ × Asked). not (ends x.0 a)) es)
        → EachAsked (λ n x. n ≡ u → ⊥) (cond b (e ∷ filter (λ (x : ℕ × Asked). not (ends x.0 a)) es)
        (filter (λ (x : ℕ × Asked). not (ends x.0 a)) es))
    by true at rest = (kept_apart u a is e.0 at, rest)
    by false at rest = rest

-- Nothing waits under a number behind acts that answer it, and ask nothing.
answered_each : (u : ℕ) (s acts : Session) → AllAsk (λ n a. ⊥) acts → list_any (answers u) acts ≡ true
    → EachAsked (λ n a. n ≡ u → ⊥) (waiting (s ++ acts))
answered_each u s [] none is = absurd (false≢true is)
answered_each u s (a ∷ acts) none is = subst (λ (l : Session). EachAsked (λ n x. n ≡ u → ⊥) (waiting l)) (append_assoc s (a ∷ []) acts)
    (by (answers u a) refl is (λ some. answered_each u (s ++ a ∷ []) acts (rest a none) some))
  where
    rest : (x : Act) → AllAsk (λ n y. ⊥) (x ∷ acts) → AllAsk (λ n y. ⊥) acts
    rest (act.Asks n asked) all = all.1
    rest x all = all

    by : (b : Bool) → answers u a ≡ b → (b || list_any (answers u) acts) ≡ true
        → (list_any (answers u) acts ≡ true → EachAsked (λ n x. n ≡ u → ⊥) (waiting ((s ++ a ∷ []) ++ acts)))
        → EachAsked (λ n x. n ≡ u → ⊥) (waiting ((s ++ a ∷ []) ++ acts))
    by true at some later = each_on (λ n x. n ≡ u → ⊥) (s ++ a ∷ []) acts
        (subst (EachAsked (λ n x. n ≡ u → ⊥)) (sym (waiting-more s a ∙ ap (λ (l : List (ℕ × Asked)).
        filter (λ (e : ℕ × Asked). not (ends e.0 a)) (waiting s) ++ l) (answer_asks u a at) ∙ append-nil _)) (kept_each u a at (waiting s)))
        (map_ask (λ n x. ⊥) (λ n x. n ≡ u → ⊥) (λ n x never. absurd never) acts (rest a none))
    by false at some later = later some

replied_answers : (bytes : List ℕ) (body : Fit) → list_any (answers (number_in bytes)) (replied bytes taken.Accepted body) ≡ true
replied_answers bytes body = any_last (answers (number_in bytes)) (eintr_acts bytes taken.Accepted)
    (act.Takes (number_in bytes) taken.Accepted body ∷ act.Replies (number_in bytes) taken.Accepted ∷ [])
    (ap (λ (b : Bool). b || false) (same_is (number_in bytes)))

module _ (k : Known) (s : Session) (bytes : List ℕ) (acts : List Act) (later : Known) where
  to_answers : (xs : List Act) → acts ≡ xs → list_any (answers (number_in bytes)) xs ≡ true
      → list_any (answers (number_in bytes)) acts ≡ true
  to_answers xs same is = ap (list_any (answers (number_in bytes))) same ∙ is

  asked_answers : (a : Asked) (o : Option Opcode) → IsReplyBy k bytes taken.Accepted o a acts later
      → list_any (answers (number_in bytes)) acts ≡ true
  asked_answers a None does = to_answers (replied bytes taken.Accepted fit.MayFit) does.0 (replied_answers bytes fit.MayFit)
  asked_answers a (Some o) (inl (m, is, (same, told))) =
      let body : Fit = fit_in (row_at o).reply a.asked bytes in
      to_answers (replied bytes taken.Accepted body ++ said_acts k o a taken.Accepted m.answer) same
      (any_first (answers (number_in bytes)) (replied bytes taken.Accepted body) (said_acts k o a taken.Accepted m.answer)
      (replied_answers bytes body))
  asked_answers a (Some o) (inr (none, (same, told))) =
      let body : Fit = fit_of_another (fit_in (row_at o).reply a.asked bytes) in
      to_answers (act.Faulty fault.BodyOfAnotherRequest ∷ (replied bytes taken.Accepted body ++ listed_acts o a taken.Accepted bytes)) same
      (any_first (answers (number_in bytes)) (replied bytes taken.Accepted body) (listed_acts o a taken.Accepted bytes)
      (replied_answers bytes body))

  pub accepted_answers : IsWritten k s bytes taken.Accepted acts later → AreFree is_of_server s acts → (u : ℕ)
      → number_in bytes ≡ u → 2 ≤ u → u % 2 ≡ 0
      → EachAsked (λ n a. n ≡ u → ⊥) (waiting (s ++ acts)) × (waits s u ≡ None → ⊥)
  accepted_answers (inr (bad, does, same)) free u is some even =
      absurd ((subst (AreFree is_of_server s) does free).0 fault.MalformedReply refl refl)
  accepted_answers (inl (head, does)) free u is some even =
      let apart : (number_in bytes == 0) ≡ false = grind (arith, nat_tests, is, some) in
      let headed : HasHeader bytes = (head.0, error apart head.1) in
      let waited : waits s (number_in bytes) ≡ None → ⊥ =
      reply_waits k s bytes acts later free (inl (head, does)) headed (ap (λ (n : ℕ). n % 2) is ∙ even) in (
        subst (λ (n : ℕ). EachAsked (λ m a. m ≡ n → ⊥) (waiting (s ++ acts))) is
            (answered_each (number_in bytes) s acts
            (shown_ask (λ n a. ⊥) acts (written_shown k bytes taken.Accepted s acts later (inl (head, does))))
            (by (waits s (number_in bytes)) refl waited (past (number_in bytes == 0) apart does))),
        λ none. waited (ap (waits s) is ∙ none),
      )
    where
      error : (number_in bytes == 0) ≡ false → MatchBool (number_in bytes == 0) (Unit {0}) (IsErrorWord (error_in bytes))
          → IsErrorWord (error_in bytes)
      error apart word = subst (λ (b : Bool). MatchBool b (Unit {0}) (IsErrorWord (error_in bytes))) apart word

      past : (b : Bool) → b ≡ false → MatchBool b (IsNotified k bytes taken.Accepted acts later)
          (MatchBool (is_to_interrupt (number_in bytes) (waits s (number_in bytes)))
          ((acts ≡ interrupt_acts bytes taken.Accepted) × (later ≡ k))
          (IsReplyTo k bytes taken.Accepted (waits s (number_in bytes)) acts later))
          → MatchBool (is_to_interrupt (number_in bytes) (waits s (number_in bytes)))
          ((acts ≡ interrupt_acts bytes taken.Accepted) × (later ≡ k))
          (IsReplyTo k bytes taken.Accepted (waits s (number_in bytes)) acts later)
      past true e placed = absurd (false≢true (sym e))
      past false e placed = placed

      by : (x : Option Asked) → waits s (number_in bytes) ≡ x → (waits s (number_in bytes) ≡ None → ⊥)
          → MatchBool (is_to_interrupt (number_in bytes) (waits s (number_in bytes)))
          ((acts ≡ interrupt_acts bytes taken.Accepted) × (later ≡ k))
          (IsReplyTo k bytes taken.Accepted (waits s (number_in bytes)) acts later)
          → list_any (answers (number_in bytes)) acts ≡ true
      by None at waited placed = absurd (waited at)
      by (Some a) at waited placed = asked_answers a a.opcode (subst (λ (x : Option Asked). MatchBool (is_to_interrupt (number_in bytes) x)
          ((acts ≡ interrupt_acts bytes taken.Accepted) × (later ≡ k))
          (IsReplyTo k bytes taken.Accepted x acts later)) at placed)
