-- No frame of a run is malformed, where each agreement carries it.
use Rattle.std.proofs.Common.{◌≡◌, inl, inr, ℕ, ◌^◌, Bool, true, false, ◌&&◌, List, [], ◌∷◌, ◌++◌, nat_le, refl, sym, ◌∙◌, ap, subst}
use Rattle.std.specs.Borrow.{Bor}
use Rattle.std.specs.List.{list_all}
use Rattle.std.proofs.lemmas.Bool.{and_parts, false≢true}
use Rattle.fuse_device.specs.Transfers.{Transfer, received, sent, stopped, unsent}
use Rattle.fuse_protocol.specs.declared.opcode.Opcode.{Opcode}
use Rattle.fuse_protocol.specs.declared.opcode.Opcode.TheVariants as op
use Rattle.fuse_protocol.specs.Pairs.{pairs_of_row}
use Rattle.fuse_protocol.specs.Requests.{RequestMessage}
use Rattle.fuse_protocol.specs.Table.{row_at}
use Rattle.protocol_law.specs.Law.{Carries}
use Rattle.fuse_sessions.specs.declared.act.Act.{Act}
use Rattle.fuse_sessions.specs.declared.act.Act.TheVariants as act
use Rattle.fuse_sessions.specs.declared.act.Taken.{Taken}
use Rattle.fuse_sessions.specs.declared.fault.Fault.{Fault}
use Rattle.fuse_sessions.specs.declared.fault.Fault.TheVariants as fault
use Rattle.fuse_sessions.specs.declared.known.Known.{Known}
use Rattle.fuse_sessions.specs.declared.transfer.Transfer.{Transfer as Said}
use Rattle.fuse_sessions.specs.declared.transfer.Transfer.TheVariants as said
use Rattle.fuse_sessions.specs.Faults.{Breaks, BreaksBeginning}
use Rattle.fuse_sessions.specs.Frames.{AreActs, AreReadActs, AreRequestActs, Lead}
use Rattle.fuse_sessions.specs.RequestActs.{asked_of, asking, doing, forgets_in, resent}
use Rattle.fuse_sessions.specs.Sessions.{Session}
use Rattle.driven_sessions.specs.Driven.{HaveAgreed, NeverAccusedWhereCarried}
use Rattle.driven_sessions.specs.Groups.{is_of_shapes}
use Rattle.driven_sessions.specs.Transfers.{AllSent, AreSaid, IsShaped}
use Rattle.driven_sessions.proofs.Calm.{AreShown, either, is_shown, shown_pass, takes_none, written_shown}
use Rattle.driven_sessions.proofs.Doing.{behind_passes, writing_passes}
use Rattle.driven_sessions.proofs.Leading.{AreFree, free_append, never_at}
use Rattle.driven_sessions.proofs.Never.{by_judged}
use Rattle.driven_sessions.proofs.Shapes.{run_shaped}

-- an act that is no malformed request
abbrev is_whole : Act → Bool
is_whole (act.Faulty fault.MalformedRequest) = false
is_whole a = true

abbrev AreWhole : List Act → Type 0
AreWhole acts = list_all is_whole acts ≡ true

is_whole_where_shown : (a : Act) → is_shown a ≡ true → is_whole a ≡ true
is_whole_where_shown (act.Faulty fault.MalformedRequest) is = is
is_whole_where_shown (act.Faulty f) is = refl
is_whole_where_shown a is = refl

shown_whole : (acts : List Act) → AreShown acts → AreWhole acts
shown_whole = shown_pass is_whole is_whole_where_shown

begins_none : (s : Session) (o : Opcode) → BreaksBeginning s o fault.MalformedRequest → ⊥
begins_none s op.Init b = b
begins_none s o b = b

whole_act : (s : Session) (a : Act) → is_whole a ≡ true → Breaks s a fault.MalformedRequest → ⊥
whole_act s (act.Faulty that) whole b = false≢true (ap is_whole (ap act.Faulty b) ∙ whole)
whole_act s (act.Begins o) whole b = begins_none s o b
whole_act s (act.Takes u t body) whole b = takes_none s u t body fault.MalformedRequest refl b
whole_act s a whole b = b

whole_law : (s : Session) (a : Act) (f : Fault) → is_whole a ≡ true → Breaks s a f → is_of_shapes f ≡ true → ⊥
whole_law s a fault.MalformedRequest whole b is = whole_act s a whole b
whole_law s a f whole b is = false≢true is

whole_free : (s : Session) (acts : List Act) → AreWhole acts → AreFree is_of_shapes s acts
whole_free s [] are = tt
whole_free s (a ∷ acts) are =
    let both = and_parts (is_whole a) (list_all is_whole acts) are in
    (λ f b is. whole_law s a f both.0 b is, whole_free (s ++ a ∷ []) acts both.1)

-- ---- the acts of a request that is read

forgets_whole : (pairs : List (ℕ × ℕ)) → AreWhole (forgets_in pairs)
forgets_whole [] = refl
forgets_whole (p ∷ pairs) = forgets_whole pairs

doing_whole : (again : Bool) (o : Opcode) (m : RequestMessage) → AreWhole (doing again o m)
doing_whole again op.Interrupt m = refl
doing_whole again op.NotifyReply m = refl
doing_whole again op.Forget m = refl
doing_whole again op.BatchForget m = forgets_whole (pairs_of_row (row_at op.BatchForget).tail m.tail)
doing_whole again o m = either is_whole again (resent o m) (asking o m (asked_of o m)) refl
    (behind_passes is_whole is_whole_where_shown o m (asked_of o m) (writing_passes is_whole m refl o) refl)

request_whole : (k : Known) (frame : List ℕ) (acts : List Act) → IsShaped frame → Carries k.agreed
    → AreRequestActs k frame acts → AreWhole acts
request_whole k frame acts shaped carries (inl ((o, m), is, does)) =
    ap (list_all is_whole) does ∙ doing_whole (k.has_resent && nat_le (2 ^ 63) m.unique) o m
request_whole k frame acts shaped carries (inr (none, does)) =
    let one = shaped k.agreed carries in absurd (none (one.0, one.1) one.2)

-- ---- a session

request_free : (k : Known) (s : Session) (b : Bor (List ℕ)) (acts : List Act) (later : Known) → IsShaped b.now
    → Carries k.agreed → AreActs k s (said.Request b) acts later → AreFree is_of_shapes s acts
request_free k s b acts later shaped carries is = by_judged (AreFree is_of_shapes s acts) k.unjudged
    (AreReadActs k s (said.Request b) acts later) (λ why. (acts ≡ []) × (later ≡ k))
    (λ judged does. whole_free s acts (request_whole k b.now acts shaped carries does.0))
    (λ why unjudged none. subst (AreFree is_of_shapes s) (sym none.0) tt) is

written_free : (k : Known) (s : Session) (b : Bor (List ℕ)) (t : Taken) (acts : List Act) (later : Known)
    → AreActs k s (said.Written b t) acts later → AreFree is_of_shapes s acts
written_free k s b t acts later is = by_judged (AreFree is_of_shapes s acts) k.unjudged
    (AreReadActs k s (said.Written b t) acts later) (λ why. (acts ≡ []) × (later ≡ k))
    (λ judged does. whole_free s acts (shown_whole acts (written_shown k b.now t s acts later does)))
    (λ why unjudged none. subst (AreFree is_of_shapes s) (sym none.0) tt) is

ended_free : (k : Known) (s : Session) (acts : List Act) (later : Known) → AreActs k s said.Ended acts later
    → AreFree is_of_shapes s acts
ended_free k s acts later is = by_judged (AreFree is_of_shapes s acts) k.unjudged
    (AreReadActs k s said.Ended acts later) (λ why. (acts ≡ []) × (later ≡ k))
    (λ judged does. subst (AreFree is_of_shapes s) (sym does.0) (whole_free s (act.Ends ∷ []) refl))
    (λ why unjudged none. subst (AreFree is_of_shapes s) (sym none.0) tt) is

session_free : (log : List Transfer) → AllSent IsShaped log → (ts : List Said) → AreSaid log ts → (k : Known) (s : Session)
    → AreFree is_of_shapes [] s → (later : Known) (all : Session) (leads : Lead k s ts later all)
    → HaveAgreed Carries k s ts later all leads → AreFree is_of_shapes [] all
session_free [] shaped [] is k s free later all leads agreed = subst (AreFree is_of_shapes []) (sym leads.1) free
session_free (sent frame result ∷ log) shaped (said.Request b ∷ ts) is k s free later all (acts, known, are, leads) agreed =
    session_free log shaped.1 ts is.1 known (s ++ acts) (free_append is_of_shapes [] s acts free
    (request_free k s b acts known (subst IsShaped (sym is.0) shaped.0) agreed.0 are)) later all leads agreed.1
session_free (received frame ∷ log) shaped (said.Written b t ∷ ts) is k s free later all (acts, known, are, leads) agreed =
    session_free log shaped ts is.1 known (s ++ acts)
    (free_append is_of_shapes [] s acts free (written_free k s b t acts known are)) later all leads agreed.1
session_free (unsent frame end ∷ log) shaped (said.Ended ∷ ts) is k s free later all (acts, known, are, leads) agreed =
    session_free log shaped ts is.1 known (s ++ acts)
    (free_append is_of_shapes [] s acts free (ended_free k s acts known are)) later all leads agreed.1
session_free (stopped end ∷ log) shaped (said.Ended ∷ ts) is k s free later all (acts, known, are, leads) agreed =
    session_free log shaped ts is.1 known (s ++ acts)
    (free_append is_of_shapes [] s acts free (ended_free k s acts known are)) later all leads agreed.1
session_free log shaped ts is k s free later all leads agreed = absurd search

pub shapes_never : NeverAccusedWhereCarried is_of_shapes
shapes_never asks log new run ts is k s (acts, known, are, leads) agreed place f has of =
    let first : acts ≡ act.SeveralReaders ∷ [] = are.0 in
    never_at is_of_shapes [] s (session_free log (run_shaped asks log new run) ts is known acts
    (subst (AreFree is_of_shapes []) (sym first) (whole_free [] (act.SeveralReaders ∷ []) refl)) k s leads agreed.1) place f
    has of
