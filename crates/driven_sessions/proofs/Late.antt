-- No INIT of a run comes after another request, in one mount.
use Rattle.std.proofs.Common.{◌≡◌, inl, inr, ℕ, ◌^◌, Bool, true, false, ◌&&◌, ◌||◌, not, List, [], ◌∷◌, ◌++◌, None, nat_eq, nat_le, refl, sym, ◌∙◌, ap, subst}
use Rattle.std.specs.Borrow.{Bor}
use Rattle.std.specs.List.{list_all, list_any}
use Rattle.std.proofs.lemmas.Bool.{and_parts, false≢true, or_from}
use Rattle.std.proofs.lemmas.List.Folds.{list_any-append}
use Rattle.fuse_device.specs.Transfers.{Transfer, received, sent, stopped, unsent}
use Rattle.fuse_protocol.specs.declared.opcode.Opcode.{Opcode}
use Rattle.fuse_protocol.specs.declared.opcode.Opcode.TheVariants as op
use Rattle.fuse_protocol.specs.Pairs.{pairs_of_row}
use Rattle.fuse_protocol.specs.Requests.{RequestMessage}
use Rattle.fuse_protocol.specs.Table.{code_of, row_at}
use Rattle.fuse_sessions.specs.declared.act.Act.{Act}
use Rattle.fuse_sessions.specs.declared.act.Act.TheVariants as act
use Rattle.fuse_sessions.specs.declared.act.Taken.{Taken}
use Rattle.fuse_sessions.specs.declared.fault.Fault.{Fault}
use Rattle.fuse_sessions.specs.declared.fault.Fault.TheVariants as fault
use Rattle.fuse_sessions.specs.declared.known.Known.{Known}
use Rattle.fuse_sessions.specs.declared.transfer.Transfer.{Transfer as Said}
use Rattle.fuse_sessions.specs.declared.transfer.Transfer.TheVariants as said
use Rattle.fuse_sessions.specs.Faults.{Breaks, BreaksBeginning}
use Rattle.fuse_sessions.specs.Frames.{AreActs, AreReadActs, AreRequestActs, Lead}
use Rattle.fuse_sessions.specs.Numbers.{is_reading, was_anything_read}
use Rattle.fuse_sessions.specs.RequestActs.{asked_of, asking, doing, forgets_in, resent}
use Rattle.fuse_sessions.specs.Sessions.{Session}
use Rattle.fuse_sessions.specs.UnreadRequests.{asking_unread, has_header, malformed, may_be_known, opcode_in, takes_no_reply, unique_in, unjudged}
use Rattle.driven_sessions.specs.Driven.{NeverAccusedMountedOnce}
use Rattle.driven_sessions.specs.Groups.{is_of_late_inits}
use Rattle.driven_sessions.specs.Transfers.{AreSaid}
use Rattle.driven_sessions.proofs.Calm.{AreCalm, AreShown, each_of, either, is_calm, is_shown, shown_calm, shown_pass, takes_none, written_shown}
use Rattle.driven_sessions.proofs.Doing.{behind_passes, writing_passes}
use Rattle.driven_sessions.proofs.Leading.{AreFree, free_append, never_at}
use Rattle.driven_sessions.proofs.Never.{by_judged}
use Rattle.driven_sessions.proofs.Stages.{InitsFirst, run_inits}

-- an act that begins no INIT
abbrev is_other : Act → Bool
is_other (act.Faulty fault.InitNotFirst) = false
is_other (act.Begins op.Init) = false
is_other a = true

abbrev AreOther : List Act → Type 0
AreOther acts = list_all is_other acts ≡ true

is_other_where_shown : (a : Act) → is_shown a ≡ true → is_other a ≡ true
is_other_where_shown (act.Faulty fault.InitNotFirst) is = is
is_other_where_shown (act.Faulty f) is = refl
is_other_where_shown (act.Begins o) is = absurd (false≢true is)
is_other_where_shown a is = refl

shown_other : (acts : List Act) → AreShown acts → AreOther acts
shown_other = shown_pass is_other is_other_where_shown

begins_none : (s : Session) (o : Opcode) → is_other (act.Begins o) ≡ true → BreaksBeginning s o fault.InitNotFirst → ⊥
begins_none s op.Init other b = false≢true other
begins_none s o other b = b

other_act : (s : Session) (a : Act) → is_other a ≡ true → Breaks s a fault.InitNotFirst → ⊥
other_act s (act.Faulty that) other b = false≢true (ap is_other (ap act.Faulty b) ∙ other)
other_act s (act.Begins o) other b = begins_none s o other b
other_act s (act.Takes u t body) other b = takes_none s u t body fault.InitNotFirst refl b
other_act s a other b = b

other_law : (s : Session) (a : Act) (f : Fault) → is_other a ≡ true → Breaks s a f → is_of_late_inits f ≡ true → ⊥
other_law s a fault.InitNotFirst other b is = other_act s a other b
other_law s a f other b is = false≢true is

other_free : (s : Session) (acts : List Act) → AreOther acts → AreFree is_of_late_inits s acts
other_free s [] are = tt
other_free s (a ∷ acts) are =
    let both = and_parts (is_other a) (list_all is_other acts) are in
    (λ f b is. other_law s a f both.0 b is, other_free (s ++ a ∷ []) acts both.1)

-- ---- the acts of a request that is read

forgets_other : (pairs : List (ℕ × ℕ)) → AreOther (forgets_in pairs)
forgets_other [] = refl
forgets_other (p ∷ pairs) = forgets_other pairs

doing_other : (again : Bool) (o : Opcode) (m : RequestMessage) → AreOther (doing again o m)
doing_other again op.Interrupt m = refl
doing_other again op.NotifyReply m = refl
doing_other again op.Forget m = refl
doing_other again op.BatchForget m = forgets_other (pairs_of_row (row_at op.BatchForget).tail m.tail)
doing_other again o m = either is_other again (resent o m) (asking o m (asked_of o m)) refl
    (behind_passes is_other is_other_where_shown o m (asked_of o m) (writing_passes is_other m refl o) refl)

begun_free : (s : Session) (o : Opcode) → (o ≡ op.Init → was_anything_read s ≡ false) → (f : Fault)
    → BreaksBeginning s o f → is_of_late_inits f ≡ true → ⊥
begun_free s o none fault.InitNotFirst b is = by o none b
  where
    by : (o : Opcode) → (o ≡ op.Init → was_anything_read s ≡ false) → BreaksBeginning s o fault.InitNotFirst → ⊥
    by op.Init none b = false≢true (sym (none refl) ∙ b)
    by o none b = b
begun_free s o none f b is = false≢true is

or_false : (b : Bool) → (b || false) ≡ b
or_false true = refl
or_false false = refl

quiet_reads : (s acts : List Act) → list_any is_reading acts ≡ false → was_anything_read (s ++ acts) ≡ was_anything_read s
quiet_reads s acts none =
    list_any-append is_reading s acts ∙ ap (λ b. was_anything_read s || b) none ∙ or_false (was_anything_read s)

module _ (k : Known) (frame : List ℕ) (s : Session) (acts : List Act)
    (none : nat_eq (opcode_in frame) 26 ≡ true → was_anything_read s ≡ false) where
  request_free : AreRequestActs k frame acts → AreFree is_of_late_inits s acts
  request_free (inl ((o, m), is, does)) =
      let again : Bool = k.has_resent && nat_le (2 ^ 63) m.unique in
      let begun : Session = s ++ act.Arrives ∷ [] in
      let init : o ≡ op.Init → nat_eq (opcode_in frame) 26 ≡ true =
      λ e. ap (λ (n : ℕ). nat_eq n 26) is.opcode ∙ ap (λ (p : Opcode). nat_eq (code_of p) 26) e in
      subst (AreFree is_of_late_inits s) (sym does) (
        λ f b of. other_law s act.Arrives f refl b of,
        (
          λ f b of. begun_free begun o (λ e. quiet_reads s (act.Arrives ∷ []) refl ∙ none (init e)) f b of,
          other_free (begun ++ act.Begins o ∷ []) (doing again o m) (doing_other again o m),
        ),
      )
  request_free (inr (unread, does)) = subst (AreFree is_of_late_inits s) (sym does) (other_free s
      (act.Arrives ∷ (malformed k.offered frame ++ asking_unread frame)) (each_of is_other (malformed k.offered frame)
      (asking_unread frame) (either is_other (may_be_known k.offered frame) [] (act.Faulty fault.MalformedRequest ∷ []) refl refl)
      (either is_other (has_header frame && not (takes_no_reply (opcode_in frame)))
      (act.Read None (unique_in frame) ∷ act.Asks (unique_in frame) unjudged ∷ []) [] refl refl)))

-- ---- a session

calm_reads : (acts : List Act) → AreCalm acts → list_any is_reading acts ≡ false
calm_reads [] are = refl
calm_reads (a ∷ acts) are =
    let both = and_parts (is_calm a) (list_all is_calm acts) are in
    or_from (is_reading a) (list_any is_reading acts) (by a both.0) (calm_reads acts both.1)
  where
    by : (a : Act) → is_calm a ≡ true → is_reading a ≡ false
    by (act.Read o n) is = cc
    by a is = refl

-- What is shown goes on so.
record Quiet (s acts : List Act) : Type 0 where
  free : AreFree is_of_late_inits s acts
  same : was_anything_read (s ++ acts) ≡ was_anything_read s

shown_quiet : (s acts : List Act) → AreShown acts → Quiet s acts
shown_quiet s acts are = record {
  free = other_free s acts (shown_other acts are);
  same = quiet_reads s acts (calm_reads acts (shown_calm acts are));
}

none_quiet : (s acts : List Act) → acts ≡ [] → Quiet s acts
none_quiet s acts none = shown_quiet s acts (ap (list_all is_shown) none)

written_quiet : (k : Known) (s : Session) (b : Bor (List ℕ)) (t : Taken) (acts : List Act) (later : Known)
    → AreActs k s (said.Written b t) acts later → Quiet s acts
written_quiet k s b t acts later is = by_judged (Quiet s acts) k.unjudged (AreReadActs k s (said.Written b t) acts later)
    (λ why. (acts ≡ []) × (later ≡ k)) (λ judged does. shown_quiet s acts (written_shown k b.now t s acts later does))
    (λ why unjudged none. none_quiet s acts none.0) is

ended_quiet : (k : Known) (s : Session) (acts : List Act) (later : Known) → AreActs k s said.Ended acts later → Quiet s acts
ended_quiet k s acts later is = by_judged (Quiet s acts) k.unjudged (AreReadActs k s said.Ended acts later)
    (λ why. (acts ≡ []) × (later ≡ k)) (λ judged does. shown_quiet s acts (ap (list_all is_shown) does.0))
    (λ why unjudged none. none_quiet s acts none.0) is

request_on : (k : Known) (s : Session) (b : Bor (List ℕ)) (acts : List Act) (later : Known)
    → (nat_eq (opcode_in b.now) 26 ≡ true → was_anything_read s ≡ false) → AreActs k s (said.Request b) acts later
    → AreFree is_of_late_inits s acts
request_on k s b acts later none is = by_judged (AreFree is_of_late_inits s acts) k.unjudged
    (AreReadActs k s (said.Request b) acts later) (λ why. (acts ≡ []) × (later ≡ k))
    (λ judged does. request_free k b.now s acts none does.0)
    (λ why unjudged none. subst (AreFree is_of_late_inits s) (sym none.0) tt) is

-- nothing was read where nothing was sent
unread : (any : Bool) (s : Session) → (was_anything_read s ≡ true → any ≡ true) → any ≡ false → was_anything_read s ≡ false
unread any s read none = by (was_anything_read s) refl
  where
    by : (b : Bool) → was_anything_read s ≡ b → b ≡ false
    by true is = absurd (false≢true (sym none ∙ read is))
    by false is = refl

session_free : (any : Bool) (log : List Transfer) → InitsFirst any log → (ts : List Said) → AreSaid log ts → (k : Known)
    (s : Session) → (was_anything_read s ≡ true → any ≡ true) → AreFree is_of_late_inits [] s → (later : Known)
    (all : Session) → Lead k s ts later all → AreFree is_of_late_inits [] all
session_free any [] first [] is k s read free later all leads = subst (AreFree is_of_late_inits []) (sym leads.1) free
session_free any (sent frame result ∷ log) first (said.Request b ∷ ts) is k s read free later all (acts, known, are, leads) =
    session_free true log first.1 ts is.1 known (s ++ acts) (λ any. refl) (free_append is_of_late_inits [] s acts free
    (request_on k s b acts known (λ init. unread any s read
    (first.0 (ap (λ (l : List ℕ). nat_eq (opcode_in l) 26) (sym is.0) ∙ init))) are)) later all leads
session_free any (received frame ∷ log) first (said.Written b t ∷ ts) is k s read free later all (acts, known, are, leads) =
    let quiet = written_quiet k s b t acts known are in
    session_free any log first ts is.1 known (s ++ acts) (λ was. read (sym quiet.same ∙ was))
    (free_append is_of_late_inits [] s acts free quiet.free) later all leads
session_free any (unsent frame end ∷ log) first (said.Ended ∷ ts) is k s read free later all (acts, known, are, leads) =
    let quiet = ended_quiet k s acts known are in
    session_free any log first ts is.1 known (s ++ acts) (λ was. read (sym quiet.same ∙ was))
    (free_append is_of_late_inits [] s acts free quiet.free) later all leads
session_free any (stopped end ∷ log) first (said.Ended ∷ ts) is k s read free later all (acts, known, are, leads) =
    let quiet = ended_quiet k s acts known are in
    session_free any log first ts is.1 known (s ++ acts) (λ was. read (sym quiet.same ∙ was))
    (free_append is_of_late_inits [] s acts free quiet.free) later all leads
session_free any log first ts is k s read free later all leads = absurd search

pub late_inits_never : NeverAccusedMountedOnce is_of_late_inits
late_inits_never asks log new run one s (ts, is, k, (acts, known, are, leads)) place f has of =
    let first : acts ≡ act.SeveralReaders ∷ [] = are.0 in
    never_at is_of_late_inits [] s (session_free false log (run_inits asks log new run one) ts is known acts
    (λ read. absurd (false≢true (sym (ap was_anything_read first) ∙ read)))
    (subst (AreFree is_of_late_inits []) (sym first) (other_free [] (act.SeveralReaders ∷ []) refl)) k s leads) place f has of
