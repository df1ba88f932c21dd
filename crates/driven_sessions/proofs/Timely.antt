-- The acts by which no request comes before INIT's reply is accepted: all but those that begin one, and those too once a
-- session has agreed.
use Rattle.std.proofs.Common.{◌≡◌, ◌^◌, inl, inr, Bool, true, false, ◌&&◌, ◌||◌, not, List, [], ◌∷◌, ◌++◌, None, nat_le, refl, sym, ◌∙◌, ap, subst, ℕ}
use Rattle.std.specs.List.{list_all, list_any}
use Rattle.std.proofs.lemmas.Bool.{and_parts, false≢true}
use Rattle.std.proofs.lemmas.List.Folds.{list_any-append}
use Rattle.fuse_protocol.specs.declared.opcode.Opcode.{Opcode}
use Rattle.fuse_protocol.specs.declared.opcode.Opcode.TheVariants as op
use Rattle.fuse_protocol.specs.Pairs.{pairs_of_row}
use Rattle.fuse_protocol.specs.Requests.{RequestMessage}
use Rattle.fuse_protocol.specs.Table.{row_at}
use Rattle.fuse_sessions.specs.declared.act.Act.{Act}
use Rattle.fuse_sessions.specs.declared.act.Act.TheVariants as act
use Rattle.fuse_sessions.specs.declared.fault.Fault.{Fault}
use Rattle.fuse_sessions.specs.declared.fault.Fault.TheVariants as fault
use Rattle.fuse_sessions.specs.declared.known.Known.{Known}
use Rattle.fuse_sessions.specs.declared.transfer.Transfer.{Transfer as Said}
use Rattle.fuse_sessions.specs.declared.transfer.Transfer.TheVariants as said
use Rattle.fuse_sessions.specs.Faults.{Breaks, BreaksBeginning}
use Rattle.fuse_sessions.specs.Frames.{AreActs, AreReadActs, AreRequestActs, Lead}
use Rattle.fuse_sessions.specs.Numbers.{has_agreed, is_agreement}
use Rattle.fuse_sessions.specs.RequestActs.{asked_of, asking, doing, forgets_in, resent}
use Rattle.fuse_sessions.specs.Sessions.{Session}
use Rattle.fuse_sessions.specs.UnreadRequests.{asking_unread, has_header, malformed, may_be_known, opcode_in, takes_no_reply, unique_in, unjudged}
use Rattle.driven_sessions.specs.Groups.{is_of_early_requests}
use Rattle.driven_sessions.proofs.Calm.{AreShown, each_of, either, is_shown, shown_pass, takes_none, written_shown}
use Rattle.driven_sessions.proofs.Doing.{behind_passes, writing_passes}
use Rattle.driven_sessions.proofs.Leading.{AreFree, free_append}
use Rattle.driven_sessions.proofs.Never.{by_judged}

-- It is no such fault, and begins no request but INIT, unless something was agreed on.
abbrev pub is_timely : (agreed : Bool) → Act → Bool
is_timely agreed (act.Faulty fault.RequestBeforeInit) = false
is_timely agreed (act.Begins op.Init) = true
is_timely agreed (act.Begins o) = agreed
is_timely agreed a = true

abbrev pub AreTimely : (agreed : Bool) → List Act → Type 0
AreTimely agreed acts = list_all (is_timely agreed) acts ≡ true

-- ---- no such act shows one

begins_none : (s : Session) (o : Opcode) (agreed : Bool) → (agreed ≡ true → has_agreed s ≡ true)
    → is_timely agreed (act.Begins o) ≡ true → BreaksBeginning s o fault.RequestBeforeInit → ⊥
begins_none s op.Init agreed has timely b = b
begins_none s o agreed has timely b = false≢true (sym b ∙ has timely)

timely_act : (s : Session) (a : Act) (agreed : Bool) → (agreed ≡ true → has_agreed s ≡ true) → is_timely agreed a ≡ true
    → Breaks s a fault.RequestBeforeInit → ⊥
timely_act s (act.Faulty that) agreed has timely b = false≢true (ap (is_timely agreed) (ap act.Faulty b) ∙ timely)
timely_act s (act.Begins o) agreed has timely b = begins_none s o agreed has timely b
timely_act s (act.Takes u t body) agreed has timely b = takes_none s u t body fault.RequestBeforeInit refl b
timely_act s a agreed has timely b = b

timely_law : (s : Session) (a : Act) (agreed : Bool) → (agreed ≡ true → has_agreed s ≡ true) → is_timely agreed a ≡ true
    → (f : Fault) → Breaks s a f → is_of_early_requests f ≡ true → ⊥
timely_law s a agreed has timely fault.RequestBeforeInit b is = timely_act s a agreed has timely b
timely_law s a agreed has timely f b is = false≢true is

pub still_agreed : (s acts : List Act) → has_agreed s ≡ true → has_agreed (s ++ acts) ≡ true
still_agreed s acts has = list_any-append is_agreement s acts ∙ ap (λ (b : Bool). b || list_any is_agreement acts) has

pub timely_free : (s : Session) (acts : List Act) (agreed : Bool) → (agreed ≡ true → has_agreed s ≡ true)
    → AreTimely agreed acts → AreFree is_of_early_requests s acts
timely_free s [] agreed has are = tt
timely_free s (a ∷ acts) agreed has are =
    let both = and_parts (is_timely agreed a) (list_all (is_timely agreed) acts) are in (
      timely_law s a agreed has both.0,
      timely_free (s ++ a ∷ []) acts agreed (λ yes. still_agreed s (a ∷ []) (has yes)) both.1,
    )

-- ---- which acts are such

is_timely_where_shown : (agreed : Bool) (a : Act) → is_shown a ≡ true → is_timely agreed a ≡ true
is_timely_where_shown agreed (act.Faulty fault.RequestBeforeInit) is = is
is_timely_where_shown agreed (act.Faulty f) is = refl
is_timely_where_shown agreed (act.Begins o) is = absurd (false≢true is)
is_timely_where_shown agreed a is = refl

shown_timely : (agreed : Bool) (acts : List Act) → AreShown acts → AreTimely agreed acts
shown_timely agreed = shown_pass (is_timely agreed) (is_timely_where_shown agreed)

forgets_timely : (agreed : Bool) (pairs : List (ℕ × ℕ)) → AreTimely agreed (forgets_in pairs)
forgets_timely agreed [] = refl
forgets_timely agreed (p ∷ pairs) = forgets_timely agreed pairs

doing_timely : (agreed again : Bool) (o : Opcode) (m : RequestMessage) → AreTimely agreed (doing again o m)
doing_timely agreed again op.Interrupt m = refl
doing_timely agreed again op.NotifyReply m = refl
doing_timely agreed again op.Forget m = refl
doing_timely agreed again op.BatchForget m = forgets_timely agreed (pairs_of_row (row_at op.BatchForget).tail m.tail)
doing_timely agreed again o m = either (is_timely agreed) again (resent o m) (asking o m (asked_of o m)) refl
    (behind_passes (is_timely agreed) (is_timely_where_shown agreed) o m (asked_of o m)
    (writing_passes (is_timely agreed) m refl o) refl)

-- what an INIT is, and what any request is once something was agreed on
begins_timely : (o : Opcode) → is_timely true (act.Begins o) ≡ true
begins_timely op.Init = refl
begins_timely o = refl

module _ (k : Known) (bytes : List ℕ) (acts : List Act) where
  pub request_timely : AreRequestActs k bytes acts → AreTimely true acts
  request_timely (inl ((o, m), is, does)) = ap (list_all (is_timely true)) does
      ∙ each_of (is_timely true) (act.Begins o ∷ []) (doing (k.has_resent && nat_le (2 ^ 63) m.unique) o m)
      (ap (λ (b : Bool). b && true) (begins_timely o)) (doing_timely true (k.has_resent && nat_le (2 ^ 63) m.unique) o m)
  request_timely (inr (unread, does)) = ap (list_all (is_timely true)) does
      ∙ each_of (is_timely true) (malformed k.offered bytes) (asking_unread bytes)
      (either (is_timely true) (may_be_known k.offered bytes) [] (act.Faulty fault.MalformedRequest ∷ []) refl refl)
      (either (is_timely true) (has_header bytes && not (takes_no_reply (opcode_in bytes)))
      (act.Read None (unique_in bytes) ∷ act.Asks (unique_in bytes) unjudged ∷ []) [] refl refl)

pub init_timely : (again : Bool) (m : RequestMessage)
    → AreTimely false (act.Arrives ∷ act.Begins op.Init ∷ doing again op.Init m)
init_timely again m = doing_timely false again op.Init m

-- ---- transfers

-- It is no request, unless something was agreed on.
abbrev pub MayBe : (agreed : Bool) → Said → Type 0
MayBe agreed (said.Request bytes) = agreed ≡ true
MayBe agreed t = Unit {0}

module _ (k : Known) (s : Session) (acts : List Act) (later : Known) (agreed : Bool) where
  read_timely : (t : Said) → MayBe agreed t → AreReadActs k s t acts later → AreTimely agreed acts
  read_timely (said.Request bytes) may is =
      subst (λ (b : Bool). AreTimely b acts) (sym may) (request_timely k bytes.now acts is.0)
  read_timely (said.Written bytes t) may is = shown_timely agreed acts (written_shown k bytes.now t s acts later is)
  read_timely said.SeveralReaders may is = ap (list_all (is_timely agreed)) is.0
  read_timely said.SeveralWriters may is = ap (list_all (is_timely agreed)) is.0
  read_timely said.Ended may is = ap (list_all (is_timely agreed)) is.0

  pub said_timely : (t : Said) → MayBe agreed t → AreActs k s t acts later → AreTimely agreed acts
  said_timely t may is = by_judged (AreTimely agreed acts) k.unjudged (AreReadActs k s t acts later)
      (λ why. (acts ≡ []) × (later ≡ k)) (λ judged does. read_timely t may does)
      (λ why unjudged none. ap (list_all (is_timely agreed)) none.0) is

may_be : (t : Said) → MayBe true t
may_be (said.Request bytes) = refl
may_be (said.Written bytes t) = tt
may_be said.SeveralReaders = tt
may_be said.SeveralWriters = tt
may_be said.Ended = tt

-- What is so of a session from its agreement on.
pub record AgreedFree (s : Session) : Type 0 where
  pub agreed : has_agreed s ≡ true
  pub free : AreFree is_of_early_requests [] s

pub agreed_on : (ts : List Said) (k : Known) (s : Session) (later : Known) (all : Session) → Lead k s ts later all
    → AgreedFree s → AgreedFree all
agreed_on [] k s later all leads was = subst AgreedFree (sym leads.1) was
agreed_on (t ∷ ts) k s later all (acts, known, are, leads) was = agreed_on ts known (s ++ acts) later all leads (record {
  agreed = still_agreed s acts was.agreed;
  free = free_append is_of_early_requests [] s acts was.free
      (timely_free s acts true (λ yes. was.agreed) (said_timely k s acts known true t (may_be t) are));
})
