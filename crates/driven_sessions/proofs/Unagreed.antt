-- A session in which INIT's reply is not accepted yet: INIT alone was asked, and frames are read as before any agreement.
use Rattle.std.proofs.Common.{◌≡◌, inl, inr, ℕ, ◌^◌, ◌==◌, ◌||◌, ◌&&◌, Bool, true, false, cond, not, List, [], ◌∷◌, ◌++◌, Option, Some, None, filter, nat_eq, nat_le, refl, sym, ◌∙◌, ap, subst, arith}
use Rattle.std.specs.Prelude.{MatchOption}
use Rattle.std.specs.Borrow.{Bor}
use Rattle.std.specs.List.{list_all, list_any}
use Rattle.std.specs.Map.{lookup}
use Rattle.std.proofs.lemmas.Bool.{and_from, and_parts, false≢true}
use Rattle.std.proofs.lemmas.List.Folds.{list_all-append, list_any-append}
use Rattle.fuse_protocol.specs.declared.agreed.Unjudged.{Unjudged}
use Rattle.fuse_protocol.specs.declared.opcode.Opcode.{Opcode}
use Rattle.fuse_protocol.specs.declared.opcode.Opcode.TheVariants as op
use Rattle.fuse_protocol.specs.Agreement.{before_init}
use Rattle.fuse_protocol.specs.Requests.{RequestMessage}
use Rattle.fuse_protocol.specs.Table.{code_of, row_at}
use Rattle.fuse_replies.specs.Replies.{AnswerContent}
use Rattle.fuse_replies.specs.Replies as answer
use Rattle.fuse_sessions.specs.declared.act.Act.{Act}
use Rattle.fuse_sessions.specs.declared.act.Act.TheVariants as act
use Rattle.fuse_sessions.specs.declared.act.Asked.{Asked}
use Rattle.fuse_sessions.specs.declared.act.Fit.{Fit}
use Rattle.fuse_sessions.specs.declared.act.Taken.{Taken}
use Rattle.fuse_sessions.specs.declared.act.Taken.TheVariants as taken
use Rattle.fuse_sessions.specs.declared.known.Known.{Known}
use Rattle.fuse_sessions.specs.declared.transfer.Transfer.{Transfer as Said}
use Rattle.fuse_sessions.specs.declared.transfer.Transfer.TheVariants as said
use Rattle.fuse_sessions.specs.Fits.{fit_in}
use Rattle.fuse_sessions.specs.Frames.{AreActs, AreReadActs, IsNotified, IsReplyBy, IsReplyTo, IsTold, IsWritten, init_acts, interrupt_acts, is_resend, is_to_interrupt, known_resent, number_in, replied, said_acts}
use Rattle.fuse_sessions.specs.Numbers.{is_agreement}
use Rattle.fuse_sessions.specs.RequestActs.{asked_of, asking, doing, resent}
use Rattle.fuse_sessions.specs.Sessions.{Session}
use Rattle.fuse_sessions.specs.UnreadRequests.{opcode_in}
use Rattle.fuse_sessions.specs.Waiting.{asked_by, ends, waiting, waits}
use Rattle.protocol_law.specs.Law.{Carries}
use Rattle.driven_sessions.specs.Transfers.{IsShaped}
use Rattle.driven_sessions.proofs.Calm.{by_bool, each_of, either, is_shown, shown_pass, written_shown}
use Rattle.driven_sessions.proofs.Doing.{behind_passes, writing_passes}
use Rattle.driven_sessions.proofs.Timely.{AreTimely, init_timely, is_timely}

-- ---- what was asked

-- INIT
abbrev pub is_init : Option Opcode → Bool
is_init (Some op.Init) = true
is_init o = false

-- nothing else is asked
abbrev pub asks_init : Act → Bool
asks_init (act.Asks unique asked) = is_init asked.opcode
asks_init a = true

abbrev pub AskInit : List Act → Type 0
AskInit acts = list_all asks_init acts ≡ true

abbrev of_init : ℕ × Asked → Bool
of_init e = is_init e.1.opcode

kept_init : (test : ℕ × Asked → Bool) (es : List (ℕ × Asked)) → list_all of_init es ≡ true
    → list_all of_init (filter test es) ≡ true
kept_init test [] all = refl
kept_init test (e ∷ es) all =
    let both = and_parts (of_init e) (list_all of_init es) all in by (test e) both.0 (kept_init test es both.1)
  where
    by : (b : Bool) → of_init e ≡ true → list_all of_init (filter test es) ≡ true
        → list_all of_init (cond b (e ∷ filter test es) (filter test es)) ≡ true
    by true first rest = and_from (of_init e) (list_all of_init (filter test es)) first rest
    by false first rest = rest

asked_init : (a : Act) → asks_init a ≡ true → list_all of_init (asked_by a) ≡ true
asked_init (act.Asks unique asked) is = and_from (is_init asked.opcode) true is refl
asked_init a is = refl

waiting_init : (s : Session) → AskInit s → list_all of_init (waiting s) ≡ true
waiting_init [] are = refl
waiting_init (a ∷ later) are =
    let both = and_parts (asks_init a) (list_all asks_init later) are in
    list_all-append of_init (filter (λ e. not (list_any (ends e.0) later)) (asked_by a)) (waiting later)
    ∙ and_from (list_all of_init (filter (λ e. not (list_any (ends e.0) later)) (asked_by a)))
    (list_all of_init (waiting later)) (kept_init _ (asked_by a) (asked_init a both.0)) (waiting_init later both.1)

found_init : (unique : ℕ) (es : List (ℕ × Asked)) (a : Asked) → list_all of_init es ≡ true
    → lookup (nat_eq unique) es ≡ Some a → is_init a.opcode ≡ true
found_init unique [] a all there = absurd (cc there)
found_init unique (e ∷ es) a all there =
    let both = and_parts (of_init e) (list_all of_init es) all in
    by (nat_eq unique e.0) both.0 (found_init unique es a both.1) there
  where
    asks : Option Asked → Bool
    asks None = true
    asks (Some asked) = is_init asked.opcode

    by : (b : Bool) → of_init e ≡ true → (lookup (nat_eq unique) es ≡ Some a → is_init a.opcode ≡ true)
        → cond b (Some e.1) (lookup (nat_eq unique) es) ≡ Some a → is_init a.opcode ≡ true
    by true first rest there = sym (ap asks there) ∙ first
    by false first rest there = rest there

-- What waits is INIT.
pub waits_init : (s : Session) → AskInit s → (unique : ℕ) (a : Asked) → waits s unique ≡ Some a → is_init a.opcode ≡ true
waits_init s are unique a there = found_init unique (waiting s) a (waiting_init s are) there

asks_where_shown : (a : Act) → is_shown a ≡ true → asks_init a ≡ true
asks_where_shown (act.Asks unique asked) is = absurd (false≢true is)
asks_where_shown a is = refl

-- ---- what is known

-- Frames are read as before.
abbrev ReadAs : Known → Known → Type 0
ReadAs k later = (later.agreed ≡ k.agreed) × (later.unjudged ≡ k.unjudged)

same_read : (k later : Known) → later ≡ k → ReadAs k later
same_read k later same = (ap (λ (x : Known). x.agreed) same, ap (λ (x : Known). x.unjudged) same)

resent_read : (k later : Known) (again : Bool) → later ≡ known_resent k again → ReadAs k later
resent_read k later true same = (ap (λ (x : Known). x.agreed) same, ap (λ (x : Known). x.unjudged) same)
resent_read k later false same = same_read k later same

or_true : (b : Bool) → (b || true) ≡ true
or_true true = refl
or_true false = refl

pub agrees_last : (xs ys : List Act) (n : ℕ) → list_any is_agreement (xs ++ (ys ++ act.Agrees n ∷ [])) ≡ true
agrees_last xs ys n = list_any-append is_agreement xs (ys ++ act.Agrees n ∷ [])
    ∙ ap (λ (b : Bool). list_any is_agreement xs || b)
    (list_any-append is_agreement ys (act.Agrees n ∷ []) ∙ or_true (list_any is_agreement ys))
    ∙ or_true (list_any is_agreement xs)

module _ (k : Known) (bytes : List ℕ) where
  -- An accepted reply to INIT agrees.
  told_read : (t : Taken) (o : Opcode) (a : Asked) (body : Fit) (content : AnswerContent) (acts : List Act) (later : Known)
      → acts ≡ replied bytes t body ++ said_acts k o a t content → list_any is_agreement acts ≡ false
      → IsTold k t content later → ReadAs k later
  told_read taken.Accepted o a body (answer.init i) acts later does none told =
      absurd (false≢true (sym none ∙ (ap (list_any is_agreement) does
      ∙ agrees_last (replied bytes taken.Accepted body) (init_acts k.offered (answer.init i)) i.max_write)))
  told_read t o a body content acts later does none told = same_read k later told

  by_read : (t : Taken) (o : Option Opcode) (a : Asked) (acts : List Act) (later : Known)
      → IsReplyBy k bytes t o a acts later → list_any is_agreement acts ≡ false → ReadAs k later
  by_read t None a acts later is none = same_read k later is.1
  by_read t (Some o) a acts later (inl (m, reads, says)) none =
      told_read t o a (fit_in (row_at o).reply a.asked bytes) m.answer acts later says.0 none says.1
  by_read t (Some o) a acts later (inr (bad, is)) none = same_read k later is.1

  to_read : (t : Taken) (o : Option Asked) (acts : List Act) (later : Known) → IsReplyTo k bytes t o acts later
      → list_any is_agreement acts ≡ false → ReadAs k later
  to_read t None acts later is none = same_read k later is.1
  to_read t (Some a) acts later is none = by_read t a.opcode a acts later is none

  notified_read : (t : Taken) (acts : List Act) (later : Known) → IsNotified k bytes t acts later → ReadAs k later
  notified_read t acts later (inl (m, reads, says)) = resent_read k later (is_resend bytes t) says.1
  notified_read t acts later (inr (bad, is)) = same_read k later is.1

  written_read : (s : Session) (t : Taken) (acts : List Act) (later : Known) → IsWritten k s bytes t acts later
      → list_any is_agreement acts ≡ false → ReadAs k later
  written_read s t acts later (inl (head, is)) none = by_bool (number_in bytes == 0) (ReadAs k later) _ _
      (λ zero. notified_read t acts later)
      (λ some. by_bool (is_to_interrupt (number_in bytes) (waits s (number_in bytes))) (ReadAs k later)
      ((acts ≡ interrupt_acts bytes t) × (later ≡ k)) _ (λ interrupt does. same_read k later does.1)
      (λ other does. to_read t (waits s (number_in bytes)) acts later does none)) is
  written_read s t acts later (inr (bad, does, same)) none = same_read k later same

-- ---- while nothing is agreed on

pub record Unagreed (k : Known) (s : Session) : Type 0 where
  pub agreed : k.agreed ≡ before_init
  pub unjudged : k.unjudged ≡ None
  pub asks : AskInit s

more_asked : (s acts : List Act) → AskInit s → AskInit acts → AskInit (s ++ acts)
more_asked s acts were are = each_of asks_init s acts were are

go_on : (k : Known) (s : Session) (acts : List Act) (later : Known) → Unagreed k s → ReadAs k later → AskInit acts
    → Unagreed later (s ++ acts)
go_on k s acts later was reads asks = record {
  agreed = reads.0 ∙ was.agreed;
  unjudged = reads.1 ∙ was.unjudged;
  asks = more_asked s acts was.asks asks;
}

pub judged_acts : (k : Known) (s : Session) (t : Said) (acts : List Act) (later : Known) → k.unjudged ≡ None
    → AreActs k s t acts later → AreReadActs k s t acts later
judged_acts k s t acts later judged are = subst (λ (o : Option Unjudged).
    MatchOption o (AreReadActs k s t acts later) (λ why. (acts ≡ []) × (later ≡ k))) judged are

module _ (k : Known) (s : Session) (was : Unagreed k s) (acts : List Act) (later : Known) where
  -- What a server writes agrees, or changes nothing.
  pub written_on : (b : Bor (List ℕ)) (t : Taken) → AreActs k s (said.Written b t) acts later
      → list_any is_agreement acts ≡ false → Unagreed later (s ++ acts)
  written_on b t are none =
      let does = judged_acts k s (said.Written b t) acts later was.unjudged are in
      go_on k s acts later was (written_read k b.now s t acts later does none)
      (shown_pass asks_init asks_where_shown acts (written_shown k b.now t s acts later does))

  pub ended_on : AreActs k s said.Ended acts later → Unagreed later (s ++ acts)
  ended_on are =
      let does = judged_acts k s said.Ended acts later was.unjudged are in
      go_on k s acts later was (same_read k later does.1) (ap (list_all asks_init) does.0)

  -- ---- INIT

  code_is_init : (o : Opcode) → nat_eq (code_of o) 26 ≡ true → o ≡ op.Init
  code_is_init op.Init is = refl
  code_is_init o is = absurd (false≢true is)

  init_asks : (again : Bool) (m : RequestMessage) → AskInit (act.Arrives ∷ act.Begins op.Init ∷ doing again op.Init m)
  init_asks again m = either asks_init again (resent op.Init m) (asking op.Init m (asked_of op.Init m)) refl
      (behind_passes asks_init asks_where_shown op.Init m (asked_of op.Init m) (writing_passes asks_init m refl op.Init) refl)

  pub record IsInitOn : Type 0 where
    pub goes : Unagreed later (s ++ acts)
    pub timely : AreTimely false acts

  pub init_on : (b : Bor (List ℕ)) → IsShaped b.now → nat_eq (opcode_in b.now) 26 ≡ true
      → AreActs k s (said.Request b) acts later → IsInitOn
  init_on b shaped init are = by (judged_acts k s (said.Request b) acts later was.unjudged are)
    where
      carries : Carries k.agreed
      carries = subst Carries (sym was.agreed) (record { from_umask = omega arith; no_extensions = refl; names = omega arith })

      read_as : AreReadActs k s (said.Request b) acts later → ReadAs k later
      read_as (does, inl (first, same)) = (ap (λ (x : Known). x.agreed) same, ap (λ (x : Known). x.unjudged) same)
      read_as (does, inr (other, same)) = same_read k later same

      by : AreReadActs k s (said.Request b) acts later → IsInitOn
      by (inl ((o, m), is, does), offered) =
          let same : o ≡ op.Init = code_is_init o (sym (ap (λ (n : ℕ). nat_eq n 26) is.opcode) ∙ init) in
          let again : Bool = k.has_resent && nat_le (2 ^ 63) m.unique in
          let acts_are : acts ≡ act.Arrives ∷ act.Begins op.Init ∷ doing again op.Init m =
          does ∙ ap (λ (p : Opcode). act.Arrives ∷ act.Begins p ∷ doing again p m) same in record {
            goes = go_on k s acts later was (read_as (inl ((o, m), is, does), offered))
                (ap (list_all asks_init) acts_are ∙ init_asks again m);
            timely = ap (list_all (is_timely false)) acts_are ∙ init_timely again m;
          }
      by (inr (none, does), offered) = let one = shaped k.agreed carries in absurd (none (one.0, one.1) one.2)
