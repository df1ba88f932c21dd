-- Frames that answer keep to their header, and to what INIT's request and reply say.
use Rattle.std.proofs.Common.{◌≡◌, ◌⊎◌, inl, inr, ℕ, ◌==◌, Bool, true, false, List, [], ◌∷◌, ◌++◌, Option, Some, None, refl, sym, ◌∙◌, ap, subst, nat_eq, bit_and, if◌then◌else◌, arith, rules}
use Rattle.std.specs.Prelude.{MatchBool, drop}
use Rattle.fk_fields.specs.Fields.{number_at}
use Rattle.std.proofs.lemmas.Bool.{true≢false, false_from_ne_true}
use Rattle.fuse_protocol.specs.declared.agreed.Agreed.{Agreed}
use Rattle.fuse_protocol.specs.declared.init.InitRequest.{InitRequest}
use Rattle.fuse_protocol.specs.declared.init.InitReply.{InitReply}
use Rattle.fuse_protocol.specs.declared.opcode.Opcode.{Opcode}
use Rattle.fuse_protocol.specs.declared.opcode.Opcode.TheVariants as op
use Rattle.fuse_protocol.specs.Init.{init_request_at, init_reply_at}
use Rattle.fuse_protocol.specs.Inits.{IsInit}
use Rattle.fuse_protocol.specs.Requests.{RequestMessage, IsRequest}
use Rattle.fuse_protocol.specs.Table.{row_at}
use Rattle.fuse_replies.specs.Replies.{AnswerContent, ReplyMessage, IsReply, IsErrorWord, content_at, errno_in}
use Rattle.fuse_replies.specs.Replies as answer
use Rattle.fuse_sessions.specs.declared.act.Act.{Act}
use Rattle.fuse_sessions.specs.declared.act.Act.TheVariants as act
use Rattle.fuse_sessions.specs.declared.act.Asked.{Asked}
use Rattle.fuse_sessions.specs.declared.act.Taken.{Taken}
use Rattle.fuse_sessions.specs.declared.fault.Fault.{Fault}
use Rattle.fuse_sessions.specs.declared.fault.Fault.TheVariants as fault
use Rattle.fuse_sessions.specs.declared.known.Known.{Known}
use Rattle.fuse_sessions.specs.Sessions.{Session}
use Rattle.fuse_sessions.specs.Waiting.{waits}
use Rattle.fuse_sessions.specs.Numbers.{was_anything_read, is_reading}
use Rattle.fuse_sessions.specs.Faults.{BreaksReply, BreaksReplyToInterrupt}
use Rattle.fuse_sessions.specs.Frames.{number_in, error_in, of_version, of_offered, AreRequestActs, IsRequestOf, IsOffered, IsHead}
use Rattle.fuse_sessions.specs.RequestActs.{asked_of, request_acts}
use Rattle.fuse_sessions.specs.UnreadRequests.{opcode_in, unique_in, takes_no_reply}
use Rattle.served_sessions.specs.Exchanges.{AgreesOn, IsAnswer, IsPlainInit}
use Rattle.served_sessions.specs.Groups.{is_of_numbers}
use Rattle.served_sessions.proofs.Free.{AreFree}
use Rattle.served_sessions.proofs.Asking.{waits_now, one_number}
use Rattle.served_sessions.proofs.Kept.{Kept, any_before}
use Rattle.served_sessions.proofs.Requested.{AsksBy, request_asks}

pub is_head : (request reply : List ℕ) → IsAnswer request reply → IsHead reply
is_head request reply answer = (answer.frame, by (number_in reply == 0))
  where
    by : (b : Bool) → MatchBool b (Unit {0}) (IsErrorWord (error_in reply))
    by true = tt
    by false = answer.error

some_asked : (a b : Asked) → ◌≡◌ {A = Option Asked} (Some a) (Some b) → a ≡ b
some_asked a b same = ap of same
  where
    of : Option Asked → Asked
    of None = a
    of (Some x) = x

init_of : (i j : InitReply) → ◌≡◌ {A = AnswerContent} (answer.init i) (answer.init j) → i ≡ j
init_of i j same = ap of same
  where
    of : AnswerContent → InitReply
    of (answer.init x) = x
    of content = i

-- ---- what faults of replies there are

pub reply_faults : (s : Session) (u : ℕ) (f : Fault) → BreaksReply s u f → (is_of_numbers f ≡ true) × (waits s u ≡ None)
reply_faults s u fault.ReplyToForget b = (refl, b.0)
reply_faults s u fault.SecondReply b = (refl, b.0)
reply_faults s u fault.ReplyToNothing b = (refl, b.0)
reply_faults s u f b = absurd b

pub interrupt_faults : (s : Session) (o : ℕ) (again : Bool) (t : Taken) (f : Fault) → BreaksReplyToInterrupt s o again t f
    → (is_of_numbers f ≡ true) ⊎ (f ≡ fault.AgainTooOften)
interrupt_faults s o again t fault.ReplyToNothing b = inl refl
interrupt_faults s o again t fault.ReplyToNoInterrupt b = inl refl
interrupt_faults s o again t fault.AgainTooOften b = inr refl
interrupt_faults s o again t f b = absurd b

-- ---- a reply to INIT

module _ (agreed : Agreed) (o : Opcode) (asked : ℕ) (bytes : List ℕ) (m : ReplyMessage)
    (is : IsReply agreed (row_at o).reply asked bytes m) (i : InitReply) (says : m.answer ≡ answer.init i) where
  by_error : (b : Bool) → (error_in bytes == 0) ≡ b
      → (if b then content_at (row_at o).reply asked bytes else answer.failed (errno_in bytes)) ≡ answer.init i
      → (error_in bytes ≡ 0) × (content_at (row_at o).reply asked bytes ≡ answer.init i)
  by_error true zero e = (one_number (error_in bytes) 0 zero, e)
  by_error false some e = let no : ◌≡◌ {A = AnswerContent} (answer.failed (errno_in bytes)) (answer.init i) = e in cc

  is_init : (error_in bytes ≡ 0) × (content_at (row_at o).reply asked bytes ≡ answer.init i)
  is_init = by_error (error_in bytes == 0) refl (is.answer ∙ says)

  of_init : (o : Opcode) → content_at (row_at o).reply asked bytes ≡ answer.init i
      → (o ≡ op.Init) × (i ≡ init_reply_at bytes)
  of_init op.Init e = (refl, sym (init_of (init_reply_at bytes) i e))
  of_init op.Getxattr e = absurd (sized (asked == 0) e)
    where
      sized : (b : Bool) → (if b then answer.number (number_at 16 4 bytes) else answer.raw (drop 16 bytes)) ≡ answer.init i → ⊥
      sized true e = let no : ◌≡◌ {A = AnswerContent} (answer.number (number_at 16 4 bytes)) (answer.init i) = e in cc
      sized false e = let no : ◌≡◌ {A = AnswerContent} (answer.raw (drop 16 bytes)) (answer.init i) = e in cc
  of_init op.Listxattr e = absurd (sized (asked == 0) e)
    where
      sized : (b : Bool) → (if b then answer.number (number_at 16 4 bytes) else answer.raw (drop 16 bytes)) ≡ answer.init i → ⊥
      sized true e = let no : ◌≡◌ {A = AnswerContent} (answer.number (number_at 16 4 bytes)) (answer.init i) = e in cc
      sized false e = let no : ◌≡◌ {A = AnswerContent} (answer.raw (drop 16 bytes)) (answer.init i) = e in cc
  of_init o e = cc

same : (n : ℕ) → nat_eq n n ≡ true
same n = grind (arith, rules)

pub version_none : (i : InitReply) → i.major ≡ 7 → of_version i ≡ []
version_none i is = rw is refl

pub offered_none : (r : InitRequest) (i : InitReply) → bit_and i.flags r.flags ≡ i.flags → of_offered r i ≡ []
offered_none r i is =
    let equal : (bit_and i.flags r.flags == i.flags) ≡ true = rw is (same i.flags) in
    rw equal refl

-- ---- a frame that answers

module _ (asked : Fault → Bool) (k later : Known) (s : Session) (request reply : List ℕ) (t : Taken) (acts : List Act)
    (kept : Kept (asked fault.OddNumber) k s) (answers : IsAnswer request reply) (does : AreRequestActs k request acts)
    (offers : IsOffered k request later) (free : AreFree asked s acts) where
  u : ℕ
  u = number_in reply

  -- where the request takes a reply it waits for this one
  pub waits_for : takes_no_reply (opcode_in request) ≡ false
      → (a : AsksBy k.agreed request acts) × (waits (s ++ acts) (number_in reply) ≡ Some a.asked)
  waits_for wanted =
      let a = request_asks k request acts kept.not_resent answers.header wanted does in
      (a, ap (waits (s ++ acts)) answers.number ∙ waits_now acts (unique_in request) a.asked a.ask s)

  -- and it is what was asked now
  pub row_asked : takes_no_reply (opcode_in request) ≡ false → (a : Asked) (o : Opcode)
      → waits (s ++ acts) (number_in reply) ≡ Some a → a.opcode ≡ Some o
      → (n : RequestMessage) × IsRequestOf k.agreed request (o, n) × (acts ≡ request_acts false o n) × (a ≡ asked_of o n)
  row_asked wanted a o waiting by_row =
      let w = waits_for wanted in
      let same : a ≡ w.0.asked = some_asked a w.0.asked (sym waiting ∙ w.1) in
      let r = w.0.of_row o (ap (λ (x : Asked). x.opcode) (sym same) ∙ by_row) in
      (r.0, r.1, r.2, same ∙ r.3)

  -- what INIT's reply agrees on, read as a reply to what waits
  module _ (a : Asked) (o : Opcode) (m : ReplyMessage) (waiting : waits (s ++ acts) (number_in reply) ≡ Some a)
      (by_row : a.opcode ≡ Some o) (is : IsReply later.agreed (row_at o).reply a.asked reply m) (i : InitReply)
      (says : m.answer ≡ answer.init i) where
    no_error : error_in reply ≡ 0
    no_error = (is_init later.agreed o a.asked reply m is i says).0

    wanted : takes_no_reply (opcode_in request) ≡ false
    wanted = false_from_ne_true (takes_no_reply (opcode_in request)) (λ none. answers.fails none no_error)

    init_is : (o ≡ op.Init) × (i ≡ init_reply_at reply)
    init_is = of_init later.agreed o a.asked reply m is i says o
        (is_init later.agreed o a.asked reply m is i says).1

    row : (n : RequestMessage) × IsRequestOf k.agreed request (op.Init, n) × (acts ≡ request_acts false op.Init n)
    row =
        let r = row_asked wanted a o waiting by_row in
        subst (λ (p : Opcode). (n : RequestMessage) × IsRequestOf k.agreed request (p, n)
        × (acts ≡ request_acts false p n)) init_is.0 (r.0, r.1, r.2)

    pub agrees_on : AgreesOn request reply
    agrees_on = answers.init row.1.opcode no_error

    pub init_said : i ≡ init_reply_at reply
    init_said = init_is.1

    pub plain_init : IsPlainInit i
    plain_init = subst IsPlainInit (sym init_said) agrees_on.plain

    -- the first INIT is what was offered
    pub offered_now : asked fault.InitNotFirst ≡ true → later.offered ≡ Some (init_request_at request)
    offered_now first = by offers
      where
        begins : AreFree asked s (request_acts false op.Init row.0)
        begins = subst (AreFree asked s) row.2 free

        unread : was_anything_read s ≡ false
        unread = false_from_ne_true (was_anything_read s)
            (λ read. begins.1.0 fault.InitNotFirst (any_before is_reading s (act.Arrives ∷ []) read) first)

        none_offered : (x : Option InitRequest) → k.offered ≡ x → x ≡ None
        none_offered None is = refl
        none_offered (Some r) is = absurd (true≢false (sym (kept.offered r is) ∙ unread))

        none : k.offered ≡ None
        none = none_offered k.offered refl

        init : IsInit request
        init = (row.0, subst (λ (g : Agreed). IsRequest g request (row_at op.Init) row.0) (kept.before none) row.1)

        by : IsOffered k request later → later.offered ≡ Some (init_request_at request)
        by (inl (first_one, is_now)) = ap (λ (x : Known). x.offered) is_now
        by (inr (other, is_now)) = absurd (other (none, init))
