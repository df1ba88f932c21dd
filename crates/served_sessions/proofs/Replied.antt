-- Each reply is read as one of the request that waits for it.
use Rattle.std.proofs.Common.{◌≡◌, ◌≢◌, ℕ, ◌-◌, ◌==◌, Bool, true, false, List, ◌++◌, length, Some, refl, sym, ◌∙◌, ap, subst, if◌then◌else◌}
use Rattle.std.specs.Prelude.{MatchBool}
use Rattle.std.proofs.lemmas.Bool.{eqb-true, false≢true, false_from_ne_true}
use Rattle.fuse_protocol.specs.declared.agreed.Agreed.{Agreed}
use Rattle.fuse_protocol.specs.declared.opcode.Opcode.{Opcode}
use Rattle.fuse_protocol.specs.declared.opcode.Opcode.TheVariants as op
use Rattle.fuse_protocol.specs.declared.row.ReplyShape.TheVariants as shape
use Rattle.fuse_protocol.specs.Requests.{IsRequest, RequestMessage, asked_at}
use Rattle.fuse_protocol.specs.Table.{row_at}
use Rattle.fuse_replies.specs.Replies.{AnswerContent, HasNames, HasSize, IsReply, ReplyMessage, answer_at, content_at, errno_in}
use Rattle.fuse_replies.specs.Replies as answer
use Rattle.fuse_sessions.specs.declared.act.Act.{Act}
use Rattle.fuse_sessions.specs.declared.act.Asked.{Asked}
use Rattle.fuse_sessions.specs.declared.act.Taken.{Taken}
use Rattle.fuse_sessions.specs.declared.fault.Fault.{Fault}
use Rattle.fuse_sessions.specs.declared.fault.Fault.TheVariants as fault
use Rattle.fuse_sessions.specs.declared.known.Known.{Known}
use Rattle.fuse_sessions.specs.Sessions.{Session}
use Rattle.fuse_sessions.specs.Waiting.{waits}
use Rattle.fuse_sessions.specs.Frames.{number_in, error_in, AreRequestActs, IsOffered}
use Rattle.fuse_sessions.specs.RequestActs.{asked_of}
use Rattle.fuse_sessions.specs.UnreadRequests.{opcode_in, takes_no_reply}
use Rattle.served_sessions.specs.Exchanges.{IsAnswer}
use Rattle.served_sessions.proofs.Answering.{row_asked}
use Rattle.served_sessions.proofs.Asking.{is_asking, is_wanted, one_number, waiting_right}
use Rattle.served_sessions.proofs.Free.{AreFree}
use Rattle.served_sessions.proofs.Kept.{Kept, kept_request}

has_reply : (o : Opcode) → is_asking o ≡ true → (row_at o).reply ≢ shape.None
has_reply op.Interrupt is none = cc
has_reply op.NotifyReply is none = cc
has_reply op.Forget is none = cc
has_reply op.BatchForget is none = cc
has_reply o is none = cc

-- An error is a reply to any request that takes one.
error_replies : (agreed : Agreed) (o : Opcode) (asked : ℕ) (request reply : List ℕ) → is_asking o ≡ true
    → IsAnswer request reply → (error_in reply == 0) ≡ false → length reply ≡ 16
    → (m : ReplyMessage) × IsReply agreed (row_at o).reply asked reply m
error_replies agreed o asked request reply wanted answers some bare = (
  record { unique = number_in reply; answer = answer_at (row_at o).reply asked reply },
  record {
    wanted = has_reply o wanted;
    frame = answers.frame;
    error = answers.error;
    body = subst (λ (b : Bool). MatchBool b (HasSize (row_at o).reply asked (length reply - 16)) (length reply ≡ 16))
        (sym some) bare;
    names = subst (λ (b : Bool). MatchBool b (HasNames agreed (row_at o).reply reply) (Unit {0})) (sym some) tt;
    unique = refl;
    answer = refl;
  },
)

-- what is no error is said by a body
told_by_body : (agreed : Agreed) (o : Opcode) (asked : ℕ) (bytes : List ℕ) (m : ReplyMessage) (content : AnswerContent)
    → IsReply agreed (row_at o).reply asked bytes m → ((errno : ℕ) → answer.failed errno ≡ content → ⊥)
    → m.answer ≡ content → (error_in bytes ≡ 0) × (content_at (row_at o).reply asked bytes ≡ content)
told_by_body agreed o asked bytes m content is no_error says = by (error_in bytes == 0) refl (is.answer ∙ says)
  where
    by : (b : Bool) → (error_in bytes == 0) ≡ b
        → (if b then content_at (row_at o).reply asked bytes else answer.failed (errno_in bytes)) ≡ content
        → (error_in bytes ≡ 0) × (content_at (row_at o).reply asked bytes ≡ content)
    by true zero e = (one_number (error_in bytes) 0 zero, e)
    by false some e = absurd (no_error (errno_in bytes) e)

-- The body of a reply says this to a request of an opcode, which waits for it.
pub record SaysBody (k : Known) (request reply : List ℕ) (a : Asked) (o : Opcode) (content : AnswerContent) : Type 0 where
  pub fine : error_in reply ≡ 0
  pub row : RequestMessage
  pub is_row : IsRequest k.agreed request (row_at o) row
  pub asked : a ≡ asked_of o row
  pub body : content_at (row_at o).reply (asked_at (row_at o).reply request) reply ≡ content

module _ (asked : Fault → Bool) (k later : Known) (s : Session) (request reply : List ℕ) (t : Taken) (acts : List Act)
    (kept : Kept (asked fault.OddNumber) k s) (answers : IsAnswer request reply) (does : AreRequestActs k request acts)
    (offers : IsOffered k request later) (free : AreFree asked s acts) where
  kept_now : Kept (asked fault.OddNumber) later (s ++ acts)
  kept_now = kept_request asked k s request acts later kept does offers free

  module _ (a : Asked) (o : Opcode) (waiting : waits (s ++ acts) (number_in reply) ≡ Some a) (by_row : a.opcode ≡ Some o) where
    wanted : is_asking o ≡ true
    wanted = ap is_wanted (sym by_row) ∙ waiting_right (s ++ acts) kept_now.right (number_in reply) a waiting

    pub reply_read : (m : ReplyMessage) × IsReply later.agreed (row_at o).reply a.asked reply m
    reply_read = by_error (error_in reply == 0) refl
      where
        by_error : (b : Bool) → (error_in reply == 0) ≡ b
            → (m : ReplyMessage) × IsReply later.agreed (row_at o).reply a.asked reply m
        by_error false some = error_replies later.agreed o a.asked request reply wanted answers some
            (answers.body.bare (λ none. false≢true (sym some ∙ ap (λ (n : ℕ). n == 0) none)))
        by_error true none =
            let fine : error_in reply ≡ 0 = eqb-true (error_in reply) 0 none in
            let takes : takes_no_reply (opcode_in request) ≡ false =
            false_from_ne_true (takes_no_reply (opcode_in request)) (λ is. answers.fails is fine) in
            let r = row_asked asked k later s request reply t acts kept answers does offers free takes a o waiting by_row in
            let room : asked_at (row_at o).reply request ≡ a.asked = r.1.asked ∙ ap (λ (x : Asked). x.asked) (sym r.3) in
            subst (λ (n : ℕ). (m : ReplyMessage) × IsReply later.agreed (row_at o).reply n reply m) room
            (answers.body.fits fine later.agreed kept_now.names o (sym r.1.opcode))

    -- what a body says, and by which request
    module _ (m : ReplyMessage) (is : IsReply later.agreed (row_at o).reply a.asked reply m) (content : AnswerContent)
        (no_error : (errno : ℕ) → answer.failed errno ≡ content → ⊥) (says : m.answer ≡ content) where
      pub body_said : SaysBody k request reply a o content
      body_said =
          let now = told_by_body later.agreed o a.asked reply m content is no_error says in
          let takes : takes_no_reply (opcode_in request) ≡ false =
          false_from_ne_true (takes_no_reply (opcode_in request)) (λ none. answers.fails none now.0) in
          let r = row_asked asked k later s request reply t acts kept answers does offers free takes a o waiting by_row in
          let room : a.asked ≡ asked_at (row_at o).reply request = ap (λ (x : Asked). x.asked) r.3 ∙ sym r.1.asked in
          record {
            fine = now.0;
            row = r.0;
            is_row = r.1;
            asked = r.3;
            body = subst (λ (n : ℕ). content_at (row_at o).reply n reply ≡ content) room now.1;
          }
