-- A transfer's acts are settled by what was before it, and a session goes on by one more transfer.
use Rattle.std.proofs.Common.{◌≡◌, ℕ, Bool, true, false, inl, inr, List, [], ◌∷◌, ◌++◌, Option, Some, None, refl, sym, ◌∙◌, ap, subst}
use Rattle.std.specs.Prelude.{MatchBool, MatchOption}
use Rattle.fuse_protocol.specs.declared.agreed.Agreed.{Agreed}
use Rattle.fuse_protocol.specs.declared.agreed.Unjudged.{Unjudged}
use Rattle.fuse_protocol.specs.declared.opcode.Opcode.{Opcode}
use Rattle.fuse_protocol.specs.declared.row.ReplyShape.{ReplyShape}
use Rattle.fuse_protocol.specs.Requests.{RequestMessage, IsRequest}
use Rattle.fuse_protocol.specs.Table.{row_at}
use Rattle.fuse_protocol.proofs.Codes.{same_opcode}
use Rattle.fuse_protocol.proofs.OneRequest.{one_request}
use Rattle.fuse_replies.specs.Replies.{AnswerContent, ReplyMessage, IsReply}
use Rattle.fuse_replies.specs.Notifications.{IsNotification}
use Rattle.fuse_sessions.specs.declared.act.Act.{Act}
use Rattle.fuse_sessions.specs.declared.act.Asked.{Asked}
use Rattle.fuse_sessions.specs.declared.act.Taken.{Taken}
use Rattle.fuse_sessions.specs.declared.known.Known.{Known}
use Rattle.fuse_sessions.specs.declared.transfer.Transfer.{Transfer}
use Rattle.fuse_sessions.specs.declared.transfer.Transfer.TheVariants as transfer
use Rattle.fuse_sessions.specs.Sessions.{Session}
use Rattle.fuse_sessions.specs.Waiting.{waits}
use Rattle.fuse_sessions.specs.Frames.{Reads, IsRequestOf, IsNotified, IsReplyBy, IsReplyTo, IsHeaded, IsWritten, AreActs, AreReadActs, Lead, number_in, interrupt_acts}

module _ {M : Type 0} (Is : M → Type 0) (Goal : Type 0) where
  -- what is read is one message
  read_as_one : ((m n : M) → Is m → Is n → m ≡ n) → (D E : M → Type 0) (other another : Type 0)
      → ((m : M) → D m → E m → Goal) → (other → another → Goal)
      → Reads Is D other → Reads Is E another → Goal
  read_as_one one D E other another both neither (inl (m, is, d)) (inl (n, as', e)) =
      both m d (subst E (one n m as' is) e)
  read_as_one one D E other another both neither (inl (m, is, d)) (inr (none, e)) = absurd (none m is)
  read_as_one one D E other another both neither (inr (none, d)) (inl (m, is, e)) = absurd (none m is)
  read_as_one one D E other another both neither (inr (none, d)) (inr (nope, e)) = neither d e

  -- what it is does not matter
  read_alike : (D E other another : Type 0) → (D → E → Goal) → (other → another → Goal)
      → Reads Is (λ m. D) other → Reads Is (λ m. E) another → Goal
  read_alike D E other another both neither (inl (m, is, d)) (inl (n, as', e)) = both d e
  read_alike D E other another both neither (inl (m, is, d)) (inr (none, e)) = absurd (none m is)
  read_alike D E other another both neither (inr (none, d)) (inl (m, is, e)) = absurd (none m is)
  read_alike D E other another both neither (inr (none, d)) (inr (nope, e)) = neither d e

-- one of two that a test chooses
chosen : (Goal : Type 0) (b : Bool) (P Q R S : Type 0) → (P → R → Goal) → (Q → S → Goal) → MatchBool b P Q
    → MatchBool b R S → Goal
chosen Goal true P Q R S first second p r = first p r
chosen Goal false P Q R S first second q s = second q s

abbrev asked_as : Opcode → RequestMessage → Opcode × RequestMessage
asked_as o m = (o, m)

one_request_of : (agreed : Agreed) (bytes : List ℕ) (p q : Opcode × RequestMessage) → IsRequestOf agreed bytes p
    → IsRequestOf agreed bytes q → p ≡ q
one_request_of agreed bytes (o, m) (p, n) is as' =
    let same : o ≡ p = same_opcode o p (sym is.opcode ∙ as'.opcode) in
    let one : m ≡ n = one_request agreed bytes (row_at p) m n (subst (λ r. IsRequest agreed bytes (row_at r) m) same is)
    as' in
    ap (λ r. asked_as r m) same ∙ ap (asked_as p) one

abbrev replying : ℕ → AnswerContent → ReplyMessage
replying unique answer = record { unique = unique; answer = answer }

one_reply : (agreed : Agreed) (shape : ReplyShape) (asked : ℕ) (bytes : List ℕ) (m n : ReplyMessage)
    → IsReply agreed shape asked bytes m → IsReply agreed shape asked bytes n → m ≡ n
one_reply agreed shape asked bytes m n is as' =
    let unique : m.unique ≡ n.unique = sym is.unique ∙ as'.unique in
    let answer : m.answer ≡ n.answer = sym is.answer ∙ as'.answer in
    ap (λ u. replying u m.answer) unique ∙ ap (replying n.unique) answer

both_are : (a b x : List Act) → a ≡ x → b ≡ x → a ≡ b
both_are a b x e f = e ∙ sym f

replies_by_once : (k : Known) (bytes : List ℕ) (t : Taken) (o : Option Opcode) (asked : Asked) (a b : List Act)
    (l m : Known) → IsReplyBy k bytes t o asked a l → IsReplyBy k bytes t o asked b m → a ≡ b
replies_by_once k bytes t None asked a b l m is as' = both_are a b _ is.0 as'.0
replies_by_once k bytes t (Some o) asked a b l m is as' =
    read_as_one (IsReply k.agreed (row_at o).reply asked.asked bytes) (a ≡ b)
    (one_reply k.agreed (row_at o).reply asked.asked bytes) _ _ _ _
    (λ r x y. both_are a b _ x.0 y.0) (λ x y. both_are a b _ x.0 y.0) is as'

replies_once : (k : Known) (bytes : List ℕ) (t : Taken) (o : Option Asked) (a b : List Act) (l m : Known)
    → IsReplyTo k bytes t o a l → IsReplyTo k bytes t o b m → a ≡ b
replies_once k bytes t None a b l m is as' = both_are a b _ is.0 as'.0
replies_once k bytes t (Some asked) a b l m is as' =
    replies_by_once k bytes t asked.opcode asked a b l m is as'

notified_once : (k : Known) (bytes : List ℕ) (t : Taken) (a b : List Act) (l m : Known) → IsNotified k bytes t a l
    → IsNotified k bytes t b m → a ≡ b
notified_once k bytes t a b l m is as' = read_alike (IsNotification k.agreed bytes) (a ≡ b) _ _ _ _
    (λ x y. both_are a b _ x.0 y.0) (λ x y. both_are a b _ x.0 y.0) is as'

headed_once : (k : Known) (s : Session) (bytes : List ℕ) (t : Taken) (a b : List Act) (l m : Known)
    → IsHeaded k s bytes t a l → IsHeaded k s bytes t b m → a ≡ b
headed_once k s bytes t a b l m is as' = chosen (a ≡ b) _ _ _ _ _
    (notified_once k bytes t a b l m)
    (chosen (a ≡ b) _ _ _ _ _
    (λ (x : (a ≡ interrupt_acts bytes t) × (l ≡ k)) (y : (b ≡ interrupt_acts bytes t) × (m ≡ k)).
    both_are a b _ x.0 y.0)
    (replies_once k bytes t (waits s (number_in bytes)) a b l m)) is as'

written_once : (k : Known) (s : Session) (bytes : List ℕ) (t : Taken) (a b : List Act) (l m : Known)
    → IsWritten k s bytes t a l → IsWritten k s bytes t b m → a ≡ b
written_once k s bytes t a b l m (inl x) (inl y) = headed_once k s bytes t a b l m x.1 y.1
written_once k s bytes t a b l m (inl x) (inr y) = absurd (y.0 x.0)
written_once k s bytes t a b l m (inr x) (inl y) = absurd (x.0 y.0)
written_once k s bytes t a b l m (inr x) (inr y) = both_are a b _ x.1 y.1

read_acts_once : (k : Known) (s : Session) (t : Transfer) (a b : List Act) (l m : Known) → AreReadActs k s t a l
    → AreReadActs k s t b m → a ≡ b
read_acts_once k s (transfer.Request bytes) a b l m is as' =
    read_as_one (IsRequestOf k.agreed bytes.now) (a ≡ b) (one_request_of k.agreed bytes.now) _ _ _ _
    (λ q. both_are a b _) (both_are a b _) is.0 as'.0
read_acts_once k s (transfer.Written bytes t) a b l m is as' = written_once k s bytes.now t a b l m is as'
read_acts_once k s transfer.SeveralReaders a b l m is as' = both_are a b _ is.0 as'.0
read_acts_once k s transfer.SeveralWriters a b l m is as' = both_are a b _ is.0 as'.0
read_acts_once k s transfer.Ended a b l m is as' = both_are a b _ is.0 as'.0

-- one of two, by why nothing is judged
by_unjudged : (o : Option Unjudged) (Goal P Q : Type 0) (R S : Unjudged → Type 0) → (P → Q → Goal)
    → ((why : Unjudged) → R why → S why → Goal) → MatchOption o P R → MatchOption o Q S → Goal
by_unjudged None Goal P Q R S judged unjudged p q = judged p q
by_unjudged (Some why) Goal P Q R S judged unjudged p q = unjudged why p q

-- A transfer has one list of acts.
pub acts_once : (k : Known) (s : Session) (t : Transfer) (a b : List Act) (l m : Known) → AreActs k s t a l
    → AreActs k s t b m → a ≡ b
acts_once k s t a b l m = by_unjudged k.unjudged (a ≡ b) (AreReadActs k s t a l) (AreReadActs k s t b m)
    (λ why. (a ≡ []) × (l ≡ k)) (λ why. (b ≡ []) × (m ≡ k))
    (read_acts_once k s t a b l m) (λ why x y. both_are a b [] x.0 y.0)

-- One more transfer leads on.
pub lead-more : (k : Known) (s : Session) (ts : List Transfer) (now : Known) (all : Session) (t : Transfer)
    (acts : List Act) (later : Known) → Lead k s ts now all → AreActs now all t acts later
    → Lead k s (ts ++ t ∷ []) later (all ++ acts)
lead-more k s [] now all t acts later (e, f) are = (
  acts,
  later,
  subst (λ x. AreActs x s t acts later) e (subst (λ x. AreActs now x t acts later) f are),
  (refl, ap (λ x. x ++ acts) f),
)
lead-more k s (first ∷ ts) now all t acts later (old, next, is, rest) are =
    (old, next, is, lead-more next (s ++ old) ts now all t acts later rest are)
