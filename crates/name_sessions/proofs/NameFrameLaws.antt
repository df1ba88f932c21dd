-- A transfer has one list of name acts.
use Rattle.std.proofs.Common.{◌≡◌, ℕ, inl, inr, List, sym, ◌∙◌, ap, subst}
use Rattle.fuse_protocol.specs.declared.agreed.Agreed.{Agreed}
use Rattle.fuse_protocol.specs.declared.opcode.Opcode.{Opcode}
use Rattle.fuse_protocol.specs.Requests.{RequestMessage, IsRequest}
use Rattle.fuse_protocol.specs.Table.{row_at}
use Rattle.fuse_protocol.proofs.Codes.{same_opcode}
use Rattle.fuse_protocol.proofs.OneRequest.{one_request}
use Rattle.fuse_sessions.specs.declared.transfer.Transfer.{Transfer}
use Rattle.fuse_sessions.specs.declared.transfer.Transfer.TheVariants as transfer
use Rattle.fuse_sessions.specs.Frames.{IsRequestOf}
use Rattle.name_sessions.specs.NameActs.{NameAct}
use Rattle.name_sessions.specs.NameSessions.{NameSession}
use Rattle.name_sessions.specs.NameFrames.{AreNameActs}
use Rattle.name_sessions.specs.RequestNames.{request_acts}

abbrev asked_as : Opcode → RequestMessage → Opcode × RequestMessage
asked_as o m = (o, m)

pub one_request_of : (agreed : Agreed) (bytes : List ℕ) (p q : Opcode × RequestMessage) → IsRequestOf agreed bytes p
    → IsRequestOf agreed bytes q → p ≡ q
one_request_of agreed bytes (o, m) (p, n) is as' =
    let same : o ≡ p = same_opcode o p (sym is.opcode ∙ as'.opcode) in
    let one : m ≡ n = one_request agreed bytes (row_at p) m n (subst (λ r. IsRequest agreed bytes (row_at r) m) same is)
    as' in
    ap (λ r. asked_as r m) same ∙ ap (asked_as p) one

both_are : (a b x : List NameAct) → a ≡ x → b ≡ x → a ≡ b
both_are a b x e f = e ∙ sym f

pub name_acts_once : (agreed : Agreed) (s : NameSession) (t : Transfer) (a b : List NameAct) → AreNameActs agreed s t a
    → AreNameActs agreed s t b → a ≡ b
name_acts_once agreed s (transfer.Request bytes) a b (inl (p, is, e)) (inl (q, as', f)) =
    e ∙ ap (λ (r : Opcode × RequestMessage). request_acts r.0 r.1) (one_request_of agreed bytes.now p q is as') ∙ sym f
name_acts_once agreed s (transfer.Request bytes) a b (inl (p, is, e)) (inr (none, f)) = absurd (none p is)
name_acts_once agreed s (transfer.Request bytes) a b (inr (none, e)) (inl (q, as', f)) = absurd (none q as')
name_acts_once agreed s (transfer.Request bytes) a b (inr (none, e)) (inr (nope, f)) = both_are a b _ e f
name_acts_once agreed s (transfer.Written bytes t) a b (inl (head, e)) (inl (ahead, f)) = both_are a b _ e f
name_acts_once agreed s (transfer.Written bytes t) a b (inl (head, e)) (inr (none, f)) = absurd (none head)
name_acts_once agreed s (transfer.Written bytes t) a b (inr (none, e)) (inl (head, f)) = absurd (none head)
name_acts_once agreed s (transfer.Written bytes t) a b (inr (none, e)) (inr (nope, f)) = both_are a b _ e f
name_acts_once agreed s transfer.SeveralReaders a b e f = both_are a b _ e f
name_acts_once agreed s transfer.SeveralWriters a b e f = both_are a b _ e f
name_acts_once agreed s transfer.Ended a b e f = both_are a b _ e f
