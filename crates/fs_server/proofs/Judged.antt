-- What is said of a frame before it is taken.
use Rattle.std.proofs.Common.{◌≡◌, ℕ, Bool, true, false, true≢false, not, ◌||◌, ◌↔◌, List, Option, Some, None, Result, Ok, Err, refl, sym, ap, ◌∙◌}
use Rattle.std.specs.Prelude.{IsTrue, IfNone, IfOk, is_some}
use Rattle.std.specs.Result.{result_err}
use Rattle.std.proofs.lemmas.Option.{none-some, same_Some}
use Rattle.fuse_spec.specs.Values.Maps.{get}
use Rattle.fuse_spec.specs.Values.Numbers.{eagain}
use Rattle.fuse_spec.specs.Files.Operations.{failed}
use Rattle.fuse_spec.specs.Kernel.Messages.{RequestBody, WireReply, init, asks, release, forget, batch_forget, interrupt}
use Rattle.fuse_spec.specs.Server.Server.{Server, HeldRequest, Kept}
use Rattle.fuse_spec.specs.Server.Taking.{interrupting, taking}
use Rattle.fk_wire.specs.declared.opcode.Opcode.TheVariants as op
use Rattle.fk_wire.specs.Requests as wire
use Rattle.fk_wire.specs.Requests.{RequestContent, RequestMessage, Spells, opcode_of}
use Rattle.fuse_frames.specs.RequestTies.{body_in}
use Rattle.fs_server.specs.declared.server.ServerFault.{ServerFault}
use Rattle.fs_server.specs.declared.server.ServerFault.TheVariants.{Memory}
use Rattle.fuse_spec.specs.Server.Refusals.{is_server_past_end}
use Rattle.fs_server.specs.Effects.{AnswersFrame, CanTake, RefusesFrame, fault_or, past_or_memory}
use Rattle.fs_server.specs.Taking.{IsTakeable, answers, request_body_of, is_answered_now}
use Rattle.fs_server.proofs.TakingEffects.{asked_body, can_take}

module _ (s : Server) (unique : ℕ) where
  abbrev reply_to : RequestBody → Option WireReply
  reply_to body = (taking s unique body).reply

  -- what an INTERRUPT is answered
  abbrev reply_of : (original : ℕ) → Option HeldRequest → Option Kept → Option WireReply
  reply_of original o k = (interrupting s unique original o k).reply

  asks_again : (original : ℕ) (o : Option HeldRequest) (k : Option Kept) → not (is_some o || is_some k) ≡ true
      → reply_of original o k ≡ Some (failed eagain)
  asks_again original (Some h) k e = absurd (true≢false (sym e))
  asks_again original None (Some k) e = absurd (true≢false (sym e))
  asks_again original None None e = refl

  says_nothing : (original : ℕ) (o : Option HeldRequest) (k : Option Kept) → not (is_some o || is_some k) ≡ false
      → reply_of original o k ≡ None
  says_nothing original (Some h) k e = refl
  says_nothing original None (Some k) e = refl
  says_nothing original None None e = absurd (true≢false e)

  answered : (body : RequestBody) → is_answered_now s body ≡ true → reply_to body ≡ Some (failed eagain)
  answered (interrupt original) e = asks_again original (get s.held original) (get s.kept original) e
  answered body e = absurd (true≢false (sym e))

  silent : (body : RequestBody) → is_answered_now s body ≡ false → reply_to body ≡ None
  silent (interrupt original) e = says_nothing original (get s.held original) (get s.kept original) e
  silent (init flags) e = refl
  silent (asks operation) e = refl
  silent (release o) e = refl
  silent (forget f) e = refl
  silent (batch_forget fs) e = refl

-- nothing refuses the frame but out of memory
module _ (s : Server) (bytes : List ℕ) (m : RequestMessage) (right : IsTakeable s bytes m) where
  pub answers_frame : (b : Bool) → b ≡ answers s m.nodeid m.content → IsTrue b ↔ AnswersFrame s bytes
  answers_frame true e = (
    (λ t. record {
      can = can_take s bytes m right;
      reply = failed eagain;
      replies = answered s m.unique (request_body_of m.nodeid m.content) (sym e);
    }),
    (λ a. refl),
  )
  answers_frame false e = (
    (λ t. absurd (true≢false (sym t))),
    (λ (a : AnswersFrame s bytes).
        let says = a.can.says in
        let one = right.only says.message says.spells in
        let unique : m.unique ≡ a.can.request.unique = ap (λ (n : RequestMessage). n.unique) one ∙ says.unique in
        let asked : Some (request_body_of m.nodeid m.content) ≡ Some a.can.request.body = sym (asked_body s bytes m right) ∙ ap
        (λ (n : RequestMessage). body_in n.nodeid n.content) one ∙ says.says in
        let body_is : request_body_of m.nodeid m.content ≡ a.can.request.body = same_Some
        (request_body_of m.nodeid m.content) a.can.request.body asked in
        let same : (taking s m.unique (request_body_of m.nodeid m.content)).reply
        ≡ (taking s a.can.request.unique a.can.request.body).reply = λ i. (taking s (unique i) (body_is i)).reply in
        absurd (none-some a.reply (sym (silent s m.unique (request_body_of m.nodeid m.content) (sym e)) ∙ same ∙ a.replies))),
  )

-- a frame that is refused isn't answered
pub refused_is_silent : (s : Server) (bytes : List ℕ) (fault : ServerFault) → RefusesFrame s bytes fault
    → (fault ≡ Memory → ⊥) → AnswersFrame s bytes → ⊥
refused_is_silent s bytes fault refuses other a =
    let can = a.can in
    other
    (refuses.of_request can.request can.says
    ∙ ap (λ (o : Option ServerFault). fault_or o (past_or_memory
    (is_server_past_end (taking s can.request.unique can.request.body).server))) can.faultless
    ∙ ap past_or_memory can.within)

-- what no fault is found in can be taken
pub can_take_it : {Q F : Type 0} (message : Q → RequestMessage) (s : Server) (bytes : List ℕ) (r : Result Q F)
    → IfOk r (λ q. IsTakeable s bytes (message q)) → (o : Option F) → o ≡ result_err r → IfNone o (CanTake s bytes)
can_take_it message s bytes (Ok q) right None is = can_take s bytes (message q) right
can_take_it message s bytes (Ok q) right (Some fault) is = tt
can_take_it message s bytes (Err fault) right None is = absurd (cc)
can_take_it message s bytes (Err fault) right (Some other) is = tt

-- ---- only an INTERRUPT is answered at once

module _ (s : Server) (unique : ℕ) (reply : WireReply) where
  abbrev answer_in : Option RequestBody → Option WireReply
  answer_in None = None
  answer_in (Some body) = reply_to s unique body

  abbrev Asks : ℕ → RequestContent → RequestBody → Type 0
  Asks nodeid content body = body_in nodeid content ≡ Some body

  interrupts : (nodeid : ℕ) (content : RequestContent) (body : RequestBody) → Asks nodeid content body
      → reply_to s unique body ≡ Some reply → opcode_of content ≡ op.Interrupt
  interrupts nodeid (wire.interrupt original) body e r = refl
  interrupts nodeid (wire.lookup name) body e r = absurd (none-some reply (ap answer_in e ∙ r))
  interrupts nodeid (wire.forget nlookup) body e r = absurd (none-some reply (ap answer_in e ∙ r))
  interrupts nodeid wire.getattr body e r = absurd (none-some reply (ap answer_in e ∙ r))
  interrupts nodeid (wire.mkdir name) body e r = absurd (none-some reply (ap answer_in e ∙ r))
  interrupts nodeid (wire.unlink name) body e r = absurd (none-some reply (ap answer_in e ∙ r))
  interrupts nodeid (wire.rmdir name) body e r = absurd (none-some reply (ap answer_in e ∙ r))
  interrupts nodeid (wire.rename newdir old new) body e r = absurd (none-some reply (ap answer_in e ∙ r))
  interrupts nodeid (wire.link oldnodeid name) body e r = absurd (none-some reply (ap answer_in e ∙ r))
  interrupts nodeid wire.opening body e r = absurd (none-some reply (ap answer_in e ∙ r))
  interrupts nodeid (wire.read fh offset size) body e r = absurd (none-some reply (ap answer_in e ∙ r))
  interrupts nodeid (wire.write fh offset bytes) body e r = absurd (none-some reply (ap answer_in e ∙ r))
  interrupts nodeid (wire.release fh) body e r = absurd (none-some reply (ap answer_in e ∙ r))
  interrupts nodeid (wire.init major minor flags) body e r = absurd (none-some reply (ap answer_in e ∙ r))
  interrupts nodeid (wire.readdir offset size) body e r = absurd (none-some reply (ap answer_in e ∙ r))
  interrupts nodeid (wire.readdirplus offset size) body e r = absurd (none-some reply (ap answer_in e ∙ r))
  interrupts nodeid (wire.create name) body e r = absurd (none-some reply (ap answer_in e ∙ r))
  interrupts nodeid (wire.batch_forget forgets) body e r = absurd (none-some reply (ap answer_in e ∙ r))

pub answered_interrupts : (s : Server) (bytes : List ℕ)
    → ((m : RequestMessage) → Spells bytes m → opcode_of m.content ≡ op.Interrupt → ⊥) → AnswersFrame s bytes → ⊥
answered_interrupts s bytes none a =
    let says = a.can.says in
    none says.message says.spells (interrupts s a.can.request.unique a.reply says.message.nodeid says.message.content
    a.can.request.body says.says a.replies)
