-- Out of memory refuses only what takes memory.
use Rattle.std.proofs.Common.{◌≡◌, ℕ, Bool, true, false, true≢false, List, Option, Some, None, Result, Ok, Err, refl, sym, ap, ◌∙◌}
use Rattle.std.specs.Prelude.{IfErr, OnErr}
use Rattle.std.proofs.lemmas.Option.{same_Some}
use Rattle.fuse_spec.specs.Kernel.Messages.{RequestBody, init, asks, release, forget, batch_forget, interrupt}
use Rattle.fuse_spec.specs.Server.Server.{Server, RequestFault, unknown_opcode, unknown_node, too_many_forgets, repeated_unique, fault_of}
use Rattle.fuse_spec.specs.Server.Taking.{taking}
use Rattle.fuse_spec.specs.declared.Taken.TheVariants.{Held, Again}
use Rattle.fk_wire.specs.Requests as wire
use Rattle.fk_wire.specs.Requests.{RequestMessage}
use Rattle.fuse_frames.specs.RequestTies.{body_in}
use Rattle.fs_server.specs.declared.server.ServerFault.{ServerFault}
use Rattle.fs_server.specs.declared.server.ServerFault.TheVariants.{Memory}
use Rattle.fs_server.specs.Effects.{CanTake, TakingNeedsMemory, as_fault, request_fault}
use Rattle.fuse_spec.specs.Server.Memory.{word_takes_memory}
use Rattle.fs_server.specs.Taking.{IsTakeable, request_body_of, holds_request, waits}
use Rattle.fs_server.proofs.TakingEffects.{asked_body, can_take}

abbrev is_memory_fault : ServerFault → Bool
is_memory_fault Memory = true
is_memory_fault fault = false

other_fault : (fault : ServerFault) → is_memory_fault fault ≡ false → fault ≡ Memory → ⊥
other_fault fault other e = true≢false (sym (ap is_memory_fault e) ∙ other)

abbrev is_memory_in : Option ServerFault → Bool
is_memory_in None = false
is_memory_in (Some fault) = is_memory_fault fault

judged_apart : (o : Option RequestFault) → is_memory_in (as_fault o) ≡ false
judged_apart None = refl
judged_apart (Some unknown_opcode) = refl
judged_apart (Some unknown_node) = refl
judged_apart (Some too_many_forgets) = refl
judged_apart (Some repeated_unique) = refl

-- the fault of a request is not out of memory
pub fault_apart : (s : Server) (unique : ℕ) (o : Option RequestBody) (fault : ServerFault)
    → request_fault s unique o ≡ Some fault → fault ≡ Memory → ⊥
fault_apart s unique None fault is = other_fault fault (sym (ap is_memory_in is))
fault_apart s unique (Some body) fault is = other_fault fault
    (sym (ap is_memory_in is) ∙ judged_apart (fault_of s (record { unique = unique; body = body })))

held_word : (s : Server) (unique : ℕ) (body : RequestBody) → waits body ≡ true → (taking s unique body).word ≡ Held
held_word s unique (init flags) is = refl
held_word s unique (asks operation) is = refl
held_word s unique (release o) is = refl
held_word s unique (forget f) is = absurd (true≢false (sym is))
held_word s unique (batch_forget fs) is = absurd (true≢false (sym is))
held_word s unique (interrupt original) is = absurd (true≢false (sym is))

-- nothing refuses the frame but out of memory
module _ (s : Server) (bytes : List ℕ) (m : RequestMessage) (right : IsTakeable s bytes m) where
  needs_memory_for : (body : RequestBody) → body_in m.nodeid m.content ≡ Some body
      → word_takes_memory (taking s m.unique body).word ≡ true → TakingNeedsMemory s bytes
  needs_memory_for body is takes request says =
      let one = right.only says.message says.spells in
      let unique : m.unique ≡ request.unique = ap (λ (n : RequestMessage). n.unique) one ∙ says.unique in
      let asked : Some body ≡ Some request.body = sym is ∙ ap
      (λ (n : RequestMessage). body_in n.nodeid n.content) one ∙ says.says in
      let body_is : body ≡ request.body = same_Some body request.body asked in
      sym (λ i. word_takes_memory (taking s (unique i) (body_is i)).word) ∙ takes

  held_needs_memory : holds_request m.nodeid m.content ≡ true → TakingNeedsMemory s bytes
  held_needs_memory is = needs_memory_for (request_body_of m.nodeid m.content) (asked_body s bytes m right)
      (ap word_takes_memory (held_word s m.unique (request_body_of m.nodeid m.content) is))

  interrupt_needs_memory : (original : ℕ) → m.content ≡ wire.interrupt original
      → (taking s m.unique (interrupt original)).word ≡ Again → TakingNeedsMemory s bytes
  interrupt_needs_memory original is word = needs_memory_for (interrupt original) (ap (body_in m.nodeid) is) (ap word_takes_memory word)

  -- the same of what comes of it
  pub hold_needs_memory : {T : Type 0} → holds_request m.nodeid m.content ≡ true → (r : Result T ServerFault)
      → IfErr r (λ fault. fault ≡ Memory → TakingNeedsMemory s bytes)
  hold_needs_memory is (Ok taken) = tt
  hold_needs_memory is (Err fault) = λ memory. held_needs_memory is

  pub answer_needs_memory : {T : Type 0} (original : ℕ) → m.content ≡ wire.interrupt original → (r : Result T ServerFault)
      → OnErr r ((taking s m.unique (interrupt original)).word ≡ Again)
      → IfErr r (λ fault. fault ≡ Memory → TakingNeedsMemory s bytes)
  answer_needs_memory original is (Ok taken) word = tt
  answer_needs_memory original is (Err fault) word = λ memory. interrupt_needs_memory original is word

  pub memory_can : {T : Type 0} → (r : Result T ServerFault) → IfErr r (λ fault. fault ≡ Memory → CanTake s bytes)
  memory_can (Ok taken) = tt
  memory_can (Err fault) = λ memory. can_take s bytes m right
