-- How the outcome of a RELEASE is one of serving its frame.
use Rattle.std.proofs.Common.{◌≡◌, ◌⊎◌, ℕ, Bool, true, false, List, [], Option, Some, None, refl, sym, ap, subst, ◌∙◌, inl, inr}
use Rattle.fuse_spec.specs.declared.Opened.{Opened}
use Rattle.fuse_spec.specs.Kernel.Messages.{Request, release}
use Rattle.fuse_spec.specs.Server.Refusals.{is_server_past_end}
use Rattle.fuse_spec.specs.Server.Server.{RequestFault, Server, fault_of, repeated_unique, too_many_forgets, unknown_node, unknown_opcode}
use Rattle.fuse_spec.specs.Server.Taking.{taking}
use Rattle.fuse_spec.specs.declared.Refusal.TheVariants as refusal
use Rattle.fk_wire.specs.declared.opcode.Opcode.TheVariants.{Release}
use Rattle.fk_wire.specs.Replies.{WrittenReply, empty_reply, kind_of_content}
use Rattle.fuse_frames.specs.ReplyTies.{message_of}
use Rattle.fuse_frames.specs.RequestTies.{SaysRequest}
use Rattle.fuse_frames.proofs.RequestLemmas.{one_request}
use Rattle.fs_server.specs.Effects.{RefusesFrame, RefusesHeld, as_fault, fault_or, first_copy, past_or_memory, request_fault}
use Rattle.fs_server.specs.Releasing.{RefusesRelease, bare_reply, faulty, no_number, release_copy}
use Rattle.fs_server.specs.declared.server.ServerFault.{ServerFault}
use Rattle.fs_server.specs.declared.server.ServerFault.TheVariants.{Exhausted, Memory}
use Rattle.fuse_device.specs.Transfers.{Transfer}
use Rattle.fs_serve.specs.Sending.{IsFilledFrame, RepliesToRelease, SendsBytes}
use Rattle.fs_serve.proofs.FilledReplies.{filled_frame}

-- ---- the reply

-- A reply that says no more than that it is done, or EBADF, is written so.
pub bare_frame : (unique errno : ℕ) (bytes : List ℕ) → (errno ≡ 0) ⊎ (errno ≡ 9)
    → WrittenReply (message_of (record { unique = unique; wire = bare_reply errno })) bytes
    → IsFilledFrame Release bytes (record { unique = unique; wire = bare_reply errno })
bare_frame unique errno bytes (inl is) written =
    subst (λ (n : ℕ). IsFilledFrame Release bytes (record { unique = unique; wire = bare_reply n })) (sym is)
    (filled_frame Release bytes bytes (record { unique = unique; wire = bare_reply 0 })
    (record { written = rw is at written; goes = (kind_of_content empty_reply, refl, refl); says = refl }) refl)
bare_frame unique errno bytes (inr is) written =
    subst (λ (n : ℕ). IsFilledFrame Release bytes (record { unique = unique; wire = bare_reply n })) (sym is)
    (filled_frame Release bytes bytes (record { unique = unique; wire = bare_reply 9 })
    (record { written = rw is at written; goes = (kind_of_content empty_reply, refl, refl); says = refl }) refl)

-- the one copy of it, and none after an abort
module _ (s : Server) (unique errno : ℕ) (log : List Transfer) where
  pub replies_live : s.aborted ≡ false → (bytes : List ℕ)
      → IsFilledFrame Release bytes (record { unique = unique; wire = bare_reply errno }) → SendsBytes bytes log
      → RepliesToRelease (release_copy s unique errno) log
  replies_live live bytes framed sends =
      subst (λ (a : Bool). RepliesToRelease (first_copy a s.next_copy unique (bare_reply errno)) log) (sym live)
      (bytes, framed, sends)

  pub replies_lost : s.aborted ≡ true → log ≡ [] → RepliesToRelease (release_copy s unique errno) log
  replies_lost gone none =
      subst (λ (a : Bool). RepliesToRelease (first_copy a s.next_copy unique (bare_reply errno)) log) (sym gone) none

-- ---- why it is refused

-- the faults of a request are neither of these
no_such_fault : (o : Option RequestFault) (fault : ServerFault) → as_fault o ≡ Some fault
    → (fault ≡ Exhausted → ⊥) × (fault ≡ Memory → ⊥)
no_such_fault None fault is = absurd (cc is)
no_such_fault (Some unknown_opcode) fault is = (λ same. absurd (cc (is, same)), λ same. absurd (cc (is, same)))
no_such_fault (Some unknown_node) fault is = (λ same. absurd (cc (is, same)), λ same. absurd (cc (is, same)))
no_such_fault (Some too_many_forgets) fault is = (λ same. absurd (cc (is, same)), λ same. absurd (cc (is, same)))
no_such_fault (Some repeated_unique) fault is = (λ same. absurd (cc (is, same)), λ same. absurd (cc (is, same)))

module _ (s : Server) (unique : ℕ) (o : Opened) where
  abbrev asked : Request
  asked = record { unique = unique; body = release o }

  -- Where no copy number is left, it cannot be performed.
  pub exhausted : (fault : ServerFault) → fault ≡ Exhausted → RefusesRelease s unique o fault
      → RefusesHeld (taking s unique (release o)).server unique refusal.Exhausted
  exhausted fault is (faulty fault' has) = absurd ((no_such_fault (fault_of s asked) fault has).0 is)
  exhausted fault is (no_number none refuses) = refuses

  -- Any other fault is its frame's.
  pub refuses_frame : (bytes : List ℕ) → SaysRequest bytes asked → (fault : ServerFault) → (fault ≡ Exhausted → ⊥)
      → RefusesRelease s unique o fault → RefusesFrame s bytes fault × (fault ≡ Memory → ⊥)
  refuses_frame bytes says fault other (no_number none refuses) = absurd (other refl)
  refuses_frame bytes says fault other (faulty fault' has) = (
    record {
      of_request = λ request said.
          sym (ap (λ (f : Option ServerFault). fault_or f
          (past_or_memory (is_server_past_end (taking s request.unique request.body).server)))
          (ap (λ (r : Request). request_fault s r.unique (Some r.body))
          (sym (one_request bytes request said) ∙ one_request bytes asked says) ∙ has));
      of_none = λ none. absurd (none asked says);
    },
    (no_such_fault (fault_of s asked) fault has).1,
  )
