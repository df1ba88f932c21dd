-- What becomes of bytes that are written to the kernel, by what awaits them and what they may say.
use Rattle.std.proofs.Common.{◌≡◌, ℕ, List, refl, subst}
use Rattle.fk_wire.specs.declared.opcode.Opcode.{Opcode}
use Rattle.fuse_spec.specs.declared.WriteResult.{WriteResult}
use Rattle.fuse_spec.specs.declared.WriteResult.TheVariants.{Accepted, NoEntry}
use Rattle.fuse_spec.specs.Kernel.Kernel.{Kernel}
use Rattle.fuse_spec.specs.Kernel.Messages.{WireReply}
use Rattle.fuse_spec.specs.Kernel.Replies.{reply_written}
use Rattle.fk_kernel.specs.AwaitedReplies.{IsNoReply, HasReplyHead, head_unique, Awaited, nothing, reply_to, awaited, ReadsReply, said, unsaid, wrong_body_to, IsJudged, IsAwaited}
use Rattle.fk_drive.specs.KernelSteps.{IsReplyTaken}
use Rattle.fk_drive_theorem.proofs.Stable.{Stable}

-- Nothing changes and nothing is accepted, or something is read from the bytes.
pub data TakenAs (old : Kernel) (bytes : List ℕ) (result : WriteResult) (new : Kernel) : Type 0 where
  refused_whole : (result ≡ Accepted → ⊥) → (HasReplyHead bytes → result ≡ NoEntry) → new ≡ old
      → TakenAs old bytes result new
  is_read : (o : Opcode) (wire : WireReply) → awaited old (head_unique bytes) ≡ reply_to o → ReadsReply o bytes wire
      → reply_written old (head_unique bytes) wire ≡ (result, new) → TakenAs old bytes result new

module _ (old : Kernel) (bytes : List ℕ) (result : WriteResult) (new : Kernel)
    (taken : IsReplyTaken old bytes result new) (P : Type 0) (stable : Stable P) (each : TakenAs old bytes result new → P) where
  module _ (no : P → ⊥) (head : HasReplyHead bytes) where
    abbrev unique : ℕ
    unique = head_unique bytes

    by : (a : Awaited) → awaited old unique ≡ a → ⊥
    by nothing is =
        let both = taken.unawaited head is in
        no (each (refused_whole (λ e. cc (e, both.0)) (λ h. both.0) both.1))
    by (reply_to o) is =
        let judged : IsJudged o = subst IsAwaited is (taken.taken head).kinds in
        let none : IsNoReply o bytes = λ wire says.
        no (each (is_read o wire is (said wire says) ((taken.taken head).said o judged is wire says))) in
        no (each (is_read o (wrong_body_to o) is (unsaid none) ((taken.taken head).unsaid o judged is none)))

  -- What is stable holds if it holds in each case.
  pub holds_as_taken : P
  holds_as_taken = stable (λ no.
      let headless = taken.headless (λ head. by no head (awaited old (head_unique bytes)) refl) in
      no (each (refused_whole (λ e. cc (e, headless.0))
      (λ head. absurd (by no head (awaited old (head_unique bytes)) refl)) headless.1)))
