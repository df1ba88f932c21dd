-- What goes over the device as a world's kernel reads a request and takes a reply.
use Rattle.std.proofs.Common.{◌≡◌, ℕ, List, [], ◌∷◌, ◌++◌, Some, inl, inr, slice_get, refl, subst, arith, ◌∙◌}
use Rattle.std.specs.Prelude.{ℤ, pos, negsuc}
use Rattle.std.specs.Int.RustNames.{bit_and}
use Rattle.fk_wire.specs.Fields.{ReadsAs, number_at}
use Rattle.fk_wire.specs.declared.opcode.Opcode.{Opcode}
use Rattle.fk_wire.specs.declared.opcode.Opcode.TheVariants as op
use Rattle.fk_wire.specs.Entries.{missing, found}
use Rattle.fk_wire.specs.Replies.{ReplyContent, empty_reply, entry_reply, attr_reply, open_reply, bytes_reply, write_reply, create_reply, records_reply, plus_reply, reply_body}
use Rattle.fk_wire.specs.Replies as content
use Rattle.fuse_device.specs.Transfers.{received, sent}
use Rattle.fuse_spec.specs.declared.Minor.{Minor}
use Rattle.fuse_spec.specs.declared.Minor.TheVariants.{M15, M31}
use Rattle.fuse_spec.specs.declared.WriteResult.TheVariants.{Accepted}
use Rattle.fuse_spec.specs.Files.Operations.{agreed}
use Rattle.fuse_spec.specs.Kernel.Messages.{Request, WireReply}
use Rattle.fuse_spec.specs.Server.Performs.{flags_known, init_reply}
use Rattle.fuse_spec.specs.World.Events as event
use Rattle.fuse_spec.specs.World.Worlds.{Sent, World}
use Rattle.fuse_frames.specs.ReplyTies.{SaysReply, wire_said}
use Rattle.fuse_frames.specs.RequestTies.{IsRequestFrame}
use Rattle.fk_kernel.specs.AwaitedReplies.{HasReplyHead, IsAwaited, IsJudged, Says, awaited, head_unique, reply_to}
use Rattle.fk_drive_frames.specs.Agreements.{IsOlderAgreement}
use Rattle.fk_drive.proofs.SentFrames.{written_frame}
use Rattle.world_sessions.specs.WorldTransfers.{HasTransfersAt}
use Rattle.world_sessions.proofs.Written.{kinds_of}

-- A request that goes onto its link in its frame is sent, whichever was read.
pub request_over : (w after : World) (r : Request) → after.requests ≡ w.requests ++ r ∷ [] → (bytes : List ℕ)
    → IsRequestFrame bytes r → HasTransfersAt w event.read_interrupt after
request_over w after r put bytes is = (sent bytes Accepted ∷ [], (r, put, bytes, written_frame bytes r is, Accepted, refl))

-- ---- the server's reply to INIT

-- The minor that a frame agrees on.
minor_in : (bytes : List ℕ) (unique major minor flags : ℕ) → SaysReply op.Init bytes unique (agreed major minor flags)
    → number_at 20 4 bytes ≡ minor
minor_in bytes unique major minor flags is =
    let spells = is.spells in by is.message.error is.message.content is.says spells.5.1.1.1
  where
    by : (error : ℤ) (c : ReplyContent) → wire_said error c ≡ agreed major minor flags → ReadsAs 16 (reply_body c) bytes
        → number_at 20 4 bytes ≡ minor
    by (pos n) (content.init_reply a b c) says reads = reads.1.0 ∙ same says
      where
        same : ◌≡◌ {A = WireReply} (agreed a b c) (agreed major minor flags) → b ≡ minor
        same e = cc e
    by (pos n) empty_reply says reads = absurd (cc says)
    by (pos n) (entry_reply (missing s ns)) says reads = absurd (cc says)
    by (pos n) (entry_reply (found id generation s ns a)) says reads = absurd (cc says)
    by (pos n) (attr_reply a) says reads = absurd (cc says)
    by (pos n) (open_reply fh) says reads = absurd (cc says)
    by (pos n) (bytes_reply bs) says reads = absurd (cc says)
    by (pos n) (write_reply size) says reads = absurd (cc says)
    by (pos n) (create_reply (missing s ns) fh) says reads = absurd (cc says)
    by (pos n) (create_reply (found id generation s ns a) fh) says reads = absurd (cc says)
    by (pos n) (records_reply ds) says reads = absurd (cc says)
    by (pos n) (plus_reply ps) says reads = absurd (cc says)
    by (negsuc n) c says reads = absurd (cc says)

-- It agrees on 7.15 or 7.31, and so on no version before 7.31 but 7.15.
pub not_older : (bytes : List ℕ) (unique : ℕ) (minor : Minor) (flags : ℕ) → SaysReply op.Init bytes unique (init_reply minor flags)
    → IsOlderAgreement bytes → ⊥
not_older bytes unique M15 flags is (inl older) =
    let minor = minor_in bytes unique 7 15 (bit_and flags (flags_known M15)) is in
    let least = older.least in
    absurd (omega (arith, minor, least))
not_older bytes unique M15 flags is (inr (inl older)) =
    let minor = minor_in bytes unique 7 15 (bit_and flags (flags_known M15)) is in
    let least = older.least in
    absurd (omega (arith, minor, least))
not_older bytes unique M15 flags is (inr (inr older)) =
    let minor = minor_in bytes unique 7 15 (bit_and flags (flags_known M15)) is in
    let most = older.most in
    absurd (omega (arith, minor, most))
not_older bytes unique M31 flags is (inl older) =
    let minor = minor_in bytes unique 7 31 (bit_and flags (flags_known M31)) is in
    let most = older.most in
    absurd (omega (arith, minor, most))
not_older bytes unique M31 flags is (inr (inl older)) =
    let minor = minor_in bytes unique 7 31 (bit_and flags (flags_known M31)) is in
    let most = older.most in
    absurd (omega (arith, minor, most))
not_older bytes unique M31 flags is (inr (inr older)) =
    let minor = minor_in bytes unique 7 31 (bit_and flags (flags_known M31)) is in
    let most = older.most in
    absurd (omega (arith, minor, most))

-- An older agreement has INIT's number.
pub of_init : (bytes : List ℕ) → IsOlderAgreement bytes → head_unique bytes ≡ 2
of_init bytes (inl older) = older.of_init
of_init bytes (inr (inl older)) = older.of_init
of_init bytes (inr (inr older)) = older.of_init

-- ---- a reply

-- A copy on its link that the kernel takes in bytes that say it is received.
pub reply_over : (w after : World) (place : ℕ) (copy : Sent) → slice_get w.replies place ≡ Some copy → (bytes : List ℕ)
    → HasReplyHead bytes → head_unique bytes ≡ copy.unique
    → ((o : Opcode) → IsJudged o → awaited w.kernel copy.unique ≡ reply_to o → Says o bytes copy.wire)
    → (IsOlderAgreement bytes → ⊥) → HasTransfersAt w (event.write place) after
reply_over w after place copy there bytes head under says known = (
  received bytes ∷ [],
  (
    copy,
    there,
    bytes,
    record {
      head = head;
      under = under;
      says = λ o awaits. says o (subst IsAwaited awaits (kinds_of w.kernel copy.unique)) awaits;
      known = known;
    },
    refl,
  ),
)
