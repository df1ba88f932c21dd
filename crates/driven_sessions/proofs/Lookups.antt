-- What bytes that are taken as a reply add to a node's lookups, and what a frame that waits will add.
use Rattle.std.proofs.Common.{◌≡◌, ◌≢◌, ℕ, ℤ, ◌≤◌, ◌==◌, Bool, true, false, cond, List, [], ◌∷◌, length, Option, Some, None, refl, ap, sym, subst, ◌∙◌, arith}
use Rattle.std.specs.Prelude.{pos, negsuc}
use Rattle.std.specs.Int.{cast_unsigned, w32}
use Rattle.std.proofs.lemmas.Int.{ints}
use Rattle.fk_fields.specs.Fields.{ReadsAs, number_at}
use Rattle.fk_wire.specs.declared.opcode.Opcode.{Opcode}
use Rattle.fk_wire.specs.declared.opcode.Opcode.TheVariants as op
use Rattle.fk_wire.specs.Dirents.{dirent_fields, direntpluses}
use Rattle.fk_wire.specs.Opcodes.{latest_minor}
use Rattle.fk_wire.specs.Replies.{IsErrorNumber, IsReplyContent, ReplyContent, ReplyMessage, WrittenReply, create_reply, empty_reply, entry_reply, kind_of_content, open_fields, plus_reply, reply_body, reply_fields, reply_kind}
use Rattle.fk_wire.proofs.EntryFields.{entry_is}
use Rattle.fk_wire.proofs.Frames.{reads_back}
use Rattle.fk_wire.proofs.OneRequest.{within}
use Rattle.fuse_spec.specs.declared.WriteResult.{WriteResult}
use Rattle.fuse_spec.specs.declared.WriteResult.TheVariants.{Accepted, Invalid, NoEntry}
use Rattle.fuse_spec.specs.Claim.Counts.{times_named}
use Rattle.fuse_spec.specs.Kernel.Kernel.{Kernel}
use Rattle.fuse_spec.specs.Kernel.Messages.{WireReply}
use Rattle.fuse_frames.specs.ReplyTies.{said_in, wire_said}
use Rattle.fk_kernel.specs.AwaitedReplies.{Awaited, Says, awaited, head_unique, nothing, reply_to}
use Rattle.fk_drive.specs.KernelSteps.{IsReplyTaken}
use Rattle.fk_drive_theorem.specs.Tallies.{times_said, where_accepted}
use Rattle.fk_drive_theorem.proofs.RunsTally.{accepted_says, said_is}
use Rattle.fk_drive_theorem.proofs.Stable.{at_most}

-- ---- what is taken

module _ (id : ℕ) where
  -- What is added is no more than what each reply that the bytes say adds.
  pub taken_times : (old : Kernel) (bytes : List ℕ) (result : WriteResult) (new : Kernel) → IsReplyTaken old bytes result new
      → (bound : ℕ) → ((p : Opcode) → awaited old (head_unique bytes) ≡ reply_to p → (wire : WireReply) → Says p bytes wire
      → times_named id wire ≤ bound)
      → where_accepted result (times_said id bytes (awaited old (head_unique bytes))) ≤ bound
  taken_times old bytes NoEntry new taken bound each = omega arith
  taken_times old bytes Invalid new taken bound each = omega arith
  taken_times old bytes Accepted new taken bound each = by (awaited old (head_unique bytes)) refl
    where
      by : (a : Awaited) → awaited old (head_unique bytes) ≡ a → times_said id bytes a ≤ bound
      by nothing is = omega arith
      by (reply_to p) is = at_most (times_named id (said_in p bytes)) bound (λ no. accepted_says old bytes new taken p is
          (λ wire says. no (subst (λ (w : WireReply). times_named id w ≤ bound) (sym (said_is p bytes wire says))
          (each p is wire says))))

  -- ---- replies that name nothing

  -- of an error
  pub error_times : (o : Opcode) (bytes : List ℕ) (wire : WireReply) → Says o bytes wire → number_at 4 4 bytes ≢ 0
      → times_named id wire ≤ 0
  error_times o bytes wire says some = subst (λ (w : WireReply). times_named id w ≤ 0) says.says.says
      (by says.says.message.error says.says.spells.1 says.says.spells.5.1.0)
    where
      by : (error : ℤ) → IsErrorNumber error → number_at 4 4 bytes ≡ cast_unsigned w32 error
          → times_named id (wire_said error says.says.message.content) ≤ 0
      by (pos n) good word = absurd (some (omega (arith, ints, word, good.0)))
      by (negsuc n) good word = omega arith

  -- of few bytes
  pub short_times : (o : Opcode) (bytes : List ℕ) (wire : WireReply) → Says o bytes wire → length bytes ≤ 80
      → times_named id wire ≤ 0
  short_times o bytes wire says short = subst (λ (w : WireReply). times_named id w ≤ 0) says.says.says
      (by says.says.message.error says.says.message.content says.says.spells.3 says.says.spells.5.1.1.1)
    where
      by : (error : ℤ) (content : ReplyContent) → IsReplyContent content → ReadsAs 16 (reply_body content) bytes
          → times_named id (wire_said error content) ≤ 0
      by (negsuc n) content good reads = omega arith
      by (pos n) (entry_reply e) good reads =
          let ends = entry_is e 16 [] bytes good reads in absurd (omega (arith, ends.2, short))
      by (pos n) (create_reply e fh) good reads =
          let ends = entry_is e 16 (open_fields fh) bytes good reads in absurd (omega (arith, ends.2.1, short))
      by (pos n) (plus_reply []) good reads = omega arith
      by (pos n) (plus_reply (p ∷ ps)) good reads =
          let ends = entry_is p.entry_out 16 (dirent_fields p.dirent (direntpluses ps)) bytes good.0 reads in
          let long = within 144 (dirent_fields p.dirent (direntpluses ps)) bytes ends.2 in
          absurd (omega (arith, long, short))
      by (pos n) content good reads = omega arith

  that : {K : Type 0} (a k : K) → ◌≡◌ {A = Option K} (Some a) (Some k) → k ≡ a
  that {K} a k same = sym (ap of same)
    where
      of : Option K → K
      of None = a
      of (Some x) = x

  -- of an INTERRUPT
  pub interrupt_times : (bytes : List ℕ) (wire : WireReply) → Says op.Interrupt bytes wire → times_named id wire ≤ 0
  interrupt_times bytes wire says = subst (λ (w : WireReply). times_named id w ≤ 0) says.says.says
      (by says.says.message.error says.says.message.content (kind says.says.spells.2.1 says.says.spells.2.2))
    where
      kind : reply_kind latest_minor op.Interrupt ≡ Some says.says.spells.2.0
          → kind_of_content says.says.message.content
          ≡ cond (cast_unsigned w32 says.says.message.error == 0) says.says.spells.2.0 (kind_of_content empty_reply)
          → kind_of_content says.says.message.content ≡ kind_of_content empty_reply
      kind is same = same ∙ by_error (cast_unsigned w32 says.says.message.error == 0)
        where
          by_error : (b : Bool) → cond b says.says.spells.2.0 (kind_of_content empty_reply) ≡ kind_of_content empty_reply
          by_error true = that (kind_of_content empty_reply) says.says.spells.2.0 is
          by_error false = refl

      by : (error : ℤ) (content : ReplyContent) → kind_of_content content ≡ kind_of_content empty_reply
          → times_named id (wire_said error content) ≤ 0
      by (negsuc n) content is = omega arith
      by (pos n) (entry_reply e) is = absurd (cc is)
      by (pos n) (create_reply e fh) is = absurd (cc is)
      by (pos n) (plus_reply ps) is = absurd (cc is)
      by (pos n) content is = omega arith

-- The bytes of an error reply have an error.
pub error_word : (t : ReplyMessage) (bytes : List ℕ) (n : ℕ) → t.error ≡ negsuc n → WrittenReply t bytes → number_at 4 4 bytes ≢ 0
error_word t bytes n is reply zero =
    let reads = reads_back (reply_fields (length bytes) t) [] reply.6 reply.7 in
    let word : number_at 4 4 bytes ≡ cast_unsigned w32 t.error = ap (number_at 4 4) reply.8 ∙ reads.1.0 in
    let good : IsErrorNumber (negsuc n) = subst IsErrorNumber is reply.1 in
    let same : cast_unsigned w32 t.error ≡ cast_unsigned w32 (negsuc n) = ap (cast_unsigned w32) is in
    omega (arith, ints, zero, word, same, good.1)
