-- The header of a reply of the codec's, as the definitions of sessions read it.
use Rattle.std.proofs.Common.{◌≡◌, ◌≢◌, ◌≤◌, inl, inr, ℕ, ℤ, pos, negsuc, List, [], length, sym, ◌∙◌, subst, arith}
use Rattle.std.proofs.lemmas.Int.{ints}
use Rattle.std.specs.Int.{cast_unsigned, w32}
use Rattle.fk_fields.specs.Fields.{ReadsAs}
use Rattle.fk_wire.specs.Replies.{ReplyMessage, WrittenReply, empty_reply, reply_body, reply_fields, IsErrorNumber}
use Rattle.fk_wire.specs.Requests.{max_frame}
use Rattle.fk_wire.proofs.Frames.{reads_back}
use Rattle.fk_wire.proofs.OneRequest.{within}
use Rattle.fuse_replies.specs.Replies.{IsFrame, IsErrorWord}
use Rattle.fuse_sessions.specs.Frames.{number_in, error_in}

-- an error number is a word of an error
error_in_range : (error : ℤ) (word : ℕ) → IsErrorNumber error → word ≡ cast_unsigned w32 error → IsErrorWord word
error_in_range (pos n) word good e = inl (omega (arith, ints, e, good.0))
error_in_range (negsuc n) word good e = inr (omega (arith, ints, e, good.1))

pub error_shows : (n : ℕ) → IsErrorNumber (negsuc n) → cast_unsigned w32 (negsuc n) ≢ 0
error_shows n good zero = omega (arith, ints, zero, good.1)

-- What a header says, of a frame that is one.
pub record IsHeadOf (reply : List ℕ) (unique : ℕ) (code : ℤ) : Type 0 where
  pub frame : IsFrame reply
  pub word : IsErrorWord (error_in reply)
  pub number : number_in reply ≡ unique
  pub error : error_in reply ≡ cast_unsigned w32 code

pub head_of : (m : ReplyMessage) (reply : List ℕ) → length reply ≤ max_frame → IsErrorNumber m.error
    → ReadsAs 0 (reply_fields (length reply) m) reply → IsHeadOf reply m.unique m.error
head_of m reply short good reads = record {
  frame = (within 16 (reply_body m.content) reply reads.1.1.1, omega (arith, short), reads.0);
  word = error_in_range m.error (error_in reply) good reads.1.0;
  number = reads.1.1.0;
  error = reads.1.0;
}

pub written_head : (m : ReplyMessage) (reply : List ℕ) → WrittenReply m reply → IsHeadOf reply m.unique m.error
written_head m reply w = head_of m reply w.0 w.1
    (subst (λ (x : List ℕ). ReadsAs 0 (reply_fields (length reply) m) x) (sym w.8)
    (reads_back (reply_fields (length reply) m) [] w.6 w.7))

-- An error reply shows an error.
pub error_head : (unique n : ℕ) (reply : List ℕ)
    → WrittenReply (record { unique = unique; error = negsuc n; content = empty_reply }) reply → error_in reply ≢ 0
error_head unique n reply w zero =
    error_shows n w.1 (sym (written_head (record { unique = unique; error = negsuc n; content = empty_reply }) reply w).error ∙ zero)

pub error_length : (unique n : ℕ) (reply : List ℕ)
    → WrittenReply (record { unique = unique; error = negsuc n; content = empty_reply }) reply → length reply ≡ 16
error_length unique n reply w =
    let m : ReplyMessage = record { unique = unique; error = negsuc n; content = empty_reply } in
    let reads : ReadsAs 0 (reply_fields (length reply) m) reply =
    subst (λ (x : List ℕ). ReadsAs 0 (reply_fields (length reply) m) x) (sym w.8)
    (reads_back (reply_fields (length reply) m) [] w.6 w.7) in
    reads.1.1.1
