-- A frame that agrees as INIT's reply, and what it is in a session in which INIT waits for it.
use Rattle.std.proofs.Common.{◌≡◌, ◌⊎◌, inl, inr, ℕ, ◌-◌, ◌==◌, true, List, ◌++◌, length, Option, Some, None, refl, sym, ◌∙◌, ap, subst, arith}
use Rattle.std.specs.Prelude.{◌≢◌, MatchBool, ℤ, pos, negsuc}
use Rattle.std.specs.List.{list_any}
use Rattle.std.specs.Int.{cast_unsigned, w32}
use Rattle.std.proofs.lemmas.Bool.{false≢true}
use Rattle.std.proofs.lemmas.Int.{ints}
use Rattle.fk_fields.specs.Fields.{number_at}
use Rattle.fk_wire.specs.declared.opcode.Opcode.{Opcode as CodecOpcode}
use Rattle.fk_wire.specs.declared.opcode.Opcode.TheVariants as codec_op
use Rattle.fk_wire.specs.Opcodes.{latest_minor}
use Rattle.fk_wire.specs.Replies.{ReplyContent, init_reply}
use Rattle.fk_wire.specs.Replies.{ReplyMessage as CodecReply}
use Rattle.fk_wire.specs.Replies as codec
use Rattle.fuse_spec.specs.Kernel.Messages.{WireReply}
use Rattle.fuse_spec.specs.Kernel.Replies.{is_agreement}
use Rattle.fuse_frames.specs.DecodedReplies.{Says, head_unique}
use Rattle.fuse_frames.specs.ReplyTies.{wire_said}
use Rattle.fuse_protocol.specs.declared.agreed.Agreed.{Agreed}
use Rattle.fuse_protocol.specs.declared.opcode.Opcode.{Opcode}
use Rattle.fuse_protocol.specs.declared.opcode.Opcode.TheVariants as op
use Rattle.fuse_protocol.specs.declared.row.ReplyShape.TheVariants as shape
use Rattle.fuse_protocol.specs.Agreement.{before_init}
use Rattle.fuse_protocol.specs.Init.{init_reply_at}
use Rattle.fuse_replies.specs.Replies.{AnswerContent, IsFrame, IsReply, ReplyMessage}
use Rattle.fuse_replies.specs.Replies as answer
use Rattle.protocol_law.proofs.RepliedAlike.{replied_alike}
use Rattle.fuse_sessions.specs.declared.act.Act.{Act}
use Rattle.fuse_sessions.specs.declared.act.Asked.{Asked}
use Rattle.fuse_sessions.specs.declared.act.Taken.TheVariants as taken
use Rattle.fuse_sessions.specs.declared.known.Known.{Known}
use Rattle.fuse_sessions.specs.Fits.{fit_in}
use Rattle.fuse_sessions.specs.Frames.{IsNotified, IsReplyBy, IsReplyOf, IsReplyTo, IsWritten, init_acts, interrupt_acts, is_to_interrupt, replied, said_acts}
use Rattle.fuse_sessions.specs.Numbers.{is_agreement as agrees}
use Rattle.fuse_sessions.specs.Sessions.{Session}
use Rattle.fuse_sessions.specs.Waiting.{waits}
use Rattle.fk_drive_frames.specs.Agreements.{IsAgreement, IsHandedOn, IsOlderAgreement}
use Rattle.driven_sessions.specs.Taken.{HasHeader}
use Rattle.driven_sessions.proofs.Early.{Agrees}
use Rattle.driven_sessions.proofs.Unagreed.{agrees_last, is_init}

-- The frame is a reply without an error under the first number, of as many bytes as a reply to INIT has.
pub record IsInitReply (frame : List ℕ) : Type 0 where
  pub whole : IsFrame frame
  pub succeeds : number_at 4 4 frame ≡ 0
  pub size : (length frame - 16 ≡ 8) ⊎ ((length frame - 16 ≡ 24) ⊎ (length frame - 16 ≡ 64))
  pub under : number_at 8 8 frame ≡ 2

-- What says anything as a reply has a reply's header.
pub says_headed : (frame : List ℕ) (o : CodecOpcode) (wire : WireReply) → Says o frame wire → HasHeader frame
says_headed frame o wire says =
    let read = replied_alike latest_minor before_init o (length frame) frame says.says.message
    (record { from_umask = omega arith; no_extensions = refl; names = omega arith }) (omega arith) says.says.spells in
    (read.1.frame, read.1.error)

-- ---- what the codec reads as an agreement

spelled_init : (frame : List ℕ) (wire : WireReply) → Says codec_op.Init frame wire → is_agreement wire ≡ true
    → head_unique frame ≡ 2 → IsInitReply frame
spelled_init frame wire says agrees under =
    let spells = says.says.spells in
    let read = replied_alike latest_minor before_init codec_op.Init (length frame) frame says.says.message
    (record { from_umask = omega arith; no_extensions = refl; names = omega arith }) (omega arith) spells in
    let zero : number_at 4 4 frame ≡ 0 = none says.says.message.error spells.1 spells.5.1.0 says.says.says in
    record {
      whole = read.1.frame;
      succeeds = zero;
      size = subst (λ (n : ℕ). MatchBool (n == 0) ((length frame - 16 ≡ 8) ⊎ ((length frame - 16 ≡ 24) ⊎ (length frame - 16 ≡ 64)))
          (length frame ≡ 16)) zero read.1.body;
      under = under;
    }
  where
    none : (error : ℤ) → codec.IsErrorNumber error → number_at 4 4 frame ≡ cast_unsigned w32 error
        → wire_said error says.says.message.content ≡ wire → number_at 4 4 frame ≡ 0
    none (pos n) good word same = omega (arith, ints, word, good.0)
    none (negsuc n) good word same = absurd (false≢true (ap is_agreement same ∙ agrees))

short_init : {from to : ℕ} (frame : List ℕ) → IsAgreement 40 from to frame → IsInitReply frame
short_init frame is =
    let long = is.whole in
    let stated = is.stated in record {
      whole = (omega (arith, long), omega (arith, long), stated ∙ sym long);
      succeeds = is.succeeds;
      size = inr (inl (omega (arith, long)));
      under = is.of_init;
    }

-- An older agreement is one too.
older_init : (frame : List ℕ) → IsOlderAgreement frame → IsInitReply frame
older_init frame (inl is) =
    let long = is.whole in
    let stated = is.stated in record {
      whole = (omega (arith, long), omega (arith, long), stated ∙ sym long);
      succeeds = is.succeeds;
      size = inr (inr (omega (arith, long)));
      under = is.of_init;
    }
older_init frame (inr (inl is)) = short_init frame is
older_init frame (inr (inr is)) = short_init frame is

-- What is handed to the kernel of a frame agrees.
abbrev pub AgreesFrame : List ℕ → Type 0
AgreesFrame frame = (handed : List ℕ) × IsHandedOn frame handed × Agrees handed

pub agreeing_init : (frame : List ℕ) → AgreesFrame frame → IsInitReply frame
agreeing_init frame (handed, inl (older, raised), agrees) = older_init frame older
agreeing_init frame (handed, inr (other, same), agrees) = by (subst Agrees same agrees)
  where
    by : Agrees frame → IsInitReply frame
    by is = spelled_init frame is.wire is.says is.agrees is.under

-- ---- in a session

module _ (k : Known) (bytes : List ℕ) (is : IsInitReply bytes) where
  -- the reply that it is
  abbrev said : ReplyMessage
  said = record { unique = number_at 8 8 bytes; answer = answer.init (init_reply_at bytes) }

  is_reply : (agreed : Agreed) (asked : ℕ) → IsReply agreed shape.Init asked bytes said
  is_reply agreed asked = let zero = is.succeeds in record {
    wanted = λ e. cc e;
    frame = is.whole;
    error = inl zero;
    body = rw zero is.size;
    names = rw zero tt;
    unique = refl;
    answer = rw zero refl;
  }

  -- Each reply that it is says so.
  says_init : (agreed : Agreed) (asked : ℕ) (m : ReplyMessage) → IsReply agreed shape.Init asked bytes m
      → m.answer ≡ answer.init (init_reply_at bytes)
  says_init agreed asked m reads = let zero = is.succeeds in sym reads.answer ∙ rw zero refl

  -- As an accepted reply to INIT it agrees.
  of_init : (a : Asked) (acts : List Act) (later : Known) → IsReplyOf k bytes taken.Accepted op.Init a acts later
      → list_any agrees acts ≡ true
  of_init a acts later (inl (m, reads, (does, told))) =
      let content : AnswerContent = answer.init (init_reply_at bytes) in
      ap (list_any agrees) (does ∙ ap (λ (c : AnswerContent). replied bytes taken.Accepted (fit_in shape.Init a.asked bytes)
      ++ said_acts k op.Init a taken.Accepted c) (says_init k.agreed a.asked m reads))
      ∙ agrees_last (replied bytes taken.Accepted (fit_in shape.Init a.asked bytes)) (init_acts k.offered content)
      (init_reply_at bytes).max_write
  of_init a acts later (inr (none, does)) = absurd (none said (is_reply k.agreed a.asked))

  by_init : (o : Option Opcode) (a : Asked) (acts : List Act) (later : Known) → is_init o ≡ true
      → IsReplyBy k bytes taken.Accepted o a acts later → list_any agrees acts ≡ true
  by_init (Some op.Init) a acts later init does = of_init a acts later does
  by_init o a acts later init does = absurd (false≢true init)

  to_init : (o : Option Asked) (acts : List Act) (later : Known) → o ≢ None
      → ((a : Asked) → o ≡ Some a → is_init a.opcode ≡ true)
      → MatchBool (is_to_interrupt 2 o) ((acts ≡ interrupt_acts bytes taken.Accepted) × (later ≡ k))
      (IsReplyTo k bytes taken.Accepted o acts later) → list_any agrees acts ≡ true
  to_init None acts later some init does = absurd (some refl)
  to_init (Some a) acts later some init does = by_init a.opcode a acts later (init a refl) does

  -- Where INIT waits for it, and it is accepted, it agrees.
  pub written_agrees : (s : Session) (acts : List Act) (later : Known) → waits s 2 ≢ None
      → ((a : Asked) → waits s 2 ≡ Some a → is_init a.opcode ≡ true)
      → IsWritten k s bytes taken.Accepted acts later → list_any agrees acts ≡ true
  written_agrees s acts later some init (inl (head, does)) = to_init (waits s 2) acts later some init
      (subst (λ (n : ℕ). MatchBool (n == 0) (IsNotified k bytes taken.Accepted acts later)
      (MatchBool (is_to_interrupt n (waits s n)) ((acts ≡ interrupt_acts bytes taken.Accepted) × (later ≡ k))
      (IsReplyTo k bytes taken.Accepted (waits s n) acts later))) is.under does)
  written_agrees s acts later some init (inr (bad, does, same)) =
      let under = is.under in
      absurd (bad (is.whole, rw under (inl is.succeeds)))
