-- What an accepted reply to OPENDIR opens in a session, and that one which does not know it opens none.
use Rattle.std.proofs.Common.{◌≡◌, inl, inr, ℕ, ◌≤◌, true, List, [], ◌++◌, Some, nat_eq, length, if◌then◌else◌, refl, ap, sym, subst, ◌∙◌, arith}
use Rattle.std.specs.List.{list_any}
use Rattle.std.specs.Prelude.{pos}
use Rattle.std.proofs.lemmas.Int.{ints}
use Rattle.fk_wire.specs.declared.opcode.Opcode.TheVariants as codec_op
use Rattle.fk_wire.specs.Opcodes.{latest_minor}
use Rattle.fk_wire.specs.Replies.{empty_reply, open_reply}
use Rattle.fuse_spec.specs.declared.Opened.{Opened}
use Rattle.fk_drive_frames.specs.OwnRequests.{GivesError, GivesHandle, not_known}
use Rattle.fuse_protocol.specs.declared.opcode.Opcode.TheVariants as op
use Rattle.fuse_protocol.specs.Table.{row_at}
use Rattle.fuse_replies.specs.Replies.{AnswerContent, IsReply, ReplyMessage}
use Rattle.fuse_replies.specs.Replies as answer
use Rattle.protocol_law.specs.Law.{Carries}
use Rattle.protocol_law.specs.ReplyLaw.{SayTheSame}
use Rattle.protocol_law.proofs.RepliedAlike.{replied_alike}
use Rattle.fuse_sessions.specs.declared.act.Act.{Act}
use Rattle.fuse_sessions.specs.declared.act.Asked.{Asked}
use Rattle.fuse_sessions.specs.declared.act.OpenKind.TheVariants as kind
use Rattle.fuse_sessions.specs.declared.act.Taken.TheVariants as taken
use Rattle.fuse_sessions.specs.declared.fault.Fault.TheVariants as fault
use Rattle.fuse_sessions.specs.declared.known.Known.{Known}
use Rattle.fuse_sessions.specs.Fits.{fit_in}
use Rattle.fuse_sessions.specs.Frames.{IsReplyOf, IsWritten, init_acts, number_in, replied, said_acts}
use Rattle.fuse_sessions.specs.OpenFiles.{opens_none}
use Rattle.fuse_sessions.specs.ReplyActs.{answer_acts, opening_none}
use Rattle.fuse_sessions.specs.Sessions.{Session}
use Rattle.fuse_sessions.specs.Waiting.{waits as waits_in}
use Rattle.fuse_sessions.specs.Warnings.{missing_acts}
use Rattle.driven_sessions.proofs.Gives.{IsEntered}
use Rattle.driven_sessions.proofs.Heard.{headed_reply}
use Rattle.driven_sessions.proofs.Leading.{AreFree}
use Rattle.driven_sessions.proofs.Served.{is_of_server}
use Rattle.driven_sessions.proofs.Files.Opened.{as_file, opens_in}
use Rattle.driven_sessions.proofs.Files.Replies.{answer_last, one_opened, opens_last}
use Rattle.driven_sessions.proofs.Files.Waiting.{any_last}

-- A server without a fault, whose reply is accepted: it is one to what waits.
pub free_reply : (k : Known) (s : Session) (bytes : List ℕ) (acts : List Act) (later : Known)
    → IsWritten k s bytes taken.Accepted acts later → AreFree is_of_server s acts → (u : ℕ) → number_in bytes ≡ u → 2 ≤ u → (a : Asked)
    → waits_in s u ≡ Some a → a.opcode ≡ Some op.Opendir → IsReplyOf k bytes taken.Accepted op.Opendir a acts later
free_reply k s bytes acts later (inl (head, does)) free u is some a there asks =
    headed_reply k bytes u is some acts later op.Opendir s a there asks does
free_reply k s bytes acts later (inr (bad, does, same)) free u is some a there asks =
    absurd ((subst (AreFree is_of_server s) does free).0 fault.MalformedReply refl refl)

module _ (k : Known) (carries : Carries k.agreed) (bytes : List ℕ) (a : Asked) (acts : List Act) (later : Known)
    (does : IsReplyOf k bytes taken.Accepted op.Opendir a acts later) (unique : ℕ) where
  -- The directory is opened.
  pub handle_opens : (p : Opened) → a.nodeid ≡ p.nodeid → GivesHandle bytes unique p.fh
      → 1 ≤ opens_in (as_file kind.Directory p) acts
  handle_opens p node gives =
      let read = replied_alike latest_minor k.agreed codec_op.Open (length bytes) bytes
      (record { unique = unique; error = pos 0; content = open_reply p.fh }) carries (omega arith) gives in
      by read.0.answer read.2.1 read.0 read.1 refl
    where
      by : (said : AnswerContent) → SayTheSame (pos 0) (open_reply p.fh) said → (r : ReplyMessage)
          → IsReply k.agreed (row_at op.Opendir).reply (length bytes) bytes r → r.answer ≡ said
          → 1 ≤ opens_in (as_file kind.Directory p) acts
      by (answer.opened file) same r reads is =
          let last = answer_last k bytes a acts later op.Opendir does r (length bytes) reads (subst IsEntered (sym is) tt) in
          let all : acts ≡ last.0 ++ answer_acts op.Opendir a (answer.opened file) =
          last.1 ∙ ap (λ (c : AnswerContent). last.0 ++ answer_acts op.Opendir a c) is in
          let one = one_opened kind.Directory p a.nodeid file.handle node same in
          let more = opens_last (as_file kind.Directory p) last.0 (answer_acts op.Opendir a (answer.opened file)) in
          let grown = ap (opens_in (as_file kind.Directory p)) all in
          omega (arith, one, more, grown)
      by said same r reads is = absurd same

  -- The server says that it opens none.
  pub error_opens_none : GivesError bytes unique not_known → list_any (opens_none kind.Directory) acts ≡ true
  error_opens_none gives =
      let short : length bytes ≡ 16 = gives.5.1.1.1 in
      let read = replied_alike latest_minor k.agreed codec_op.Open a.asked bytes
      (record { unique = unique; error = not_known; content = empty_reply }) carries (omega (arith, short)) gives in
      by read.0.answer read.2.1 read.0 read.1 refl does
    where
      by : (said : AnswerContent) → SayTheSame not_known empty_reply said → (r : ReplyMessage)
          → IsReply k.agreed (row_at op.Opendir).reply a.asked bytes r → r.answer ≡ said
          → IsReplyOf k bytes taken.Accepted op.Opendir a acts later → list_any (opens_none kind.Directory) acts ≡ true
      by answer.done same r reads is does = absurd (omega (arith, ints, same))
      by (answer.failed errno) same r reads is (inl (m, read, (shown, told))) =
          let content : m.answer ≡ answer.failed errno = sym read.answer ∙ reads.answer ∙ is in
          let number : errno ≡ 38 = omega (arith, ints, same) in
          let first : List Act = replied bytes taken.Accepted (fit_in (row_at op.Opendir).reply a.asked bytes) in
          let last : List Act = (if nat_eq errno 38 then opening_none op.Opendir else []) ++ missing_acts op.Opendir a.nodeid errno in
          ap (list_any (opens_none kind.Directory)) (shown
          ∙ ap (λ (c : AnswerContent). first ++ said_acts k op.Opendir a taken.Accepted c) content)
          ∙ any_last (opens_none kind.Directory) first (init_acts k.offered (answer.failed errno) ++ last)
          (any_last (opens_none kind.Directory) (init_acts k.offered (answer.failed errno)) last
          (ap (λ (n : ℕ). list_any (opens_none kind.Directory) ((if nat_eq n 38 then opening_none op.Opendir else [])
          ++ missing_acts op.Opendir a.nodeid errno)) number))
      by (answer.failed errno) same r reads is (inr (none, shown)) = absurd (none r reads)
      by said same r reads is does = absurd same
