-- A server that answers a NOTIFY_REPLY is accused of a reply to nothing.
use Rattle.std.proofs.Common.{◌≡◌, inl, inr, ℕ, negsuc, true, List, [], ◌∷◌, ◌++◌, None, refl, sym, ◌∙◌, arith, slice_range}
use Rattle.std.proofs.lemmas.Int.{ints}
use Rattle.std.specs.Borrow.{Bor}
use Rattle.fk_fields.specs.Fields.{number_at, bytes_of}
use Rattle.fk_wire.specs.declared.opcode.Opcode.{Opcode as Codec}
use Rattle.fk_wire.specs.declared.opcode.Opcode.TheVariants as codec
use Rattle.fk_wire.specs.Opcodes.{code_of}
use Rattle.fuse_spec.specs.declared.Minor.TheVariants.{M31}
use Rattle.fuse_spec.specs.declared.WriteResult.TheVariants.{NoEntry}
use Rattle.fuse_spec.specs.Kernel.Messages.{Request}
use Rattle.fuse_frames.specs.RequestTies.{SaysRequest}
use Rattle.fuse_device.specs.Transfers.{sent}
use Rattle.fs_server.specs.declared.server.ServerFault.TheVariants.{Wire}
use Rattle.fs_server.specs.Effects.{RefusesFrame}
use Rattle.fs_server.specs.Faults.{IsFaultReply}
use Rattle.fs_serve.specs.LongBatches.{IsLongBatch}
use Rattle.fs_serve.specs.LongInits.{IsLongInit}
use Rattle.fs_serve.specs.LongNames.{IsNameTooLong}
use Rattle.fs_serve.specs.Sending.{SendsFault, with_result}
use Rattle.fs_serve.specs.Sending as sending
use Rattle.fs_serve.specs.Serving.{Serves, next, one, refused}
use Rattle.fs_serve.specs.Serving as serving
use Rattle.fuse_protocol.specs.declared.opcode.Opcode.TheVariants as op
use Rattle.fuse_protocol.specs.declared.request.OpenHandle.TheVariants as opened
use Rattle.fuse_protocol.specs.Agreement.{before_init}
use Rattle.fuse_protocol.specs.Inits.{IsInit}
use Rattle.fuse_protocol.specs.Requests.{RequestMessage, IsRequest}
use Rattle.fuse_protocol.specs.Table.{row_at}
use Rattle.fuse_sessions.specs.declared.act.Act.{Act}
use Rattle.fuse_sessions.specs.declared.act.Act.TheVariants as act
use Rattle.fuse_sessions.specs.declared.act.Fit.TheVariants as fit
use Rattle.fuse_sessions.specs.declared.act.Taken.TheVariants as taken
use Rattle.fuse_sessions.specs.declared.fault.Fault.{Fault}
use Rattle.fuse_sessions.specs.declared.fault.Fault.TheVariants as fault
use Rattle.fuse_sessions.specs.declared.transfer.Transfer.{Transfer as Said}
use Rattle.fuse_sessions.specs.declared.transfer.Transfer.TheVariants as said
use Rattle.fuse_sessions.specs.Faults.{BreaksArrival, BreaksBeginning, BreaksReply}
use Rattle.fuse_sessions.specs.Frames.{IsHead, IsSession, nothing_known}
use Rattle.served_sessions.specs.Counterexamples.{fresh_server, log_of_notify_reply, reply_to_notify_reply, unasked_notify_reply}
use Rattle.served_sessions.specs.Groups.{IsAny, is_of_interrupts, is_of_numbers}
use Rattle.served_sessions.specs.Served.{NeverAccused}
use Rattle.served_sessions.proofs.Free.{AreFree, never_at}
use Rattle.served_sessions.proofs.Requests.{frame_opcode}

-- ---- the server

not_known : (o : Codec) → code_of o ≡ 41 → ⊥
not_known codec.Lookup e = omega (arith, e)
not_known o e = omega (arith, e)

opcode_is : number_at 4 4 unasked_notify_reply ≡ 41
unfolding number_at
opcode_is = refl

no_two : (code : ℕ) → code ≡ 41 → code ≡ 26 → ⊥
no_two code e f = omega (arith, e, f)

spells_none : (request : Request) → SaysRequest unasked_notify_reply request → ⊥
spells_none request says = not_known _ (sym (frame_opcode unasked_notify_reply request says) ∙ opcode_is)

refuses : RefusesFrame fresh_server unasked_notify_reply Wire
refuses = record { of_request = λ request says. absurd (spells_none request says); of_none = λ none. refl }

not_long_name : IsNameTooLong unasked_notify_reply → ⊥
not_long_name long = not_known long.opcode (long.asks ∙ opcode_is)

fault_reply : IsFaultReply M31 unasked_notify_reply Wire reply_to_notify_reply
unfolding number_at bytes_of
fault_reply = record {
  answerable = record { header = (omega arith, refl); of_fault = refl; of_opcode = refl };
  error = negsuc 37;
  of_opcode = inr (λ o knows. not_known o, refl);
  written = (omega arith, search (arith, ints), refl, λ shows. refl, tt, tt, (omega arith, (omega arith, (omega arith, tt))), tt, refl);
}

not_long_init : IsLongInit unasked_notify_reply → ⊥
not_long_init long = no_two (number_at 4 4 unasked_notify_reply) opcode_is long.opcode

not_long_batch : IsLongBatch unasked_notify_reply → ⊥
not_long_batch long = let l = long.long in omega (arith, l)

serves : Serves fresh_server log_of_notify_reply fresh_server
serves = next [] fresh_server serving.nothing refl log_of_notify_reply fresh_server
    (one unasked_notify_reply unasked_notify_reply (inr (not_long_init, not_long_batch, refl))
    (sent reply_to_notify_reply NoEntry ∷ []) fresh_server
    (refused Wire refuses (λ e. absurd cc) (λ wire long. not_long_name long) refl (sent reply_to_notify_reply NoEntry ∷ [])
    (sending.replied reply_to_notify_reply fault_reply (sent reply_to_notify_reply NoEntry ∷ []) (with_result NoEntry))))

-- ---- the session

borrowed : List ℕ → Bor (List ℕ)
borrowed bytes = record { ref_ptr = (0, 0); now = bytes }

abbrev message : RequestMessage
message = record {
  unique = 2;
  nodeid = 0;
  node = None;
  handle = opened.None;
  asked = 0;
  fixed = slice_range unasked_notify_reply 40 80;
  names = [];
  tail = [];
  extensions = [];
}

is_notify_reply : IsRequest before_init unasked_notify_reply (row_at op.NotifyReply) message
unfolding number_at
is_notify_reply = record {
  short = omega arith;
  len = refl;
  opcode = refl;
  unique = refl;
  nodeid = refl;
  whole = omega arith;
  node = refl;
  handle = refl;
  asked = refl;
  fixed = refl;
  parts = refl;
  names = tt;
  tail = refl;
  extensions = refl;
}

abbrev first_acts : List Act
first_acts = act.Arrives ∷ act.Begins op.NotifyReply ∷ []

abbrev last_acts : List Act
last_acts = act.Takes 2 taken.NoEntry fit.MayFit ∷ act.Replies 2 taken.NoEntry ∷ []

head : IsHead reply_to_notify_reply
unfolding number_at
head = ((omega arith, omega arith, refl), inr (omega arith))

no_init : IsInit unasked_notify_reply → ⊥
no_init (m, is) = no_two (number_at 4 4 unasked_notify_reply) opcode_is is.opcode

abbrev transfers : List Said
transfers = said.Request (borrowed unasked_notify_reply) ∷ said.Written (borrowed reply_to_notify_reply) taken.NoEntry ∷ []

session : IsSession transfers nothing_known (first_acts ++ last_acts)
unfolding number_at borrowed
session = (
  first_acts,
  nothing_known,
  (inl ((op.NotifyReply, message), is_notify_reply, refl), inr (λ first. no_init first.1, refl)),
  (last_acts, nothing_known, inl (head, (refl, refl)), (refl, refl)),
)

arrives : (f : Fault) → BreaksArrival [] f → is_of_interrupts f ≡ true → ⊥
arrives fault.ReadAfterTheEnd b is = cc
arrives f b is = b

begins : (f : Fault) → BreaksBeginning (act.Arrives ∷ []) op.NotifyReply f → is_of_interrupts f ≡ true → ⊥
begins fault.RequestBeforeInit b is = cc
begins f b is = b

replies : (f : Fault)
    → BreaksReply (act.Arrives ∷ act.Begins op.NotifyReply ∷ act.Takes 2 taken.NoEntry fit.MayFit ∷ []) 2 f
    → is_of_interrupts f ≡ true → ⊥
replies fault.ReplyToForget b is = cc
replies fault.SecondReply b is = cc
replies fault.ReplyToNothing b is = cc
replies f b is = b

keeps : AreFree is_of_interrupts [] (first_acts ++ last_acts)
keeps = (arrives, (begins, (λ f b is. b, (replies, tt))))

-- its last act is the server's fault
pub no_notify_reply_is_needed : NeverAccused is_of_numbers is_of_interrupts IsAny → ⊥
unfolding borrowed
no_notify_reply_is_needed never = never fresh_server log_of_notify_reply fresh_server serves (tt, tt) transfers
    (refl, ((refl, refl), tt)) nothing_known (first_acts ++ last_acts) session
    (never_at is_of_interrupts [] (first_acts ++ last_acts) keeps) 3 fault.ReplyToNothing
    (record { act = act.Replies 2 taken.NoEntry; stands = refl; breaks = (refl, refl) }) refl
