-- A server that answers a request of number 0 is accused, and its kernel is not.
use Rattle.std.proofs.Common.{◌≡◌, inl, inr, ℕ, true, false, List, [], ◌∷◌, ◌++◌, Some, None, refl, sym, ◌∙◌, ap, arith, slice_range}
use Rattle.std.proofs.lemmas.Bool.{false≢true}
use Rattle.std.proofs.lemmas.Int.{ints}
use Rattle.std.specs.Borrow.{Bor}
use Rattle.fk_fields.specs.Fields.{number_at, bytes_of}
use Rattle.fk_wire.specs.Requests as wire
use Rattle.fk_wire.specs.Requests.{Spells}
use Rattle.fk_wire.specs.Requests.{RequestMessage as RequestSpelled}
use Rattle.fuse_spec.specs.declared.WriteResult.TheVariants.{Accepted}
use Rattle.fuse_spec.specs.Kernel.Messages.{Request, init}
use Rattle.fuse_spec.specs.Server.Memory.{word_takes_memory}
use Rattle.fuse_spec.specs.Server.Taking.{taking}
use Rattle.fuse_frames.specs.RequestTies.{SaysRequest}
use Rattle.fuse_frames.proofs.RequestLemmas.{one_request}
use Rattle.fuse_device.specs.Transfers.{sent}
use Rattle.fs_server.specs.Effects.{CanTake}
use Rattle.fs_serve.specs.LongBatches.{IsLongBatch}
use Rattle.fs_serve.specs.LongInits.{IsLongInit}
use Rattle.fs_serve.specs.Sending.{SendsError, with_result}
use Rattle.fs_serve.specs.Serving.{Serves, ServesFrame, next, one, out_of_memory, untaken}
use Rattle.fs_serve.specs.Serving as serving
use Rattle.fuse_protocol.specs.declared.opcode.Opcode.TheVariants as op
use Rattle.fuse_protocol.specs.declared.request.OpenHandle.TheVariants as opened
use Rattle.fuse_protocol.specs.Agreement.{before_init}
use Rattle.fuse_protocol.specs.Init.{init_request_at}
use Rattle.fuse_protocol.specs.Requests.{RequestMessage, IsRequest}
use Rattle.fuse_protocol.specs.Table.{row_at}
use Rattle.fuse_replies.specs.Notifications.{IsNotification, NotificationContent, kind_of}
use Rattle.fuse_replies.specs.declared.notification.NotificationKind.{NotificationKind}
use Rattle.fuse_replies.specs.declared.notification.NotificationKind.TheVariants as kind
use Rattle.fuse_replies.specs.NotificationTable.{code_of}
use Rattle.fuse_sessions.specs.declared.act.Act.{Act}
use Rattle.fuse_sessions.specs.declared.act.Act.TheVariants as act
use Rattle.fuse_sessions.specs.declared.act.Taken.TheVariants as taken
use Rattle.fuse_sessions.specs.declared.fault.Fault.{Fault}
use Rattle.fuse_sessions.specs.declared.fault.Fault.TheVariants as fault
use Rattle.fuse_sessions.specs.declared.known.Known.{Known}
use Rattle.fuse_sessions.specs.declared.transfer.Transfer.{Transfer as Said}
use Rattle.fuse_sessions.specs.declared.transfer.Transfer.TheVariants as said
use Rattle.fuse_sessions.specs.Faults.{BreaksArrival, BreaksBeginning, BreaksNumber}
use Rattle.fuse_sessions.specs.Frames.{IsHead, IsSession, nothing_known}
use Rattle.fuse_sessions.specs.RequestActs.{request_acts}
use Rattle.served_sessions.specs.Counterexamples.{fresh_server, init_of_no_number, log_of_no_number, reply_of_no_number}
use Rattle.served_sessions.specs.Groups.{IsAny, is_of_kernel, is_of_notices}
use Rattle.served_sessions.specs.Served.{NeverAccused}
use Rattle.served_sessions.proofs.Free.{AreFree, never_at}

-- ---- the server

abbrev spelled : RequestSpelled
spelled = record { unique = 0; nodeid = 0; content = wire.init 7 31 0 }

spells : Spells init_of_no_number spelled
unfolding number_at
spells = (omega arith, refl, refl, (refl, (refl, (refl, (refl, (refl, (refl, refl)))))))

abbrev says : SaysRequest init_of_no_number (record { unique = 0; body = init 0 })
says = record { message = spelled; spells = spells; unique = refl; says = refl }

abbrev can : CanTake fresh_server init_of_no_number
can = record { request = record { unique = 0; body = init 0 }; says = says; faultless = refl; within = refl }

takes_memory : (request : Request) → SaysRequest init_of_no_number request
    → word_takes_memory (taking fresh_server request.unique request.body).word ≡ true
takes_memory request other =
    let same : record { unique = 0; body = init 0 } ≡ request =
    sym (one_request init_of_no_number (record { unique = 0; body = init 0 }) says)
    ∙ one_request init_of_no_number request other in
    ap (λ (r : Request). word_takes_memory (taking fresh_server r.unique r.body).word) (sym same)

no_memory : SendsError 0 out_of_memory (sent reply_of_no_number Accepted ∷ [])
unfolding bytes_of
no_memory = record {
  bytes = reply_of_no_number;
  written = (omega arith, search (arith, ints), refl, λ shows. refl, tt, tt, (omega arith, (omega arith, (omega arith, tt))), tt, refl);
  sends = with_result Accepted;
}

not_long_init : IsLongInit init_of_no_number → ⊥
not_long_init long = let l = long.long in omega (arith, l)

not_long_batch : IsLongBatch init_of_no_number → ⊥
not_long_batch long = let l = long.long in omega (arith, l)

serves : Serves fresh_server log_of_no_number fresh_server
serves = next [] fresh_server serving.nothing refl log_of_no_number fresh_server
    (one init_of_no_number init_of_no_number (inr (not_long_init, not_long_batch, refl))
    (sent reply_of_no_number Accepted ∷ []) fresh_server
    (untaken can takes_memory (λ e. absurd cc) refl (sent reply_of_no_number Accepted ∷ []) no_memory))

-- ---- the session

borrowed : List ℕ → Bor (List ℕ)
borrowed bytes = record { ref_ptr = (0, 0); now = bytes }

abbrev message : RequestMessage
message = record {
  unique = 0;
  nodeid = 0;
  node = None;
  handle = opened.None;
  asked = 0;
  fixed = slice_range init_of_no_number 40 56;
  names = [];
  tail = [];
  extensions = [];
}

is_init : IsRequest before_init init_of_no_number (row_at op.Init) message
unfolding number_at
is_init = record {
  short = omega arith;
  len = refl;
  opcode = refl;
  unique = refl;
  nodeid = refl;
  whole = omega arith;
  node = refl;
  handle = refl;
  asked = refl;
  fixed = refl;
  parts = refl;
  names = tt;
  tail = tt;
  extensions = refl;
}

abbrev offered : Known
offered = record nothing_known { offered = Some (init_request_at init_of_no_number) }

abbrev first_acts : List Act
first_acts = request_acts false op.Init message

abbrev last_acts : List Act
last_acts = act.Faulty fault.MalformedNotification ∷ []

head : IsHead reply_of_no_number
unfolding number_at
head = ((omega arith, omega arith, refl), tt)

no_notice : (m : NotificationContent) → IsNotification offered.agreed reply_of_no_number m → ⊥
unfolding number_at
no_notice m is = by (kind_of m) is.code
  where
    by : (k : NotificationKind) → code_of k ≡ 4294967284 → ⊥
    by kind.Poll e = omega (arith, e)
    by k e = omega (arith, e)

abbrev transfers : List Said
transfers = said.Request (borrowed init_of_no_number) ∷ said.Written (borrowed reply_of_no_number) taken.Accepted ∷ []

session : IsSession transfers offered (first_acts ++ last_acts)
unfolding number_at borrowed
session = (
  first_acts,
  offered,
  (inl ((op.Init, message), is_init, refl), inl ((refl, (message, is_init)), refl)),
  (last_acts, offered, inl (head, inr (no_notice, (refl, refl))), (refl, refl)),
)

arrives : (f : Fault) → BreaksArrival [] f → is_of_kernel f ≡ true → ⊥
arrives fault.ReadAfterTheEnd b is = cc
arrives f b is = b

begins : (f : Fault) → BreaksBeginning (act.Arrives ∷ []) op.Init f → is_of_kernel f ≡ true → ⊥
begins fault.InitNotFirst b is = false≢true b
begins f b is = b

numbered : (f : Fault) → BreaksNumber (act.Arrives ∷ act.Begins op.Init ∷ []) 0 f → is_of_kernel f ≡ true → ⊥
numbered fault.OddNumber b is = omega (arith, b)
numbered fault.NumberUsedTwice b is = false≢true b.1
numbered fault.NumberOutOfOrder b is = false≢true b.3
numbered f b is = b

keeps : AreFree is_of_kernel [] (first_acts ++ last_acts)
keeps = (arrives, (begins, (numbered, (λ f b is. b, (λ f b is. false≢true (ap is_of_kernel (sym b) ∙ is), tt)))))

-- its last act is the server's fault
pub number_is_needed : NeverAccused is_of_notices is_of_kernel IsAny → ⊥
unfolding borrowed
number_is_needed never = never fresh_server log_of_no_number fresh_server serves (tt, tt) transfers (refl, ((refl, refl), tt))
    offered (first_acts ++ last_acts) session (never_at is_of_kernel [] (first_acts ++ last_acts) keeps) 4
    fault.MalformedNotification (record { act = act.Faulty fault.MalformedNotification; stands = refl; breaks = refl }) refl
