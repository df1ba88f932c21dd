-- Where each reply is accepted and the server has no fault, each was taken as the kernel took it.
use Rattle.std.proofs.Common.{◌≡◌, inl, inr, ℕ, suc, ◌%◌, ◌≤◌, ◌==◌, Bool, true, false, List, [], ◌∷◌, ◌++◌, Option, None, append_assoc, append-nil, take, refl, sym, ◌∙◌, ap, subst, arith}
use Rattle.std.specs.Prelude.{◌≢◌, MatchBool, if◌then◌else◌}
use Rattle.std.proofs.lemmas.Bool.{false≢true}
use Rattle.std.proofs.lemmas.Bool.Decides.{nat_tests}
use Rattle.fuse_device.specs.Transfers.{Transfer}
use Rattle.fuse_spec.specs.declared.WriteResult.TheVariants.{Accepted, Invalid, NoEntry}
use Rattle.fk_kernel.specs.AwaitedReplies.{head_unique}
use Rattle.fk_drive.specs.Driving.{Driven, Drives, first_driven}
use Rattle.fuse_replies.specs.Notifications.{kind_of}
use Rattle.fuse_replies.specs.NotificationTable.{code_of}
use Rattle.fuse_replies.specs.Replies.{IsErrorWord}
use Rattle.fuse_replies.specs.declared.notification.NotificationKind.{NotificationKind}
use Rattle.fuse_replies.specs.declared.notification.NotificationKind.TheVariants as kind
use Rattle.fuse_sessions.specs.declared.act.Act.{Act}
use Rattle.fuse_sessions.specs.declared.act.Act.TheVariants as act
use Rattle.fuse_sessions.specs.declared.act.Asked.{Asked}
use Rattle.fuse_sessions.specs.declared.act.Fit.TheVariants as fit
use Rattle.fuse_sessions.specs.declared.act.Taken.{Taken}
use Rattle.fuse_sessions.specs.declared.act.Taken.TheVariants as taken
use Rattle.fuse_sessions.specs.declared.fault.Fault.{Fault}
use Rattle.fuse_sessions.specs.declared.fault.Fault.TheVariants as fault
use Rattle.fuse_sessions.specs.declared.fault.Party.{Party}
use Rattle.fuse_sessions.specs.declared.fault.Party.TheVariants.{Device, Kernel, Nobody, Server}
use Rattle.fuse_sessions.specs.declared.known.Known.{Known}
use Rattle.fuse_sessions.specs.declared.transfer.Transfer.{Transfer as Said}
use Rattle.fuse_sessions.specs.declared.transfer.Transfer.TheVariants as said
use Rattle.fuse_sessions.specs.Faults.{Breaks, HasFaultAt}
use Rattle.fuse_sessions.specs.Parties.{party_of}
use Rattle.fuse_sessions.specs.Faultless.{HasNoFaultOf}
use Rattle.fuse_sessions.specs.Frames.{AreAccepted, IsNotified, IsReplyTo, IsWritten, Lead, eintr, error_in, interrupt_acts, is_to_interrupt, nothing_known, number_in, replied}
use Rattle.fuse_sessions.specs.Sessions.{Session}
use Rattle.fuse_sessions.specs.Waiting.{waits}
use Rattle.fuse_sessions.proofs.ReplyLaws.{unawaited_reply, waits_past_interrupted, waits_past_taking}
use Rattle.driven_sessions.specs.Driven.{IsTakenWhereServed}
use Rattle.driven_sessions.specs.Taken.{AreTaken, HasHeader, IsTaken, Outcome, aside, outcomes_of, waiting, written}
use Rattle.driven_sessions.proofs.Leading.{AreFree}
use Rattle.driven_sessions.proofs.Unagreed.{judged_acts}

-- A fault is the server's.
abbrev is_server : Party → Bool
is_server Server = true
is_server other = false

abbrev pub is_of_server : Fault → Bool
is_of_server f = is_server (party_of f)

servers : (p : Party) → is_server p ≡ true → p ≡ Server
servers Server is = refl
servers Kernel is = absurd (false≢true is)
servers Device is = absurd (false≢true is)
servers Nobody is = absurd (false≢true is)

-- ---- acts that are free, in parts

pub free_if : (s : Session) (acts : List Act) → ((place : ℕ) (f : Fault) → HasFaultAt s acts place f → party_of f ≡ Server → ⊥)
    → AreFree is_of_server s acts
free_if s [] none = tt
free_if s (a ∷ acts) none = (
  λ f breaks is. none 0 f (record {
    act = a;
    stands = refl;
    breaks = subst (λ (t : Session). Breaks t a f) (sym (append-nil s)) breaks;
  }) (servers (party_of f) is),
  free_if (s ++ a ∷ []) acts (λ place f has is. none (suc place) f (record {
    act = has.act;
    stands = has.stands;
    breaks = subst (λ (t : Session). Breaks t has.act f) (append_assoc s (a ∷ []) (take place acts)) has.breaks;
  }) is),
)

pub free_first : (s : Session) (xs ys : List Act) → AreFree is_of_server s (xs ++ ys) → AreFree is_of_server s xs
free_first s [] ys free = tt
free_first s (a ∷ xs) ys free = (free.0, free_first (s ++ a ∷ []) xs ys free.1)

pub free_last : (s : Session) (xs ys : List Act) → AreFree is_of_server s (xs ++ ys) → AreFree is_of_server (s ++ xs) ys
free_last s [] ys free = subst (λ (t : Session). AreFree is_of_server t ys) (sym (append-nil s)) free
free_last s (a ∷ xs) ys free = subst (λ (t : Session). AreFree is_of_server t ys) (append_assoc s (a ∷ []) xs)
    (free_last (s ++ a ∷ []) xs ys free.1)

-- ---- a reply to what does not wait

-- It is a fault of the server.
faulty_reply : (s : Session) (u : ℕ) (t : Taken) → waits s u ≡ None
    → ((f : Fault) → Breaks s (act.Replies u t) f → is_of_server f ≡ true → ⊥) → ⊥
faulty_reply s u t none free = unawaited_reply s u t none (λ f breaks is. free f breaks (ap is_server is))

module _ (k : Known) (s : Session) (bytes : List ℕ) (acts : List Act) (later : Known) (free : AreFree is_of_server s acts) where
  replied_none : waits s (number_in bytes) ≡ None → acts ≡ replied bytes taken.Accepted fit.MayFit → ⊥
  replied_none none same = by (error_in bytes == eintr) (subst (AreFree is_of_server s) same free)
    where
      by : (b : Bool) → AreFree is_of_server s ((if b then act.Interrupted (number_in bytes) ∷ [] else [])
          ++ act.Takes (number_in bytes) taken.Accepted fit.MayFit ∷ act.Replies (number_in bytes) taken.Accepted ∷ []) → ⊥
      by true free =
          let before : Session = s ++ act.Interrupted (number_in bytes) ∷ [] in
          faulty_reply (before ++ act.Takes (number_in bytes) taken.Accepted fit.MayFit ∷ []) (number_in bytes) taken.Accepted
          (waits_past_taking before (number_in bytes) (number_in bytes) taken.Accepted fit.MayFit
          ∙ waits_past_interrupted s (number_in bytes) (number_in bytes) ∙ none)
          free.1.1.0
      by false free =
          faulty_reply (s ++ act.Takes (number_in bytes) taken.Accepted fit.MayFit ∷ []) (number_in bytes) taken.Accepted
          (waits_past_taking s (number_in bytes) (number_in bytes) taken.Accepted fit.MayFit ∙ none) free.1.0

  positive : (kind : NotificationKind) → (1 ≤ code_of kind) × (code_of kind ≤ 9)
  positive kind.Poll = (omega arith, omega arith)
  positive kind.InvalInode = (omega arith, omega arith)
  positive kind.InvalEntry = (omega arith, omega arith)
  positive kind.Store = (omega arith, omega arith)
  positive kind.Retrieve = (omega arith, omega arith)
  positive kind.Delete = (omega arith, omega arith)
  positive kind.Resend = (omega arith, omega arith)
  positive kind.IncEpoch = (omega arith, omega arith)
  positive kind.Prune = (omega arith, omega arith)

  -- A notification's code is no error.
  notified : IsErrorWord (error_in bytes) → IsNotified k bytes taken.Accepted acts later → ⊥
  notified (inl none) (inl (m, is, does)) =
      let some = positive (kind_of m) in
      let code = is.code in
      omega (arith, some.0, code, none)
  notified (inr high) (inl (m, is, does)) =
      let some = positive (kind_of m) in
      let code = is.code in
      omega (arith, some.1, code, high)
  notified error (inr (none, does)) = (subst (AreFree is_of_server s) does.0 free).0 fault.MalformedNotification refl refl

  by_number : (b : Bool) → waits s (number_in bytes) ≡ None → number_in bytes % 2 ≡ 0 → IsErrorWord (error_in bytes)
      → MatchBool b (IsNotified k bytes taken.Accepted acts later)
      (MatchBool (is_to_interrupt (number_in bytes) (waits s (number_in bytes)))
      ((acts ≡ interrupt_acts bytes taken.Accepted) × (later ≡ k))
      (IsReplyTo k bytes taken.Accepted (waits s (number_in bytes)) acts later)) → ⊥
  by_number true none even error does = notified error does
  by_number false none even error does = replied_none none (to_none does).0
    where
      plain : is_to_interrupt (number_in bytes) None ≡ false
      plain = grind (arith, nat_tests, even)

      to_none : MatchBool (is_to_interrupt (number_in bytes) (waits s (number_in bytes)))
          ((acts ≡ interrupt_acts bytes taken.Accepted) × (later ≡ k))
          (IsReplyTo k bytes taken.Accepted (waits s (number_in bytes)) acts later)
          → IsReplyTo k bytes taken.Accepted None acts later
      to_none does = subst (λ (b : Bool). MatchBool b ((acts ≡ interrupt_acts bytes taken.Accepted) × (later ≡ k))
          (IsReplyTo k bytes taken.Accepted None acts later)) plain
          (subst (λ (x : Option Asked). MatchBool (is_to_interrupt (number_in bytes) x)
          ((acts ≡ interrupt_acts bytes taken.Accepted) × (later ≡ k)) (IsReplyTo k bytes taken.Accepted x acts later)) none does)

  pub reply_waits : IsWritten k s bytes taken.Accepted acts later → HasHeader bytes → head_unique bytes % 2 ≡ 0
      → waits s (head_unique bytes) ≢ None
  reply_waits (inl (head, does)) headed even none = by_number (number_in bytes == 0) none even headed.1 does
  reply_waits (inr (bad, does, same)) headed even none =
      (subst (AreFree is_of_server s) does free).0 fault.MalformedReply refl refl

-- ---- a session

-- what a session gets as it leads on
abbrev pub added : (k : Known) (s : Session) (ts : List Said) (later : Known) (all : Session) → Lead k s ts later all → List Act
added k s [] later all leads = []
added k s (t ∷ ts) later all (acts, known, are, leads) = acts ++ added known (s ++ acts) ts later all leads

pub added_all : (k : Known) (s : Session) (ts : List Said) (later : Known) (all : Session) (leads : Lead k s ts later all)
    → all ≡ s ++ added k s ts later all leads
added_all k s [] later all leads = leads.1 ∙ sym (append-nil s)
added_all k s (t ∷ ts) later all (acts, known, are, leads) =
    added_all known (s ++ acts) ts later all leads ∙ append_assoc s acts (added known (s ++ acts) ts later all leads)

one_taken : (k : Known) (s : Session) (bytes : List ℕ) (t : Taken) (acts : List Act) (later : Known)
    → (k.unjudged ≡ None → IsWritten k s bytes t acts later) → t ≡ taken.Accepted → AreFree is_of_server s acts
    → (o : Outcome) → IsTaken k s bytes t o
one_taken k s bytes t acts later are accepted free aside = tt
one_taken k s bytes t acts later are accepted free waiting = tt
one_taken k s bytes t acts later are accepted free (written NoEntry) = tt
one_taken k s bytes t acts later are accepted free (written Invalid) = tt
one_taken k s bytes t acts later are accepted free (written Accepted) = λ judged headed even. (
  accepted,
  reply_waits k s bytes acts later free (subst (λ (x : Taken). IsWritten k s bytes x acts later) accepted (are judged)) headed even,
)

all_taken : (k : Known) (s : Session) (ts : List Said) (later : Known) (all : Session) (leads : Lead k s ts later all)
    → AreAccepted ts → AreFree is_of_server s (added k s ts later all leads) → (os : List Outcome)
    → AreTaken k s ts later all leads os
all_taken k s [] later all leads accepted free os = tt
all_taken k s (said.Written b t ∷ ts) later all (acts, known, are, leads) accepted free [] = tt
all_taken k s (said.Written b t ∷ ts) later all (acts, known, are, leads) accepted free (o ∷ os) = (
  one_taken k s b.now t acts known (λ judged. judged_acts k s (said.Written b t) acts known judged are) accepted.0
      (free_first s acts (added known (s ++ acts) ts later all leads) free) o,
  all_taken known (s ++ acts) ts later all leads accepted.1
      (free_last s acts (added known (s ++ acts) ts later all leads) free) os,
)
all_taken k s (said.Request b ∷ ts) later all (acts, known, are, leads) accepted free os =
    all_taken known (s ++ acts) ts later all leads accepted (free_last s acts (added known (s ++ acts) ts later all leads) free) os
all_taken k s (said.SeveralReaders ∷ ts) later all (acts, known, are, leads) accepted free os =
    all_taken known (s ++ acts) ts later all leads accepted (free_last s acts (added known (s ++ acts) ts later all leads) free) os
all_taken k s (said.SeveralWriters ∷ ts) later all (acts, known, are, leads) accepted free os =
    all_taken known (s ++ acts) ts later all leads accepted (free_last s acts (added known (s ++ acts) ts later all leads) free) os
all_taken k s (said.Ended ∷ ts) later all (acts, known, are, leads) accepted free os =
    all_taken known (s ++ acts) ts later all leads accepted (free_last s acts (added known (s ++ acts) ts later all leads) free) os

pub taken_where_served : (asks : Bool) (log : List Transfer) (new : Driven) (run : Drives (first_driven asks) log new)
    → IsTakenWhereServed run
taken_where_served asks log new run ts is accepted k s leads none =
    all_taken nothing_known [] (said.SeveralReaders ∷ ts) k s leads accepted
    (free_if [] (added nothing_known [] (said.SeveralReaders ∷ ts) k s leads)
    (subst (λ (l : Session). HasNoFaultOf Server l) (added_all nothing_known [] (said.SeveralReaders ∷ ts) k s leads) none))
    (outcomes_of run)
