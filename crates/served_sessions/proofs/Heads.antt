-- A server's frames are frames, and its INIT is of protocol 7, whatever the kernel does.
use Rattle.std.proofs.Common.{◌≡◌, ◌≢◌, ◌⊎◌, inl, inr, ℕ, ◌==◌, Bool, true, false, List, [], ◌∷◌, ◌++◌, Option, Some, None, refl, sym, ◌∙◌, ap, subst, bit_and, if◌then◌else◌}
use Rattle.std.proofs.lemmas.Bool.{false≢true}
use Rattle.fuse_protocol.specs.declared.init.InitRequest.{InitRequest}
use Rattle.fuse_protocol.specs.declared.init.InitReply.{InitReply}
use Rattle.fuse_protocol.specs.Init.{init_request_at, init_reply_at}
use Rattle.fuse_sessions.specs.declared.act.Act.{Act}
use Rattle.fuse_sessions.specs.declared.act.Act.TheVariants as act
use Rattle.fuse_sessions.specs.declared.act.Taken.{Taken}
use Rattle.fuse_sessions.specs.declared.fault.Fault.{Fault}
use Rattle.fuse_sessions.specs.declared.fault.Fault.TheVariants as fault
use Rattle.fuse_sessions.specs.declared.known.Known.{Known}
use Rattle.fuse_sessions.specs.Sessions.{Session}
use Rattle.fuse_sessions.specs.Frames.{number_in, of_version, of_offered, AreRequestActs, IsOffered}
use Rattle.fuse_sessions.specs.UnreadRequests.{unique_in}
use Rattle.served_sessions.specs.Exchanges.{IsAnswer}
use Rattle.served_sessions.specs.Groups.{is_of_heads, is_of_notices, is_of_numbers, is_of_flags, is_nothing, is_of_second_init}
use Rattle.served_sessions.proofs.Acts.{is_of_frames}
use Rattle.served_sessions.proofs.Asking.{one_number}
use Rattle.served_sessions.proofs.Free.{free_append, AreFree}
use Rattle.served_sessions.proofs.Answering.{agrees_on, init_said, plain_init, interrupt_faults, is_head, offered_none, offered_now, reply_faults, version_none}
use Rattle.served_sessions.proofs.Kept.{Kept}
use Rattle.served_sessions.proofs.Replied.{reply_read}
use Rattle.served_sessions.proofs.Told.{no_answer, told_free}
use Rattle.served_sessions.proofs.Written.{Keeps}

-- a group that has no fault of numbers
abbrev pub IsApart : (Fault → Bool) → Type 0
IsApart group = (f : Fault) → group f ≡ true → (is_of_numbers f ≡ true) ⊎ (f ≡ fault.AgainTooOften) → ⊥

heads_apart : IsApart is_of_heads
heads_apart fault.MalformedReply of (inl e) = cc
heads_apart fault.MalformedReply of (inr e) = cc
heads_apart fault.InitOfAnotherVersion of (inl e) = cc
heads_apart fault.InitOfAnotherVersion of (inr e) = cc
heads_apart f of e = cc

notices_apart : IsApart is_of_notices
notices_apart fault.MalformedNotification of (inl e) = cc
notices_apart fault.MalformedNotification of (inr e) = cc
notices_apart f of e = cc

flags_apart : IsApart is_of_flags
flags_apart fault.FlagsThatWereNotOffered of (inl e) = cc
flags_apart fault.FlagsThatWereNotOffered of (inr e) = cc
flags_apart f of e = cc

pub heads_within : (f : Fault) → is_of_heads f ≡ true → is_of_frames f ≡ true
heads_within fault.MalformedReply is = refl
heads_within fault.InitOfAnotherVersion is = refl
heads_within f is = cc

pub notices_within : (f : Fault) → is_of_notices f ≡ true → is_of_frames f ≡ true
notices_within fault.MalformedNotification is = refl
notices_within f is = cc

pub flags_within : (f : Fault) → is_of_flags f ≡ true → is_of_frames f ≡ true
flags_within fault.FlagsThatWereNotOffered is = refl
flags_within f is = cc

-- ---- what INIT's reply says

-- no flag is a fault of this group
pub flags_free : (group : Fault → Bool) → (group fault.FlagsThatWereNotOffered ≡ true → ⊥) → (s : Session) (r : InitRequest)
    (i : InitReply) → AreFree group s (of_offered r i)
flags_free group apart s r i = by (bit_and i.flags r.flags == i.flags)
  where
    by : (b : Bool) → AreFree group s (if b then [] else act.Faulty fault.FlagsThatWereNotOffered ∷ [])
    by true = tt
    by false = (λ f b is. apart (ap group (sym b) ∙ is), tt)

pub version_free : (group : Fault → Bool) → (group fault.InitOfAnotherVersion ≡ true → ⊥) → (s : Session) (i : InitReply)
    → AreFree group s (of_version i)
version_free group apart s i = by (i.major == 7)
  where
    by : (b : Bool) → AreFree group s (if b then [] else act.Faulty fault.InitOfAnotherVersion ∷ [])
    by true = tt
    by false = (λ f b is. apart (ap group (sym b) ∙ is), tt)

some_request : (r q : InitRequest) → ◌≡◌ {A = Option InitRequest} (Some r) (Some q) → r ≡ q
some_request r q same = ap of same
  where
    of : Option InitRequest → InitRequest
    of None = r
    of (Some x) = x

-- ---- the groups

pub heads_keep : (k later : Known) (s : Session) (request reply : List ℕ) (t : Taken) (acts : List Act)
    → Kept (is_nothing fault.OddNumber) k s → Unit {0} → IsAnswer request reply → AreRequestActs k request acts
    → IsOffered k request later → AreFree is_nothing s acts → Keeps is_of_heads later (s ++ acts) reply t
heads_keep k later s request reply t acts kept such answers does offers free = record {
  head = is_head request reply answers;
  no_notice = λ zero is. absurd (false≢true is);
  replies = λ some other before same f b is. heads_apart f is (inl (reply_faults before (number_in reply) f b).0);
  interrupts = λ some other f b is. heads_apart f is (interrupt_faults (s ++ acts) _ _ t f b);
  agrees = λ a o m waits by is r i offered says before.
      let version : i.major ≡ 7 =
      ap (λ (x : InitReply). x.major) (init_said is_nothing k later s request reply t acts kept answers does offers free a o m waits by is i says)
      ∙ (agrees_on is_nothing k later s request reply t acts kept answers does offers free a o m waits by is i says).version in
      subst (λ (l : List Act). AreFree is_of_heads before (l ++ of_offered r i)) (sym (version_none i version))
      (flags_free is_of_heads (λ e. false≢true e) before r i);
  tells = λ a o m waits by is i says.
      plain_init is_nothing k later s request reply t acts kept answers does offers free a o m waits by is i says;
  fits = λ a o waits by. reply_read is_nothing k later s request reply t acts kept answers does offers free a o waits by;
  says = λ a o m waits by is before. told_free is_of_heads heads_within
      (no_answer is_of_heads heads_within refl refl refl refl refl) before o a m.answer;
}

pub notices_keep : (k later : Known) (s : Session) (request reply : List ℕ) (t : Taken) (acts : List Act)
    → Kept (is_nothing fault.OddNumber) k s → unique_in request ≢ 0 → IsAnswer request reply
    → AreRequestActs k request acts → IsOffered k request later → AreFree is_nothing s acts
    → Keeps is_of_notices later (s ++ acts) reply t
notices_keep k later s request reply t acts kept such answers does offers free = record {
  head = is_head request reply answers;
  no_notice = λ zero is. such (sym answers.number ∙ one_number (number_in reply) 0 zero);
  replies = λ some other before same f b is. notices_apart f is (inl (reply_faults before (number_in reply) f b).0);
  interrupts = λ some other f b is. notices_apart f is (interrupt_faults (s ++ acts) _ _ t f b);
  agrees = λ a o m waits by is r i offered says before.
      free_append is_of_notices before (of_version i) (of_offered r i)
      (version_free is_of_notices (λ e. false≢true e) before i)
      (flags_free is_of_notices (λ e. false≢true e) (before ++ of_version i) r i);
  tells = λ a o m waits by is i says.
      plain_init is_nothing k later s request reply t acts kept answers does offers free a o m waits by is i says;
  fits = λ a o waits by. reply_read is_nothing k later s request reply t acts kept answers does offers free a o waits by;
  says = λ a o m waits by is before. told_free is_of_notices notices_within
      (no_answer is_of_notices notices_within refl refl refl refl refl) before o a m.answer;
}

pub flags_keep : (k later : Known) (s : Session) (request reply : List ℕ) (t : Taken) (acts : List Act)
    → Kept (is_of_second_init fault.OddNumber) k s → Unit {0} → IsAnswer request reply → AreRequestActs k request acts
    → IsOffered k request later → AreFree is_of_second_init s acts → Keeps is_of_flags later (s ++ acts) reply t
flags_keep k later s request reply t acts kept such answers does offers free = record {
  head = is_head request reply answers;
  no_notice = λ zero is. absurd (false≢true is);
  replies = λ some other before same f b is. flags_apart f is (inl (reply_faults before (number_in reply) f b).0);
  interrupts = λ some other f b is. flags_apart f is (interrupt_faults (s ++ acts) _ _ t f b);
  agrees = λ a o m waits by is r i offered says before.
      let request_is : r ≡ init_request_at request = some_request r (init_request_at request) (sym offered
      ∙ offered_now is_of_second_init k later s request reply t acts kept answers does offers free a o m waits by is i says refl) in
      let reply_is : i ≡ init_reply_at reply =
      init_said is_of_second_init k later s request reply t acts kept answers does offers free a o m waits by is i says in
      let agreed = (agrees_on is_of_second_init k later s request reply t acts kept answers does offers free a o m waits by is i says).flags in
      let flags : bit_and i.flags r.flags ≡ i.flags = rw (request_is, reply_is) agreed in
      subst (λ (l : List Act). AreFree is_of_flags before (of_version i ++ l)) (sym (offered_none r i flags))
      (free_append is_of_flags before (of_version i) [] (version_free is_of_flags (λ e. false≢true e) before i) tt);
  tells = λ a o m waits by is i says.
      plain_init is_of_second_init k later s request reply t acts kept answers does offers free a o m waits by is i says;
  fits = λ a o waits by. reply_read is_of_second_init k later s request reply t acts kept answers does offers free a o waits by;
  says = λ a o m waits by is before. told_free is_of_flags flags_within
      (no_answer is_of_flags flags_within refl refl refl refl refl) before o a m.answer;
}
