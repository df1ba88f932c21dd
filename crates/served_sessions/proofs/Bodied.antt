-- The body of each reply is one of the request that waits for it.
use Rattle.std.proofs.Common.{◌≡◌, ℕ, true, List, ◌++◌, inl, inr, refl}
use Rattle.std.proofs.lemmas.Bool.{false≢true}
use Rattle.fuse_sessions.specs.declared.act.Act.{Act}
use Rattle.fuse_sessions.specs.declared.act.Taken.{Taken}
use Rattle.fuse_sessions.specs.declared.fault.Fault.{Fault}
use Rattle.fuse_sessions.specs.declared.fault.Fault.TheVariants as fault
use Rattle.fuse_sessions.specs.declared.known.Known.{Known}
use Rattle.fuse_sessions.specs.Sessions.{Session}
use Rattle.fuse_sessions.specs.Frames.{number_in, of_version, of_offered, AreRequestActs, IsOffered}
use Rattle.served_sessions.specs.Exchanges.{IsAnswer}
use Rattle.served_sessions.specs.Groups.{is_nothing, is_of_bodies}
use Rattle.served_sessions.proofs.Acts.{is_of_frames}
use Rattle.served_sessions.proofs.Answering.{interrupt_faults, is_head, plain_init, reply_faults}
use Rattle.served_sessions.proofs.Free.{AreFree, free_append}
use Rattle.served_sessions.proofs.Heads.{IsApart, flags_free, version_free}
use Rattle.served_sessions.proofs.Kept.{Kept}
use Rattle.served_sessions.proofs.Replied.{reply_read}
use Rattle.served_sessions.proofs.Told.{no_answer, told_free}
use Rattle.served_sessions.proofs.Written.{Keeps}

pub bodies_within : (f : Fault) → is_of_bodies f ≡ true → is_of_frames f ≡ true
bodies_within fault.BodyOfAnotherRequest is = refl
bodies_within f is = cc

bodies_apart : IsApart is_of_bodies
bodies_apart fault.BodyOfAnotherRequest of (inl e) = cc
bodies_apart fault.BodyOfAnotherRequest of (inr e) = cc
bodies_apart f of e = cc

pub bodies_keep : (k later : Known) (s : Session) (request reply : List ℕ) (t : Taken) (acts : List Act)
    → Kept (is_nothing fault.OddNumber) k s → Unit {0} → IsAnswer request reply
    → AreRequestActs k request acts → IsOffered k request later → AreFree is_nothing s acts
    → Keeps is_of_bodies later (s ++ acts) reply t
bodies_keep k later s request reply t acts kept such answers does offers free = record {
  head = is_head request reply answers;
  no_notice = λ none is. false≢true is;
  replies = λ some other before same f b is. bodies_apart f is (inl (reply_faults before (number_in reply) f b).0);
  interrupts = λ some other f b is. bodies_apart f is (interrupt_faults (s ++ acts) _ _ t f b);
  agrees = λ a o m waits by is r i offered says before.
      free_append is_of_bodies before (of_version i) (of_offered r i)
      (version_free is_of_bodies (λ e. false≢true e) before i)
      (flags_free is_of_bodies (λ e. false≢true e) (before ++ of_version i) r i);
  tells = λ a o m waits by is i says.
      plain_init is_nothing k later s request reply t acts kept answers does offers free a o m waits by is i says;
  fits = λ a o waits by. reply_read is_nothing k later s request reply t acts kept answers does offers free a o waits by;
  says = λ a o m waits by is before. told_free is_of_bodies bodies_within
      (no_answer is_of_bodies bodies_within refl refl refl refl refl) before o a m.answer;
}
