-- Where several threads read, no rule is broken that is one of a single thread's.
use Rattle.std.proofs.Common.{◌≡◌, ℕ, Bool, true, ◌||◌, List, [], ◌∷◌, refl, sym, ◌∙◌, ap}
use Rattle.std.proofs.lemmas.Bool.{false≢true}
use Rattle.fuse_device.specs.Transfers.{Transfer, received, sent, stopped, unsent}
use Rattle.fuse_sessions.specs.declared.act.Act.{Act}
use Rattle.fuse_sessions.specs.declared.act.Act.TheVariants as act
use Rattle.fuse_sessions.specs.declared.fault.Fault.{Fault}
use Rattle.fuse_sessions.specs.declared.fault.Fault.TheVariants as fault
use Rattle.fuse_sessions.specs.Faults.{Breaks, BreaksForget, BreaksInterrupt, BreaksNumber, BreaksResent}
use Rattle.fuse_sessions.specs.Numbers.{has_several_threads, has_several_writers}
use Rattle.fuse_sessions.specs.Sessions.{Session}
use Rattle.driven_sessions.specs.Driven.{NeverAccused}
use Rattle.driven_sessions.specs.Groups.{is_of_one_thread}
use Rattle.driven_sessions.specs.Transfers.{AllSent}
use Rattle.driven_sessions.proofs.Calm.{calm_law, is_of_numbers}
use Rattle.driven_sessions.proofs.Leading.{HasSeveral}
use Rattle.driven_sessions.proofs.Plain.{does_plain, is_plain, plain_free}
use Rattle.driven_sessions.proofs.Single.{ShowsNoneAmong, among_free}

one_within : (f : Fault) → is_of_one_thread f ≡ true → is_of_numbers f ≡ true
one_within fault.NumberOutOfOrder is = refl
one_within fault.InterruptOfNothing is = refl
one_within fault.InterruptTooOften is = refl
one_within f is = absurd (false≢true is)

threads : (s : Session) → HasSeveral s → has_several_threads s ≡ true
threads s several = ap (λ (b : Bool). b || has_several_writers s) several

number_apart : (s : Session) (u : ℕ) (f : Fault) → HasSeveral s → BreaksNumber s u f → is_of_one_thread f ≡ true → ⊥
number_apart s u fault.OddNumber several b is = false≢true is
number_apart s u fault.NumberUsedTwice several b is = false≢true is
number_apart s u fault.NumberOutOfOrder several b is = false≢true (sym b.2 ∙ several)
number_apart s u f several b is = b

resent_apart : (s : Session) (u o : ℕ) (f : Fault) → BreaksResent s u o f → is_of_one_thread f ≡ true → ⊥
resent_apart s u o fault.ResendOfNothing b is = false≢true is
resent_apart s u o f b is = b

interrupt_apart : (s : Session) (u o : ℕ) (f : Fault) → HasSeveral s → BreaksInterrupt s u o f → is_of_one_thread f ≡ true
    → ⊥
interrupt_apart s u o fault.InterruptUnderAnotherNumber several b is = false≢true is
interrupt_apart s u o fault.InterruptOfNothing several b is = false≢true (sym b.1 ∙ threads s several)
interrupt_apart s u o fault.InterruptTooOften several b is = false≢true (sym b.1 ∙ threads s several)
interrupt_apart s u o f several b is = b

forget_apart : (s : Session) (node lookups : ℕ) (f : Fault) → BreaksForget s node lookups f → is_of_one_thread f ≡ true → ⊥
forget_apart s node lookups fault.ForgetOfTheRoot b is = false≢true is
forget_apart s node lookups fault.ForgetOfNoLookup b is = false≢true is
forget_apart s node lookups fault.ForgetOfMoreThanIsCounted b is = false≢true is
forget_apart s node lookups fault.ForgetOfANodeInUse b is = false≢true is
forget_apart s node lookups f b is = b

none_of_one : (s : Session) (a : Act) (f : Fault) → HasSeveral s → is_plain true a ≡ true → Breaks s a f
    → is_of_one_thread f ≡ true → ⊥
none_of_one s (act.Faulty that) f several plain b is = calm_law s (act.Faulty that) f plain b (one_within f is)
none_of_one s (act.Read o u) f several plain b is = number_apart s u f several b is
none_of_one s (act.Resent u o) f several plain b is = resent_apart s u o f b is
none_of_one s (act.Interrupts u o) f several plain b is = interrupt_apart s u o f several b is
none_of_one s (act.Forgets node lookups) f several plain b is = forget_apart s node lookups f b is
none_of_one s a f several plain b is = calm_law s a f refl b (one_within f is)

-- ---- the group

abbrev IsAny : List ℕ → Type 0
IsAny frame = Unit {0}

all_any : (log : List Transfer) → AllSent IsAny log
all_any [] = tt
all_any (sent frame result ∷ log) = (tt, all_any log)
all_any (received frame ∷ log) = all_any log
all_any (unsent frame end ∷ log) = all_any log
all_any (stopped end ∷ log) = all_any log

one_shown : ShowsNoneAmong is_of_one_thread IsAny
one_shown agreed frame s acts several any does = plain_free true is_of_one_thread none_of_one s acts several
    (does_plain true agreed frame acts (λ high other. refl) does)

pub one_thread_never : NeverAccused is_of_one_thread
one_thread_never asks log new run = among_free is_of_one_thread one_within IsAny one_shown log (all_any log)
