-- What a session shows is enough for the certain faults, whatever went before.
use Rattle.std.proofs.Common.{◌≡◌, ◌<◌, ◌⊎◌, ℕ, Bool, true, false, not, ◌||◌, ◌&&◌, [], ◌∷◌, ◌++◌, None, refl, sym, ◌∙◌, ap, subst, arith, inl, inr, nat_eq, rules}
use Rattle.std.specs.Prelude.{IsFalse}
use Rattle.std.proofs.lemmas.Bool.{false≢true, or_parts, or_left, or_right}
use Rattle.fuse_protocol.specs.declared.opcode.Opcode.{Opcode}
use Rattle.fuse_protocol.specs.declared.opcode.Opcode.TheVariants as op
use Rattle.fuse_sessions.specs.declared.act.Act.{Act}
use Rattle.fuse_sessions.specs.declared.act.Act.TheVariants as act
use Rattle.fuse_sessions.specs.declared.act.File.{File}
use Rattle.fuse_sessions.specs.declared.act.Fit.{Fit}
use Rattle.fuse_sessions.specs.declared.act.Fit.TheVariants as fit
use Rattle.fuse_sessions.specs.declared.act.OpenFile.{OpenFile}
use Rattle.fuse_sessions.specs.declared.act.Taken.{Taken}
use Rattle.fuse_sessions.specs.declared.act.Taken.TheVariants as taken
use Rattle.fuse_sessions.specs.declared.fault.Fault.{Fault}
use Rattle.fuse_sessions.specs.declared.fault.Fault.TheVariants as fault
use Rattle.fuse_sessions.specs.Sessions.{Session}
use Rattle.fuse_sessions.specs.Waiting.{waits}
use Rattle.fuse_sessions.specs.Numbers.{has_agreed, has_ended, has_several_readers, has_several_threads, has_several_writers, interrupts, agains, is_of_several, is_of_writers, is_reading, is_surely_over, reads, reads_forget, reads_request_from, shows_end, was_forget, was_read, is_forget}
use Rattle.fuse_sessions.specs.Counts.{gives_most, forgets_of}
use Rattle.fuse_sessions.specs.OpenFiles.{opens_this, releases_this}
use Rattle.fuse_sessions.specs.Faults.{BreaksArrival, BreaksBeginning, BreaksForget, BreaksGift, BreaksAttributes, BreaksInterrupt, BreaksName, BreaksNumber, BreaksRelease, BreaksReply, BreaksReplyToInterrupt, BreaksResent, BreaksTaking, BreaksUse, BreaksWrite, WarnsOfError, WarnsOfMissing, WarnsOfOpening, Breaks}
use Rattle.fuse_sessions.proofs.Laws.{any-more}
use Rattle.joined_sessions.specs.Joined.{GivesTwoFiles, IsCertain, IsEarlier, StaysBroken, is_certain, is_of_two_files}
use Rattle.joined_sessions.proofs.Behind.{any_alike, any_later, left_grows, unasked_alike, waits_too, interrupts_alike, agains_alike, ended_alike}
use Rattle.joined_sessions.proofs.Files.{known_behind}

-- an uncertain fault is none here
uncertain : (P : Type 0) → false ≡ true → P
uncertain P c = absurd (false≢true c)

forget_read : (u : ℕ) (a : Act) → reads_forget u a ≡ true → reads u a ≡ true
forget_read u (act.Read o n) e = left_of (nat_eq n u) (is_forget o) e
  where
    left_of : (a b : Bool) → (a && b) ≡ true → a ≡ true
    left_of true b e = refl
    left_of false b e = e
forget_read u a e = cc

either_read : (u : ℕ) (a : Act) (forget was : Bool) → (forget ≡ true → was ≡ true) → (reads_forget u a || forget) ≡ true
    → (reads u a || was) ≡ true
either_read u a forget was later e = by (reads_forget u a) refl e
  where
    by : (b : Bool) → reads_forget u a ≡ b → (b || forget) ≡ true → (reads u a || was) ≡ true
    by true is h = or_left (reads u a) was (forget_read u a is)
    by false is h = or_right (reads u a) was (later h)

forget_was_read : (s : Session) (u : ℕ) → was_forget s u ≡ true → was_read s u ≡ true
forget_was_read [] u e = cc
forget_was_read (a ∷ s) u e = either_read u a (was_forget s u) (was_read s u) (λ h. forget_was_read s u h) e

none_read_forget : (s : Session) (u : ℕ) → was_read s u ≡ false → was_forget s u ≡ false
none_read_forget s u e = by (was_forget s u) refl
  where
    by : (b : Bool) → was_forget s u ≡ b → b ≡ false
    by true is = sym (forget_was_read s u is) ∙ e
    by false is = refl

same : (k : ℕ) → nat_eq k k ≡ true
same k = grind (arith, rules)

-- ---- an act behind an earlier session

module _ (e s : Session) (a : Act) (early : IsEarlier e (s ++ a ∷ [])) where
  -- a number that the session reads
  read_now : (u : ℕ) → was_read s u ≡ true → was_read (s ++ a ∷ []) u ≡ true
  read_now u h = any-more (reads u) s a ∙ or_left (was_read s u) (reads u a) h

  reads_next : (u : ℕ) → reads u a ≡ true → was_read (s ++ a ∷ []) u ≡ true
  reads_next u h = any-more (reads u) s a ∙ or_right (was_read s u) (reads u a) h

  none_waits : (u : ℕ) → was_read s u ≡ true → waits s u ≡ None → waits (e ++ s) u ≡ None
  none_waits u h none = unasked_alike e s u (early.unasked u (read_now u h)) ∙ none

  -- threads
  no_readers : has_several_readers e ≡ false
  no_readers = (or_parts (has_several_readers e) (has_several_writers e) early.alone).0

  no_writers : has_several_writers e ≡ false
  no_writers = (or_parts (has_several_readers e) (has_several_writers e) early.alone).1

  readers_alike : has_several_readers (e ++ s) ≡ has_several_readers s
  readers_alike = any_alike is_of_several e s no_readers

  threads_alike : has_several_threads (e ++ s) ≡ has_several_threads s
  threads_alike = ap (λ b. b || has_several_writers (e ++ s)) readers_alike
      ∙ ap (λ b. has_several_readers s || b) (any_alike is_of_writers e s no_writers)

  -- the end
  module _ (silent : (t : Session) → shows_end (t, a) ≡ false) where
    ended : has_ended (e ++ s) ≡ has_ended s
    ended = ended_alike e s a silent early.ends

    over : is_surely_over (e ++ s) ≡ is_surely_over s
    over = ap (λ b. b && not (has_several_threads (e ++ s))) ended ∙ ap (λ b. has_ended s && not b) threads_alike

  arrives : (f : Fault) → ((t : Session) → shows_end (t, a) ≡ false) → BreaksArrival s f → BreaksArrival (e ++ s) f
  arrives fault.ReadAfterTheEnd silent b = over silent ∙ b
  arrives f silent b = absurd b

  -- the beginning
  begins : (o : Opcode) (f : Fault) → is_certain f ≡ true → BreaksBeginning s o f → BreaksBeginning (e ++ s) o f
  begins op.Init f c b = first f b
    where
      first : (f : Fault) → BreaksBeginning s op.Init f → BreaksBeginning (e ++ s) op.Init f
      first fault.InitNotFirst b = any_later is_reading e s b
      first f b = absurd b
  begins o f c b = absurd (before f c b)
    where
      BeforeInit : Fault → Type 0
      BeforeInit fault.RequestBeforeInit = IsFalse (has_agreed s)
      BeforeInit f = ⊥

      before : (f : Fault) → is_certain f ≡ true → BeforeInit f → ⊥
      before fault.RequestBeforeInit c b = uncertain ⊥ c
      before f c b = b

  -- numbers
  numbers : (u : ℕ) (f : Fault) → reads u a ≡ true → BreaksNumber s u f → BreaksNumber (e ++ s) u f
  numbers u fault.OddNumber r b = b
  numbers u fault.NumberUsedTwice r b = (b.0, any_later (reads u) e s b.1)
  numbers u fault.NumberOutOfOrder r b = (
    b.0,
    any_alike (reads u) e s (early.unread u (reads_next u r)) ∙ b.1,
    readers_alike ∙ b.2,
    any_later (reads_request_from u) e s b.3,
  )
  numbers u f r b = absurd b

  resent : (u o : ℕ) (f : Fault) → is_certain f ≡ true → BreaksResent s u o f → BreaksResent (e ++ s) u o f
  resent u o fault.ResendOfNothing c b = uncertain _ c
  resent u o f c b = absurd b

  interrupting : (u o : ℕ) (f : Fault) → is_certain f ≡ true → BreaksInterrupt s u o f → BreaksInterrupt (e ++ s) u o f
  interrupting u o fault.InterruptUnderAnotherNumber c b = b
  interrupting u o fault.InterruptOfNothing c b = uncertain _ c
  interrupting u o fault.InterruptTooOften c b = (
    b.0,
    threads_alike ∙ b.1,
    waits_too e s o b.2,
    subst (λ n. n < interrupts (e ++ s) o) (sym (agains_alike e s o b.2))
        (subst (λ n. agains s o < n) (sym (interrupts_alike e s o b.2)) b.3),
  )
  interrupting u o f c b = absurd b

  -- nodes and open files
  names : (n : ℕ) (f : Fault) → is_certain f ≡ true → BreaksName s n f → BreaksName (e ++ s) n f
  names n fault.NodeNotCounted c b = uncertain _ c
  names n f c b = absurd b

  forgets : (n lookups : ℕ) (f : Fault) → is_certain f ≡ true → BreaksForget s n lookups f → BreaksForget (e ++ s) n lookups f
  forgets n lookups fault.ForgetOfTheRoot c b = b
  forgets n lookups fault.ForgetOfNoLookup c b = b
  forgets n lookups fault.ForgetOfMoreThanIsCounted c b = uncertain _ c
  forgets n lookups fault.ForgetOfANodeInUse c b = uncertain _ c
  forgets n lookups f c b = absurd b

  uses : (file : OpenFile) (f : Fault) → is_certain f ≡ true → BreaksUse s file f → BreaksUse (e ++ s) file f
  uses file fault.HandleNotOpen c b = uncertain _ c
  uses file f c b = absurd b

  releases : (file : OpenFile) (f : Fault) → is_certain f ≡ true → BreaksRelease s file f → BreaksRelease (e ++ s) file f
  releases file fault.ReleaseOfWhatIsNotOpen c b = uncertain _ c
  releases file fault.ReleaseBesideAUse c b = uncertain _ c
  releases file f c b = absurd b

  writes : (size : ℕ) (f : Fault) → is_certain f ≡ true → BreaksWrite s size f → BreaksWrite (e ++ s) size f
  writes size fault.WriteTooLarge c b = uncertain _ c
  writes size f c b = absurd b

  -- replies
  replies : (u : ℕ) (f : Fault) → is_certain f ≡ true → BreaksReply s u f → BreaksReply (e ++ s) u f
  replies u fault.ReplyToForget c b =
      (none_waits u (forget_was_read s u b.1) b.0, any_later (reads_forget u) e s b.1)
  replies u fault.SecondReply c b = (
    none_waits u b.2 b.0,
    any_alike (reads_forget u) e s (none_read_forget e u (early.unread u (read_now u b.2))) ∙ b.1,
    any_later (reads u) e s b.2,
  )
  replies u fault.ReplyToNothing c b = uncertain _ c
  replies u f c b = absurd b

  replies_to_interrupt : (o : ℕ) (is_again : Bool) (t : Taken) (f : Fault) → is_certain f ≡ true
      → BreaksReplyToInterrupt s o is_again t f → BreaksReplyToInterrupt (e ++ s) o is_again t f
  replies_to_interrupt o is_again t fault.ReplyToNothing c b = uncertain _ c
  replies_to_interrupt o is_again t fault.ReplyToNoInterrupt c b = (
    threads_alike ∙ b.0,
    any_later (reads o) e s b.1,
    waits_too e s o b.2,
    interrupts_alike e s o b.2 ∙ b.3,
  )
  replies_to_interrupt o is_again t fault.AgainTooOften c b = (
    b.0,
    any_later (reads o) e s b.1,
    waits_too e s o b.2,
    subst (λ n. 0 < n) (sym (interrupts_alike e s o b.2)) b.3,
    agains_alike e s o b.2 ∙ b.4,
  )
  replies_to_interrupt o is_again t f c b = absurd b

  interrupted : (u : ℕ) (f : Fault) → WarnsOfError s u f → WarnsOfError (e ++ s) u f
  interrupted u fault.InterruptedByNobody b =
      (threads_alike ∙ b.0, waits_too e s u b.1, interrupts_alike e s u b.1 ∙ b.2)
  interrupted u f b = absurd b

  -- nodes and files that are given
  missing : (n : ℕ) (f : Fault) → WarnsOfMissing s n f → WarnsOfMissing (e ++ s) n f
  missing n fault.NoSuchNode (inl root) = inl root
  missing n fault.NoSuchNode (inr some) = inr (omega (arith, some, left_grows (gives_most n) (forgets_of n) e s))
  missing n f b = absurd b

  opening : (file : OpenFile) (f : Fault) → WarnsOfOpening s file f → WarnsOfOpening (e ++ s) file f
  opening file fault.HandleGivenAgain b =
      (b.0, omega (arith, b.1, left_grows (opens_this file) (releases_this file) e s))
  opening file f b = absurd b

  gives : (n : ℕ) (file : File) (f : Fault) → is_certain f ≡ true → BreaksGift s n file f
      → BreaksGift (e ++ s) n file f ⊎ ((is_of_two_files f ≡ true) × GivesTwoFiles e s)
  gives n file fault.NodeOfTwoGenerations c b = elim (known_behind e n s b.0) [
    | inl k ↦ inl (k.0, b.1, k.1 ∙ b.2, b.3)
    | inr two ↦ inr (refl, two)
  ]
  gives n file fault.NodeOfTwoKinds c b = elim (known_behind e n s b.0) [
    | inl k ↦ inl (k.0, b.1, k.1 ∙ b.2, b.3, b.4)
    | inr two ↦ inr (refl, two)
  ]
  gives n file fault.NodeOfTwoInodeNumbers c b = elim (known_behind e n s b.0) [
    | inl k ↦ inl (k.0, b.1, k.1 ∙ b.2, b.3, b.4, b.5)
    | inr two ↦ inr (refl, two)
  ]
  gives n file fault.NodeGivenAgain c b = uncertain _ c
  gives n file f c b = absurd b

  describes : (n kind ino : ℕ) (f : Fault) → BreaksAttributes s n kind ino f
      → BreaksAttributes (e ++ s) n kind ino f ⊎ ((is_of_two_files f ≡ true) × GivesTwoFiles e s)
  describes n kind ino fault.NodeOfTwoKinds b = elim (known_behind e n s b.0) [
    | inl k ↦ inl (k.0, b.1, k.1 ∙ b.2, b.3)
    | inr two ↦ inr (refl, two)
  ]
  describes n kind ino fault.NodeOfTwoInodeNumbers b = elim (known_behind e n s b.0) [
    | inl k ↦ inl (k.0, b.1, k.1 ∙ b.2, b.3, b.4)
    | inr two ↦ inr (refl, two)
  ]
  describes n kind ino f b = absurd b

takes : (e s : Session) (u : ℕ) (t : Taken) (body : Fit) (f : Fault) → is_certain f ≡ true
    → IsEarlier e (s ++ act.Takes u t body ∷ []) → BreaksTaking s u t body f → BreaksTaking (e ++ s) u t body f
takes e s u taken.Accepted body fault.AcceptedAfterTheEnd c early b =
    over e s (act.Takes u taken.Accepted body) early (λ t. refl) ∙ b
takes e s u taken.Accepted body fault.AcceptedReplyToNothing c early b = uncertain _ c
takes e s u taken.Accepted fit.FitsNot fault.AcceptedWrongBody c early b =
    (ended e s (act.Takes u taken.Accepted fit.FitsNot) early (λ t. refl) ∙ b.0, waits_too e s u b.1)
takes e s u taken.Invalid fit.Fits fault.RefusedReply c early b =
    (ended e s (act.Takes u taken.Invalid fit.Fits) early (λ t. refl) ∙ b.0, waits_too e s u b.1)
takes e s u t body f c early b = absurd b

-- ---- every act

stays : (e s : Session) (a : Act) (f : Fault) → is_certain f ≡ true → IsEarlier e (s ++ a ∷ []) → Breaks s a f
    → StaysBroken e s a f
stays e s (act.Faulty that) f c early b = inl b
stays e s act.Arrives f c early b = inl (arrives e s act.Arrives early f (λ t. refl) b)
stays e s (act.Begins o) f c early b = inl (begins e s (act.Begins o) early o f c b)
stays e s (act.Read o u) f c early b = inl (numbers e s (act.Read o u) early u f (same u) b)
stays e s (act.Resent u o) f c early b = inl (resent e s (act.Resent u o) early u o f c b)
stays e s (act.Interrupts u o) f c early b = inl (interrupting e s (act.Interrupts u o) early u o f c b)
stays e s (act.Names n) f c early b = inl (names e s (act.Names n) early n f c b)
stays e s (act.Forgets n lookups) f c early b = inl (forgets e s (act.Forgets n lookups) early n lookups f c b)
stays e s (act.Uses file) f c early b = inl (uses e s (act.Uses file) early file f c b)
stays e s (act.Releases file) f c early b = inl (releases e s (act.Releases file) early file f c b)
stays e s (act.Writes size) f c early b = inl (writes e s (act.Writes size) early size f c b)
stays e s (act.Takes u t body) f c early b = inl (takes e s u t body f c early b)
stays e s (act.Interrupted u) f c early b = inl (interrupted e s (act.Interrupted u) early u f b)
stays e s (act.Replies u t) f c early b = inl (replies e s (act.Replies u t) early u f c b)
stays e s (act.RepliesToInterrupt o is_again t) f c early b =
    inl (replies_to_interrupt e s (act.RepliesToInterrupt o is_again t) early o is_again t f c b)
stays e s (act.Gives n file is_certain) f c early b = gives e s (act.Gives n file is_certain) early n file f c b
stays e s (act.Describes n kind ino) f c early b = describes e s (act.Describes n kind ino) early n kind ino f b
stays e s (act.Missing n errno) f c early b = inl (missing e s (act.Missing n errno) early n f b)
stays e s (act.Opens file) f c early b = inl (opening e s (act.Opens file) early file f b)
stays e s a f c early b = absurd b

pub certain_law : (f : Fault) → is_certain f ≡ true → IsCertain f
certain_law f c e s a early b = stays e s a f c early b
