-- What is certain of a session that is joined in its middle: what it shows is a fault whatever went before it.
use Rattle.std.specs.Prelude.{◌≡◌, ◌⊎◌, ℕ, Bool, true, false, List, [], ◌∷◌, ◌++◌, None, IsTrue, slice_get, Some, take}
use Rattle.std.specs.List.{list_any}
use Rattle.fuse_protocol.specs.declared.agreed.Agreed.{Agreed}
use Rattle.fuse_sessions.specs.declared.act.Act.{Act}
use Rattle.fuse_sessions.specs.declared.fault.Fault.{Fault}
use Rattle.fuse_sessions.specs.declared.fault.Fault.TheVariants as fault
use Rattle.fuse_sessions.specs.declared.known.Known.{Known}
use Rattle.fuse_sessions.specs.Sessions.{Session}
use Rattle.fuse_sessions.specs.Numbers.{asks_under, has_ended, has_resent, has_several_threads, was_read}
use Rattle.fuse_sessions.specs.Faults.{Breaks}

-- A session that may have gone before another. No number is read in both, nor asked in it and read in the other. One
-- thread uses the device in it, its server does not ask for what waits once more, and by it the device has ended no sooner.
pub record IsEarlier (e s : Session) : Type 0 where
  pub unread : (unique : ℕ) → was_read s unique ≡ true → was_read e unique ≡ false
  pub unasked : (unique : ℕ) → was_read s unique ≡ true → list_any (asks_under unique) e ≡ false
  pub alone : has_several_threads e ≡ false
  pub not_resent : has_resent e ≡ false
  pub ends : has_ended (e ++ s) ≡ has_ended s

-- What a session shows is enough for this fault. For the others what went before may be the reason: INIT and what it
-- agreed on, a request that waits, a node that is counted, a file that is open.
abbrev pub is_certain : Fault → Bool
is_certain fault.MalformedRequest = false
is_certain fault.RequestBeforeInit = false
is_certain fault.ResendOfNothing = false
is_certain fault.InterruptOfNothing = false
is_certain fault.NodeNotCounted = false
is_certain fault.ForgetOfMoreThanIsCounted = false
is_certain fault.ForgetOfANodeInUse = false
is_certain fault.HandleNotOpen = false
is_certain fault.ReleaseOfWhatIsNotOpen = false
is_certain fault.ReleaseBesideAUse = false
is_certain fault.WriteTooLarge = false
is_certain fault.NameThatIsMissing = false
is_certain fault.ReplyToNothing = false
is_certain fault.FlagsThatWereNotOffered = false
is_certain fault.MalformedNotification = false
is_certain fault.AcceptedReplyToNothing = false
is_certain fault.NodeGivenAgain = false
is_certain f = true

-- The next act of a session that was joined has this fault.
pub record BreaksJoined (s : Session) (act : Act) (f : Fault) : Type 0 where
  pub breaks : Breaks s act f
  pub certain : IsTrue (is_certain f)

-- Of the next acts, the one at this place has this fault.
pub record HasJoinedFaultAt (s : Session) (acts : List Act) (place : ℕ) (f : Fault) : Type 0 where
  pub act : Act
  pub stands : slice_get acts place ≡ Some act
  pub breaks : BreaksJoined (s ++ take place acts) act f

-- ---- whatever went before

-- a node stands for two files
abbrev pub is_of_two_files : Fault → Bool
is_of_two_files fault.NodeOfTwoGenerations = true
is_of_two_files fault.NodeOfTwoKinds = true
is_of_two_files fault.NodeOfTwoInodeNumbers = true
is_of_two_files f = false

-- Behind an earlier session an act of this one has a fault by which a node stands for two files.
pub record GivesTwoFiles (e s : Session) : Type 0 where
  pub before : Session
  pub act : Act
  pub after : Session
  pub parts : s ≡ before ++ act ∷ after
  pub fault : Fault
  pub two : is_of_two_files fault ≡ true
  pub breaks : Breaks (e ++ before) act fault

-- The next act has the fault behind an earlier session too. Or by the fault a node stands for two files, and so it does by
-- an earlier act, since before it was of a third.
abbrev pub StaysBroken : (e s : Session) → Act → Fault → Type 0
StaysBroken e s act f = Breaks (e ++ s) act f ⊎ ((is_of_two_files f ≡ true) × GivesTwoFiles e s)

-- The fault is one whatever went before.
abbrev pub IsCertain : Fault → Type 0
IsCertain f = (e s : Session) (act : Act) → IsEarlier e (s ++ act ∷ []) → Breaks s act f → StaysBroken e s act f

-- ---- before INIT is seen

-- Frames are read as from 7.12 on, with the longest names and no flag that changes a struct: so a frame is right that is
-- right by what was agreed.
abbrev pub not_seen : Agreed
not_seen = record {
  minor = 45;
  has_long_setxattr = false;
  has_extensions = false;
  has_dot_names = true;
  max_name = 4095;
}

abbrev pub joined_known : Known
joined_known = record { offered = None; agreed = not_seen; has_resent = false; unjudged = None }
