-- The acts that are beside the frames of a server: by none of them is one of these faults shown.
use Rattle.std.proofs.Common.{◌≡◌, ℕ, Bool, true, false, not, ◌&&◌, List, [], ◌∷◌, ◌++◌, Option, Some, None, refl, sym, ◌∙◌, ap, nat_eq, nat_le, ◌^◌, if◌then◌else◌}
use Rattle.std.specs.List.{list_all}
use Rattle.std.proofs.lemmas.Bool.{and_from, and_parts}
use Rattle.fuse_protocol.specs.declared.init.InitRequest.{InitRequest}
use Rattle.fuse_protocol.specs.declared.opcode.Opcode.{Opcode}
use Rattle.fuse_protocol.specs.declared.opcode.Opcode.TheVariants as op
use Rattle.fuse_protocol.specs.declared.request.OpenHandle.{OpenHandle}
use Rattle.fuse_protocol.specs.declared.request.OpenHandle.TheVariants as handle
use Rattle.fuse_protocol.specs.Pairs.{pairs_of_row}
use Rattle.fuse_protocol.specs.Requests.{RequestMessage}
use Rattle.fuse_protocol.specs.Table.{row_at}
use Rattle.fuse_sessions.specs.declared.act.Act.{Act}
use Rattle.fuse_sessions.specs.declared.act.Act.TheVariants as act
use Rattle.fuse_sessions.specs.declared.act.Asked.{Asked}
use Rattle.fuse_sessions.specs.declared.act.File.{File}
use Rattle.fuse_sessions.specs.declared.act.Fit.{Fit}
use Rattle.fuse_sessions.specs.declared.act.Fit.TheVariants as fit
use Rattle.fuse_sessions.specs.declared.act.OpenFile.{OpenFile}
use Rattle.fuse_sessions.specs.declared.act.Taken.{Taken}
use Rattle.fuse_sessions.specs.declared.act.Taken.TheVariants as taken
use Rattle.fuse_sessions.specs.declared.fault.Fault.{Fault}
use Rattle.fuse_sessions.specs.declared.fault.Fault.TheVariants as fault
use Rattle.fuse_sessions.specs.Sessions.{Session}
use Rattle.fuse_sessions.specs.RequestActs.{request_acts, doing, asking, asked_of, resent, naming, using, releasing, writing, forgets_in}
use Rattle.fuse_sessions.specs.UnreadRequests.{unread_acts, malformed, asking_unread, may_be_known, has_header, takes_no_reply, opcode_in}
use Rattle.fuse_sessions.specs.Faults.{BreaksArrival, BreaksBeginning, BreaksForget, BreaksGift, BreaksAttributes, BreaksInterrupt, BreaksName, BreaksNumber, BreaksRelease, BreaksResent, BreaksTaking, BreaksUse, BreaksWrite, WarnsOfError, WarnsOfMissing, WarnsOfOpening, Breaks}

-- the faults that a frame of a server shows by its header, by its number, by its shape, by what INIT's reply agrees on, and
-- by what else it says for itself
abbrev pub is_of_frames : Fault → Bool
is_of_frames fault.MalformedReply = true
is_of_frames fault.MalformedNotification = true
is_of_frames fault.ReplyToNothing = true
is_of_frames fault.SecondReply = true
is_of_frames fault.ReplyToForget = true
is_of_frames fault.ReplyToNoInterrupt = true
is_of_frames fault.InitOfAnotherVersion = true
is_of_frames fault.FlagsThatWereNotOffered = true
is_of_frames fault.BodyOfAnotherRequest = true
is_of_frames fault.MoreThanWasAsked = true
is_of_frames fault.EntryOfTheRoot = true
is_of_frames fault.EntryOfNoNode = true
is_of_frames fault.EntryOfNoKind = true
is_of_frames fault.EntryOfAnotherKind = true
is_of_frames f = false

-- an act that is no reply, and no such fault of a frame
abbrev pub is_beside : Act → Bool
is_beside (act.Faulty f) = not (is_of_frames f)
is_beside (act.Replies unique t) = false
is_beside (act.RepliesToInterrupt original is_again t) = false
is_beside a = true

-- ---- no act beside shows one

arrives : (s : Session) (f : Fault) → BreaksArrival s f → is_of_frames f ≡ true → ⊥
arrives s fault.ReadAfterTheEnd b is = cc
arrives s f b is = b

begins : (s : Session) (o : Opcode) (f : Fault) → BreaksBeginning s o f → is_of_frames f ≡ true → ⊥
begins s o fault.InitNotFirst b is = cc
begins s o fault.RequestBeforeInit b is = cc
begins s op.Init f b is = b
begins s o f b is = b

numbers : (s : Session) (u : ℕ) (f : Fault) → BreaksNumber s u f → is_of_frames f ≡ true → ⊥
numbers s u fault.OddNumber b is = cc
numbers s u fault.NumberUsedTwice b is = cc
numbers s u fault.NumberOutOfOrder b is = cc
numbers s u f b is = b

comes_again : (s : Session) (u o : ℕ) (f : Fault) → BreaksResent s u o f → is_of_frames f ≡ true → ⊥
comes_again s u o fault.ResendOfNothing b is = cc
comes_again s u o f b is = b

interrupts : (s : Session) (u o : ℕ) (f : Fault) → BreaksInterrupt s u o f → is_of_frames f ≡ true → ⊥
interrupts s u o fault.InterruptUnderAnotherNumber b is = cc
interrupts s u o fault.InterruptOfNothing b is = cc
interrupts s u o fault.InterruptTooOften b is = cc
interrupts s u o f b is = b

names : (s : Session) (n : ℕ) (f : Fault) → BreaksName s n f → is_of_frames f ≡ true → ⊥
names s n fault.NodeNotCounted b is = cc
names s n f b is = b

forgets : (s : Session) (n l : ℕ) (f : Fault) → BreaksForget s n l f → is_of_frames f ≡ true → ⊥
forgets s n l fault.ForgetOfTheRoot b is = cc
forgets s n l fault.ForgetOfNoLookup b is = cc
forgets s n l fault.ForgetOfMoreThanIsCounted b is = cc
forgets s n l fault.ForgetOfANodeInUse b is = cc
forgets s n l f b is = b

uses : (s : Session) (file : OpenFile) (f : Fault) → BreaksUse s file f → is_of_frames f ≡ true → ⊥
uses s file fault.HandleNotOpen b is = cc
uses s file f b is = b

releases : (s : Session) (file : OpenFile) (f : Fault) → BreaksRelease s file f → is_of_frames f ≡ true → ⊥
releases s file fault.ReleaseOfWhatIsNotOpen b is = cc
releases s file fault.ReleaseBesideAUse b is = cc
releases s file f b is = b

writes : (s : Session) (n : ℕ) (f : Fault) → BreaksWrite s n f → is_of_frames f ≡ true → ⊥
writes s n fault.WriteTooLarge b is = cc
writes s n f b is = b

takes : (s : Session) (u : ℕ) (t : Taken) (body : Fit) (f : Fault) → BreaksTaking s u t body f → is_of_frames f ≡ true → ⊥
takes s u t body fault.AcceptedAfterTheEnd b is = cc
takes s u t body fault.AcceptedReplyToNothing b is = cc
takes s u t body fault.AcceptedWrongBody b is = cc
takes s u t body fault.RefusedReply b is = cc
takes s u taken.Accepted fit.Fits f b is = b
takes s u taken.Accepted fit.FitsNot f b is = b
takes s u taken.Accepted fit.MayFit f b is = b
takes s u taken.NoEntry body f b is = b
takes s u taken.Invalid fit.Fits f b is = b
takes s u taken.Invalid fit.FitsNot f b is = b
takes s u taken.Invalid fit.MayFit f b is = b
takes s u taken.Failed body f b is = b

gives : (s : Session) (n : ℕ) (file : File) (f : Fault) → BreaksGift s n file f → is_of_frames f ≡ true → ⊥
gives s n file fault.NodeOfTwoGenerations b is = cc
gives s n file fault.NodeOfTwoKinds b is = cc
gives s n file fault.NodeOfTwoInodeNumbers b is = cc
gives s n file fault.NodeGivenAgain b is = cc
gives s n file f b is = b

describes : (s : Session) (n kind ino : ℕ) (f : Fault) → BreaksAttributes s n kind ino f → is_of_frames f ≡ true → ⊥
describes s n kind ino fault.NodeOfTwoKinds b is = cc
describes s n kind ino fault.NodeOfTwoInodeNumbers b is = cc
describes s n kind ino f b is = b

warns : (s : Session) (u : ℕ) (f : Fault) → WarnsOfError s u f → is_of_frames f ≡ true → ⊥
warns s u fault.InterruptedByNobody b is = cc
warns s u f b is = b

misses : (s : Session) (n : ℕ) (f : Fault) → WarnsOfMissing s n f → is_of_frames f ≡ true → ⊥
misses s n fault.NoSuchNode b is = cc
misses s n f b is = b

opens : (s : Session) (file : OpenFile) (f : Fault) → WarnsOfOpening s file f → is_of_frames f ≡ true → ⊥
opens s file fault.HandleGivenAgain b is = cc
opens s file f b is = b

-- one that is not of these
another : (b : Bool) → not b ≡ true → b ≡ true → ⊥
another true n e = cc
another false n e = cc

pub beside_law : (s : Session) (a : Act) (f : Fault) → is_beside a ≡ true → Breaks s a f → is_of_frames f ≡ true → ⊥
beside_law s (act.Faulty that) f beside b is = another (is_of_frames that) beside (ap is_of_frames (sym b) ∙ is)
beside_law s act.Arrives f beside b is = arrives s f b is
beside_law s (act.Begins o) f beside b is = begins s o f b is
beside_law s (act.Read o u) f beside b is = numbers s u f b is
beside_law s (act.Resent u o) f beside b is = comes_again s u o f b is
beside_law s (act.Interrupts u o) f beside b is = interrupts s u o f b is
beside_law s (act.Names n) f beside b is = names s n f b is
beside_law s (act.Forgets n l) f beside b is = forgets s n l f b is
beside_law s (act.Uses file) f beside b is = uses s file f b is
beside_law s (act.Releases file) f beside b is = releases s file f b is
beside_law s (act.Writes n) f beside b is = writes s n f b is
beside_law s (act.Takes u t body) f beside b is = takes s u t body f b is
beside_law s (act.Interrupted u) f beside b is = warns s u f b is
beside_law s (act.Replies u t) f beside b is = cc
beside_law s (act.RepliesToInterrupt o again t) f beside b is = cc
beside_law s (act.Gives n file certain) f beside b is = gives s n file f b is
beside_law s (act.Describes n kind ino) f beside b is = describes s n kind ino f b is
beside_law s (act.Missing n errno) f beside b is = misses s n f b is
beside_law s (act.Opens file) f beside b is = opens s file f b is
beside_law s other f beside b is = b

-- ---- the acts of requests are beside

module _ (test : Act → Bool) where
  pub each_of : (xs ys : List Act) → list_all test xs ≡ true → list_all test ys ≡ true → list_all test (xs ++ ys) ≡ true
  each_of [] ys p q = q
  each_of (a ∷ xs) ys p q =
      let both = and_parts (test a) (list_all test xs) p in
      and_from (test a) (list_all test (xs ++ ys)) both.0 (each_of xs ys both.1 q)

  pub either : (b : Bool) (xs ys : List Act) → list_all test xs ≡ true → list_all test ys ≡ true
      → list_all test (if b then xs else ys) ≡ true
  either true xs ys p q = p
  either false xs ys p q = q

-- an act of a request that asks for nothing
abbrev pub is_plain : Act → Bool
is_plain act.Arrives = true
is_plain (act.Begins o) = true
is_plain (act.Read o unique) = true
is_plain (act.Interrupts unique original) = true
is_plain (act.Names node) = true
is_plain (act.Forgets node lookups) = true
is_plain (act.Uses file) = true
is_plain (act.Releases file) = true
is_plain (act.Writes size) = true
is_plain (act.Faulty fault.MalformedRequest) = true
is_plain a = false

plain_beside : (a : Act) → is_plain a ≡ true → is_beside a ≡ true
plain_beside (act.Faulty f) is = by f is
  where
    by : (f : Fault) → is_plain (act.Faulty f) ≡ true → not (is_of_frames f) ≡ true
    by fault.MalformedRequest is = refl
    by f is = cc
plain_beside (act.Replies unique t) is = is
plain_beside (act.RepliesToInterrupt original again t) is = is
plain_beside a is = refl

pub plain_are_beside : (acts : List Act) → list_all is_plain acts ≡ true → list_all is_beside acts ≡ true
plain_are_beside [] is = refl
plain_are_beside (a ∷ acts) is =
    let both = and_parts (is_plain a) (list_all is_plain acts) is in
    and_from (is_beside a) (list_all is_beside acts) (plain_beside a both.0) (plain_are_beside acts both.1)

abbrev AreBeside : List Act → Type 0
AreBeside acts = list_all is_beside acts ≡ true

abbrev ArePlain : List Act → Type 0
ArePlain acts = list_all is_plain acts ≡ true

naming_plain : (node : ℕ) → ArePlain (naming node)
naming_plain node = either is_plain (nat_eq node 0) [] _ refl refl

using_plain : (file : Option OpenFile) → ArePlain (using file)
using_plain None = refl
using_plain (Some file) = refl

releasing_plain : (o : Opcode) (node : ℕ) (h : OpenHandle) → ArePlain (releasing o node h)
releasing_plain op.Release node (handle.File fh) = refl
releasing_plain op.Releasedir node (handle.Directory fh) = refl
releasing_plain op.Release node h = refl
releasing_plain op.Releasedir node h = refl
releasing_plain o node h = refl

writing_plain : (o : Opcode) (m : RequestMessage) → ArePlain (writing o m)
writing_plain op.Write m = refl
writing_plain o m = refl

-- what a request does before it asks
abbrev pub before_asking : Opcode → RequestMessage → Asked → List Act
before_asking o m asked = naming asked.nodeid ++ naming asked.other ++ using asked.uses ++ using asked.copies_to
    ++ releasing o m.nodeid m.handle ++ writing o m

pub before_plain : (o : Opcode) (m : RequestMessage) (asked : Asked) → ArePlain (before_asking o m asked)
before_plain o m asked =
    let first : List Act = naming asked.nodeid ++ naming asked.other in
    let second : List Act = first ++ using asked.uses in
    let third : List Act = second ++ using asked.copies_to in
    let fourth : List Act = third ++ releasing o m.nodeid m.handle in
    let one = each_of is_plain (naming asked.nodeid) (naming asked.other) (naming_plain asked.nodeid)
    (naming_plain asked.other) in
    let two = each_of is_plain first (using asked.uses) one (using_plain asked.uses) in
    let three = each_of is_plain second (using asked.copies_to) two (using_plain asked.copies_to) in
    let four = each_of is_plain third (releasing o m.nodeid m.handle) three (releasing_plain o m.nodeid m.handle) in
    each_of is_plain fourth (writing o m) four (writing_plain o m)

asked_beside : (o : Opcode) (m : RequestMessage) (asked : Asked) → AreBeside (asking o m asked)
asked_beside o m asked = each_of is_beside (before_asking o m asked) (act.Asks m.unique asked ∷ [])
    (plain_are_beside (before_asking o m asked) (before_plain o m asked)) refl

pub forgets_plain : (pairs : List (ℕ × ℕ)) → ArePlain (forgets_in pairs)
forgets_plain [] = refl
forgets_plain (p ∷ pairs) = forgets_plain pairs

pub malformed_plain : (offered : Option InitRequest) (bytes : List ℕ) → ArePlain (malformed offered bytes)
malformed_plain offered bytes = either is_plain (may_be_known offered bytes) [] _ refl refl

forgets_beside : (pairs : List (ℕ × ℕ)) → AreBeside (forgets_in pairs)
forgets_beside pairs = plain_are_beside (forgets_in pairs) (forgets_plain pairs)

does : (again : Bool) (o : Opcode) (m : RequestMessage) → AreBeside (doing again o m)
does again op.Interrupt m = refl
does again op.NotifyReply m = refl
does again op.Forget m = refl
does again op.BatchForget m = forgets_beside (pairs_of_row (row_at op.BatchForget).tail m.tail)
does again o m = either is_beside again (resent o m) (asking o m (asked_of o m)) refl (asked_beside o m (asked_of o m))

pub request_beside : (has_resent : Bool) (o : Opcode) (m : RequestMessage) → AreBeside (request_acts has_resent o m)
request_beside has_resent o m = does (has_resent && nat_le (2 ^ 63) m.unique) o m

pub unread_beside : (offered : Option InitRequest) (bytes : List ℕ) → AreBeside (unread_acts offered bytes)
unread_beside offered bytes = each_of is_beside (malformed offered bytes) (asking_unread bytes)
    (plain_are_beside (malformed offered bytes) (malformed_plain offered bytes))
    (either is_beside (has_header bytes && not (takes_no_reply (opcode_in bytes))) _ [] refl refl)
