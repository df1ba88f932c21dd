-- The acts by which none of the groups' faults is shown, whatever was before: all of those that a server shows.
use Rattle.std.proofs.Common.{◌≡◌, inl, inr, ℕ, ◌==◌, ◌&&◌, ◌||◌, codes, map, nat_eq, nat_lt, Bool, true, false, not, List, [], ◌∷◌, ◌++◌, Option, Some, None, refl, sym, subst, ◌∙◌, ap, drop, flat_map, bit_and, if◌then◌else◌}
use Rattle.std.specs.Prelude.{MatchBool}
use Rattle.std.specs.List.{list_all}
use Rattle.std.proofs.lemmas.Bool.{and_from, and_parts}
use Rattle.fuse_protocol.specs.declared.init.InitRequest.{InitRequest}
use Rattle.fuse_protocol.specs.declared.opcode.Opcode.{Opcode}
use Rattle.fuse_protocol.specs.declared.opcode.Opcode.TheVariants as op
use Rattle.fuse_protocol.specs.Table.{row_at}
use Rattle.fuse_replies.specs.declared.entry.Entry.{Entry}
use Rattle.fuse_replies.specs.Record.{EntryRecordContent}
use Rattle.fuse_replies.specs.Records.{entry_records_from}
use Rattle.fuse_replies.specs.Replies.{AnswerContent}
use Rattle.fuse_replies.specs.Replies as answer
use Rattle.fuse_sessions.specs.declared.act.Act.{Act}
use Rattle.fuse_sessions.specs.declared.act.Act.TheVariants as act
use Rattle.fuse_sessions.specs.declared.act.Asked.{Asked}
use Rattle.fuse_sessions.specs.declared.act.File.{File}
use Rattle.fuse_sessions.specs.declared.act.Fit.{Fit}
use Rattle.fuse_sessions.specs.declared.act.Fit.TheVariants as fit
use Rattle.fuse_sessions.specs.declared.act.OpenFile.{OpenFile}
use Rattle.fuse_sessions.specs.declared.act.Taken.{Taken}
use Rattle.fuse_sessions.specs.declared.act.Taken.TheVariants as taken
use Rattle.fuse_sessions.specs.declared.fault.Fault.{Fault}
use Rattle.fuse_sessions.specs.declared.fault.Fault.TheVariants as fault
use Rattle.fuse_sessions.specs.declared.known.Known.{Known}
use Rattle.fuse_sessions.specs.Sessions.{Session}
use Rattle.fuse_sessions.specs.Waiting.{waits}
use Rattle.fuse_sessions.specs.Faults.{BreaksArrival, BreaksBeginning, BreaksGift, BreaksAttributes, BreaksName, BreaksRelease, BreaksReply, BreaksReplyToInterrupt, BreaksTaking, BreaksUse, BreaksWrite, WarnsOfError, WarnsOfMissing, WarnsOfOpening, Breaks}
use Rattle.fuse_sessions.specs.Frames.{number_in, error_in, is_resend, eintr, eintr_acts, replied, init_acts, of_version, of_offered, said_acts, listed_acts, interrupt_acts, is_to_interrupt, IsNotified, IsReplyBy, IsReplyTo, IsWritten}
use Rattle.fuse_sessions.specs.Fits.{fit_in, fit_of_another}
use Rattle.fuse_sessions.specs.RequestActs.{is_name}
use Rattle.fuse_sessions.specs.ReplyActs.{answer_acts, counting, entry_acts, failed_acts, is_kind, is_made, is_opened, kind_acts, kind_of, may_be_missing, opening, opening_none, record_acts, root_acts}
use Rattle.fuse_sessions.specs.Warnings.{is_missing, is_of_node, is_offset, last_behind, listing_acts, missing_acts, repeats_behind}

-- the faults of all groups
abbrev pub is_of_numbers : Fault → Bool
is_of_numbers fault.OddNumber = true
is_of_numbers fault.NumberUsedTwice = true
is_of_numbers fault.NumberOutOfOrder = true
is_of_numbers fault.ResendOfNothing = true
is_of_numbers fault.InterruptOfNothing = true
is_of_numbers fault.InterruptUnderAnotherNumber = true
is_of_numbers fault.InterruptTooOften = true
is_of_numbers fault.ForgetOfTheRoot = true
is_of_numbers fault.ForgetOfNoLookup = true
is_of_numbers fault.ForgetOfMoreThanIsCounted = true
is_of_numbers f = false

-- an act that reads no request, again or not, interrupts none and forgets nothing, and is no such fault
abbrev pub is_calm : Act → Bool
is_calm (act.Faulty f) = not (is_of_numbers f)
is_calm (act.Read o unique) = false
is_calm (act.Resent unique original) = false
is_calm (act.Interrupts unique original) = false
is_calm (act.Forgets node lookups) = false
is_calm a = true

abbrev pub AreCalm : List Act → Type 0
AreCalm acts = list_all is_calm acts ≡ true

-- What a server shows: it is calm, is no fault of a request, begins none, asks nothing and writes nothing.
abbrev pub is_shown : Act → Bool
is_shown (act.Faulty fault.MalformedRequest) = false
is_shown (act.Faulty fault.RequestBeforeInit) = false
is_shown (act.Faulty fault.InitNotFirst) = false
is_shown (act.Faulty fault.WriteTooLarge) = false
is_shown (act.Begins o) = false
is_shown (act.Asks unique asked) = false
is_shown (act.Writes size) = false
is_shown a = is_calm a

abbrev pub AreShown : List Act → Type 0
AreShown acts = list_all is_shown acts ≡ true

-- What a server writes: besides, it names, uses and releases nothing.
abbrev pub is_written : Act → Bool
is_written (act.Faulty fault.NodeNotCounted) = false
is_written (act.Names node) = false
is_written (act.Uses file) = false
is_written (act.Releases file) = false
is_written a = is_shown a

abbrev pub AreWritten : List Act → Type 0
AreWritten acts = list_all is_written acts ≡ true

-- What a server writes besides that it opens files.
abbrev pub is_plain : Act → Bool
is_plain (act.Opens file) = false
is_plain a = is_written a

abbrev pub ArePlain : List Act → Type 0
ArePlain acts = list_all is_plain acts ≡ true

-- What it writes besides that it gives nodes and opens files.
abbrev pub is_bare : Act → Bool
is_bare (act.Gives node file certain) = false
is_bare a = is_plain a

abbrev pub AreBare : List Act → Type 0
AreBare acts = list_all is_bare acts ≡ true

is_plain_where_bare : (a : Act) → is_bare a ≡ true → is_plain a ≡ true
is_plain_where_bare (act.Gives node file certain) is = cc
is_plain_where_bare a is = is

is_written_where_plain : (a : Act) → is_plain a ≡ true → is_written a ≡ true
is_written_where_plain (act.Opens file) is = cc
is_written_where_plain a is = is

-- Acts pass each test that those pass which pass this one.
pub pass_on : (one other : Act → Bool) → ((a : Act) → one a ≡ true → other a ≡ true) → (acts : List Act)
    → list_all one acts ≡ true → list_all other acts ≡ true
pass_on one other passes [] are = refl
pass_on one other passes (a ∷ acts) are =
    let both = and_parts (one a) (list_all one acts) are in
    and_from (other a) (list_all other acts) (passes a both.0) (pass_on one other passes acts both.1)

pub shown_pass : (test : Act → Bool) → ((a : Act) → is_shown a ≡ true → test a ≡ true) → (acts : List Act)
    → AreShown acts → list_all test acts ≡ true
shown_pass test = pass_on is_shown test

is_shown_where_written : (a : Act) → is_written a ≡ true → is_shown a ≡ true
is_shown_where_written (act.Faulty fault.NodeNotCounted) is = cc
is_shown_where_written (act.Names node) is = cc
is_shown_where_written (act.Uses file) is = cc
is_shown_where_written (act.Releases file) is = cc
is_shown_where_written a is = is

pub is_calm_where_shown : (a : Act) → is_shown a ≡ true → is_calm a ≡ true
is_calm_where_shown (act.Faulty fault.MalformedRequest) is = cc
is_calm_where_shown (act.Faulty fault.RequestBeforeInit) is = cc
is_calm_where_shown (act.Faulty fault.InitNotFirst) is = cc
is_calm_where_shown (act.Faulty fault.WriteTooLarge) is = cc
is_calm_where_shown (act.Faulty f) is = is
is_calm_where_shown (act.Begins o) is = cc
is_calm_where_shown (act.Asks unique asked) is = cc
is_calm_where_shown (act.Writes size) is = cc
is_calm_where_shown a is = is

pub shown_calm : (acts : List Act) → AreShown acts → AreCalm acts
shown_calm = shown_pass is_calm is_calm_where_shown

-- ---- no calm act shows one

arrives : (s : Session) (f : Fault) → BreaksArrival s f → is_of_numbers f ≡ true → ⊥
arrives s fault.ReadAfterTheEnd b is = cc
arrives s f b is = b

begins : (s : Session) (o : Opcode) (f : Fault) → BreaksBeginning s o f → is_of_numbers f ≡ true → ⊥
begins s o fault.InitNotFirst b is = cc
begins s o fault.RequestBeforeInit b is = cc
begins s op.Init f b is = b
begins s o f b is = b

names : (s : Session) (n : ℕ) (f : Fault) → BreaksName s n f → is_of_numbers f ≡ true → ⊥
names s n fault.NodeNotCounted b is = cc
names s n f b is = b

uses : (s : Session) (file : OpenFile) (f : Fault) → BreaksUse s file f → is_of_numbers f ≡ true → ⊥
uses s file fault.HandleNotOpen b is = cc
uses s file f b is = b

releases : (s : Session) (file : OpenFile) (f : Fault) → BreaksRelease s file f → is_of_numbers f ≡ true → ⊥
releases s file fault.ReleaseOfWhatIsNotOpen b is = cc
releases s file fault.ReleaseBesideAUse b is = cc
releases s file f b is = b

writes : (s : Session) (n : ℕ) (f : Fault) → BreaksWrite s n f → is_of_numbers f ≡ true → ⊥
writes s n fault.WriteTooLarge b is = cc
writes s n f b is = b

takes : (s : Session) (u : ℕ) (t : Taken) (body : Fit) (f : Fault) → BreaksTaking s u t body f → is_of_numbers f ≡ true → ⊥
takes s u t body fault.AcceptedAfterTheEnd b is = cc
takes s u t body fault.AcceptedReplyToNothing b is = cc
takes s u t body fault.AcceptedWrongBody b is = cc
takes s u t body fault.RefusedReply b is = cc
takes s u taken.Accepted fit.Fits f b is = b
takes s u taken.Accepted fit.FitsNot f b is = b
takes s u taken.Accepted fit.MayFit f b is = b
takes s u taken.NoEntry body f b is = b
takes s u taken.Invalid fit.Fits f b is = b
takes s u taken.Invalid fit.FitsNot f b is = b
takes s u taken.Invalid fit.MayFit f b is = b
takes s u taken.Failed body f b is = b

-- the faults of a device
abbrev is_of_takings : Fault → Bool
is_of_takings fault.AcceptedAfterTheEnd = true
is_of_takings fault.AcceptedReplyToNothing = true
is_of_takings fault.AcceptedWrongBody = true
is_of_takings fault.RefusedReply = true
is_of_takings f = false

pub takes_none : (s : Session) (u : ℕ) (t : Taken) (body : Fit) (f : Fault) → is_of_takings f ≡ false
    → BreaksTaking s u t body f → ⊥
takes_none s u t body fault.AcceptedAfterTheEnd other b = cc
takes_none s u t body fault.AcceptedReplyToNothing other b = cc
takes_none s u t body fault.AcceptedWrongBody other b = cc
takes_none s u t body fault.RefusedReply other b = cc
takes_none s u taken.Accepted fit.Fits f other b = b
takes_none s u taken.Accepted fit.FitsNot f other b = b
takes_none s u taken.Accepted fit.MayFit f other b = b
takes_none s u taken.NoEntry body f other b = b
takes_none s u taken.Invalid fit.Fits f other b = b
takes_none s u taken.Invalid fit.FitsNot f other b = b
takes_none s u taken.Invalid fit.MayFit f other b = b
takes_none s u taken.Failed body f other b = b

replies : (s : Session) (u : ℕ) (f : Fault) → BreaksReply s u f → is_of_numbers f ≡ true → ⊥
replies s u fault.ReplyToForget b is = cc
replies s u fault.SecondReply b is = cc
replies s u fault.ReplyToNothing b is = cc
replies s u f b is = b

replies_to : (s : Session) (u : ℕ) (again : Bool) (t : Taken) (f : Fault) → BreaksReplyToInterrupt s u again t f
    → is_of_numbers f ≡ true → ⊥
replies_to s u again t fault.ReplyToNothing b is = cc
replies_to s u again t fault.ReplyToNoInterrupt b is = cc
replies_to s u again t fault.AgainTooOften b is = cc
replies_to s u again t f b is = b

gives : (s : Session) (n : ℕ) (file : File) (f : Fault) → BreaksGift s n file f → is_of_numbers f ≡ true → ⊥
gives s n file fault.NodeOfTwoGenerations b is = cc
gives s n file fault.NodeOfTwoKinds b is = cc
gives s n file fault.NodeOfTwoInodeNumbers b is = cc
gives s n file fault.NodeGivenAgain b is = cc
gives s n file f b is = b

describes : (s : Session) (n kind ino : ℕ) (f : Fault) → BreaksAttributes s n kind ino f → is_of_numbers f ≡ true → ⊥
describes s n kind ino fault.NodeOfTwoKinds b is = cc
describes s n kind ino fault.NodeOfTwoInodeNumbers b is = cc
describes s n kind ino f b is = b

warns : (s : Session) (u : ℕ) (f : Fault) → WarnsOfError s u f → is_of_numbers f ≡ true → ⊥
warns s u fault.InterruptedByNobody b is = cc
warns s u f b is = b

misses : (s : Session) (n : ℕ) (f : Fault) → WarnsOfMissing s n f → is_of_numbers f ≡ true → ⊥
misses s n fault.NoSuchNode b is = cc
misses s n f b is = b

opens : (s : Session) (file : OpenFile) (f : Fault) → WarnsOfOpening s file f → is_of_numbers f ≡ true → ⊥
opens s file fault.HandleGivenAgain b is = cc
opens s file f b is = b

another : (b : Bool) → not b ≡ true → b ≡ true → ⊥
another true n e = cc
another false n e = cc

pub calm_law : (s : Session) (a : Act) (f : Fault) → is_calm a ≡ true → Breaks s a f → is_of_numbers f ≡ true → ⊥
calm_law s (act.Faulty that) f calm b is = another (is_of_numbers that) calm (ap is_of_numbers (sym b) ∙ is)
calm_law s act.Arrives f calm b is = arrives s f b is
calm_law s (act.Begins o) f calm b is = begins s o f b is
calm_law s (act.Read o u) f calm b is = cc
calm_law s (act.Resent u o) f calm b is = cc
calm_law s (act.Interrupts u o) f calm b is = cc
calm_law s (act.Names n) f calm b is = names s n f b is
calm_law s (act.Forgets n l) f calm b is = cc
calm_law s (act.Uses file) f calm b is = uses s file f b is
calm_law s (act.Releases file) f calm b is = releases s file f b is
calm_law s (act.Writes n) f calm b is = writes s n f b is
calm_law s (act.Takes u t body) f calm b is = takes s u t body f b is
calm_law s (act.Interrupted u) f calm b is = warns s u f b is
calm_law s (act.Replies u t) f calm b is = replies s u f b is
calm_law s (act.RepliesToInterrupt o again t) f calm b is = replies_to s o again t f b is
calm_law s (act.Gives n file certain) f calm b is = gives s n file f b is
calm_law s (act.Describes n kind ino) f calm b is = describes s n kind ino f b is
calm_law s (act.Missing n errno) f calm b is = misses s n f b is
calm_law s (act.Opens file) f calm b is = opens s file f b is
calm_law s other f calm b is = b

-- ---- the acts of what a server writes

module _ (test : Act → Bool) where
  pub each_of : (xs ys : List Act) → list_all test xs ≡ true → list_all test ys ≡ true → list_all test (xs ++ ys) ≡ true
  each_of [] ys p q = q
  each_of (a ∷ xs) ys p q =
      let both = and_parts (test a) (list_all test xs) p in
      and_from (test a) (list_all test (xs ++ ys)) both.0 (each_of xs ys both.1 q)

  pub either : (b : Bool) (xs ys : List Act) → list_all test xs ≡ true → list_all test ys ≡ true
      → list_all test (if b then xs else ys) ≡ true
  either true xs ys p q = p
  either false xs ys p q = q

pub by_bool : (b : Bool) (Goal P Q : Type 0) → (b ≡ true → P → Goal) → (b ≡ false → Q → Goal) → MatchBool b P Q → Goal
by_bool true Goal P Q first second is = first refl is
by_bool false Goal P Q first second is = second refl is

pub bare_plain : (acts : List Act) → AreBare acts → ArePlain acts
bare_plain = pass_on is_bare is_plain is_plain_where_bare

pub kind_bare : (a : Asked) (e : Entry) → AreBare (kind_acts a e)
kind_bare a e = either is_bare (is_kind (kind_of e.attributes)) _ _
    (either is_bare (is_made a e) [] (act.Faulty fault.EntryOfAnotherKind ∷ []) refl refl) refl

entry_plain : (certain : Bool) (o : Opcode) (a : Asked) (e : Entry) → ArePlain (entry_acts certain o a e)
entry_plain certain o a e = either is_plain (nat_eq e.nodeid 1) (root_acts a) _
    (either is_plain a.is_dots [] (act.Faulty fault.EntryOfTheRoot ∷ []) refl refl)
    (either is_plain (nat_eq e.nodeid 0) _ _
    (either is_plain (may_be_missing o) [] (act.Faulty fault.EntryOfNoNode ∷ []) refl refl)
    (each_of is_plain (kind_acts a e) _ (bare_plain (kind_acts a e) (kind_bare a e)) refl))

records_plain : (certain : Bool) (a : Asked) (rs : List EntryRecordContent) → ArePlain (flat_map (record_acts certain a) rs)
records_plain certain a [] = refl
records_plain certain a (r ∷ rs) = each_of is_plain (record_acts certain a r) _
    (either is_plain (is_name r.said.name (codes ".") || is_name r.said.name (codes "..")) []
    (entry_acts certain op.Readdirplus a r.entry) refl (entry_plain certain op.Readdirplus a r.entry))
    (records_plain certain a rs)

pub counting_bare : (o : Opcode) (said most : ℕ) → AreBare (counting o said most)
counting_bare op.Write said most = either is_bare (nat_lt most said) (act.Faulty fault.MoreThanWasAsked ∷ []) [] refl refl
counting_bare op.CopyFileRange said most =
    either is_bare (nat_lt most said) (act.Faulty fault.MoreThanWasAsked ∷ []) [] refl refl
counting_bare op.CopyFileRange64 said most =
    either is_bare (nat_lt most said) (act.Faulty fault.MoreThanWasAsked ∷ []) [] refl refl
counting_bare o said most = refl

none_bare : (o : Opcode) → AreBare (opening_none o)
none_bare op.Open = refl
none_bare op.Opendir = refl
none_bare o = refl

pub failed_bare : (o : Opcode) (node errno : ℕ) → AreBare (failed_acts o node errno)
failed_bare o node errno = each_of is_bare (if nat_eq errno 38 then opening_none o else []) (missing_acts o node errno)
    (either is_bare (nat_eq errno 38) (opening_none o) [] (none_bare o) refl)
    (either is_bare (is_of_node o && is_missing errno) _ [] refl refl)

opening_calm : (o : Opcode) (node fh : ℕ) → AreWritten (opening o node fh)
opening_calm op.Open node fh = refl
opening_calm op.Opendir node fh = refl
opening_calm op.Create node fh = refl
opening_calm op.Tmpfile node fh = refl
opening_calm o node fh = refl

pub listing_bare : (asked : ℕ) (offsets : List ℕ) → AreBare (listing_acts asked offsets)
listing_bare asked offsets =
    let twice : List Act = act.Faulty fault.OffsetGivenTwice ∷ [] in
    let endless : List Act = act.Faulty fault.ListingWithoutEnd ∷ [] in
    let ends : Bool = is_offset asked (last_behind None offsets) in
    each_of is_bare (if repeats_behind None offsets then twice else []) (if ends then endless else [])
    (either is_bare (repeats_behind None offsets) twice [] refl refl) (either is_bare ends endless [] refl refl)

pub replied_bare : (bytes : List ℕ) (t : Taken) (body : Fit) → AreBare (replied bytes t body)
replied_bare bytes taken.Accepted body = each_of is_bare (eintr_acts bytes taken.Accepted)
    (act.Takes (number_in bytes) taken.Accepted body ∷ act.Replies (number_in bytes) taken.Accepted ∷ [])
    (either is_bare (error_in bytes == eintr) (act.Interrupted (number_in bytes) ∷ []) [] refl refl) refl
replied_bare bytes taken.NoEntry body = refl
replied_bare bytes taken.Invalid body = refl
replied_bare bytes taken.Failed body = refl

pub init_bare : (o : Option InitRequest) (content : AnswerContent) → AreBare (init_acts o content)
init_bare (Some r) (answer.init i) = each_of is_bare (of_version i) (of_offered r i)
    (either is_bare (i.major == 7) [] (act.Faulty fault.InitOfAnotherVersion ∷ []) refl refl)
    (either is_bare (bit_and i.flags r.flags == i.flags) [] (act.Faulty fault.FlagsThatWereNotOffered ∷ []) refl refl)
init_bare (Some r) content = refl
init_bare None content = refl

-- Such acts, where those are that are plain, and what the opcode of a request opens.
module _ (test : Act → Bool) (plain : (a : Act) → is_plain a ≡ true → test a ≡ true) where
  abbrev AreSuch : List Act → Type 0
  AreSuch acts = list_all test acts ≡ true

  pub such : (acts : List Act) → ArePlain acts → AreSuch acts
  such = pass_on is_plain test plain

  pub bare_such : (acts : List Act) → AreBare acts → AreSuch acts
  bare_such acts are = such acts (bare_plain acts are)

  abbrev pub OpensSuch : Opcode → Type 0
  OpensSuch o = (node fh : ℕ) → list_all test (opening o node fh) ≡ true

  answer_such : (o : Opcode) → OpensSuch o → (a : Asked) (content : AnswerContent) → AreSuch (answer_acts o a content)
  answer_such o opens a (answer.failed errno) = bare_such (failed_acts o a.nodeid errno) (failed_bare o a.nodeid errno)
  answer_such o opens a (answer.entry e) = such (entry_acts true o a e) (entry_plain true o a e)
  answer_such o opens a (answer.attributes v) = such (act.Describes a.nodeid (kind_of v.attributes) v.attributes.ino ∷ []) refl
  answer_such o opens a (answer.opened file) = opens a.nodeid file.handle
  answer_such o opens a (answer.created e file) = each_of test (entry_acts true o a e) _
      (such (entry_acts true o a e) (entry_plain true o a e))
      (either test (is_opened a e) (opening o e.nodeid file.handle) [] (opens e.nodeid file.handle) refl)
  answer_such o opens a (answer.number n) = bare_such (counting o n a.writes) (counting_bare o n a.writes)
  answer_such o opens a (answer.records rs) =
      bare_such (listing_acts a.lists_from (map (λ r. r.off) rs)) (listing_bare a.lists_from (map (λ r. r.off) rs))
  answer_such o opens a (answer.entry_records rs) =
      such (flat_map (record_acts true a) rs ++ listing_acts a.lists_from (map (λ r. r.said.off) rs))
      (each_of is_plain (flat_map (record_acts true a) rs) _ (records_plain true a rs)
      (bare_plain (listing_acts a.lists_from (map (λ r. r.said.off) rs)) (listing_bare a.lists_from (map (λ r. r.said.off) rs))))
  answer_such o opens a (answer.init i) = such (act.Agrees i.max_write ∷ []) refl
  answer_such o opens a other = refl

  module _ (k : Known) (bytes : List ℕ) (t : Taken) where
    pub replied_such : (t : Taken) (body : Fit) → AreSuch (replied bytes t body)
    replied_such t body = bare_such (replied bytes t body) (replied_bare bytes t body)

    said_such : (o : Opcode) → OpensSuch o → (a : Asked) (t : Taken) (content : AnswerContent) → AreSuch (said_acts k o a t content)
    said_such o opens a taken.Accepted content = each_of test (init_acts k.offered content) (answer_acts o a content)
        (bare_such (init_acts k.offered content) (init_bare k.offered content)) (answer_such o opens a content)
    said_such o opens a taken.NoEntry content = refl
    said_such o opens a taken.Invalid content = refl
    said_such o opens a taken.Failed content = refl

    listed_such : (o : Opcode) (a : Asked) (t : Taken) → AreSuch (listed_acts o a t bytes)
    listed_such o a t = such (listed_acts o a t bytes) (by o t)
      where
        by : (o : Opcode) (t : Taken) → ArePlain (listed_acts o a t bytes)
        by op.Readdirplus taken.Accepted = either is_plain (error_in bytes == 0)
            (flat_map (record_acts false a) (entry_records_from 0 (drop 16 bytes))) []
            (records_plain false a (entry_records_from 0 (drop 16 bytes))) refl
        by op.Readdirplus t = refl
        by o t = refl

    by_such : (p : Option Opcode) → ((o : Opcode) → p ≡ Some o → OpensSuch o) → (a : Asked) (acts : List Act) (later : Known)
        → IsReplyBy k bytes t p a acts later → AreSuch acts
    by_such None opens a acts later is = ap (list_all test) is.0 ∙ replied_such t fit.MayFit
    by_such (Some o) opens a acts later (inl (m, is, says)) =
        let body : Fit = fit_in (row_at o).reply a.asked bytes in
        ap (list_all test) says.0 ∙ each_of test (replied bytes t body) (said_acts k o a t m.answer)
        (replied_such t body) (said_such o (opens o refl) a t m.answer)
    by_such (Some o) opens a acts later (inr (none, is)) =
        let body : Fit = fit_of_another (fit_in (row_at o).reply a.asked bytes) in
        ap (list_all test) is.0 ∙ each_of test (act.Faulty fault.BodyOfAnotherRequest ∷ []) (replied bytes t body ++ listed_acts o a t bytes)
        (such (act.Faulty fault.BodyOfAnotherRequest ∷ []) refl)
        (each_of test (replied bytes t body) (listed_acts o a t bytes) (replied_such t body) (listed_such o a t))

    to_such : (x : Option Asked) → ((a : Asked) (o : Opcode) → x ≡ Some a → a.opcode ≡ Some o → OpensSuch o) → (acts : List Act)
        (later : Known) → IsReplyTo k bytes t x acts later → AreSuch acts
    to_such None opens acts later is = ap (list_all test) is.0 ∙ replied_such t fit.MayFit
    to_such (Some a) opens acts later is = by_such a.opcode (λ o at. opens a o refl at) a acts later is

    -- So are the acts of what a server writes.
    pub written_such : (s : Session) (acts : List Act) (later : Known)
        → ((a : Asked) (o : Opcode) → waits s (number_in bytes) ≡ Some a → a.opcode ≡ Some o → OpensSuch o)
        → IsWritten k s bytes t acts later → AreSuch acts
    written_such s acts later opens (inl (head, is)) = by_bool (number_in bytes == 0) (AreSuch acts) _ _
        (λ zero. notified) (λ some. by_bool (is_to_interrupt (number_in bytes) (waits s (number_in bytes)))
        (AreSuch acts) _ _ (λ interrupt does. subst AreSuch (sym does.0) (such (interrupt_acts bytes t) refl))
        (λ other. to_such (waits s (number_in bytes)) opens acts later)) is
      where
        notified : IsNotified k bytes t acts later → AreSuch acts
        notified (inl (m, is, does)) = ap (list_all test) does.0
            ∙ either test (is_resend bytes t) (act.Resends ∷ []) [] (such (act.Resends ∷ []) refl) refl
        notified (inr (not, does)) = ap (list_all test) does.0 ∙ such (act.Faulty fault.MalformedNotification ∷ []) refl
    written_such s acts later opens (inr (bad, faulty, same)) =
        ap (list_all test) faulty ∙ such (act.Faulty fault.MalformedReply ∷ []) refl

module _ (k : Known) (bytes : List ℕ) (t : Taken) where
  pub written_server : (s : Session) (acts : List Act) (later : Known) → IsWritten k s bytes t acts later → AreWritten acts
  written_server s acts later = written_such is_written is_written_where_plain k bytes t s acts later
      (λ a o at is. opening_calm o)

  pub written_shown : (s : Session) (acts : List Act) (later : Known) → IsWritten k s bytes t acts later → AreShown acts
  written_shown s acts later is = pass_on is_written is_shown is_shown_where_written acts (written_server s acts later is)

  pub written_calm : (s : Session) (acts : List Act) (later : Known) → IsWritten k s bytes t acts later → AreCalm acts
  written_calm s acts later is = shown_calm acts (written_shown s acts later is)
