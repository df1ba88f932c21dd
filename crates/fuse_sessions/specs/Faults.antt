-- What a kernel, a server and a device must not do, and what is odd: for each act the fault or the warning that it has
-- after a session. The names of the faults are those that are printed. Sources: linux/fuse.h, the kernel's fuse.rst and dev.c, libfuse's low-level notes.
use Rattle.std.specs.Prelude.{◌≡◌, ◌≢◌, ◌<◌, ◌⊎◌, ℕ, ◌+◌, ◌%◌, max, Bool, List, ◌++◌, Option, Some, None, IsTrue, IsFalse, slice_get, take}
use Rattle.fuse_protocol.specs.declared.opcode.Opcode.{Opcode}
use Rattle.fuse_protocol.specs.declared.opcode.Opcode.TheVariants as op
use Rattle.fuse_sessions.specs.declared.act.Act.{Act}
use Rattle.fuse_sessions.specs.declared.act.Act.TheVariants as act
use Rattle.fuse_sessions.specs.declared.act.File.{File}
use Rattle.fuse_sessions.specs.declared.act.Fit.{Fit}
use Rattle.fuse_sessions.specs.declared.act.Fit.TheVariants as fit
use Rattle.fuse_sessions.specs.declared.act.OpenFile.{OpenFile}
use Rattle.fuse_sessions.specs.declared.act.OpenKind.TheVariants as kind
use Rattle.fuse_sessions.specs.declared.act.Taken.{Taken}
use Rattle.fuse_sessions.specs.declared.act.Taken.TheVariants as taken
use Rattle.fuse_sessions.specs.declared.fault.Fault.{Fault}
use Rattle.fuse_sessions.specs.declared.fault.Fault.TheVariants as fault
use Rattle.fuse_sessions.specs.Sessions.{Session, latest}
use Rattle.fuse_sessions.specs.Waiting.{waits, is_named, is_used}
use Rattle.fuse_sessions.specs.Numbers.{was_read, was_forget, is_out_of_order, was_anything_read, has_agreed, has_several_readers, has_several_threads, interrupts, agains, has_ended, is_surely_over}
use Rattle.fuse_sessions.specs.Counts.{least_count, most_count, known}
use Rattle.fuse_sessions.specs.OpenFiles.{opened, has_none, needs_no_open, MayUse, HasOpen}
use Rattle.fuse_sessions.specs.Warnings.{IsGivenAgain, IsOpenedAgain, IsThere, IsInterruptedByNobody, IsAgainTooOften}

-- The first request is INIT, there is no other, and none comes before INIT is accepted.
abbrev pub BreaksBeginning : Session → Opcode → Fault → Type 0
BreaksBeginning s op.Init fault.InitNotFirst = IsTrue (was_anything_read s)
BreaksBeginning s op.Init f = ⊥
BreaksBeginning s opcode fault.RequestBeforeInit = IsFalse (has_agreed s)
BreaksBeginning s opcode f = ⊥

-- Numbers are even, none is read twice, and where one thread reads they rise: a FORGET's, which is numbered as it is read,
-- is above those of requests too.
abbrev pub BreaksNumber : Session → ℕ → Fault → Type 0
BreaksNumber s unique fault.OddNumber = unique % 2 ≡ 1
BreaksNumber s unique fault.NumberUsedTwice = (unique % 2 ≡ 0) × IsTrue (was_read s unique)
BreaksNumber s unique fault.NumberOutOfOrder = (unique % 2 ≡ 0) × IsFalse (was_read s unique)
    × IsFalse (has_several_readers s) × IsTrue (is_out_of_order s unique)
BreaksNumber s unique f = ⊥

-- A request that is read once more waits, under its first number or the one that it has now.
abbrev pub BreaksResent : Session → (unique original : ℕ) → Fault → Type 0
BreaksResent s unique original fault.ResendOfNothing = (waits s unique ≡ None) × (waits s original ≡ None)
BreaksResent s unique original f = ⊥

-- An INTERRUPT has its request's number with the lowest bit set. Where one thread uses the device it is of a request that
-- waits, and comes once, and once again after each EAGAIN; another thread may read it late. (fuse.rst)
abbrev pub BreaksInterrupt : Session → (unique original : ℕ) → Fault → Type 0
BreaksInterrupt s unique original fault.InterruptUnderAnotherNumber = unique ≢ original + 1
BreaksInterrupt s unique original fault.InterruptOfNothing = (unique ≡ original + 1)
    × IsFalse (has_several_threads s) × (waits s original ≡ None)
BreaksInterrupt s unique original fault.InterruptTooOften = (unique ≡ original + 1)
    × IsFalse (has_several_threads s) × (waits s original ≢ None) × (agains s original < interrupts s original)
BreaksInterrupt s unique original f = ⊥

-- A node that a request names is the root, or counted.
abbrev pub BreaksName : Session → ℕ → Fault → Type 0
BreaksName s node fault.NodeNotCounted = (node ≢ 1) × (most_count s node ≡ 0)
BreaksName s node f = ⊥

-- Something uses a node: a request that waits names it, or it is open. Where the server opens no files, what CREATE opened
-- is never released. (linux/fs/fuse/file.c, `fuse_file_alloc`)
abbrev pub IsInUse : Session → ℕ → Type 0
IsInUse s node = IsTrue (is_named s node) ⊎ (IsFalse (has_none s kind.File) × HasOpen s node)

-- The root is never forgotten; a forget is of some lookups, of no more than are counted, and of the last ones only where
-- nothing uses the node. (libfuse, low-level: forget)
abbrev pub BreaksForget : Session → (node lookups : ℕ) → Fault → Type 0
BreaksForget s node lookups fault.ForgetOfTheRoot = node ≡ 1
BreaksForget s node lookups fault.ForgetOfNoLookup = (node ≢ 1) × (lookups ≡ 0)
BreaksForget s node lookups fault.ForgetOfMoreThanIsCounted = (node ≢ 1) × (most_count s node < lookups)
BreaksForget s node lookups fault.ForgetOfANodeInUse = (node ≢ 1) × (0 < lookups) × (most_count s node ≡ lookups)
    × IsInUse s node
BreaksForget s node lookups f = ⊥

-- An open file that a request uses is open.
abbrev pub BreaksUse : Session → OpenFile → Fault → Type 0
BreaksUse s file fault.HandleNotOpen = ¬ MayUse s file
BreaksUse s file f = ⊥

-- What is released is open, and as it is released last no request that waits uses it, but where a request needs no open
-- file: Linux then sends what it opened later under the same file handle, 0. (libfuse, low-level: release;
-- linux/fs/fuse/file.c, `fuse_file_open`)
abbrev pub BreaksRelease : Session → OpenFile → Fault → Type 0
BreaksRelease s file fault.ReleaseOfWhatIsNotOpen = ¬ MayUse s file
BreaksRelease s file fault.ReleaseBesideAUse = IsFalse (needs_no_open s file) × (opened s file ≡ 1)
    × IsTrue (is_used s file)
BreaksRelease s file f = ⊥

-- how many bytes a WRITE may have: Linux takes 4,096 where fewer are said
abbrev pub agreed_write : Act → Option ℕ
agreed_write (act.Agrees max_write) = Some max_write
agreed_write a = None

abbrev pub or_page : Option ℕ → ℕ
or_page None = 4096
or_page (Some max_write) = max max_write 4096

abbrev pub BreaksWrite : Session → ℕ → Fault → Type 0
BreaksWrite s size fault.WriteTooLarge = or_page (latest agreed_write s) < size
BreaksWrite s size f = ⊥

-- The device accepts a reply exactly where a request waits for it, its body fits, and the connection has not ended.
-- (linux/fs/fuse/dev.c, `fuse_dev_do_write`)
abbrev pub BreaksTaking : Session → ℕ → Taken → Fit → Fault → Type 0
BreaksTaking s unique taken.Accepted body fault.AcceptedAfterTheEnd = IsTrue (is_surely_over s)
BreaksTaking s unique taken.Accepted body fault.AcceptedReplyToNothing = IsFalse (has_ended s) × (waits s unique ≡ None)
BreaksTaking s unique taken.Accepted fit.FitsNot fault.AcceptedWrongBody =
    IsFalse (has_ended s) × (waits s unique ≢ None)
BreaksTaking s unique taken.Invalid fit.Fits fault.RefusedReply = IsFalse (has_ended s) × (waits s unique ≢ None)
BreaksTaking s unique t body f = ⊥

-- A reply answers a request that waits.
abbrev pub BreaksReply : Session → ℕ → Fault → Type 0
BreaksReply s unique fault.ReplyToForget = (waits s unique ≡ None) × IsTrue (was_forget s unique)
BreaksReply s unique fault.SecondReply = (waits s unique ≡ None) × IsFalse (was_forget s unique)
    × IsTrue (was_read s unique)
BreaksReply s unique fault.ReplyToNothing = (waits s unique ≡ None) × IsFalse (was_read s unique)
BreaksReply s unique f = ⊥

-- A reply to an INTERRUPT is of a request that was read, and of an INTERRUPT while that request waits. Once the request
-- is answered it is no fault, since the server may have met them the other way round. Where several threads use the
-- device the INTERRUPT may stand before its request.
abbrev pub BreaksReplyToInterrupt : Session → ℕ → (is_again : Bool) → Taken → Fault → Type 0
BreaksReplyToInterrupt s original is_again t fault.ReplyToNothing = IsFalse (has_several_threads s) × IsFalse (was_read s original)
BreaksReplyToInterrupt s original is_again t fault.ReplyToNoInterrupt = IsFalse (has_several_threads s)
    × IsTrue (was_read s original) × (waits s original ≢ None) × (interrupts s original ≡ 0)
BreaksReplyToInterrupt s original is_again t fault.AgainTooOften = IsAgainTooOften s original is_again t
BreaksReplyToInterrupt s original is_again t f = ⊥

-- A node that is counted stays of one file. (linux/fuse.h: nodeid and generation are unique)
abbrev pub BreaksGift : Session → ℕ → File → Fault → Type 0
BreaksGift s node file fault.NodeOfTwoGenerations = (0 < least_count s node)
    × (old : File) × (known s node ≡ Some old) × (old.generation ≢ file.generation)
BreaksGift s node file fault.NodeOfTwoKinds = (0 < least_count s node)
    × (old : File) × (known s node ≡ Some old) × (old.generation ≡ file.generation) × (old.kind ≢ file.kind)
BreaksGift s node file fault.NodeOfTwoInodeNumbers = (0 < least_count s node)
    × (old : File) × (known s node ≡ Some old) × (old.generation ≡ file.generation) × (old.kind ≡ file.kind)
    × (old.ino ≢ file.ino)
BreaksGift s node file fault.NodeGivenAgain = IsGivenAgain s node file
BreaksGift s node file f = ⊥

-- And so do its attributes.
abbrev pub BreaksAttributes : Session → (node kind ino : ℕ) → Fault → Type 0
BreaksAttributes s node kind ino fault.NodeOfTwoKinds = (0 < least_count s node)
    × (old : File) × (known s node ≡ Some old) × (old.kind ≢ kind)
BreaksAttributes s node kind ino fault.NodeOfTwoInodeNumbers = (0 < least_count s node)
    × (old : File) × (known s node ≡ Some old) × (old.kind ≡ kind) × (old.ino ≢ ino)
BreaksAttributes s node kind ino f = ⊥

-- Of what else a reply says some is odd.
abbrev pub WarnsOfError : Session → ℕ → Fault → Type 0
WarnsOfError s unique fault.InterruptedByNobody = IsInterruptedByNobody s unique
WarnsOfError s unique f = ⊥

abbrev pub WarnsOfMissing : Session → ℕ → Fault → Type 0
WarnsOfMissing s node fault.NoSuchNode = IsThere s node
WarnsOfMissing s node f = ⊥

abbrev pub WarnsOfOpening : Session → OpenFile → Fault → Type 0
WarnsOfOpening s file fault.HandleGivenAgain = IsOpenedAgain s file
WarnsOfOpening s file f = ⊥

-- No request is read once the connection has ended.
abbrev pub BreaksArrival : Session → Fault → Type 0
BreaksArrival s fault.ReadAfterTheEnd = IsTrue (is_surely_over s)
BreaksArrival s f = ⊥

-- The next act of a session has this fault.
abbrev pub Breaks : Session → Act → Fault → Type 0
Breaks s (act.Faulty that) f = f ≡ that
Breaks s act.Arrives f = BreaksArrival s f
Breaks s (act.Begins opcode) f = BreaksBeginning s opcode f
Breaks s (act.Read opcode unique) f = BreaksNumber s unique f
Breaks s (act.Resent unique original) f = BreaksResent s unique original f
Breaks s (act.Interrupts unique original) f = BreaksInterrupt s unique original f
Breaks s (act.Names node) f = BreaksName s node f
Breaks s (act.Forgets node lookups) f = BreaksForget s node lookups f
Breaks s (act.Uses file) f = BreaksUse s file f
Breaks s (act.Releases file) f = BreaksRelease s file f
Breaks s (act.Writes size) f = BreaksWrite s size f
Breaks s (act.Takes unique t body) f = BreaksTaking s unique t body f
Breaks s (act.Interrupted unique) f = WarnsOfError s unique f
Breaks s (act.Replies unique t) f = BreaksReply s unique f
Breaks s (act.RepliesToInterrupt original is_again t) f = BreaksReplyToInterrupt s original is_again t f
Breaks s (act.Gives node file is_certain) f = BreaksGift s node file f
Breaks s (act.Describes node kind ino) f = BreaksAttributes s node kind ino f
Breaks s (act.Missing node errno) f = WarnsOfMissing s node f
Breaks s (act.Opens file) f = WarnsOfOpening s file f
Breaks s other f = ⊥

-- Of the next acts, the one at this place has this fault.
pub record HasFaultAt (s : Session) (acts : List Act) (place : ℕ) (f : Fault) : Type 0 where
  pub act : Act
  pub stands : slice_get acts place ≡ Some act
  pub breaks : Breaks (s ++ take place acts) act f
