-- The groups of faults of which a server is never accused, and what each asks of its kernel.
use Rattle.std.specs.Prelude.{◌≡◌, ◌≢◌, ◌≤◌, ℕ, Bool, true, false, List, length}
use Rattle.fuse_sessions.specs.declared.fault.Fault.{Fault}
use Rattle.fuse_sessions.specs.declared.fault.Fault.TheVariants as fault
use Rattle.fuse_sessions.specs.declared.fault.Party.{Party}
use Rattle.fuse_sessions.specs.declared.fault.Party.TheVariants.{Kernel, Server}
use Rattle.fuse_sessions.specs.Parties.{party_of}
use Rattle.fuse_sessions.specs.UnreadRequests.{opcode_in, unique_in}

-- ---- faults of a server

-- A frame is none, or INIT's reply is of another version.
abbrev pub is_of_heads : Fault → Bool
is_of_heads fault.MalformedReply = true
is_of_heads fault.InitOfAnotherVersion = true
is_of_heads f = false

-- A frame of number 0 is no notification.
abbrev pub is_of_notices : Fault → Bool
is_of_notices fault.MalformedNotification = true
is_of_notices f = false

-- A reply is to no request that waits, and to no INTERRUPT of one.
abbrev pub is_of_numbers : Fault → Bool
is_of_numbers fault.ReplyToNothing = true
is_of_numbers fault.SecondReply = true
is_of_numbers fault.ReplyToForget = true
is_of_numbers fault.ReplyToNoInterrupt = true
is_of_numbers f = false

-- INIT's reply has a flag that its request lacks.
abbrev pub is_of_flags : Fault → Bool
is_of_flags fault.FlagsThatWereNotOffered = true
is_of_flags f = false

-- The body of a reply is not one of its request's opcode.
abbrev pub is_of_bodies : Fault → Bool
is_of_bodies fault.BodyOfAnotherRequest = true
is_of_bodies f = false

-- A reply says of a WRITE that more was written than it has.
abbrev pub is_of_counts : Fault → Bool
is_of_counts fault.MoreThanWasAsked = true
is_of_counts f = false

-- An entry is of no node, or of the root, or its file is of no kind, or of another than its request makes.
abbrev pub is_of_entries : Fault → Bool
is_of_entries fault.EntryOfTheRoot = true
is_of_entries fault.EntryOfNoNode = true
is_of_entries fault.EntryOfNoKind = true
is_of_entries fault.EntryOfAnotherKind = true
is_of_entries f = false

-- A node that is counted is given under another generation.
abbrev pub is_of_generations : Fault → Bool
is_of_generations fault.NodeOfTwoGenerations = true
is_of_generations f = false

-- A node that is counted is given, or described, with another kind or inode number.
abbrev pub is_of_files : Fault → Bool
is_of_files fault.NodeOfTwoKinds = true
is_of_files fault.NodeOfTwoInodeNumbers = true
is_of_files f = false

-- A warning: a node that is counted no more is given again under its generation, for another file.
abbrev pub is_of_pairs : Fault → Bool
is_of_pairs fault.NodeGivenAgain = true
is_of_pairs f = false

-- A fault is the server's.
abbrev pub is_server : Party → Bool
is_server Server = true
is_server other = false

abbrev pub is_of_server : Fault → Bool
is_of_server f = is_server (party_of f)

-- ---- faults of a kernel that a group asks it not to have

-- A fault is the kernel's.
abbrev pub is_kernel : Party → Bool
is_kernel Kernel = true
is_kernel other = false

abbrev pub is_of_kernel : Fault → Bool
is_of_kernel f = is_kernel (party_of f)

abbrev pub is_nothing : Fault → Bool
is_nothing f = false

-- An INTERRUPT is of no request that waits, or a request has an INTERRUPT's number. The server answers such an INTERRUPT as
-- one that came before its request. (fuse.rst)
abbrev pub is_of_interrupts : Fault → Bool
is_of_interrupts fault.OddNumber = true
is_of_interrupts fault.InterruptUnderAnotherNumber = true
is_of_interrupts fault.InterruptOfNothing = true
is_of_interrupts f = false

-- There is an INIT behind another.
abbrev pub is_of_second_init : Fault → Bool
is_of_second_init fault.InitNotFirst = true
is_of_second_init f = false

-- ---- frames of a kernel that a group asks for

abbrev pub IsAny : List ℕ → Type 0
IsAny frame = Unit {0}

-- A request's number is not that of notifications. (linux/fs/fuse/dev.c, `fuse_dev_do_write`)
abbrev pub HasNumber : List ℕ → Type 0
HasNumber frame = unique_in frame ≢ 0

-- It is no NOTIFY_REPLY, for which this server never asks.
abbrev pub IsNoNotifyReply : List ℕ → Type 0
IsNoNotifyReply frame = opcode_in frame ≢ 41

-- A BATCH_FORGET is no longer than the definitions read: 16 MiB, a million pairs. A longer one is malformed to them, and
-- they see no forgets.
abbrev pub HasFewForgets : List ℕ → Type 0
HasFewForgets frame = opcode_in frame ≡ 42 → length frame ≤ 16777216

-- A request has a number, and is no NOTIFY_REPLY.
pub record IsOrdinary (frame : List ℕ) : Type 0 where
  pub number : HasNumber frame
  pub other : IsNoNotifyReply frame
