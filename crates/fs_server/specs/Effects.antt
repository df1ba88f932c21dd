-- What each call of the server does, and what it is refused for.
use Rattle.std.specs.Prelude.{◌≡◌, ◌<◌, ℕ, Bool, true, false, nat_eq, List, Option, Some, None}
use Rattle.fuse_spec.specs.Values.Maps.{get}
use Rattle.fuse_spec.specs.Kernel.Messages.{Forget, RequestBody, Request, WireReply}
use Rattle.fuse_spec.specs.Files.Operations.{errno_of}
use Rattle.fuse_spec.specs.Server.Nodes.{HandleTable, MayChoose, NodeTable, count_overflows}
use Rattle.fuse_spec.specs.Server.Performs.{served, files_given}
use Rattle.fuse_spec.specs.World.Worlds.{Sent}
use Rattle.fuse_spec.specs.Server.Server.{Server, HeldRequest, Kept, Copy, RequestFault, unknown_opcode, unknown_node, too_many_forgets, repeated_unique, all_taken_back, fault_of, forgetting, is_file_held}
use Rattle.fuse_spec.specs.Server.Copies.{given_back, files_named, handles_back, is_current, rows_back, sent_again, settled}
use Rattle.fuse_spec.specs.Server.Memory.{word_takes_memory}
use Rattle.fuse_spec.specs.Server.Taking.{taking}
use Rattle.fuse_spec.specs.Kernel.Refusals.{refusal_in, accepted}
use Rattle.fuse_spec.specs.Server.Refusals.{is_server_past_end, to_perform, to_send_again}
use Rattle.fuse_spec.specs.Values.Numbers.{counter_end}
use Rattle.fuse_spec.specs.declared.Entry.{Entry}
use Rattle.fuse_spec.specs.declared.Refusal.{Refusal}
use Rattle.fuse_spec.specs.declared.Refusal.TheVariants.{NoSuch, Exhausted}
use Rattle.fuse_spec.specs.declared.Validity.{Validity}
use Rattle.fuse_spec.specs.declared.WriteResult.{WriteResult}
use Rattle.fuse_spec.specs.declared.WriteResult.TheVariants.{Accepted, NoEntry, Invalid}
use Rattle.fuse_frames.specs.RequestTies.{SaysRequest}
use Rattle.fs_tree.specs.Outcomes.{without_unheld}
use Rattle.fs_files.specs.Bounds.{AreNamed}
use Rattle.fs_files.specs.Values.{FilesState, server_of}
use Rattle.fs_server.specs.declared.server.ServerFault.{ServerFault}
use Rattle.fs_server.specs.declared.server.ServerFault.TheVariants.{Wire, UnknownNode, TooManyForgets, RepeatedUnique, Memory}
use Rattle.fs_server.specs.declared.server.ServerFault.TheVariants as fault
use Rattle.fs_server.specs.declared.server.Taken.{Taken}

abbrev pub as_fault : Option RequestFault → Option ServerFault
as_fault None = None
as_fault (Some unknown_opcode) = Some Wire
as_fault (Some unknown_node) = Some UnknownNode
as_fault (Some too_many_forgets) = Some TooManyForgets
as_fault (Some repeated_unique) = Some RepeatedUnique

-- What is wrong with a request under this unique, out of memory and out of numbers aside. Where the machine has no such
-- request it isn't served.
abbrev pub request_fault : Server → ℕ → Option RequestBody → Option ServerFault
request_fault s unique None = Some Wire
request_fault s unique (Some body) = as_fault (fault_of s (record { unique = unique; body = body }))

-- what a request is refused for that has no fault: a counter at its end, or else out of memory
abbrev pub past_or_memory : Bool → ServerFault
past_or_memory true = fault.Exhausted
past_or_memory false = Memory

-- the fault, or else one of these
abbrev pub fault_or : Option ServerFault → ServerFault → ServerFault
fault_or None other = other
fault_or (Some fault) other = fault

-- What a request that is refused is refused for.
abbrev pub refused_for : Server → Request → ServerFault
refused_for s request = fault_or (request_fault s request.unique (Some request.body))
    (past_or_memory (is_server_past_end (taking s request.unique request.body).server))

-- A frame spells a request that has no fault, and no counter would have given a number past its end: only memory can
-- run out.
pub record CanTake (s : Server) (bytes : List ℕ) : Type 0 where
  pub request : Request
  pub says : SaysRequest bytes request
  pub faultless : request_fault s request.unique (Some request.body) ≡ None
  pub within : is_server_past_end (taking s request.unique request.body).server ≡ false

-- Taking a frame sends a copy of a reply at once.
pub record AnswersFrame (s : Server) (bytes : List ℕ) : Type 0 where
  pub can : CanTake s bytes
  pub reply : WireReply
  pub replies : (taking s can.request.unique can.request.body).reply ≡ Some reply

-- the copy of a reply that is sent at once
abbrev pub copy_of : (number unique : ℕ) → Option WireReply → Option Sent
copy_of number unique None = None
copy_of number unique (Some wire) = Some (record { number = number; unique = unique; wire = wire })

-- A frame is taken as the request that it spells, which has no fault.
pub record TakesFrame {A : Type 0} (old : Server) (bytes : List ℕ) (taken : Taken A) (new : Server) : Type 0 where
  pub request : Request
  pub says : SaysRequest bytes request
  pub under : request.unique ≡ taken.unique
  pub faultless : request_fault old request.unique (Some request.body) ≡ None
  pub as_word : (taking old request.unique request.body).word ≡ taken.word
  pub after : new ≡ (taking old request.unique request.body).server
  pub copy : taken.sent ≡ copy_of old.next_copy request.unique (taking old request.unique request.body).reply

-- A frame is refused for the first fault of the request that it spells, or as out of numbers or of memory, and where it
-- spells none as no request.
pub record RefusesFrame (old : Server) (bytes : List ℕ) (fault : ServerFault) : Type 0 where
  pub of_request : (request : Request) → SaysRequest bytes request → fault ≡ refused_for old request
  pub of_none : ((request : Request) → SaysRequest bytes request → ⊥) → fault ≡ Wire

-- Taking the request that a frame spells takes memory.
abbrev pub TakingNeedsMemory : Server → List ℕ → Type 0
TakingNeedsMemory s bytes = (request : Request) → SaysRequest bytes request
    → word_takes_memory (taking s request.unique request.body).word ≡ true

-- These nodes and file handles are left, and nameless files that nothing holds have gone.
pub record DiscardsUnheld (old : FilesState) (nodes : NodeTable) (handles : HandleTable)
    (new : FilesState) : Type 0 where
  pub tree : (v : Validity) → new.tree ≡ without_unheld (is_file_held (server_of new v)) old.tree
  pub nodes_are : new.nodes ≡ nodes
  pub handles_are : new.handles ≡ handles
  pub named : AreNamed new.tree new.nodes new.handles

-- These lookups are given back, and nameless files that nothing holds have gone.
abbrev pub TakesBack : FilesState → List Forget → FilesState → Type 0
TakesBack old fs new = DiscardsUnheld old (all_taken_back old.nodes fs) old.handles new

-- What these entries and file handles counted is given back, and nameless files that nothing holds have gone.
abbrev pub CountsBack : FilesState → List Entry → List ℕ → FilesState → Type 0
CountsBack old gs fhs new = DiscardsUnheld old (rows_back old.nodes gs) (handles_back old.handles fhs) new

-- These lookups are given back, and nameless files that nothing holds go.
abbrev pub Forgets : FilesState → List Forget → FilesState → Type 0
Forgets old fs new = (v : Validity) → server_of new v ≡ forgetting (server_of old v) fs

-- What a copy of this reply carried is given back, and nameless files that nothing holds go.
abbrev pub GivesBack : FilesState → WireReply → FilesState → Type 0
GivesBack old wire new = (v : Validity) → server_of new v ≡ given_back (server_of old v) wire

-- What the result of a copy of this reply makes of the files: a refused copy is counted back.
abbrev pub SettlesFiles : FilesState → WireReply → WriteResult → FilesState → Type 0
SettlesFiles old wire Accepted new = new ≡ old
SettlesFiles old wire NoEntry new = GivesBack old wire new
SettlesFiles old wire Invalid new = GivesBack old wire new

-- A copy that was sent is settled by the result of its write.
pub record Settles (old : Server) (number : ℕ) (result : WriteResult) (new : Server) : Type 0 where
  pub copy : Copy
  pub there : get old.copies number ≡ Some copy
  pub after : new ≡ settled old number copy result

-- Nothing to settle: no copy of this number was sent, or it is settled already.
pub record HasNoCopy (old : Server) (number : ℕ) (refusal : Refusal) : Type 0 where
  pub absent : get old.copies number ≡ None
  pub no_such : refusal ≡ NoSuch

-- whether a kept reply is the one whose first copy has this number
abbrev pub is_of_copy : Option Kept → ℕ → Bool
is_of_copy None first = false
is_of_copy (Some kept) first = nat_eq kept.first first

-- Why a held request can't be performed: as the definitions have it, or for a counter at its end. Out of memory aside.
pub data RefusesHeld (s : Server) (unique : ℕ) : Refusal → Type 0 where
  as_judged : (refusal : Refusal) → refusal_in (to_perform s unique (λ held. accepted)) ≡ Some refusal
      → RefusesHeld s unique refusal
  exhausted : (held : HeldRequest) → get s.held unique ≡ Some held
      → ((choice : ℕ → ℕ) → MayChoose choice s.nodes (files_given s held)
      → is_server_past_end (served choice s unique held).server ≡ true) → RefusesHeld s unique Exhausted

-- the first copy of a reply: none after an abort
abbrev pub first_copy : (aborted : Bool) (number unique : ℕ) → WireReply → Option Sent
first_copy true number unique wire = None
first_copy false number unique wire = Some (record { number = number; unique = unique; wire = wire })

-- A held request is performed, with these ids for the files that get a node, and this is the first copy of its reply.
pub record PerformsHeld (old : Server) (unique errno : ℕ) (copy : Option Sent) (new : Server) : Type 0 where
  pub held : HeldRequest
  pub there : get old.held unique ≡ Some held
  pub counts : count_overflows old.nodes (files_given old held) ≡ false
  pub choice : ℕ → ℕ
  pub may : MayChoose choice old.nodes (files_given old held)
  pub server_is : new ≡ (served choice old unique held).server
  pub copy_is : copy ≡ first_copy old.aborted old.next_copy unique (served choice old unique held).wire
  pub errno_is : errno ≡ errno_of (served choice old unique held).wire

-- Why no copy of a kept reply can be sent: as the definitions have it, or for a counter at its end. Out of memory
-- aside.
pub data RefusesAgain (s : Server) (unique : ℕ) : Refusal → Type 0 where
  judged_again : (refusal : Refusal) → refusal_in (to_send_again s unique (λ kept. accepted)) ≡ Some refusal
      → RefusesAgain s unique refusal
  no_number : (kept : Kept) → get s.kept unique ≡ Some kept → is_current s kept.wire ≡ true
      → is_server_past_end (sent_again s unique kept) ≡ true → RefusesAgain s unique Exhausted

-- A reply is kept under this unique, each node and file handle that it names is still held, and a copy number is left.
pub record CanSendAgain (s : Server) (unique : ℕ) : Type 0 where
  pub kept : Kept
  pub there : get s.kept unique ≡ Some kept
  pub current : is_current s kept.wire ≡ true
  pub counts : count_overflows s.nodes (files_named s kept.wire) ≡ false
  pub number : s.next_copy < counter_end

-- One more copy of a kept reply is sent, and what it names is counted once more.
pub record SendsAgain (old : Server) (unique : ℕ) (copy : Sent) (new : Server) : Type 0 where
  pub kept : Kept
  pub there : get old.kept unique ≡ Some kept
  pub current : is_current old kept.wire ≡ true
  pub counts : count_overflows old.nodes (files_named old kept.wire) ≡ false
  pub copy_is : copy ≡ record { number = old.next_copy; unique = unique; wire = kept.wire }
  pub after : new ≡ sent_again old unique kept
