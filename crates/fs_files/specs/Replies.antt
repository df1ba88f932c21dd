-- What replies say.
use Rattle.std.specs.Prelude.{◌≡◌, ◌≢◌, ◌≤◌, ◌<◌, ◌+◌, ◌-◌, ◌*◌, ℕ, [], Option, Some, None, All, IsTrue, Vec, length, map, vec_capacity}
use Rattle.fuse_spec.specs.Values.Numbers.{counter_end, max_transfer, max_validity}
use Rattle.fuse_spec.specs.Files.Operations as operation
use Rattle.fuse_spec.specs.Files.Operations.{Dirent, Reply, errno_of, reply_with}
use Rattle.fuse_spec.specs.Kernel.Messages.{WireReply}
use Rattle.fuse_spec.specs.declared.Entry.{Entry}
use Rattle.fuse_spec.specs.Files.Trees.{Tree}
use Rattle.fs_tree.specs.Outcomes.{is_regular}
use Rattle.fs_files.specs.Bounds.{IsThere}
use Rattle.fuse_frames.specs.Replies.{reply_of}
use Rattle.fuse_frames.specs.declared.reply.Reply.{Reply as FrameReply}
use Rattle.fuse_frames.specs.declared.reply.Reply.TheVariants as said
use Rattle.fs_files.specs.Listed.{AreRecordBytes, listed_pairs, dirents_in_bytes, pair_listed}
use Rattle.fs_files.specs.declared.listed_names.ListedNames.{ListedNames}
use Rattle.fs_files.specs.declared.spare.ListingBuffers.{ListingBuffers}
use Rattle.fs_files.specs.declared.replies.Outcome.{Outcome}
use Rattle.fs_files.specs.declared.replies.Outcome.TheVariants as outcome

-- A name in a list is of a file of the tree that was born before the end of inodes.
abbrev pub IsListable : Tree → Dirent → Type 0
IsListable tree d = (1 ≤ d.ino) × (d.ino - 1 < counter_end) × IsThere tree (d.ino - 1)

-- What is sent as a reply.
abbrev pub SentReply : Type 0 → Type 0
SentReply A = FrameReply Entry (Vec ℕ A) (ListedNames A) (Vec ℕ A)

module _ {A : Type 0} where
  -- Room for this many bytes, and this many names' entries.
  pub record HasSpare (spare : ListingBuffers A) (len names : ℕ) : Type 0 where
    pub no_bytes : spare.bytes.items ≡ []
    pub no_entries : spare.entries.items ≡ []
    pub no_file_entries : spare.file_entries.items ≡ []
    pub bytes : len ≤ vec_capacity spare.bytes
    pub entries : names ≤ vec_capacity spare.entries
    pub file_entries : names ≤ vec_capacity spare.file_entries

  -- what is sent
  abbrev pub sent_wire : SentReply A → WireReply
  sent_wire reply = reply_of (λ (entry : Entry). entry) (λ (records : Vec ℕ A). dirents_in_bytes records.items)
      (λ (names : ListedNames A). listed_pairs names.found_ms names.entries.items names.records.items)
      (λ (bytes : Vec ℕ A). bytes.items) reply

  abbrev pub sent_len : SentReply A → ℕ
  sent_len (said.Listed records) = length records.items
  sent_len (said.ListedPlus names) = 128 * length names.entries.items + length names.records.items
  sent_len (said.Content bytes) = length bytes.items
  sent_len reply = 0

  -- how many names it lists together with their files
  abbrev pub sent_names : SentReply A → ℕ
  sent_names (said.ListedPlus names) = length names.entries.items
  sent_names reply = 0

  -- the file handle that it carries
  abbrev pub opened_in : SentReply A → Option ℕ
  opened_in (said.Created entry valid fh) = Some fh
  opened_in (said.Opened fh) = Some fh
  opened_in reply = None

  -- A reply that can be written as a frame.
  abbrev pub IsSendable : SentReply A → Type 0
  IsSendable (said.Entry entry valid) = (entry.nodeid ≢ 0) × (valid ≤ max_validity)
  IsSendable (said.Negative valid) = valid ≤ max_validity
  IsSendable (said.Created entry valid fh) = (entry.nodeid ≢ 0) × (valid ≤ max_validity)
  IsSendable (said.Listed records) = AreRecordBytes records.items × (length records.items ≤ max_transfer)
  IsSendable (said.Content bytes) = length bytes.items ≤ max_transfer
  IsSendable (said.Failed errno) = (1 ≤ errno) × (errno ≤ 511)
  IsSendable reply = Unit {0}

  -- A reply that names no file and no file handle.
  abbrev pub NamesNoFile : SentReply A → Type 0
  NamesNoFile (said.Entry entry valid) = ⊥
  NamesNoFile (said.Created entry valid fh) = ⊥
  NamesNoFile (said.Opened fh) = ⊥
  NamesNoFile (said.ListedPlus names) = ⊥
  NamesNoFile reply = Unit {0}

  -- what an outcome says, with files named by their inodes; a reply that is said as it is names none
  abbrev pub outcome_reply : (found_ms : ℕ) → Outcome A → Reply ℕ ℕ
  outcome_reply found_ms (outcome.Entry file) = operation.found file found_ms
  outcome_reply found_ms (outcome.Created file) = operation.created file found_ms file
  outcome_reply found_ms (outcome.Opened file) = operation.opened file
  outcome_reply found_ms (outcome.ListedPlus records names) =
      operation.listed_plus (map (pair_listed found_ms) (dirents_in_bytes records.items))
  outcome_reply found_ms (outcome.Reply reply) = reply_with (λ (entry : Entry). entry.nodeid) (λ (fh : ℕ). fh)
      (sent_wire reply)

  abbrev pub outcome_errno : Outcome A → ℕ
  outcome_errno (outcome.Reply reply) = errno_of (sent_wire reply)
  outcome_errno o = 0

  abbrev pub outcome_len : Outcome A → ℕ
  outcome_len (outcome.ListedPlus records names) = 128 * length (dirents_in_bytes records.items) + length records.items
  outcome_len (outcome.Reply reply) = sent_len reply
  outcome_len o = 0

  -- how many names an outcome lists together with their files
  abbrev pub outcome_names : Outcome A → ℕ
  outcome_names (outcome.ListedPlus records names) = length (dirents_in_bytes records.items)
  outcome_names (outcome.Reply reply) = sent_names reply
  outcome_names o = 0

  -- An outcome whose file is in this tree, below the end of inodes, and regular if it is opened; or whose reply can be
  -- written, and names no file.
  abbrev pub IsRepliable : Tree → Outcome A → Type 0
  IsRepliable tree (outcome.Entry file) = (file < counter_end) × IsThere tree file
  IsRepliable tree (outcome.Created file) = (file < counter_end) × IsThere tree file × IsTrue (is_regular tree file)
  IsRepliable tree (outcome.Opened file) = IsTrue (is_regular tree file)
  IsRepliable tree (outcome.ListedPlus records names) = AreRecordBytes records.items
      × (128 * length (dirents_in_bytes records.items) + length records.items ≤ max_transfer)
      × All (IsListable tree) (dirents_in_bytes records.items)
      × (names ≡ length (dirents_in_bytes records.items))
  IsRepliable tree (outcome.Reply reply) = NamesNoFile reply × IsSendable reply
