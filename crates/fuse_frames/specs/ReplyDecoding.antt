-- What a reply says to the operation that a call asked.
use Rattle.std.specs.Prelude.{◌≡◌, ◌≤◌, ℕ, ◌-◌, Bool, true, List, length, map, nat_le}
use Rattle.std.specs.Borrow.{Bor}
use Rattle.fk_wire.specs.Records.{records_in, pluses_in}
use Rattle.fk_wire.specs.Replies.{ReplyContent, write_reply}
use Rattle.fk_wire.specs.declared.records.Records.{Records}
use Rattle.fk_wire.specs.declared.records_plus.RecordsPlus.{RecordsPlus}
use Rattle.fuse_spec.specs.declared.Entry.{Entry}
use Rattle.fuse_spec.specs.declared.Opened.{Opened}
use Rattle.fuse_spec.specs.Files.Operations.{Operation, readdir, readdirplus, read, write}
use Rattle.fuse_spec.specs.Files.Operations as reply
use Rattle.fuse_spec.specs.Kernel.Messages.{WireReply, asks}
use Rattle.fuse_spec.specs.Values.Numbers.{max_validity}
use Rattle.fuse_spec.specs.Kernel.Replies.{goes_with}
use Rattle.fuse_frames.specs.ReplyTies.{dirent_read, pair_in}
use Rattle.fuse_frames.specs.RequestTies.{asked_opcode}
use Rattle.fuse_frames.specs.Replies.{reply_of}
use Rattle.fuse_frames.specs.declared.reply.Reply.{Reply}
use Rattle.fuse_frames.specs.declared.reply.Reply.TheVariants as said
use Rattle.fuse_frames.specs.DecodedReplies.{Says}

-- What a reply says, borrowed from its frame.
abbrev pub LentReply : Type 0
LentReply = Reply Entry Records RecordsPlus (Bor (List ℕ))

abbrev pub names_lent : Records → List reply.Dirent
names_lent records = map dirent_read (records_in records)

abbrev pub pairs_lent : RecordsPlus → List (reply.DirentPlus Entry)
pairs_lent records = map pair_in (pluses_in records)

abbrev pub decoded_wire_of : LentReply → WireReply
decoded_wire_of said = reply_of (λ (entry : Entry). entry) names_lent pairs_lent (λ (bytes : Bor (List ℕ)). bytes.now) said

-- a name is valid for a day at most
abbrev pub LastsADay : LentReply → Type 0
LastsADay (said.Negative valid) = valid ≤ max_validity
LastsADay (said.Entry entry valid) = valid ≤ max_validity
LastsADay (said.Created entry valid fh) = valid ≤ max_validity
LastsADay other = Unit {0}

-- The bytes say this to the operation, and it goes with it.
pub record SaysTo (operation : Operation ℕ Opened) (bytes : List ℕ) (said : LentReply) : Type 0 where
  pub says : Says (asked_opcode (asks operation)) bytes (decoded_wire_of said)
  pub goes : goes_with operation (decoded_wire_of said) ≡ true
  pub day : LastsADay said

-- Whether a body in a frame of this many bytes is no longer than was asked, nor says that more was written than was
-- sent.
abbrev pub is_within_request : Operation ℕ Opened → ℕ → ReplyContent → Bool
is_within_request (readdir d after size) len content = nat_le (len - 16) size
is_within_request (readdirplus d after size) len content = nat_le (len - 16) size
is_within_request (read o offset size) len content = nat_le (len - 16) size
is_within_request (write o offset bytes) len (write_reply size) = nat_le size (length bytes)
is_within_request operation len content = true
