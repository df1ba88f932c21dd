-- The blocks of the files in a reply: a free field of its frame, without which tar takes a file for one hole.
use Rattle.std.specs.Prelude.{ℕ, true, zero, suc, ◌+◌, ◌/◌, List, ◌++◌, length, take, drop, nat_lt, if◌then◌else◌}
use Rattle.fk_wire.specs.Fields.{bytes_of, number_at}
use Rattle.fk_wire.specs.RecordEnds.{record_end}
use Rattle.fk_wire.specs.Replies.{ReplyContent, attr_reply, create_reply, entry_reply, plus_reply}

-- how many blocks of 512 bytes hold so many bytes (stat(2))
abbrev pub blocks_for : ℕ → ℕ
blocks_for size = (size + 511) / 512

-- The attributes at a place with their blocks, and all other bytes as they are. (linux/fuse.h, struct fuse_attr: the size
-- stands behind 8 bytes, and the blocks behind it)
unfoldable pub with_blocks_at : ℕ → List ℕ → List ℕ
with_blocks_at place bytes = take (place + 16) bytes ++ bytes_of 8 (blocks_for (number_at (place + 8) 8 bytes))
    ++ drop (place + 24) bytes

-- The same of each pair of an entry and a record from a place on, to the end of the bytes, of so many pairs at most. A
-- pair has 152 bytes or more, and its attributes stand behind 40. (struct fuse_direntplus)
unfoldable pub with_blocks_from : (most place : ℕ) → List ℕ → List ℕ
with_blocks_from zero place bytes = bytes
with_blocks_from (suc most) place bytes = if nat_lt (length bytes) (place + 152) then bytes
    else with_blocks_from most (record_end true place bytes) (with_blocks_at (place + 40) bytes)

-- A frame that says this, with the blocks of each file. (struct fuse_entry_out, struct fuse_attr_out)
abbrev pub with_blocks : ReplyContent → List ℕ → List ℕ
with_blocks (entry_reply e) bytes = with_blocks_at 56 bytes
with_blocks (create_reply e fh) bytes = with_blocks_at 56 bytes
with_blocks (attr_reply a) bytes = with_blocks_at 32 bytes
with_blocks (plus_reply ps) bytes = with_blocks_from (length bytes) 16 bytes
with_blocks content bytes = bytes
