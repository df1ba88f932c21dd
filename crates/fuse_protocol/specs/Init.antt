-- The request and the reply of INIT. Fields that a shorter struct lacks are 0.
use Rattle.std.specs.Prelude.{ℕ, ◌+◌, ◌*◌, ◌^◌, ◌==◌, nat_lt, if◌then◌else◌, bit_and, List, length}
use Rattle.fk_fields.specs.Fields.{number_at}
use Rattle.fuse_protocol.specs.declared.init.InitRequest.{InitRequest}
use Rattle.fuse_protocol.specs.declared.init.InitReply.{InitReply}
use Rattle.fuse_protocol.specs.Agreement.{init_ext}

-- a number at a place, or 0 where the bytes end before it does
abbrev pub number_or_none : (place width : ℕ) → List ℕ → ℕ
number_or_none place width bytes = if nat_lt (length bytes) (place + width) then 0 else number_at place width bytes

-- the flags: `flags2` counts where `flags` has INIT_EXT
abbrev pub wide_flags : (flags flags2 : ℕ) → ℕ
wide_flags flags flags2 = if bit_and flags init_ext == 0 then flags else flags + 2 ^ 32 * flags2

-- struct fuse_init_in: major, minor, max_readahead, flags, and from 7.36 on flags2
abbrev pub init_request_at : List ℕ → InitRequest
init_request_at bytes = record {
  major = number_at 40 4 bytes;
  minor = number_at 44 4 bytes;
  max_readahead = number_at 48 4 bytes;
  flags = wide_flags (number_at 52 4 bytes) (number_or_none 56 4 bytes);
}

-- struct fuse_init_out: major, minor, max_readahead, flags, max_background, congestion_threshold, max_write, time_gran,
-- max_pages, map_alignment, flags2, and what follows
abbrev pub init_reply_at : List ℕ → InitReply
init_reply_at bytes = record {
  major = number_or_none 16 4 bytes;
  minor = number_or_none 20 4 bytes;
  max_readahead = number_or_none 24 4 bytes;
  flags = wide_flags (number_or_none 28 4 bytes) (number_or_none 48 4 bytes);
  max_write = number_or_none 36 4 bytes;
  max_pages = number_or_none 44 2 bytes;
}
