-- BATCH_FORGET of more than the 64 pairs that one has here.
use Rattle.std.specs.Prelude.{◌≡◌, ◌+◌, ◌*◌, ◌/◌, ◌<◌, ℕ, List, ◌++◌, length, take, drop, min}
use Rattle.byteorder.specs.Endian.{little_bytes}
use Rattle.fk_wire.specs.Faults.{HasLength}
use Rattle.fk_wire.specs.Fields.{number_at}

-- A frame is a BATCH_FORGET (opcode 42) with as many pairs of 16 bytes as it counts, and more than 64: Linux puts as
-- many into one as the read has room for. (linux/fuse.h, struct fuse_batch_forget_in)
pub record IsLongBatch (bytes : List ℕ) : Type 0 where
  pub header : HasLength bytes
  pub opcode : number_at 4 4 bytes ≡ 42
  pub counted : 48 + 16 * number_at 40 4 bytes ≡ length bytes
  pub long : 1072 < length bytes

-- the first 64 of these pairs, or all
abbrev pub first_pairs : List ℕ → List ℕ
first_pairs pairs = take (min (length pairs) 1024) pairs

-- The BATCH_FORGET of these pairs alone, with the other fields of the longer one. (this project's rule)
abbrev pub part_of : (bytes pairs : List ℕ) → List ℕ
part_of bytes pairs = little_bytes 4 (48 + length pairs) ++ take 36 (drop 4 bytes) ++ little_bytes 4 (length pairs / 16)
    ++ take 4 (drop 44 bytes) ++ pairs
