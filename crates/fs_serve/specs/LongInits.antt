-- INIT of later kernels.
use Rattle.std.specs.Prelude.{◌≡◌, ◌<◌, ◌⊎◌, ℕ, List, ◌∷◌, length, take, drop}
use Rattle.fk_wire.specs.Faults.{HasLength}
use Rattle.fk_wire.specs.Fields.{number_at}
use Rattle.fs_serve.specs.LongBatches.{IsLongBatch}

-- A frame is an INIT (opcode 26) of more than the 56 bytes that INIT of 7.31 has: kernels of 7.36 and later send 104.
-- (linux/fuse.h, struct fuse_init_in)
pub record IsLongInit (bytes : List ℕ) : Type 0 where
  pub header : HasLength bytes
  pub opcode : number_at 4 4 bytes ≡ 26
  pub long : 56 < length bytes

-- Its first 56 bytes, with 56 as their len. (this project's rule)
abbrev pub first_init_of : List ℕ → List ℕ
first_init_of bytes = 56 ∷ 0 ∷ 0 ∷ 0 ∷ take 52 (drop 4 bytes)

-- How a received frame is read that is no long BATCH_FORGET: a longer INIT by its first 56 bytes, and any other as it is.
abbrev pub IsReadAs : (bytes read : List ℕ) → Type 0
IsReadAs bytes read = (IsLongInit bytes × (read ≡ first_init_of bytes))
    ⊎ ((IsLongInit bytes → ⊥) × (IsLongBatch bytes → ⊥) × (read ≡ bytes))
