-- Agreements on versions before 7.31 other than 7.15.
use Rattle.std.specs.Prelude.{◌≡◌, ◌≤◌, ◌-◌, ◌⊎◌, ◌++◌, ℕ, List, if◌then◌else◌, length, nat_lt, replicate, slice_set}
use Rattle.fk_wire.specs.Fields.{number_at}

-- A reply to INIT, which is the request under the first number of a mount, of this many bytes, that agrees on 7.FROM to
-- 7.TO.
pub record IsAgreement (size from to : ℕ) (bytes : List ℕ) : Type 0 where
  pub whole : length bytes ≡ size
  pub stated : number_at 0 4 bytes ≡ size
  pub succeeds : number_at 4 4 bytes ≡ 0
  pub of_init : number_at 8 8 bytes ≡ 2
  pub major : number_at 16 4 bytes ≡ 7
  pub least : from ≤ number_at 20 4 bytes
  pub most : number_at 20 4 bytes ≤ to

-- The body of struct fuse_init_out has 64 bytes from 7.23 on, and 24 before. (linux/fuse.h)
abbrev pub IsOlderAgreement : List ℕ → Type 0
IsOlderAgreement bytes = IsAgreement 80 23 30 bytes ⊎ IsAgreement 40 16 22 bytes ⊎ IsAgreement 40 12 14 bytes

-- An agreement as one on this minor version, of this many bytes. What a shorter body has not is 0.
abbrev pub agreement_on : (minor size : ℕ) → List ℕ → List ℕ
agreement_on minor size bytes = slice_set (slice_set (bytes ++ replicate (size - length bytes) 0) 0 size) 20 minor

-- An older agreement as one on 7.15 or 7.31: the frames that this kernel sends and takes are the same from 7.12 on, when
-- CREATE got its umask, up to 7.15; and from 7.16 on, when BATCH_FORGET came. (this project's rule; linux/fuse.h, its
-- history of minor versions)
abbrev pub raised : List ℕ → List ℕ
raised bytes = if nat_lt (number_at 20 4 bytes) 15 then agreement_on 15 40 bytes else agreement_on 31 80 bytes

-- What the kernel is handed for a frame: an older agreement as one that it knows, and any other frame as it is.
abbrev pub IsHandedOn : (bytes handed : List ℕ) → Type 0
IsHandedOn bytes handed = (IsOlderAgreement bytes × (handed ≡ raised bytes))
    ⊎ ((IsOlderAgreement bytes → ⊥) × (handed ≡ bytes))
