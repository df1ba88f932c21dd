-- The flags of INIT.
use Rattle.std.specs.Prelude.{ℕ, List, [], ◌++◌, ◌==◌, ◌/◌, ◌^◌, Option, Some, None, bit_and, codes, flat_map, if◌then◌else◌}
use Rattle.std.specs.List.{range_with_len}
use Rattle.hex.specs.Hex.{encode_lower}
use Rattle.std.specs.Int.{w64, to_be_bytes}

-- the name of a bit (linux/fuse.h, FUSE_ASYNC_READ and those that follow it, up to 7.45)
unfoldable pub flag_name : ℕ → Option (List ℕ)
flag_name bit =
    if bit == 0 then Some (codes "ASYNC_READ") else
    if bit == 1 then Some (codes "POSIX_LOCKS") else
    if bit == 2 then Some (codes "FILE_OPS") else
    if bit == 3 then Some (codes "ATOMIC_O_TRUNC") else
    if bit == 4 then Some (codes "EXPORT_SUPPORT") else
    if bit == 5 then Some (codes "BIG_WRITES") else
    if bit == 6 then Some (codes "DONT_MASK") else
    if bit == 7 then Some (codes "SPLICE_WRITE") else
    if bit == 8 then Some (codes "SPLICE_MOVE") else
    if bit == 9 then Some (codes "SPLICE_READ") else
    if bit == 10 then Some (codes "FLOCK_LOCKS") else
    if bit == 11 then Some (codes "HAS_IOCTL_DIR") else
    if bit == 12 then Some (codes "AUTO_INVAL_DATA") else
    if bit == 13 then Some (codes "DO_READDIRPLUS") else
    if bit == 14 then Some (codes "READDIRPLUS_AUTO") else
    if bit == 15 then Some (codes "ASYNC_DIO") else
    if bit == 16 then Some (codes "WRITEBACK_CACHE") else
    if bit == 17 then Some (codes "NO_OPEN_SUPPORT") else
    if bit == 18 then Some (codes "PARALLEL_DIROPS") else
    if bit == 19 then Some (codes "HANDLE_KILLPRIV") else
    if bit == 20 then Some (codes "POSIX_ACL") else
    if bit == 21 then Some (codes "ABORT_ERROR") else
    if bit == 22 then Some (codes "MAX_PAGES") else
    if bit == 23 then Some (codes "CACHE_SYMLINKS") else
    if bit == 24 then Some (codes "NO_OPENDIR_SUPPORT") else
    if bit == 25 then Some (codes "EXPLICIT_INVAL_DATA") else
    if bit == 26 then Some (codes "MAP_ALIGNMENT") else
    if bit == 27 then Some (codes "SUBMOUNTS") else
    if bit == 28 then Some (codes "HANDLE_KILLPRIV_V2") else
    if bit == 29 then Some (codes "SETXATTR_EXT") else
    if bit == 30 then Some (codes "INIT_EXT") else
    if bit == 31 then Some (codes "INIT_RESERVED") else
    if bit == 32 then Some (codes "SECURITY_CTX") else
    if bit == 33 then Some (codes "HAS_INODE_DAX") else
    if bit == 34 then Some (codes "CREATE_SUPP_GROUP") else
    if bit == 35 then Some (codes "HAS_EXPIRE_ONLY") else
    if bit == 36 then Some (codes "DIRECT_IO_ALLOW_MMAP") else
    if bit == 37 then Some (codes "PASSTHROUGH") else
    if bit == 38 then Some (codes "NO_EXPORT_SUPPORT") else
    if bit == 39 then Some (codes "HAS_RESEND") else
    if bit == 40 then Some (codes "ALLOW_IDMAP") else
    if bit == 41 then Some (codes "OVER_IO_URING") else
    if bit == 42 then Some (codes "REQUEST_TIMEOUT") else
    None

-- ` NAME` of a bit, if it has a name
abbrev pub bit_words : Option (List ℕ) → List ℕ
bit_words None = []
bit_words (Some name) = codes " " ++ name

-- the same, where the bit is set
unfoldable pub flag_words : (flags bit : ℕ) → List ℕ
flag_words flags bit = if bit_and (flags / 2 ^ bit) 1 == 0 then [] else bit_words (flag_name bit)

-- the name of each bit that is set and has one, the lowest bit first
unfoldable pub flag_names_words : ℕ → List ℕ
flag_names_words flags = flat_map (flag_words flags) (range_with_len 0 64)

-- ` flags 0x`, 16 digits and the names
unfoldable pub init_flag_words : ℕ → List ℕ
init_flag_words flags = codes " flags 0x" ++ encode_lower (to_be_bytes w64 flags) ++ flag_names_words flags
