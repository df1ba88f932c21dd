-- The flags that an answer to INIT takes up, of those that were offered, and whether it takes up one.
use Rattle.std.proofs.Common.{◌≡◌, ℕ, sym, ◌∙◌}
use Rattle.std.specs.Int.RustNames.{bit_and}
use Rattle.std.proofs.lemmas.Nat.{and_assoc}
use Rattle.fk_wire.specs.Requests.{known_flags}
use Rattle.fk_wire.proofs.Masks.{and_again}
use Rattle.fuse_spec.specs.Values.Numbers.{async_read, do_readdirplus, init_flags}

-- the flags that 7.31 knows
pub known_again : (x : ℕ) → bit_and (bit_and x known_flags) init_flags ≡ bit_and x known_flags
known_again x = and_again x known_flags

-- the one flag that 7.15 knows
pub read_alone : (x : ℕ) → bit_and (bit_and x known_flags) async_read ≡ bit_and (bit_and x async_read) known_flags
read_alone x = and_assoc async_read x known_flags ∙ sym (and_assoc known_flags x async_read)

-- READDIRPLUS's is one of the flags that are known.
pub readdirplus_known : (x : ℕ) → bit_and (bit_and x known_flags) do_readdirplus ≡ bit_and x do_readdirplus
readdirplus_known x = and_assoc do_readdirplus x known_flags
