-- An older agreement is raised to one of two.
use Rattle.std.proofs.Common.{ℕ, Bool, true, false, List, nat_lt}
use Rattle.std.specs.Prelude.{if◌then◌else◌}
use Rattle.fk_wire.specs.Fields.{number_at}
use Rattle.fk_drive_frames.specs.Agreements.{agreement_on, raised}

pub by_raised : (P : List ℕ → Type 0) (bytes : List ℕ) → P (agreement_on 15 40 bytes) → P (agreement_on 31 80 bytes)
    → P (raised bytes)
by_raised P bytes short long = by (nat_lt (number_at 20 4 bytes) 15)
  where
    by : (b : Bool) → P (if b then agreement_on 15 40 bytes else agreement_on 31 80 bytes)
    by true = short
    by false = long
