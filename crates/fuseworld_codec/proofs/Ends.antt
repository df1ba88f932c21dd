-- Where fields end.
use Rattle.std.proofs.Common.{◌≡◌, ℕ, ◌+◌, List, [], ◌∷◌, length, arith}
use Rattle.fk_wire.specs.Fields.{Field, holds, free, bits, named, raw, ReadsAs, sizes}

pub reads_end : (fs : List Field) (place : ℕ) (bytes : List ℕ) → ReadsAs place fs bytes
    → place + sizes fs ≡ length bytes
reads_end [] place bytes h = omega (arith, h)
reads_end (holds width value ∷ fs) place bytes h = omega (arith, reads_end fs (place + width) bytes h.1)
reads_end (free width value ∷ fs) place bytes h = omega (arith, reads_end fs (place + width) bytes h)
reads_end (bits mask value ∷ fs) place bytes h = omega (arith, reads_end fs (place + 4) bytes h.1)
reads_end (named name ∷ fs) place bytes h = omega (arith, reads_end fs (place + (length name + 1)) bytes h.2)
reads_end (raw bs ∷ fs) place bytes h = omega (arith, reads_end fs (place + length bs) bytes h.1)
