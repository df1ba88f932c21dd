-- Pairs of numbers, 16 bytes each.
use Rattle.std.specs.Prelude.{ℕ, zero, suc, ◌+◌, ◌-◌, ◌/◌, List, [], ◌∷◌, length}
use Rattle.fk_fields.specs.Fields.{number_at}
use Rattle.fuse_protocol.specs.declared.pairs.Pairs.{Pairs}
use Rattle.fuse_protocol.specs.declared.row.Tail.{Tail}
use Rattle.fuse_protocol.specs.declared.row.Tail.TheVariants as tail

-- so many pairs of numbers from a place on
abbrev pub pairs_from : (count place : ℕ) → List ℕ → List (ℕ × ℕ)
pairs_from zero place bytes = []
pairs_from (suc count) place bytes = (number_at place 8 bytes, number_at (place + 8) 8 bytes)
    ∷ pairs_from count (place + 16) bytes

-- the pairs that are left
abbrev pub pairs_in : Pairs → List (ℕ × ℕ)
pairs_in p = pairs_from ((length p.bytes.now - p.place) / 16) p.place p.bytes.now

-- the pairs in a request's tail, where its row has pairs
abbrev pub pairs_of_row : Tail → List ℕ → List (ℕ × ℕ)
pairs_of_row (tail.Pairs at) bytes = pairs_from (length bytes / 16) 0 bytes
pairs_of_row _ bytes = []
