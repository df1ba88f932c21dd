-- The names of a listing, as they are kept: what is said of each, and the bytes of all of them one after another.
use Rattle.std.specs.Prelude.{ℕ, List, [], ◌∷◌, sum_by, take, drop}
use Rattle.fuse_spec.specs.Files.Operations.{Dirent}
use Rattle.fk_syscalls.specs.declared.listing.Row.{Row}

-- The length of the names together.
abbrev pub names_len : List Row → ℕ
names_len rows = sum_by (λ (row : Row). row.len) rows

-- The name that a row and its bytes are.
abbrev pub dirent_of : Row → List ℕ → Dirent
dirent_of row name = record { ino = row.ino; offset = row.offset; kind = row.kind; name = name }

-- The names. Each takes as many bytes as its row says, and the names after it those that are left.
abbrev pub dirents_of : List Row → List ℕ → List Dirent
dirents_of [] bytes = []
dirents_of (row ∷ rows) bytes = dirent_of row (take row.len bytes) ∷ dirents_of rows (drop row.len bytes)
