-- The names that rows and their bytes are.
use Rattle.std.proofs.Common.{◌≡◌, ◌++◌, ◌∷◌, [], ◌≤◌, ◌+◌, List, ℕ, length, take, drop, arith, ap, refl}
use Rattle.std.proofs.lemmas.List.{nil_from_length, take_all, take-append-le, drop-append-le, length-drop}
use Rattle.std.proofs.lemmas.List.Sums.{sum_by-cons}
use Rattle.fk_syscalls.specs.Rows.{dirent_of, dirents_of, names_len}
use Rattle.fk_syscalls.specs.declared.listing.Row.{Row}

-- there are as many names as rows
pub length-dirents_of : (rows : List Row) (bytes : List ℕ) → length (dirents_of rows bytes) ≡ length rows
length-dirents_of [] bytes = refl
length-dirents_of (row ∷ rows) bytes = omega (arith, length-dirents_of rows (drop row.len bytes))

-- a row and its name come last
pub dirents_of-push : (rows : List Row) (bytes : List ℕ) (row : Row) (name : List ℕ) → names_len rows ≡ length bytes
    → row.len ≡ length name
    → dirents_of (rows ++ row ∷ []) (bytes ++ name) ≡ dirents_of rows bytes ++ dirent_of row name ∷ []
dirents_of-push [] bytes row name whole same =
    let none : bytes ≡ [] = nil_from_length bytes (omega arith) in
    rw none (ap (λ (n : List ℕ). dirent_of row n ∷ []) (take_all row.len name (omega arith)))
dirents_of-push (first ∷ rows) bytes row name whole same =
    let more : names_len (first ∷ rows) ≡ first.len + names_len rows = sum_by-cons (λ (r : Row). r.len) first rows in
    let fits : first.len ≤ length bytes = omega arith in
    let left : names_len rows ≡ length (drop first.len bytes) = omega (arith, length-drop first.len bytes) in
    rw (take-append-le first.len bytes name fits, drop-append-le first.len bytes name fits)
    (ap (λ ds. dirent_of first (take first.len bytes) ∷ ds) (dirents_of-push rows (drop first.len bytes) row name left same))
