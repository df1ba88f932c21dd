-- The numbers of lines.
use Rattle.std.proofs.Common.{◌≡◌, ◌+◌, ◌<◌, ◌^◌, ◌++◌, ◌==◌, ℕ, List, length, ap, arith, length-append}
use Rattle.std.proofs.lemmas.List.Splits.{length-slice_split}
use Rattle.std.proofs.lemmas.List.Sums.{count_by-le-length}
use Rattle.fuse_text.specs.Lines.{lines_of}

-- a script has one line more than line feeds, so the number of a line fits
pub line_number_fits : (script : List ℕ) (before rest : List (List ℕ)) → lines_of script ≡ before ++ rest
    → length script < 2 ^ 63 → length before + 1 < 2 ^ 64
line_number_fits script before rest split small =
    let counted = length-slice_split (λ byte. byte == 10) script in
    let bound = count_by-le-length (λ byte. byte == 10) script in
    let whole = ap length split in
    let parts = length-append before rest in
    omega (arith, counted, bound, whole, parts)
