-- How many names of a list name a file.
use Rattle.std.proofs.Common.{ℕ, ◌+◌, ◌≤◌, Option, Some, None, List, [], ◌∷◌, length, arith}
use Rattle.fuse_spec.specs.Files.Operations.{Dirent, files_listed, first_listed, listed_by}
use Rattle.fuse_spec.specs.declared.Entry.{Entry}
use Rattle.fuse_frames.specs.ReplyTies.{entry_listed, direntpluses_of}

pub first_few : {F : Type 0} (file : Option F) (files : List F) → length (first_listed file files) ≤ length files + 1
first_few None files = omega arith
first_few (Some e) files = omega arith

-- a list names at most as many files as it has names
pub few_files : (valid : ℕ) (es : List Entry) (ds : List Dirent)
    → length (files_listed (direntpluses_of valid es ds)) ≤ length es
few_files valid [] ds = omega arith
few_files valid (e ∷ es) [] = omega arith
few_files valid (e ∷ es) (d ∷ ds) =
    let rest = few_files valid es ds in
    let first = first_few (listed_by (record { file = entry_listed e; valid = valid; dirent = d }))
    (files_listed (direntpluses_of valid es ds)) in
    omega (arith, rest, first)
