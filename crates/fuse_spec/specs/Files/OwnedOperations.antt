-- What contracts see of the code's values of operations beside the operations that they are.
use Rattle.std.specs.Prelude.{◌≡◌, ℕ, Bool, true, false, List, [], ◌∷◌, Option, None, option_map}
use Rattle.std.specs.Borrow.{Bor}
use Rattle.fuse_spec.specs.declared.operation.NoOpenFile.{NoOpenFile}
use Rattle.fuse_spec.specs.declared.operation.Operation.{Operation}
use Rattle.fuse_spec.specs.declared.operation.Operation.TheVariants.{Getattr, Rename, Link, Open, Readdir, Readdirplus, Read, Write}
use Rattle.fuse_spec.specs.Files.Operations.{Asked, operation_of, entry_place, files_in}

-- an operation with no name and no bytes
abbrev pub is_bare : {S N O : Type 0} → Operation S N O → Bool
is_bare (Getattr node) = true
is_bare (Open node) = true
is_bare (Readdir directory after size) = true
is_bare (Readdirplus directory after size) = true
is_bare (Read opened offset size) = true
is_bare o = false

-- an operation on two files, or with bytes to write
abbrev pub has_more : {S N O : Type 0} → Operation S N O → Bool
has_more (Rename directory old newdir new) = true
has_more (Link node directory name) = true
has_more (Write opened offset bytes) = true
has_more o = false

-- the first file that it names
abbrev first_of : List (Option ℕ) → Option ℕ
first_of [] = None
first_of (named ∷ others) = named

abbrev pub first_named : {S : Type 0} → Operation S (Option ℕ) NoOpenFile → Option ℕ
first_named o = first_of (files_in (λ opened. []) (operation_of (λ s. []) o))

-- This is the directory, with the name, of the entry in a reply to it.
abbrev pub IsEntryPlace : {S : Type 0} → Asked S → Option (ℕ × Bor S) → Type 0
IsEntryPlace {S} o place = (bytes_of : S → List ℕ)
    → option_map (λ (p : ℕ × Bor S). (p.0, bytes_of p.1.now)) place ≡ entry_place (operation_of bytes_of o)
