-- What contracts see of the table of file handles.
use Rattle.std.specs.Prelude.{ℕ, List, [], ◌∷◌}
use Rattle.fuse_spec.specs.Values.Maps.{Map, put}
use Rattle.fuse_spec.specs.Server.Nodes.{FileHandle, HandleTable}
use Rattle.fs_handles.specs.declared.open_file.OpenFile.{OpenFile}

-- The table, and how many more files can be opened with no memory.
pub record TableWithRoom : Type 0 where
  pub table : HandleTable
  pub room : ℕ

-- what the definitions see of what is kept under a file handle
abbrev pub handle_of : OpenFile → FileHandle
handle_of kept = record { file = kept.file; count = kept.count }

-- the entries of a hash map, in rising number
abbrev pub handles_of : List (ℕ × OpenFile) → Map FileHandle
handles_of [] = []
handles_of (e ∷ es) = put (handles_of es) e.0 (handle_of e.1)

abbrev pub table_of : List (ℕ × OpenFile) → ℕ → HandleTable
table_of opens next = record { handles = handles_of opens; next_fh = next }
