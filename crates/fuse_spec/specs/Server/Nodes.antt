-- The server's tables: nodes, each a file under a generation with its lookup count, and open files with theirs.
use Rattle.std.specs.Prelude.{◌≡◌, ◌≢◌, ◌≤◌, ℕ, ◌+◌, ◌-◌, Bool, false, cond, List, [], ◌∷◌, Option, Some, None, nat_eq, nat_lt, nat_le, count_by, MatchOption}
use Rattle.std.specs.List.{list_any}
use Rattle.fuse_spec.specs.Values.Maps.{Map, get, put, remove, values}
use Rattle.fuse_spec.specs.Values.Numbers.{counter_end}

-- A node that the server holds: its file, its generation and its lookup count. (libfuse, low-level: lookup)
pub record HeldNode : Type 0 where
  pub file : ℕ
  pub generation : ℕ
  pub count : ℕ

-- The nodes by id, without the root, and the generation that is given next; no generation is given twice. (libfuse,
-- low-level: generation)
pub record NodeTable : Type 0 where
  pub rows : Map HeldNode
  pub next_generation : ℕ

-- The root is node 1 of generation 0, and always held, without a count. (linux/fuse.h, FUSE_ROOT_ID)
abbrev pub root_row : HeldNode
root_row = record { file = 0; generation = 0; count = 0 }

-- The node that is held under this id, if one is. (libfuse, low-level: lookup)
abbrev pub row_of : NodeTable → ℕ → Option HeldNode
row_of t id = cond (nat_eq id 1) (Some root_row) (get t.rows id)

-- The next two are the file of a node that is held; where none is held, the root's. (libfuse, low-level: lookup)
abbrev pub file_in : Option HeldNode → ℕ
file_in None = 0
file_in (Some row) = row.file

abbrev pub file_of : NodeTable → ℕ → ℕ
file_of t id = file_in (row_of t id)

-- The next two say whether the node is held under this generation. (libfuse, low-level: generation)
abbrev pub is_row_of : ℕ → Option HeldNode → Bool
is_row_of generation None = false
is_row_of generation (Some row) = nat_eq row.generation generation

abbrev pub is_held : NodeTable → ℕ → ℕ → Bool
is_held t id generation = is_row_of generation (row_of t id)

-- No node of the table has the file.
abbrev pub IsUnheld : NodeTable → ℕ → Type 0
IsUnheld t file = (id : ℕ) (row : HeldNode) → get t.rows id ≡ Some row → row.file ≢ file

-- The id may name the file: it does already, or no node has the file and the id is any free one from 2 up. (this
-- project's rule)
abbrev pub MayName : NodeTable → ℕ → ℕ → Type 0
MayName t file id = MatchOption (get t.rows id) ((2 ≤ id) × IsUnheld t file) (λ row. row.file ≡ file)

-- The row of a file that one more entry names: one lookup more, or a new node of the next generation with one
-- lookup. (libfuse, low-level: lookup)
abbrev pub given_row : NodeTable → ℕ → Option HeldNode → HeldNode
given_row t file None = record { file = file; generation = t.next_generation; count = 1 }
given_row t file (Some row) = record row { count = row.count + 1 }

-- The generation that is given next, which rises where a new node took one. (libfuse, low-level: generation)
abbrev pub generation_after : NodeTable → Option HeldNode → ℕ
generation_after t None = t.next_generation + 1
generation_after t (Some row) = t.next_generation

-- One lookup more of the file under this id; a new node has the next generation. (libfuse, low-level: lookup)
abbrev pub given : NodeTable → ℕ → ℕ → NodeTable
given t file id = record {
  rows = put t.rows id (given_row t file (get t.rows id));
  next_generation = generation_after t (get t.rows id);
}

-- One lookup more of each of these files, in turn, under the ids that are chosen. (libfuse, low-level: lookup)
abbrev pub all_given : (ℕ → ℕ) → NodeTable → List ℕ → NodeTable
all_given choice t [] = t
all_given choice t (file ∷ files) = all_given choice (given t file (choice file)) files

-- Each of these files, in turn, may be named by the id that is chosen for it.
abbrev pub MayChoose : (ℕ → ℕ) → NodeTable → List ℕ → Type 0
MayChoose choice t [] = Unit {0}
MayChoose choice t (file ∷ files) = MayName t file (choice file) × MayChoose choice (given t file (choice file)) files

-- Whether a node's lookups would reach the end of counters, once each of these files is named once more. (this
-- project's rule)
abbrev pub count_overflows : NodeTable → List ℕ → Bool
count_overflows t files = list_any (λ (row : HeldNode). nat_le counter_end (row.count + count_by (nat_eq row.file) files))
    (values t.rows)

-- The next two forget this many lookups of a node; at none left the node goes. (libfuse, low-level: forget)
abbrev pub rows_less : Map HeldNode → ℕ → ℕ → Option HeldNode → Map HeldNode
rows_less rows id n None = rows
rows_less rows id n (Some row) = cond (nat_lt n row.count) (put rows id (record row { count = row.count - n }))
    (remove rows id)

abbrev pub taken_back : NodeTable → ℕ → ℕ → NodeTable
taken_back t id n = record t { rows = rows_less t.rows id n (get t.rows id) }

-- A file handle of the server: its file, and a count of one for each copy that carried it and was neither refused nor
-- released. (this project's rule)
pub record FileHandle : Type 0 where
  pub file : ℕ
  pub count : ℕ

-- The open files by number, and the number that is given next; no number is given twice. (this project's rule)
pub record HandleTable : Type 0 where
  pub handles : Map FileHandle
  pub next_fh : ℕ

-- The next two say whether this is a file handle of the file. (libfuse, low-level: open)
abbrev pub is_file_of : ℕ → Option FileHandle → Bool
is_file_of file None = false
is_file_of file (Some handle) = nat_eq handle.file file

abbrev pub is_open : HandleTable → ℕ → ℕ → Bool
is_open t fh file = is_file_of file (get t.handles fh)

-- The file is opened under the next number, with one use. (libfuse, low-level: open)
abbrev pub handle_opened : HandleTable → ℕ → HandleTable
handle_opened t file = record {
  handles = put t.handles t.next_fh (record { file = file; count = 1 });
  next_fh = t.next_fh + 1;
}

-- Each of these files is opened, in turn, under the next number. (libfuse, low-level: open)
abbrev pub all_opened : HandleTable → List ℕ → HandleTable
all_opened t [] = t
all_opened t (file ∷ files) = all_opened (handle_opened t file) files

-- The next two release one use of a file handle; at none left it goes. (libfuse, low-level: release)
abbrev pub handles_less : Map FileHandle → ℕ → Option FileHandle → Map FileHandle
handles_less handles fh None = handles
handles_less handles fh (Some handle) = cond (nat_lt 1 handle.count)
    (put handles fh (record handle { count = handle.count - 1 })) (remove handles fh)

abbrev pub handle_back : HandleTable → ℕ → HandleTable
handle_back t fh = record t { handles = handles_less t.handles fh (get t.handles fh) }

-- The next two count one use more of a file handle, for one more copy of the reply that carries it.
abbrev pub handles_more : Map FileHandle → ℕ → Option FileHandle → Map FileHandle
handles_more handles fh None = handles
handles_more handles fh (Some handle) = put handles fh (record handle { count = handle.count + 1 })

abbrev pub handle_more : HandleTable → ℕ → HandleTable
handle_more t fh = record t { handles = handles_more t.handles fh (get t.handles fh) }

-- The next two count one lookup more of a held node, for one more copy of the reply whose entry names it.
abbrev pub rows_more : Map HeldNode → ℕ → Option HeldNode → Map HeldNode
rows_more rows id None = rows
rows_more rows id (Some row) = put rows id (record row { count = row.count + 1 })

abbrev pub row_more : NodeTable → ℕ → NodeTable
row_more t id = record t { rows = rows_more t.rows id (get t.rows id) }
