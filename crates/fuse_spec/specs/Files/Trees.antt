-- The file tree: files known by their inode numbers, and the names that lead to them.
use Rattle.std.specs.Prelude.{ℕ, zero, suc, map, ◌+◌, ◌-◌, ◌*◌, ◌/◌, Bool, true, false, ◌&&◌, cond, not, List, [], ◌∷◌, ◌++◌, Option, Some, None, length, nat_eq, nat_lt, nat_le, filter, find, count_by, option_map, replicate, take, drop}
use Rattle.std.specs.Cmp.Lexicographic.{pointwise}
use Rattle.fuse_spec.specs.Values.Maps.{Map, get, put}
use Rattle.fuse_spec.specs.Calls.Paths.{Name}
use Rattle.fuse_spec.specs.declared.Kind.{Kind}
use Rattle.fuse_spec.specs.declared.Kind.TheVariants.{Directory, Regular, Other}
use Rattle.fuse_spec.specs.declared.Attributes.{Attributes}
use Rattle.fuse_spec.specs.Files.Operations.{Dirent, DirentPlus}

-- What a file is: a directory, or some bytes.
pub data Content : Type 0 where
  a_directory : Content
  a_file : (bytes : List ℕ) → Content

-- A name of a file in a directory, with its cookie; cookies rise with each name that is made. (this project's rule)
pub record Named : Type 0 where
  pub directory : ℕ
  pub name : Name
  pub file : ℕ
  pub cookie : ℕ

-- The file tree: the files by inode, of which the root is 0, the names in rising cookie, and the next inode and cookie.
-- (this project's rule)
pub record Tree : Type 0 where
  pub files : Map Content
  pub names : List Named
  pub next_inode : ℕ
  pub next_cookie : ℕ

-- Whether two names are the same bytes. (POSIX, pathname)
abbrev pub same_name : Name → Name → Bool
same_name a b = pointwise nat_eq a b

-- Whether this is the name in the directory. (POSIX, directory entry)
abbrev pub is_at : ℕ → Name → Named → Bool
is_at dir name n = nat_eq n.directory dir && same_name n.name name

-- The file to which the name in the directory leads. (POSIX, directory entry)
abbrev pub file_at : Tree → ℕ → Name → Option ℕ
file_at tree dir name = option_map (λ n. n.file) (find (is_at dir name) tree.names)

-- Of what kind a file is. (POSIX, sys/stat.h)
abbrev pub kind_of : Option Content → Kind
kind_of None = Other
kind_of (Some a_directory) = Directory
kind_of (Some (a_file bytes)) = Regular

-- The bytes of a file; a directory has none.
abbrev pub file_bytes : Option Content → List ℕ
file_bytes None = []
file_bytes (Some a_directory) = []
file_bytes (Some (a_file bytes)) = bytes

-- The next two say whether a file is a directory. (POSIX, directory)
abbrev pub is_kind_directory : Kind → Bool
is_kind_directory Directory = true
is_kind_directory Regular = false
is_kind_directory Other = false

abbrev pub is_directory : Tree → ℕ → Bool
is_directory tree file = is_kind_directory (kind_of (get tree.files file))

-- How many names the file has; the root counts as having one. (this project's rule)
abbrev pub links : Tree → ℕ → ℕ
links tree file = cond (nat_eq file 0) 1 (count_by (λ n. nat_eq n.file file) tree.names)

-- Whether no name leads to the file. (POSIX, unlink)
abbrev pub is_nameless : Tree → ℕ → Bool
is_nameless tree file = nat_eq (links tree file) 0

-- The names in a directory, in rising cookie.
abbrev pub directory_names : Tree → ℕ → List Named
directory_names tree dir = filter (λ n. nat_eq n.directory dir) tree.names

-- Whether the directory has no name in it. (POSIX, rmdir)
abbrev pub is_empty : Tree → ℕ → Bool
is_empty tree dir = nat_eq (length (directory_names tree dir)) 0

-- Whether the directory is `top`, or `top` is reached from it within this many steps up, by these names. (POSIX,
-- rename)
abbrev pub is_within : ℕ → List Named → ℕ → ℕ → Bool
is_within zero names top dir = nat_eq dir top
is_within (suc steps) names top dir =
    cond (nat_eq dir top) true
    (elim (find (λ n. nat_eq n.file dir) names) [ None ↦ false | Some n ↦ is_within steps names top n.directory ])

-- Whether the directory is `top` or below it. (POSIX, rename)
abbrev pub is_below : Tree → ℕ → ℕ → Bool
is_below tree top dir = is_within (length tree.names) tree.names top dir

-- The attributes of a file: its inode number is its inode and 1, its size the number of its bytes, its link count the
-- number of its names. (this project's rule)
abbrev pub attributes_of : Tree → ℕ → Attributes
attributes_of tree file =
    record {
      kind = kind_of (get tree.files file);
      ino = file + 1;
      size = length (file_bytes (get tree.files file));
      nlink = links tree file;
    }

-- The tree with one more name, under the next cookie.
abbrev pub with_name : Tree → ℕ → Name → ℕ → Tree
with_name tree dir name file =
    record tree {
      names = tree.names ++ record { directory = dir; name = name; file = file; cookie = tree.next_cookie } ∷ [];
      next_cookie = tree.next_cookie + 1;
    }

-- The tree without a name; its file stays. (POSIX, unlink)
abbrev pub without_name : Tree → ℕ → Name → Tree
without_name tree dir name = record tree { names = filter (λ n. not (is_at dir name n)) tree.names }

-- The tree with a new file under a new name.
abbrev pub with_inode : Tree → ℕ → Name → Content → Tree
with_inode tree dir name content =
    with_name (record tree {
      files = put tree.files tree.next_inode content;
      next_inode = tree.next_inode + 1;
    }) dir name tree.next_inode

-- The bytes with others written over them from an offset on; a gap is zeros. (POSIX, write)
abbrev pub overwritten : List ℕ → ℕ → List ℕ → List ℕ
overwritten old offset [] = old
overwritten old offset (b ∷ bytes) =
    take offset old ++ (replicate (offset - length old) 0 ++ ((b ∷ bytes) ++ drop (offset + length (b ∷ bytes)) old))

-- How long a record of READDIR is: 24 bytes and the name, up to a multiple of 8. (linux/fuse.h, struct fuse_dirent)
abbrev pub record_length : Dirent → ℕ
record_length r = (31 + length r.name) / 8 * 8

-- A name as READDIR lists it: the inode number, the cookie as the offset from which to read on, the kind and the name.
-- (this project's rule)
abbrev pub record_of : Tree → Named → Dirent
record_of tree n = record { ino = n.file + 1; offset = n.cookie; kind = kind_of (get tree.files n.file); name = n.name }

-- As many of the records as fit this many bytes, from the first on. (libfuse, low-level: readdir)
abbrev pub fitting : ℕ → List Dirent → List Dirent
fitting room [] = []
fitting room (r ∷ records) = cond (nat_le (record_length r) room) (r ∷ fitting (room - record_length r) records) []

-- The records of the names in a directory whose cookie is over `after`, which is the offset from which to read on.
-- (libfuse, low-level: readdir)
abbrev pub records_after : Tree → ℕ → ℕ → List Dirent
records_after tree dir after = map (record_of tree) (filter (λ n. nat_lt after n.cookie) (directory_names tree dir))

-- How long a name of READDIRPLUS is: an entry of 128 bytes, and the record. (linux/fuse.h, struct fuse_direntplus)
abbrev pub pair_length : {F : Type 0} → DirentPlus F → ℕ
pair_length pair = 128 + record_length pair.dirent

-- A name as READDIRPLUS lists it: with its file, to which it leads for this many milliseconds. (linux/fuse.h, struct
-- fuse_direntplus)
abbrev pub pair_of : (valid : ℕ) → Tree → Named → DirentPlus ℕ
pair_of valid tree n = record { file = Some n.file; valid = valid; dirent = record_of tree n }

-- As many of these as fit this many bytes, from the first on. (libfuse, low-level: readdirplus)
abbrev pub fitting_pairs : ℕ → List (DirentPlus ℕ) → List (DirentPlus ℕ)
fitting_pairs room [] = []
fitting_pairs room (r ∷ pairs) = cond (nat_le (pair_length r) room) (r ∷ fitting_pairs (room - pair_length r) pairs) []

-- The names in a directory behind an offset, as READDIRPLUS lists them. (libfuse, low-level: readdirplus)
abbrev pub pairs_after : (valid : ℕ) → Tree → ℕ → ℕ → List (DirentPlus ℕ)
pairs_after valid tree dir after = map (pair_of valid tree) (filter (λ n. nat_lt after n.cookie) (directory_names tree dir))
