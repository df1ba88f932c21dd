-- What is asked of a file system and what it answers, for any way F of naming a file and O of naming an open file.
use Rattle.std.specs.Prelude.{◌≡◌, ℕ, cond, List, [], ◌∷◌, Option, Some, None, map, option_map}
use Rattle.fuse_spec.specs.Calls.Paths.{Name, is_dots}
use Rattle.fuse_spec.specs.declared.Kind.{Kind}
use Rattle.fuse_spec.specs.declared.Attributes.{Attributes}
use Rattle.fuse_spec.specs.declared.Opened.{Opened}
use Rattle.fuse_spec.specs.declared.operation.Operation.{Operation as OperationValue}
use Rattle.fuse_spec.specs.declared.operation.Operation.TheVariants as value

-- One operation of a call, by its opcode, with files named as F says and open files as O says. (linux/fuse.h, enum
-- fuse_opcode)
pub data Operation (F O : Type 0) : Type 0 where
  lookup : (directory : F) (name : Name) → Operation F O
  getattr : (file : F) → Operation F O
  mkdir : (directory : F) (name : Name) → Operation F O
  create : (directory : F) (name : Name) → Operation F O
  unlink : (directory : F) (name : Name) → Operation F O
  rmdir : (directory : F) (name : Name) → Operation F O
  rename : (directory : F) (old : Name) (newdir : F) (new : Name) → Operation F O
  link : (file directory : F) (name : Name) → Operation F O
  opening : (file : F) → Operation F O
  readdir : (directory : F) (after size : ℕ) → Operation F O
  readdirplus : (directory : F) (after size : ℕ) → Operation F O
  read : (opened : O) (offset size : ℕ) → Operation F O
  write : (opened : O) (offset : ℕ) (bytes : List ℕ) → Operation F O

-- A name that a directory lists, with the offset from which to read on. (linux/fuse.h, struct fuse_dirent)
pub record Dirent : Type 0 where
  pub ino : ℕ
  pub offset : ℕ
  pub kind : Kind
  pub name : Name

-- A name that a directory lists together with its file, to which it leads for this many milliseconds, or with none, as
-- an entry of nodeid 0 says. (linux/fuse.h, struct fuse_direntplus)
pub record DirentPlus (F : Type 0) : Type 0 where
  pub file : Option F
  pub valid : ℕ
  pub dirent : Dirent

-- The reply to an operation, with files named as F says and open files as O says; a name leads to a file, or to none,
-- for this many milliseconds. (linux/fuse.h, struct fuse_out_header)
pub data Reply (F O : Type 0) : Type 0 where
  found : (file : F) (valid : ℕ) → Reply F O
  missing : (valid : ℕ) → Reply F O
  created : (file : F) (valid : ℕ) (opened : O) → Reply F O
  opened : (opened : O) → Reply F O
  attributes : (attributes : Attributes) → Reply F O
  listed : (records : List Dirent) → Reply F O
  listed_plus : (pairs : List (DirentPlus F)) → Reply F O
  content : (bytes : List ℕ) → Reply F O
  written : (size : ℕ) → Reply F O
  agreed : (major minor flags : ℕ) → Reply F O  -- to INIT, with the flags that the server takes up
  done : Reply F O
  failed : (errno : ℕ) → Reply F O

-- The same operation with its files, and its open files, named in another way.
abbrev pub operation_with : {F G O P : Type 0} → (F → G) → (O → P) → Operation F O → Operation G P
operation_with f g (lookup d name) = lookup (f d) name
operation_with f g (getattr x) = getattr (f x)
operation_with f g (mkdir d name) = mkdir (f d) name
operation_with f g (create d name) = create (f d) name
operation_with f g (unlink d name) = unlink (f d) name
operation_with f g (rmdir d name) = rmdir (f d) name
operation_with f g (rename d old e new) = rename (f d) old (f e) new
operation_with f g (link x d name) = link (f x) (f d) name
operation_with f g (opening x) = opening (f x)
operation_with f g (readdir d after size) = readdir (f d) after size
operation_with f g (readdirplus d after size) = readdirplus (f d) after size
operation_with f g (read o offset size) = read (g o) offset size
operation_with f g (write o offset bytes) = write (g o) offset bytes

-- The operation that a value of the code is, whose names and bytes are read by this.
abbrev pub operation_of : {S N O : Type 0} → (S → List ℕ) → OperationValue S N O → Operation N O
operation_of bytes_of (value.Lookup directory name) = lookup directory (bytes_of name)
operation_of bytes_of (value.Getattr node) = getattr node
operation_of bytes_of (value.Mkdir directory name) = mkdir directory (bytes_of name)
operation_of bytes_of (value.Create directory name) = create directory (bytes_of name)
operation_of bytes_of (value.Unlink directory name) = unlink directory (bytes_of name)
operation_of bytes_of (value.Rmdir directory name) = rmdir directory (bytes_of name)
operation_of bytes_of (value.Rename directory old newdir new) = rename directory (bytes_of old) newdir (bytes_of new)
operation_of bytes_of (value.Link node directory name) = link node directory (bytes_of name)
operation_of bytes_of (value.Open node) = opening node
operation_of bytes_of (value.Readdir directory after size) = readdir directory after size
operation_of bytes_of (value.Readdirplus directory after size) = readdirplus directory after size
operation_of bytes_of (value.Read o offset size) = read o offset size
operation_of bytes_of (value.Write o offset bytes) = write o offset (bytes_of bytes)

-- One that the kernel asks or the server holds, by nodeids.
abbrev pub Asked : Type 0 → Type 0
Asked S = OperationValue S ℕ Opened

-- The same name in a list, with its file named in another way.
abbrev pub pair_with : {F G : Type 0} → (F → G) → DirentPlus F → DirentPlus G
pair_with f pair = record { file = option_map f pair.file; valid = pair.valid; dirent = pair.dirent }

-- The same reply with its files, and its open files, named in another way.
abbrev pub reply_with : {F G O P : Type 0} → (F → G) → (O → P) → Reply F O → Reply G P
reply_with f g (found x valid) = found (f x) valid
reply_with f g (missing valid) = missing valid
reply_with f g (created x valid o) = created (f x) valid (g o)
reply_with f g (opened o) = opened (g o)
reply_with f g (attributes a) = attributes a
reply_with f g (listed records) = listed records
reply_with f g (listed_plus pairs) = listed_plus (map (pair_with f) pairs)
reply_with f g (content bytes) = content bytes
reply_with f g (written size) = written size
reply_with f g (agreed major minor flags) = agreed major minor flags
reply_with f g done = done
reply_with f g (failed errno) = failed errno

-- The files that an operation names; an open file stands for the files that `h` gives for it. (linux/fuse.h, struct
-- fuse_in_header)
abbrev pub files_in : {F O : Type 0} → (O → List F) → Operation F O → List F
files_in h (lookup d name) = d ∷ []
files_in h (getattr x) = x ∷ []
files_in h (mkdir d name) = d ∷ []
files_in h (create d name) = d ∷ []
files_in h (unlink d name) = d ∷ []
files_in h (rmdir d name) = d ∷ []
files_in h (rename d old e new) = d ∷ e ∷ []
files_in h (link x d name) = d ∷ x ∷ []
files_in h (opening x) = x ∷ []
files_in h (readdir d after size) = d ∷ []
files_in h (readdirplus d after size) = d ∷ []
files_in h (read o offset size) = h o
files_in h (write o offset bytes) = h o

-- The node of an open file.
abbrev pub opened_nodes : Opened → List ℕ
opened_nodes o = o.nodeid ∷ []

-- The next four are the nodes that an operation names: that of its request's header, and the one that the request's
-- body names besides, which is the directory of a RENAME's new name or the file that a LINK gives one more name.
-- (linux/fuse.h, struct fuse_in_header, struct fuse_rename_in, struct fuse_link_in)
abbrev first_of : List ℕ → ℕ
first_of [] = 0
first_of (node ∷ nodes) = node

abbrev second_of : List ℕ → Option ℕ
second_of (node ∷ other ∷ nodes) = Some other
second_of nodes = None

abbrev pub header_node : {S : Type 0} → Asked S → ℕ
header_node o = first_of (files_in opened_nodes (operation_of (λ s. []) o))

abbrev pub body_node : {S : Type 0} → Asked S → Option ℕ
body_node o = second_of (files_in opened_nodes (operation_of (λ s. []) o))

-- The names that an operation looks up, makes or takes away.
abbrev pub operation_names : {F O : Type 0} → Operation F O → List Name
operation_names (lookup d name) = name ∷ []
operation_names (mkdir d name) = name ∷ []
operation_names (create d name) = name ∷ []
operation_names (unlink d name) = name ∷ []
operation_names (rmdir d name) = name ∷ []
operation_names (rename d old e new) = old ∷ new ∷ []
operation_names (link x d name) = name ∷ []
operation_names (getattr x) = []
operation_names (opening x) = []
operation_names (readdir d after size) = []
operation_names (readdirplus d after size) = []
operation_names (read o offset size) = []
operation_names (write o offset bytes) = []

-- The directory and the name that the entry of a reply is of, where the reply to the operation has one.
-- (linux/fuse.h, struct fuse_entry_out)
abbrev pub entry_place : {F O : Type 0} → Operation F O → Option (F × Name)
entry_place (lookup d name) = Some (d, name)
entry_place (mkdir d name) = Some (d, name)
entry_place (create d name) = Some (d, name)
entry_place (link x d name) = Some (d, name)
entry_place operation = None

-- The next three are the files that are listed with their names, in order; `.` and `..` are listed without.
-- (linux/fuse.h, struct fuse_direntplus)
abbrev pub listed_by : {F : Type 0} → DirentPlus F → Option F
listed_by pair = cond (is_dots pair.dirent.name) None pair.file

abbrev pub first_listed : {F : Type 0} → Option F → List F → List F
first_listed None files = files
first_listed (Some file) files = file ∷ files

abbrev pub files_listed : {F : Type 0} → List (DirentPlus F) → List F
files_listed [] = []
files_listed (pair ∷ pairs) = first_listed (listed_by pair) (files_listed pairs)

-- The files that the entries of a reply name, as often as they do: each is one lookup more of its node. (libfuse,
-- low-level: lookup)
abbrev pub files_in_reply : {F O : Type 0} → Reply F O → List F
files_in_reply (found x valid) = x ∷ []
files_in_reply (created x valid o) = x ∷ []
files_in_reply (missing valid) = []
files_in_reply (opened o) = []
files_in_reply (attributes a) = []
files_in_reply (listed records) = []
files_in_reply (listed_plus pairs) = files_listed pairs
files_in_reply (content bytes) = []
files_in_reply (written size) = []
files_in_reply (agreed major minor flags) = []
files_in_reply done = []
files_in_reply (failed errno) = []

-- The open files that a reply names, which is one for OPEN and CREATE. (linux/fuse.h, struct fuse_open_out)
abbrev pub opens_in_reply : {F O : Type 0} → Reply F O → List O
opens_in_reply (created x valid o) = o ∷ []
opens_in_reply (opened o) = o ∷ []
opens_in_reply (found x valid) = []
opens_in_reply (missing valid) = []
opens_in_reply (attributes a) = []
opens_in_reply (listed records) = []
opens_in_reply (listed_plus pairs) = []
opens_in_reply (content bytes) = []
opens_in_reply (written size) = []
opens_in_reply (agreed major minor flags) = []
opens_in_reply done = []
opens_in_reply (failed errno) = []

-- The error of a reply as a positive number, or 0. (linux/fuse.h, struct fuse_out_header)
abbrev pub errno_of : {F O : Type 0} → Reply F O → ℕ
errno_of (failed errno) = errno
errno_of (found x valid) = 0
errno_of (missing valid) = 0
errno_of (created x valid o) = 0
errno_of (opened o) = 0
errno_of (attributes a) = 0
errno_of (listed records) = 0
errno_of (listed_plus pairs) = 0
errno_of (content bytes) = 0
errno_of (written size) = 0
errno_of (agreed major minor flags) = 0
errno_of done = 0

-- ---- two that are alike

-- What follows holds for any relation R of the files' names, and S of the open files'.

-- Two that are both there and alike, or both none.
abbrev pub OptionAlike : {X Y : Type 0} → (X → Y → Type 0) → Option X → Option Y → Type 0
OptionAlike R None None = Unit {0}
OptionAlike R (Some x) (Some y) = R x y
OptionAlike R None (Some y) = ⊥
OptionAlike R (Some x) None = ⊥

-- The same operation, on files that R says are the same and open files that S says are.
abbrev pub OperationAlike : {F O G P : Type 0} → (F → G → Type 0) → (O → P → Type 0) → Operation F O → Operation G P
    → Type 0
OperationAlike R S (lookup d name) (lookup e other) = R d e × (name ≡ other)
OperationAlike R S (getattr x) (getattr y) = R x y
OperationAlike R S (mkdir d name) (mkdir e other) = R d e × (name ≡ other)
OperationAlike R S (create d name) (create e other) = R d e × (name ≡ other)
OperationAlike R S (unlink d name) (unlink e other) = R d e × (name ≡ other)
OperationAlike R S (rmdir d name) (rmdir e other) = R d e × (name ≡ other)
OperationAlike R S (rename d old e new) (rename f old' g new') = R d f × (old ≡ old') × R e g × (new ≡ new')
OperationAlike R S (link x d name) (link y e other) = R x y × R d e × (name ≡ other)
OperationAlike R S (opening x) (opening y) = R x y
OperationAlike R S (readdir d after size) (readdir e after' size') = R d e × (after ≡ after') × (size ≡ size')
OperationAlike R S (readdirplus d after size) (readdirplus e after' size') = R d e × (after ≡ after') × (size ≡ size')
OperationAlike R S (read o offset size) (read p offset' size') = S o p × (offset ≡ offset') × (size ≡ size')
OperationAlike R S (write o offset bytes) (write p offset' bytes') = S o p × (offset ≡ offset') × (bytes ≡ bytes')
OperationAlike R S a b = ⊥

-- The same names in a list, each with a file that R says is the same, where it has one.
abbrev pub PairAlike : {F G : Type 0} → (F → G → Type 0) → DirentPlus F → DirentPlus G → Type 0
PairAlike R x y = OptionAlike R (listed_by x) (listed_by y) × (x.valid ≡ y.valid) × (x.dirent ≡ y.dirent)

abbrev pub PairsAlike : {F G : Type 0} → (F → G → Type 0) → List (DirentPlus F) → List (DirentPlus G) → Type 0
PairsAlike R [] [] = Unit {0}
PairsAlike R (x ∷ xs) (y ∷ ys) = PairAlike R x y × PairsAlike R xs ys
PairsAlike R [] (y ∷ ys) = ⊥
PairsAlike R (x ∷ xs) [] = ⊥

-- The same reply, with files that R says are the same and open files that S says are.
abbrev pub ReplyAlike : {F O G P : Type 0} → (F → G → Type 0) → (O → P → Type 0) → Reply F O → Reply G P → Type 0
ReplyAlike R S (found x valid) (found y valid') = R x y × (valid ≡ valid')
ReplyAlike R S (missing valid) (missing valid') = valid ≡ valid'
ReplyAlike R S (created x valid o) (created y valid' p) = R x y × (valid ≡ valid') × S o p
ReplyAlike R S (opened o) (opened p) = S o p
ReplyAlike R S (attributes a) (attributes b) = a ≡ b
ReplyAlike R S (listed xs) (listed ys) = xs ≡ ys
ReplyAlike R S (listed_plus xs) (listed_plus ys) = PairsAlike R xs ys
ReplyAlike R S (content xs) (content ys) = xs ≡ ys
ReplyAlike R S (written n) (written m) = n ≡ m
ReplyAlike R S (agreed a b x) (agreed c d y) = (a ≡ c) × (b ≡ d) × (x ≡ y)
ReplyAlike R S done done = Unit {0}
ReplyAlike R S (failed a) (failed b) = a ≡ b
ReplyAlike R S a b = ⊥
