-- What is true of a stored tree, beside what it shows.
use Rattle.std.specs.Prelude.{◌≡◌, ℕ, ◌+◌, ◌-◌, ◌<◌, ◌≤◌, cond, List, [], ◌∷◌, Option, Some, None, length, map, filter, find, not, nat_eq, nat_le, nat_lt}
use Rattle.std.specs.Map.{lookup}
use Rattle.std.specs.Option.{unwrap_or}
use Rattle.fuse_spec.specs.Values.Maps.{Map, get}
use Rattle.fuse_spec.specs.Files.Operations.{Dirent, DirentPlus, files_listed}
use Rattle.fuse_spec.specs.Files.Trees.{Content, Named, is_at, kind_of, record_length, same_name}
use Rattle.fuse_spec.specs.Values.Numbers.{counter_end, max_names}

-- The record of READDIR for a name of one of these files.
abbrev pub stored_dirent : Map Content → Named → Dirent
stored_dirent files n = record { ino = n.file + 1; offset = n.cookie; kind = kind_of (get files n.file); name = n.name }

-- The file to which a name leads, with the name's record.
abbrev pub lead_in : Map Content → Named → ℕ × Dirent
lead_in files n = (n.file, stored_dirent files n)

-- The same of the names in a directory whose cookie is over `after`.
abbrev pub listed_names : Map Content → ℕ → ℕ → List Named → List (ℕ × Dirent)
listed_names files dir after names = map (lead_in files)
    (filter (λ n. nat_lt after n.cookie) (filter (λ n. nat_eq n.directory dir) names))

-- As many of these as fit this many bytes, from the first on, where each takes its record and as many bytes more as are
-- given.
abbrev pub fitting_with : (more room : ℕ) → List (ℕ × Dirent) → List (ℕ × Dirent)
fitting_with more room [] = []
fitting_with more room (r ∷ records) = cond (nat_le (more + record_length r.1) room)
    (r ∷ fitting_with more (room - (more + record_length r.1)) records) []

-- A name as READDIRPLUS lists it, valid for this many milliseconds.
abbrev pub lead_pair : (valid : ℕ) → ℕ × Dirent → DirentPlus ℕ
lead_pair valid r = record { file = Some r.0; valid = valid; dirent = r.1 }

-- The files that these names lead to.
abbrev pub files_led : List (ℕ × Dirent) → List ℕ
files_led records = files_listed (map (lead_pair 0) records)

-- Every key is below this number.
abbrev pub AreKeysBelow : {V : Type 0} → ℕ → List (ℕ × V) → Type 0
AreKeysBelow next [] = Unit {0}
AreKeysBelow next (e ∷ es) = (e.0 < next) × AreKeysBelow next es

-- The cookies rise from name to name, from one number on, and stay below another.
abbrev pub IsRising : ℕ → List Named → ℕ → Type 0
IsRising low [] next = low ≤ next
IsRising low (n ∷ names) next = (low ≤ n.cookie) × IsRising (n.cookie + 1) names next

-- No inode is allocated twice, names are in rising cookie, and none is allocated twice; there are 4,096 names at most.
pub record IsTreeKept (files : Map Content) (names : List Named) (next_inode next_cookie : ℕ) : Type 0 where
  pub born : AreKeysBelow next_inode files
  pub rising : IsRising 1 names next_cookie
  pub few : length names ≤ max_names
  pub inodes_fit : next_inode ≤ counter_end
  pub cookies_fit : next_cookie ≤ counter_end

-- A name in one directory.
pub record Entry : Type 0 where
  pub name : List ℕ
  pub file : ℕ
  pub cookie : ℕ

-- No name is twice in a directory.
abbrev pub AreNamedOnce : List Entry → Type 0
AreNamedOnce [] = Unit {0}
AreNamedOnce (e ∷ entries) = (find (λ d. same_name d.name e.name) entries ≡ None) × AreNamedOnce entries

-- Every cookie is below this number.
abbrev pub AreBefore : ℕ → List Entry → Type 0
AreBefore next [] = Unit {0}
AreBefore next (e ∷ entries) = (e.cookie < next) × AreBefore next entries

-- The names in a directory, where the directories that have any are listed.
abbrev pub entries_in : List (ℕ × List Entry) → ℕ → List Entry
entries_in directories dir = unwrap_or (lookup (nat_eq dir) directories) []

-- The directories of the names that lead to a file, by cookie, where the files that have any are listed.
abbrev pub parents_in : List (ℕ × List (ℕ × ℕ)) → ℕ → List (ℕ × ℕ)
parents_in files file = unwrap_or (lookup (nat_eq file) files) []

-- The directory of a name, by its cookie.
abbrev pub parent_of : Named → ℕ × ℕ
parent_of n = (n.cookie, n.directory)

-- The directories of the names that lead to each file are these, in rising cookie.
abbrev pub AreByFile : (ℕ → List (ℕ × ℕ)) → List Named → Type 0
AreByFile parents names = (file : ℕ) → parents file ≡ map parent_of (filter (λ n. nat_eq n.file file) names)

-- No name is twice in a directory.
abbrev pub AreOnce : List Named → Type 0
AreOnce [] = Unit {0}
AreOnce (n ∷ names) = (find (is_at n.directory n.name) names ≡ None) × AreOnce names

-- The cookies rise from name to name.
abbrev pub AreCookiesRising : List Named → Type 0
AreCookiesRising names = (next : ℕ) × IsRising 1 names next

-- The names without the one of this cookie, if there is one.
abbrev pub without_cookie : Option ℕ → List Named → List Named
without_cookie None names = names
without_cookie (Some cookie) names = filter (λ n. not (nat_eq n.cookie cookie)) names

-- The rows without the one at this key, if there is one.
abbrev pub without_key : {V : Type 0} → Option ℕ → List (ℕ × V) → List (ℕ × V)
without_key None rows = rows
without_key (Some key) rows = filter (λ e. not (nat_eq e.0 key)) rows

-- A name, by its directory.
abbrev pub in_directory : ℕ → Entry → Named
in_directory dir e = record { directory = dir; name = e.name; file = e.file; cookie = e.cookie }

-- The names in each directory are these, in rising cookie.
abbrev pub AreByDirectory : (ℕ → List Entry) → List Named → Type 0
AreByDirectory entries names = (dir : ℕ) → map (in_directory dir) (entries dir)
    ≡ filter (λ n. nat_eq n.directory dir) names
