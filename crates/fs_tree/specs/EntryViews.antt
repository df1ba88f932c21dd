-- What the stored names of a directory stand for.
use Rattle.std.specs.Prelude.{◌≡◌, ℕ, List, Option, find}
use Rattle.std.specs.Ordering.{nat_cmp, eq_by_cmp}
use Rattle.std.specs.Option.{option_map}
use Rattle.std.specs.Map.{lookup}
use Rattle.std.specs.Cmp.Lexicographic.{slice_cmp}
use Rattle.fuse_spec.specs.Files.Trees.{same_name}
use Rattle.fs_tree.specs.Stored.{Entry}
use Rattle.fs_tree.specs.declared.entries.NamedFile.{NamedFile}
use Rattle.fs_tree.specs.declared.entries.Link.{Link}

-- The file to which a name leads, and its cookie.
abbrev pub link_of : Link → ℕ × ℕ
link_of l = (l.file, l.cookie)

abbrev pub entry_link : Entry → ℕ × ℕ
entry_link e = (e.file, e.cookie)

module _ {A : Type 0} where
  abbrev pub leaf_entry : ℕ × NamedFile A → Entry
  leaf_entry e = record { name = e.1.name.items; file = e.1.file; cookie = e.0 }

-- The file to which a name leads, and its cookie, among links by name.
abbrev pub link_in : List (List ℕ × Link) → List ℕ → Option (ℕ × ℕ)
link_in links name = option_map link_of (lookup (eq_by_cmp (slice_cmp nat_cmp) name) links)

-- The links by name are those of the entries.
abbrev pub AreLinked : List (List ℕ × Link) → List Entry → Type 0
AreLinked links entries = (name : List ℕ) → link_in links name
    ≡ option_map entry_link (find (λ e. same_name e.name name) entries)
