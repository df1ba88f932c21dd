-- What the stored names, files and records stand for.
use Rattle.std.specs.Prelude.{ℕ, ◌+◌, Some}
use Rattle.fuse_spec.specs.Files.Trees as plain
use Rattle.fuse_spec.specs.Files.Trees.{Named, a_directory, a_file}
use Rattle.fuse_spec.specs.Files.Operations.{Dirent, DirentPlus}
use Rattle.fs_tree.specs.declared.rows.Row.{Row}
use Rattle.fs_tree.specs.declared.files.Content.{Content}
use Rattle.fs_tree.specs.declared.files.Content.TheVariants.{Directory, Regular}
use Rattle.fs_tree.specs.declared.listing.Record.{Record}

module _ {A : Type 0} where
  abbrev pub named_of : ℕ × Row A → Named
  named_of e = record { directory = e.1.directory; name = e.1.name.items; file = e.1.file; cookie = e.0 }

  abbrev pub content_in : Content A → plain.Content
  content_in Directory = a_directory
  content_in (Regular bytes) = a_file bytes.items

  abbrev pub viewed_file : ℕ × Content A → ℕ × plain.Content
  viewed_file e = (e.0, content_in e.1)

-- The record of READDIR for a name. An inode number is one more than the file's inode.
abbrev pub viewed_dirent : Record → Dirent
viewed_dirent r = record { ino = r.file + 1; offset = r.cookie; kind = r.kind; name = r.name.now }

-- The same with the file to which the name leads.
abbrev pub lead_of : Record → ℕ × Dirent
lead_of r = (r.file, viewed_dirent r)

-- The name as READDIRPLUS lists it, valid for this many milliseconds.
abbrev pub viewed_pair : (valid : ℕ) → Record → DirentPlus ℕ
viewed_pair valid r = record { file = Some r.file; valid = valid; dirent = viewed_dirent r }
