-- The records of a READDIR or a READDIRPLUS, and how they are written.
use Rattle.std.specs.Prelude.{◌≡◌, ◌+◌, ℕ, Bool, true, false, List, map}
use Rattle.fuse_spec.specs.declared.Validity.{Validity}
use Rattle.fuse_spec.specs.Files.FileOperations.{FileOperation, reply_unrefused}
use Rattle.fuse_spec.specs.Files.Operations.{listed, listed_plus, readdir, readdirplus}
use Rattle.fuse_spec.specs.Files.Trees.{Tree}
use Rattle.fk_wire.specs.Dirents.{DirentContent}
use Rattle.fuse_frames.specs.ReplyTies.{type_of}
use Rattle.fs_tree.specs.Views.{viewed_dirent, viewed_pair}
use Rattle.fs_tree.specs.declared.listing.Record.{Record}

abbrev pub written_record_of : Record → DirentContent
written_record_of r = record { ino = r.file + 1; off = r.cookie; kind = type_of r.kind; name = r.name.now }

-- the operation that lists names of a directory, with their files or without
abbrev pub listing : (with_files : Bool) (directory after size : ℕ) → FileOperation
listing true directory after size = readdirplus directory after size
listing false directory after size = readdir directory after size

-- It lists the names of these records.
abbrev pub Lists : (with_files : Bool) → Tree → (directory after size : ℕ) → List Record → Type 0
Lists true tree directory after size records = (v : Validity)
    → reply_unrefused v tree (readdirplus directory after size) ≡ listed_plus (map (viewed_pair v.found_ms) records)
Lists false tree directory after size records = (v : Validity)
    → reply_unrefused v tree (readdir directory after size) ≡ listed (map viewed_dirent records)
