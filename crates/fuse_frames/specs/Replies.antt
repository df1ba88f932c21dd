-- The reply of the definitions that a value of the code is.
use Rattle.std.specs.Prelude.{ℕ, List}
use Rattle.std.specs.Int.RustNames.{bit_and}
use Rattle.fk_wire.specs.Requests.{known_flags}
use Rattle.fuse_spec.specs.Files.Operations as reply
use Rattle.fuse_spec.specs.Files.Operations.{Dirent, DirentPlus}
use Rattle.fuse_frames.specs.declared.reply.Reply.{Reply}
use Rattle.fuse_frames.specs.declared.reply.Reply.TheVariants as said

-- What a reply says whose files, names of a list, names with their files, and bytes are read by these.
module _ {F L P S G : Type 0} (file_of : F → G) (names_of : L → List Dirent)
    (pairs_of : P → List (DirentPlus G)) (bytes_of : S → List ℕ) where
  abbrev pub reply_of : Reply F L P S → reply.Reply G ℕ
  reply_of (said.Entry file valid) = reply.found (file_of file) valid
  reply_of (said.Negative valid) = reply.missing valid
  reply_of (said.Created file valid fh) = reply.created (file_of file) valid fh
  reply_of (said.Opened fh) = reply.opened fh
  reply_of (said.Attributes attributes) = reply.attributes attributes
  reply_of (said.Listed names) = reply.listed (names_of names)
  reply_of (said.ListedPlus pairs) = reply.listed_plus (pairs_of pairs)
  reply_of (said.Content bytes) = reply.content (bytes_of bytes)
  reply_of (said.Written size) = reply.written size
  reply_of (said.Agreed major minor flags) = reply.agreed major minor (bit_and flags.0 known_flags)
  reply_of said.Done = reply.done
  reply_of (said.Failed errno) = reply.failed errno
