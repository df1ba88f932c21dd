-- A session in which nobody is at fault, though a stricter rule would say so.
use Rattle.std.specs.Prelude.{[], ◌∷◌, Some, None, false}
use Rattle.fuse_protocol.specs.declared.opcode.Opcode.TheVariants as op
use Rattle.fuse_sessions.specs.declared.act.Act.TheVariants.{Opens, OpensNone, Asks}
use Rattle.fuse_sessions.specs.declared.act.Asked.{Asked}
use Rattle.fuse_sessions.specs.declared.act.OpenFile.{OpenFile}
use Rattle.fuse_sessions.specs.declared.act.OpenKind.TheVariants as kind
use Rattle.fuse_sessions.specs.Sessions.{Session}

-- the root, as a directory that is open under file handle 0
abbrev pub root_under_zero : OpenFile
root_under_zero = record { kind = kind.Directory; nodeid = 1; fh = 0 }

abbrev pub listing_of_root : Asked
listing_of_root = record {
  opcode = Some op.Readdir;
  asked = 32768;
  writes = 0;
  lists_from = 0;
  makes = 0;
  is_dots = false;
  nodeid = 1;
  other = 0;
  uses = Some root_under_zero;
  copies_to = None;
}

-- The server opens a directory under file handle 0 and answers the next OPENDIR with ENOSYS. Linux lists that second one
-- under 0 without an open directory, and may release the first meanwhile. (seen of Linux 6.18)
abbrev pub listed_without_opening : Session
listed_without_opening = Opens root_under_zero ∷ OpensNone kind.Directory ∷ Asks 10 listing_of_root ∷ []
