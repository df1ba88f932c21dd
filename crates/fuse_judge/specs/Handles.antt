-- Open files, as keys.
use Rattle.std.specs.Prelude.{Bool, true, false, ◌&&◌, nat_eq}
use Rattle.std.specs.Bool.{beq}
use Rattle.fuse_sessions.specs.declared.act.OpenFile.{OpenFile}
use Rattle.fuse_sessions.specs.declared.act.OpenKind.{OpenKind}
use Rattle.fuse_sessions.specs.declared.act.OpenKind.TheVariants as kind
use Rattle.fuse_judge.specs.declared.handle.Handle.{Handle}

abbrev pub is_directory : OpenKind → Bool
is_directory kind.File = false
is_directory kind.Directory = true

-- the key of an open file
abbrev pub handle : OpenFile → Handle
handle file = record { is_directory = is_directory file.kind; nodeid = file.nodeid; fh = file.fh }

-- whether two keys are one
abbrev pub same_handle : Handle → Handle → Bool
same_handle a b = beq a.is_directory b.is_directory && (nat_eq a.nodeid b.nodeid && nat_eq a.fh b.fh)
