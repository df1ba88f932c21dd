-- The tables that an act may change.
use Rattle.fuse_sessions.specs.declared.act.Act.{Act}
use Rattle.fuse_sessions.specs.declared.act.Act.TheVariants as act
use Rattle.fuse_sessions.specs.declared.act.Taken.TheVariants as taken
use Rattle.fuse_judge.specs.declared.concern.Concern.{Concern}
use Rattle.fuse_judge.specs.declared.concern.Concern.TheVariants as concern

abbrev pub concern_in : Act → Concern
concern_in (act.Read opcode unique) = concern.Several
concern_in (act.Asks unique asked) = concern.Requests
concern_in (act.Interrupts unique original) = concern.Requests
concern_in (act.Replies unique t) = concern.Requests
concern_in (act.Gives node file is_certain) = concern.Nodes
concern_in (act.Forgets node lookups) = concern.Nodes
concern_in (act.Opens file) = concern.OpenFiles
concern_in (act.Releases file) = concern.OpenFiles
concern_in (act.Resent unique original) = concern.Several
concern_in (act.RepliesToInterrupt original is_again t) = concern.Several
concern_in (act.Takes unique taken.NoEntry fit) = concern.Several
concern_in (act.Agrees max_write) = concern.Several
concern_in act.Resends = concern.Several
concern_in (act.OpensNone kind) = concern.Several
concern_in act.SeveralReaders = concern.Several
concern_in act.SeveralWriters = concern.Several
concern_in act.Ends = concern.Several
concern_in a = concern.Nothing
