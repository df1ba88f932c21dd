-- What the judge's tables say of the session that it has seen: a fact for each table.
use Rattle.std.specs.Prelude.{◌≤◌, ◌*◌, ℕ, length}
use Rattle.fuse_spec.specs.Values.Maps.{Map}
use Rattle.fuse_sessions.specs.Sessions.{Session}
use Rattle.fuse_judge.specs.declared.flags.Flags.{Flags}
use Rattle.fuse_judge.specs.declared.handle.Handle.{Handle}
use Rattle.fuse_judge.specs.declared.marks.Block.{Block}
use Rattle.fuse_judge.specs.declared.nodes.NodeRow.{NodeRow}
use Rattle.fuse_judge.specs.declared.pending.Waiting.{Waiting}
use Rattle.fuse_judge.specs.declared.tables.Tables.{Tables}
use Rattle.fuse_judge.specs.Flags.{AreFlags}
use Rattle.fuse_judge.specs.Numbers.{AreNumbers}
use Rattle.fuse_judge.specs.Nodes.{AreNodes}
use Rattle.fuse_judge.specs.Opens.{AreOpen}
use Rattle.fuse_judge.specs.Pending.{ArePending}
use Rattle.fuse_judge.specs.Tallies.{Counts}

-- What contracts see of a judge: its tables.
pub record JudgeState : Type 0 where
  pub flags : Flags
  pub numbers : Map Block
  pub nodes : Map NodeRow
  pub waiting : Map Waiting
  pub named : Counts ℕ
  pub used : Counts Handle
  pub open_counts : Counts Handle
  pub open_nodes : Counts ℕ

abbrev pub state_of : {A : Type 0} → Tables A → JudgeState
state_of t = record {
  flags = t.flags;
  numbers = t.numbers.entries;
  nodes = t.nodes.entries;
  waiting = t.pending.rows.entries;
  named = t.pending.named.counts;
  used = t.pending.used.counts;
  open_counts = t.opens.counts.counts;
  open_nodes = t.opens.nodes.counts;
}

-- The judge has seen this session: its tables are right of it.
pub record HasSeen (s : Session) (j : JudgeState) : Type 0 where
  pub right_flags : AreFlags s j.flags
  pub right_numbers : AreNumbers s j.numbers
  pub right_nodes : AreNodes s j.nodes
  pub right_pending : ArePending s j.waiting j.named j.used
  pub right_opens : AreOpen s j.open_counts j.open_nodes

-- The tables have room for this many acts.
pub record HasRoom {A : Type 0} (acts : ℕ) (t : Tables A) : Type 0 where
  pub numbers : acts ≤ t.numbers.room
  pub nodes : acts ≤ t.nodes.room
  pub waiting : acts ≤ t.pending.rows.room
  pub named : 2 * acts ≤ t.pending.named.room
  pub used : 2 * acts ≤ t.pending.used.room
  pub open_counts : acts ≤ t.opens.counts.room
  pub open_nodes : acts ≤ t.opens.nodes.room

-- Some session was seen, of so many acts at most.
abbrev pub HasSeenFew : ℕ → JudgeState → Type 0
HasSeenFew acts j = (s : Session) × HasSeen s j × (length s ≤ acts)
