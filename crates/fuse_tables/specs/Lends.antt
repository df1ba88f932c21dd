-- What a table ends as, where a `&mut` to one of its values is returned.
use Rattle.std.specs.Prelude.{ℕ, Option}
use Rattle.std.specs.Borrow.{LendsIf, Fml, RattleType, MutBor}
use Rattle.std.specs.declared.alloc.Allocator.{Ghosts}
use Rattle.fuse_spec.specs.Values.Maps.{put}
use Rattle.fuse_tables.specs.TableState.{TableState}
use Rattle.fuse_tables.specs.contracts.rising.RisingTable.{the_row}

-- a table with this value at a key, and with as much room
abbrev pub with_entry : {V : Type 0} → TableState V → ℕ → V → TableState V
with_entry t key v = record { entries = put t.entries key v; room = t.room }

-- once the borrow r ends, the key has the last value written through r, and at `None` the table stays as it is
abbrev pub lends_entry : (V A : RattleType) → Ghosts A.Denot → MutBor (TableState V.Denot) → ℕ
    → Option (MutBor V.Denot) → Fml
lends_entry V A alloc s key r = LendsIf (the_row V A alloc) V s r (with_entry s.now key) s.now
