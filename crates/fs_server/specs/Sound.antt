-- What is true of the server after each event.
use Rattle.std.specs.Prelude.{◌≡◌, ◌≢◌, ◌≤◌, ℕ, None}
use Rattle.fuse_spec.specs.Values.Maps.{Map, get}
use Rattle.fuse_spec.specs.Values.Numbers.{counter_end, max_validity}
use Rattle.fuse_spec.specs.declared.Validity.{Validity}
use Rattle.fs_files.specs.Bounds.{AreHeldBelow, AreNamed, AreUsed}
use Rattle.fs_files.specs.Values.{FilesState}

-- No request is held whose reply is kept, no copy has the next number or a later one, and a name is valid for a day at
-- most.
pub record AreApart {V W X : Type 0} (held : Map V) (kept : Map W) (copies : Map X) (coming : ℕ) : Type 0 where
  pub apart : (n : ℕ) → get held n ≢ None → get kept n ≡ None
  pub copies_below : (n : ℕ) → coming ≤ n → get copies n ≡ None

-- No node's lookups have come to their end, and no file handle has more uses than copies were sent; each file that has
-- no node and no file handle has a name; a name is valid for a day at most.
pub record IsSoundServer {V W X : Type 0} (files : FilesState) (held : Map V) (kept : Map W) (copies : Map X)
    (coming : ℕ) (validity : Validity) : Type 0 where
  pub requests : AreApart held kept copies coming
  pub below : AreHeldBelow files.nodes
  pub used : AreUsed coming files.handles
  pub named : AreNamed files.tree files.nodes files.handles
  pub numbers : coming ≤ counter_end
  pub found_day : validity.found_ms ≤ max_validity
  pub missing_day : validity.missing_ms ≤ max_validity
