-- What the offsets of a listing's records come to.
use Rattle.std.specs.Prelude.{◌≡◌, ℕ, List, None}
use Rattle.fuse_sessions.specs.Warnings.{repeats_behind, last_behind}
use Rattle.session_frames.specs.declared.listings.Offsets.{Offsets}

-- These offsets, in their order, come to this.
abbrev pub AreOffsets : Offsets → List ℕ → Type 0
AreOffsets o offsets = (o.repeats ≡ repeats_behind None offsets) × (o.last ≡ last_behind None offsets)
