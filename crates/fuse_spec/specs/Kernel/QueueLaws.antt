-- Words for how the pending requests and those in processing change, as lists.
use Rattle.std.specs.Prelude.{◌≡◌, ℕ, List, ◌∷◌, ◌++◌, map}
use Rattle.fuse_spec.specs.declared.Mark.{Mark}
use Rattle.fuse_spec.specs.declared.Mark.TheVariants.{Unread, Flagged, Read, Interrupted}
use Rattle.fuse_spec.specs.declared.QueuedRequest.{QueuedRequest}

-- The new list has one element more, and the others stand in their order.
pub record AddsOne {X : Type 0} (x : X) (old new : List X) : Type 0 where
  pub before : List X
  pub after : List X
  pub was : old ≡ before ++ after
  pub is : new ≡ before ++ x ∷ after

-- The mark of a pending request once it is read. (fuse.rst)
abbrev pub mark_read : Mark → Mark
mark_read Unread = Read
mark_read Flagged = Interrupted
mark_read Read = Read
mark_read Interrupted = Interrupted

-- Numbers, and what the kernel keeps of the request under each.
abbrev pub kept_entries : {W : Type 0} → List (ℕ × QueuedRequest W) → List (ℕ × W)
kept_entries es = map (λ e. (e.0, e.1.kept)) es
