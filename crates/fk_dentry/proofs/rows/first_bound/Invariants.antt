use Rattle.std.proofs.Common.{◌≡◌, Some}
use Rattle.std.specs.List.{All}
use Rattle.std.specs.Map.{lookup}
use Rattle.fk_dentry.specs.Keys.{is_of}
use Rattle.fk_dentry.proofs.FirstBound.{is_any_bound}
use Rattle.fk_dentry.proofs.rows.first_bound.Given as goal

-- the rows so far are not bound, and each that is left is the one of its key
abbrev pub invariant-loop-key : goal.invariant-loop-key
invariant-loop-key g l =
    (is_any_bound l.rows.entries ≡ is_any_bound l.key-iterator)
    × All (λ e. lookup (is_of e.0) l.rows.entries ≡ Some e.1) l.key-iterator
