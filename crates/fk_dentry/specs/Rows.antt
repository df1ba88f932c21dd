-- Rows of names, read as the names that have room and those that are bound.
use Rattle.std.specs.Prelude.{◌≡◌, ℕ, ◌+◌, ◌≤◌, List, [], ◌∷◌, Option, Some, None, length, T}
use Rattle.std.specs.FinMap.{is_sorted}
use Rattle.fuse_spec.specs.declared.Dentry.{Dentry}
use Rattle.fuse_spec.specs.Values.Maps.{NameMap, Place, place_cmp, put_name}
use Rattle.fk_dentry.specs.Named.{uses, mentions}

-- each name that has room, with its dentry if it has one: the entries of a map in the order of keys
abbrev pub slots_of : List (Place × Option Dentry) → NameMap (Option Dentry)
slots_of [] = []
slots_of (e ∷ es) = put_name (slots_of es) e.0 e.1

-- the names that are bound
abbrev pub bound_names : NameMap (Option Dentry) → NameMap Dentry
bound_names [] = []
bound_names ((place, None) ∷ slots) = bound_names slots
bound_names ((place, Some dentry) ∷ slots) = (place, dentry) ∷ bound_names slots

-- the dentry in a slot, if there is one
abbrev pub bound_in : Option (Option Dentry) → Option Dentry
bound_in None = None
bound_in (Some dentry) = dentry

-- The names rise, each node is counted as often as dentries name it, and there is room for two mentions a name.
pub record IsNameTable (slots : NameMap (Option Dentry)) (count : ℕ → ℕ) (total capacity : ℕ) : Type 0 where
  pub sorted : T (is_sorted place_cmp slots)
  pub named : (id : ℕ) → count id ≡ uses id slots
  pub many : total ≡ mentions slots
  pub room : length slots + length slots ≤ capacity
