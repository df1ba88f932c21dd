-- What the table of file handles keeps true of its two maps.
use Rattle.std.specs.Prelude.{◌≡◌, ℕ, ◌-◌, ◌<◌, ◌≤◌, cond, nat_lt, nat_eq, List, Option, Some, None, length, sum_by}
use Rattle.std.specs.List.{IsDistinct}
use Rattle.std.specs.Map.{lookup, keys_of, values_of}
use Rattle.fuse_spec.specs.Values.Numbers.{counter_end}
use Rattle.fuse_tables.specs.Tallies.{positive}
use Rattle.fs_handles.specs.declared.open_file.OpenFile.{OpenFile}

-- 1 for a file handle of this file
abbrev pub handle_use_of : ℕ → OpenFile → ℕ
handle_use_of file kept = cond (nat_eq kept.file file) 1 0

-- how many of the file handles are of this file
abbrev pub numbers_of : ℕ → List (ℕ × OpenFile) → ℕ
numbers_of file opens = sum_by (handle_use_of file) (values_of opens)

-- Each file has the count of its file handles, and none from `next` on is in use.
pub record AreUsesCounted (opens : List (ℕ × OpenFile)) (uses : List (ℕ × ℕ)) (next : ℕ) : Type 0 where
  pub counted : (file : ℕ) → lookup (nat_eq file) uses ≡ positive (numbers_of file opens)
  pub fresh : (fh : ℕ) → next ≤ fh → lookup (nat_eq fh) opens ≡ None
  pub distinct : IsDistinct nat_eq (keys_of opens)
  pub few : length opens < next
  pub limit : next ≤ counter_end
