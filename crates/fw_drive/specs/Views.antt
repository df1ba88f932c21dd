-- What a kernel shows to the source of the lines that it runs.
use Rattle.std.specs.Prelude.{◌≡◌, ◌≢◌, ℕ, List, Option, Some, None, find, fold, is_none, map}
use Rattle.fuse_spec.specs.Calls.Answers as answer
use Rattle.fuse_spec.specs.Calls.Paths.{Name}
use Rattle.fuse_spec.specs.Files.Operations.{Dirent}
use Rattle.fuse_spec.specs.Kernel.Kernel.{Kernel}
use Rattle.fuse_spec.specs.declared.NodeCount.{NodeCount}
use Rattle.fk_kernel.specs.Refused.{drop_refusal, evict_refusal}
use Rattle.fk_lookup_count.specs.CountedNodes.{listed_counts}

-- This cached name may be dropped, or none may.
abbrev pub IsDroppable : Kernel → Option (ℕ × Name) → Type 0
IsDroppable kernel None = (directory : ℕ) (name : Name) → drop_refusal kernel directory name ≢ None
IsDroppable kernel (Some name) = drop_refusal kernel name.0 name.1 ≡ None

-- the first of these nodes that may be evicted
abbrev pub first_unused : Kernel → List NodeCount → Option ℕ
first_unused kernel nodes = find (λ node. is_none (evict_refusal kernel node)) (map (λ node. node.nodeid) nodes)

-- the first counted node that may be evicted
abbrev pub first_evictable : Kernel → Option ℕ
first_evictable kernel = first_unused kernel (listed_counts kernel.nodes)

-- ---- the names that an answer lists

-- the offset of a name, which comes behind another
abbrev pub offset_behind : (before : Option ℕ) → Dirent → Option ℕ
offset_behind before listed = Some listed.offset

-- the offset of the last name
abbrev pub last_offset : List Dirent → Option ℕ
last_offset names = fold offset_behind None names

abbrev pub listed_to : answer.Answer → Option ℕ
listed_to (answer.listing names) = last_offset names
listed_to other = None
