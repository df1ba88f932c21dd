use Rattle.std.proofs.Common.{◌≡◌, ◌≤◌, ◌+◌, ◌*◌, ◌++◌, map, filter, nat_lt}
use Rattle.arrayvec.specs.ArrayVec.{array_vec_len}
use Rattle.fuse_spec.specs.Values.Maps.{Map}
use Rattle.fuse_spec.specs.Files.Trees.{Content}
use Rattle.fs_tree.specs.Stored.{files_led, fitting_with, lead_in, in_directory}
use Rattle.fs_tree.specs.EntryViews.{leaf_entry}
use Rattle.fs_tree.proofs.entries.Entries.files_listed.Given as goal

abbrev pub invariant-loop-leaf : goal.invariant-loop-leaf
invariant-loop-leaf g l =
    ((files : Map Content) → l.listed.items ++ files_led
    (fitting_with 128 l.room (map (lead_in files) (map (in_directory 0) (map leaf_entry l.leaf-iterator))))
    ≡ files_led (fitting_with 128 l.size (map (lead_in files)
    (filter (λ n. nat_lt l.after n.cookie) (map (in_directory 0) l.self)))))
    × (152 * array_vec_len l.listed + l.room ≤ 4096)
