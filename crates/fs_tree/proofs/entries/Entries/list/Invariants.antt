use Rattle.std.proofs.Common.{◌≡◌, ◌++◌, map, filter, nat_lt}
use Rattle.fs_tree.specs.Stored.{fitting_with, lead_in, in_directory}
use Rattle.fs_tree.specs.Views.{lead_of}
use Rattle.fs_tree.specs.EntryViews.{leaf_entry}
use Rattle.fs_tree.proofs.entries.Entries.list.Given as goal

abbrev pub invariant-loop-cookie : goal.invariant-loop-cookie
invariant-loop-cookie g l =
    map lead_of l.records.items ++ fitting_with l.more l.room
    (map (lead_in l.files) (map (in_directory 0) (map leaf_entry l.cookie-iterator)))
    ≡ fitting_with l.more l.size (map (lead_in l.files)
    (filter (λ n. nat_lt l.after n.cookie) (map (in_directory 0) l.self)))
