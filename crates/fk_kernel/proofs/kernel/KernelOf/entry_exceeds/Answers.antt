use Rattle.std.proofs.Common.{◌≡◌, [], ◌∷◌, false, ap, sym, ◌∙◌}
use Rattle.fuse_spec.specs.Values.Maps.{Map, get}
use Rattle.fuse_spec.specs.declared.Counted.{Counted}
use Rattle.fuse_spec.specs.declared.Entry.{Entry}
use Rattle.fuse_spec.specs.Kernel.Replies.{Use, usable, unusable, stale, first_use, counted_more, use_of}
use Rattle.fuse_spec.specs.Kernel.Refusals.{is_counted_out}
use Rattle.fk_kernel.specs.Entries.{looked_up_by_all}
use Rattle.fk_kernel.proofs.CountsAfterReply.{one_out}
use Rattle.fk_kernel.proofs.Nodes.{sorted_put}
use Rattle.fk_kernel.proofs.kernel.KernelOf.entry_exceeds.Goals as goal

-- an entry that cannot be used counts nothing
none_out_by_use : (nodes : Map Counted) (entry : Entry) (u : Use)
    → is_counted_out (looked_up_by_all nodes (entry ∷ []) usable) ≡ false → is_counted_out nodes ≡ false
    → is_counted_out (looked_up_by_all nodes (entry ∷ []) (first_use u usable)) ≡ false
none_out_by_use nodes entry usable one none = one
none_out_by_use nodes entry unusable one none = none
none_out_by_use nodes entry (stale node) one none = none

pub returns-then-not-count_overflows : goal.returns-then-not-count_overflows
returns-then-not-count_overflows g c =
    let nodes = c.args.self.now.nodes in
    let entry = c.args.entry.now in
    let within = c.lemma_counts_in_range.ensures in
    let told = one_out nodes entry within.sorted (sorted_put nodes entry.nodeid
    (counted_more entry (get nodes entry.nodeid)) within.sorted) within.below c.count_overflows.result
    (rw (← c.self.view_is) (sym c.count_overflows.ensures)) in
    sym (none_out_by_use nodes entry (use_of nodes entry) (told ∙ c.if-not-count_overflows.true) within.none_out)

pub returns-in-Usable : goal.returns-in-Usable
returns-in-Usable g c =
    let nodes = c.args.self.now.nodes in
    let entry = c.args.entry.now in
    let within = c.lemma_counts_in_range.ensures in
    let told = one_out nodes entry within.sorted (sorted_put nodes entry.nodeid
    (counted_more entry (get nodes entry.nodeid)) within.sorted) within.below c.count_overflows.result
    (rw (← c.self.view_is) (sym c.count_overflows.ensures)) in
    sym (ap (λ (u : Use). is_counted_out (looked_up_by_all nodes (entry ∷ []) (first_use u usable)))
    (sym c.in-Usable.ensures) ∙ told ∙ c.if-not-count_overflows.false)
