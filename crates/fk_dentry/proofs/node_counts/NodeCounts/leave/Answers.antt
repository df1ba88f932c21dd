use Rattle.std.proofs.Common.{◌≤◌, ℕ, Option, subst, arith}
use Rattle.fuse_spec.specs.declared.Dentry.{Dentry}
use Rattle.fk_dentry.specs.Counts.{mentions_of}
use Rattle.fk_dentry.specs.Named.{times, named, named_by}
use Rattle.fk_dentry.proofs.NamedIds.{directory_named, target_named}
use Rattle.fk_dentry.proofs.node_counts.NodeCounts.leave.Goals as goal

pub remove-requires : goal.remove-requires
remove-requires g c =
    let there = subst (λ (b : Option Dentry). times c.args.directory
    (named_by c.args.directory b) ≤ mentions_of c.args.self.now.counts.entries c.args.directory) c.in-Some.is
    (c.requires c.args.directory) in
    omega (arith, there, directory_named c.args.directory c.in-Some.dentry.target)

pub remove-requires-2 : goal.remove-requires-2
remove-requires-2 g c =
    let id = c.in-Some-target.id in
    let bound = subst (λ (b : Option Dentry). times id
    (named_by c.args.directory b) ≤ mentions_of c.args.self.now.counts.entries id) c.in-Some.is (c.requires id) in
    let there = subst (λ (t : Option ℕ). times id
    (named c.args.directory t) ≤ mentions_of c.args.self.now.counts.entries id) c.in-Some-target.is bound in
    omega (arith, there, target_named c.args.directory id, c.remove.ensures.count id)
