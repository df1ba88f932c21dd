use Rattle.std.proofs.Common.{ap}
use Rattle.fuse_spec.specs.Server.Nodes.{HandleTable, NodeTable}
use Rattle.fs_files.proofs.StaysKnown.{nothing_known}
use Rattle.fs_files.proofs.StaysNamed.{named_new}
use Rattle.fs_files.proofs.files.Files.new.Goals as goal

pub invariant_of-result : goal.invariant_of-result
invariant_of-result g c = nothing_known _ _ _ (ap (λ (t : NodeTable). t.rows) c.new-2.ensures.nodes)
    (ap (λ (t : HandleTable). t.handles) c.new-2.ensures.handles)

pub returns-clause-named : goal.returns-clause-named
returns-clause-named g c = named_new _ _ _ c.in_ok-tree.ensures c.new-2.ensures.nodes c.new-2.ensures.handles
