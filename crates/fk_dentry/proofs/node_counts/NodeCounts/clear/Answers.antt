use Rattle.std.proofs.Common.{sym, ap, ◌∙◌, arith}
use Rattle.std.proofs.lemmas.Option.{none-some}
use Rattle.fuse_spec.specs.Values.Maps.{get}
use Rattle.fk_dentry.proofs.node_counts.NodeCounts.clear.Goals as goal

pub invariant_of-self : goal.invariant_of-self
invariant_of-self g c = record {
  used = λ id is. none-some 0 (sym (ap (λ es. get es id) c.clear.ensures.entries) ∙ is);
  fits = omega arith;
}
