use Rattle.std.proofs.Common.{◌<◌, subst, sym}
use Rattle.fuse_judge.proofs.OpenLaws.{has_open_some, has_open_counts, above_zero, is_above}
use Rattle.fuse_judge.proofs.opens.has_open.Goals as goal

pub returns : goal.returns
returns g c = λ s are. (
  (λ e. has_open_some s _ _ are c.args.node (subst (λ k. 0 < k) c.count.ensures (above_zero c.count.result e))),
  (λ h. is_above c.count.result (subst (λ k. 0 < k) (sym c.count.ensures) (has_open_counts s _ _ are c.args.node h))),
)
