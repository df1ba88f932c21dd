use Rattle.std.proofs.Common.{◌≡◌, drop}
use Rattle.fw_drive.specs.Views.{first_unused}
use Rattle.fw_drive.proofs.driver.first_unused.Given as goal

-- those that are left to try
abbrev pub invariant-loop-node : goal.invariant-loop-node
invariant-loop-node g l = first_unused l.kernel (drop l.node-index l.nodes) ≡ first_unused l.kernel l.nodes
