use Rattle.std.proofs.Common.{◌≡◌, drop}
use Rattle.fw_check.specs.Names.{removal_in}
use Rattle.fw_check.proofs.names.removal_in.Given as goal

-- what the loop has passed is no such act
abbrev pub invariant-loop-act : goal.invariant-loop-act
invariant-loop-act l = removal_in (drop l.act-index l.acts) ≡ removal_in l.acts
