use Rattle.std.proofs.Common.{◌≡◌, drop}
use Rattle.fw_judged.specs.Sides.{taking_by}
use Rattle.fw_judged.proofs.taking.taking_by.Given as goal

-- none of the acts so far takes a reply
abbrev pub invariant-loop-act : goal.invariant-loop-act
invariant-loop-act l = taking_by l.asked l.acts ≡ taking_by l.asked (drop l.act-index l.acts)
