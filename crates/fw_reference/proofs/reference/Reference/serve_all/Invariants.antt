use Rattle.fw_reference.proofs.GoingOn.{Continues}
use Rattle.fw_reference.proofs.reference.Reference.serve_all.Given as goal

abbrev pub invariant-loop-request : goal.invariant-loop-request
invariant-loop-request g l = Continues l.initial.self.world.sides l.initial.self.numbers l.self.world.sides l.self.numbers
