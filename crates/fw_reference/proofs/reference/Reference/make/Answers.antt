use Rattle.std.proofs.Common.{ℕ, subst}
use Rattle.std.specs.Prelude.{Option}
use Rattle.fk_syscalls.specs.Values.{call_of}
use Rattle.fk_syscalls.specs.declared.call.Call.{Call}
use Rattle.fw_reference.specs.Reference.{IsMade, call_here}
use Rattle.fw_reference.proofs.reference.Reference.make.Goals as goal

pub returns-in_default-clause-made : goal.returns-in_default-clause-made
returns-in_default-clause-made g c =
    let old = c.args.self.now.world.sides in
    let new = c.carry.new.self.world.sides in
    let made = subst (λ (call : Call). IsMade old (call_of call) c.in_ok-here.field-0 new) c.call_here-call_here.ensures
    c.in_ok-here.ensures.made in
    let call = call_here c.args.self.now.numbers.entries c.args.call.now in
    subst (λ (number : Option ℕ). IsMade old (call_of call) number new) c.in_default.is made
