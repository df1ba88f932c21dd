use Rattle.std.proofs.Common.{◌≡◌, ◌∙◌, Bool, true, false, refl, sym, not}
use Rattle.fuse_judge.proofs.FlagLaws.{is_before_init, is_after_init}
use Rattle.fuse_judge.proofs.flags.fault_of_beginning.Goals as goal

was_false : (b : Bool) → not b ≡ true → b ≡ false
was_false true e = sym e
was_false false e = refl

was_true : (b : Bool) → not b ≡ false → b ≡ true
was_true true e = refl
was_true false e = sym e

pub returns-in_default : goal.returns-in_default
returns-in_default c = λ s are. is_before_init s c.args.opcode c.in_default.not-Init
    (sym are.agreed ∙ was_false c.args.flags.agreed c.if-not-flags.true)

pub returns-in_default-2 : goal.returns-in_default-2
returns-in_default-2 c = λ s are. is_after_init s c.args.opcode c.in_default.not-Init
    (sym are.agreed ∙ was_true c.args.flags.agreed c.if-not-flags.false)
