use Rattle.std.proofs.Common.{◌≡◌, Bool, true, false, nat_lt, refl}
use Rattle.std.specs.Prelude.{codes, if◌then◌else◌}
use Rattle.std.proofs.lemmas.Bool.{le-ltb, lt-ltb}
use Rattle.fw_drive.proofs.printing.taken_as.Goals as goal

before : (is_before : Bool) → is_before ≡ true
    → codes " taken as 7.15\n" ≡ codes (if is_before then " taken as 7.15\n" else " taken as 7.31\n")
before true is = refl
before false is = cc is

later : (is_before : Bool) → is_before ≡ false
    → codes " taken as 7.31\n" ≡ codes (if is_before then " taken as 7.15\n" else " taken as 7.31\n")
later true is = cc is
later false is = refl

pub returns-then-minor-lt15 : goal.returns-then-minor-lt15
returns-then-minor-lt15 c = before (nat_lt c.args.minor 15) (lt-ltb _ _ c.if-minor-lt15.true)

pub returns-else-minor-lt15 : goal.returns-else-minor-lt15
returns-else-minor-lt15 c = later (nat_lt c.args.minor 15) (le-ltb _ _ c.if-minor-lt15.false)
