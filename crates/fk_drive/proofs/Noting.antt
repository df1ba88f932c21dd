-- How what was noted goes on.
use Rattle.std.proofs.Common.{List, ◌++◌}
use Rattle.fk_drive.specs.Notings.{HasNoted}
use Rattle.fk_drive.specs.declared.noted.Noted.{Noted}

module _ {N O : Type 0} (notes : N → N → O → O → List Noted → Type 0)
    (goes_on : (first mid last : N) (had got has : O) (h k : List Noted) → notes first mid had got h → notes mid last got has k
    → notes first last had has (h ++ k)) where
  pub noted_on : (a b c : N) (had got has : O) → HasNoted notes a b had got → HasNoted notes b c got has
      → HasNoted notes a c had has
  noted_on a b c had got has (h, one) (k, two) = (h ++ k, goes_on a b c had got has h k one two)
