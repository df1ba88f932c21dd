-- What a look-up in a table finds.
use Rattle.std.proofs.Common.{◌≡◌, ℕ, Option, Some, None, sym, ap, ◌∙◌, Bor}
use Rattle.std.specs.Option.{option_copied}
use Rattle.fuse_spec.specs.Values.Maps.{Map, get}

module _ {V : Type 0} (m : Map V) (k : ℕ) where
  pub found : {r : Option (Bor V)} {v : Bor V} → option_copied r ≡ get m k → r ≡ Some v → get m k ≡ Some v.now
  found told is = sym told ∙ ap option_copied is

  pub missing : {r : Option (Bor V)} → option_copied r ≡ get m k → r ≡ None → get m k ≡ None
  missing told is = sym told ∙ ap option_copied is
