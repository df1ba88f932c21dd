-- Names behind one that leads nowhere.
use Rattle.std.proofs.Common.{◌≡◌, ◌∷◌, [], ℕ, List, None, refl}
use Rattle.std.specs.Prelude.{fold}
use Rattle.fw_expand.specs.Walks.{Leads, place_behind}

pub nowhere : (leads : Leads) (names : List (List ℕ)) → fold (place_behind leads) None names ≡ None
nowhere leads [] = refl
nowhere leads (name ∷ names) = nowhere leads names
