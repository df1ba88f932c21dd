-- What holds whatever an output says.
use Rattle.std.specs.Prelude.{OnOk, Result, Ok, Err}

pub whatever : {T E : Type 0} (r : Result T E) {P : Type 0} → P → OnOk r P
whatever (Ok v) p = p
whatever (Err e) p = tt
