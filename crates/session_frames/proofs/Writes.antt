-- Acts, written one after another.
use Rattle.std.proofs.Common.{◌≡◌, List, ◌++◌, Result, Ok, Err, ◌∙◌, ap, append_assoc}
use Rattle.std.specs.Prelude.{OnOk}
use Rattle.fuse_sessions.specs.declared.act.Act.{Act}

-- what follows from a fact on `Ok`
pub on_ok : {T E : Type 0} (P Q : Type 0) (r : Result T E) → (P → Q) → OnOk r P → OnOk r Q
on_ok P Q (Ok x) f h = f h
on_ok P Q (Err e) f h = tt

-- more acts after those that were written
pub more : (start xs ys now later : List Act) → now ≡ start ++ xs → later ≡ now ++ ys → later ≡ start ++ (xs ++ ys)
more start xs ys now later e f = f ∙ ap (λ l. l ++ ys) e ∙ append_assoc start xs ys
