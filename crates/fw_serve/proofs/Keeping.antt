-- What is written behind what was kept.
use Rattle.std.proofs.Common.{ℕ, List, Option, Some, None, Result, Ok, Err, ◌∙◌, ◌++◌, ap, take}
use Rattle.std.specs.Prelude.{OnOk}
use Rattle.std.specs.Io.KnownBytes.{Appends, Keeps, WriteAppends}

pub keeps_on : (a b c : Option (List ℕ)) → Keeps a b → Keeps b c → Keeps a c
keeps_on None b c ab bc = tt
keeps_on (Some xs) None c ab bc = absurd ab
keeps_on (Some xs) (Some ys) None ab bc = absurd bc
keeps_on (Some xs) (Some ys) (Some zs) ab bc = bc ∙ ab

appends_on : (a b c : Option (List ℕ)) (bs : List ℕ) → Keeps a b → Appends b c bs → Appends a c bs
appends_on None b c bs ab bc = tt
appends_on (Some xs) None c bs ab bc = absurd ab
appends_on (Some xs) (Some ys) None bs ab bc = absurd bc
appends_on (Some xs) (Some ys) (Some zs) bs ab bc = bc ∙ ap (λ (l : List ℕ). l ++ bs) ab

pub writes_on : {E : Type 0} (a b c : Option (List ℕ)) (r : Result ℕ E) (bs : List ℕ) → Keeps a b
    → WriteAppends b c r bs → WriteAppends a c r bs
writes_on a b c (Ok n) bs ab bc = appends_on a b c (take n bs) ab bc
writes_on a b c (Err e) bs ab bc = keeps_on a b c ab bc

pub kept_on_failure : {E : Type 0} (a b : Option (List ℕ)) (r : Result ℕ E) (bs : List ℕ) → WriteAppends a b r bs
    → OnOk r ⊥ → Keeps a b
kept_on_failure a b (Ok n) bs written failed = absurd failed
kept_on_failure a b (Err e) bs written failed = written
