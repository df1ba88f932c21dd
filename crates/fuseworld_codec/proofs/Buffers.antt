-- Bytes that are put at a place of a buffer.
use Rattle.std.proofs.Common.{◌≡◌, ◌≤◌, ℕ, ◌+◌, List, ◌++◌, length, take, drop, sym, ap, ◌∙◌, arith, append_assoc}
use Rattle.std.proofs.lemmas.List.{take_at, length-append, length-take-le}

-- What stands before their end, where they take the place of others.
pub filled : (place : ℕ) (bytes old : List ℕ) → place + length bytes ≤ length old
    → take (place + length bytes) (take place old ++ (bytes ++ drop (place + length bytes) old))
    ≡ take place old ++ bytes
filled place bytes old room =
    let front : List ℕ = take place old in
    let rest : List ℕ = drop (place + length bytes) old in
    let len : length (front ++ bytes) ≡ place + length bytes =
    omega (arith, length-append front bytes, length-take-le place old (omega (arith, room))) in
    ap (λ (x : List ℕ). take (place + length bytes) x) (sym (append_assoc front bytes rest)) ∙ take_at (front ++ bytes)
    rest (place + length bytes) len
