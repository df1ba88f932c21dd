-- How often the ids of a dentry name a node.
use Rattle.std.proofs.Common.{◌≡◌, ℕ, ◌+◌, ◌<◌, cond, List, [], ◌∷◌, Option, Some, None, ap, ◌∙◌, arith, rules, nat_eq}
use Rattle.std.proofs.lemmas.List.Sums.{sum_by-cons}
use Rattle.fk_dentry.specs.Named.{times, named}

pub times_cons : (id x : ℕ) (xs : List ℕ) → times id (x ∷ xs) ≡ cond (nat_eq id x) 1 0 + times id xs
times_cons id x xs = sum_by-cons (λ y. cond (nat_eq id y) 1 0) x xs

pub directory_named : (directory : ℕ) (target : Option ℕ) → 0 < times directory (named directory target)
directory_named directory target = by target
  where
    first : (ids : List ℕ) → 0 < times directory (directory ∷ ids)
    first ids = (let is = times_cons directory directory ids in grind (arith, is, rules))

    by : (target : Option ℕ) → 0 < times directory (named directory target)
    by None = first []
    by (Some id) = first (id ∷ [])

pub target_named : (directory id : ℕ) → times id (named directory (Some id)) ≡ cond (nat_eq id directory) 1 0 + 1
target_named directory id = times_cons id directory (id ∷ []) ∙ ap (λ n. cond (nat_eq id directory) 1 0 + n) one
  where
    one : times id (id ∷ []) ≡ 1
    one = (let is = times_cons id id [] in grind (arith, is, rules))
