-- A bound that rises with each lookup stays over each node's count.
use Rattle.std.proofs.Common.{◌≡◌, ℕ, ◌+◌, ◌-◌, ◌≤◌, ◌<◌, ◌^◌, Some, arith, sym, subst}
use Rattle.std.specs.Prelude.{min, Result, Ok, Err, OnOk, OnErr}
use Rattle.fuse_spec.specs.Values.Maps.{get}
use Rattle.fuse_spec.specs.Server.Nodes.{HeldNode, NodeTable, given, taken_back}
use Rattle.fs_files.specs.Bounds.{HaveCountsUpTo}
use Rattle.fs_files.proofs.Bounds.{given_each, taken_each}

-- each count has room for one more
abbrev HaveRoom : NodeTable → Type 0
HaveRoom t = (id : ℕ) (row : HeldNode) → get t.rows id ≡ Some row → row.count + 1 < 2 ^ 64

module _ (t : NodeTable) (most more : ℕ) (counted : HaveCountsUpTo most t) (room : HaveRoom t)
    (rises : more ≡ min (most + 1) (2 ^ 64 - 1)) where
  abbrev IsLow : HeldNode → Type 0
  IsLow row = (row.count ≤ most) × (row.count + 1 < 2 ^ 64)

  low : (id : ℕ) (row : HeldNode) → get t.rows id ≡ Some row → IsLow row
  low id row there = (counted id row there, room id row there)

  still : (row : HeldNode) → IsLow row → row.count ≤ more
  still row is = let a = is.0 in let b = is.1 in omega (arith, a, b, rises)

  one_more : (row : HeldNode) → IsLow row → row.count + 1 ≤ more
  one_more row is = let a = is.0 in let b = is.1 in omega (arith, a, b, rises)

  pub given_counted : (file id : ℕ) → HaveCountsUpTo more (given t file id)
  given_counted file id = given_each IsLow (λ row. row.count ≤ more) t file id still one_more (omega (arith, rises)) low

module _ (t : NodeTable) (most : ℕ) (counted : HaveCountsUpTo most t) where
  less : (n : ℕ) (row : HeldNode) → row.count ≤ most → row.count - n ≤ most
  less n row is = omega (arith, is)

  pub taken_counted : (id n : ℕ) → HaveCountsUpTo most (taken_back t id n)
  taken_counted id n = taken_each (λ row. row.count ≤ most) t id n (less n) counted

  -- also where they were refused
  pub taken_or_not : {E : Type 0} (r : Result Unit E) (new : NodeTable) (id n : ℕ)
      → OnOk r (new ≡ taken_back t id n) → OnErr r (new ≡ t) → HaveCountsUpTo most new
  taken_or_not (Ok done) new id n taken not = subst (HaveCountsUpTo most) (sym taken) (taken_counted id n)
  taken_or_not (Err e) new id n taken not = subst (HaveCountsUpTo most) (sym not) counted
