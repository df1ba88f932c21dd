use Rattle.std.proofs.Common.{rules, of_calls, arith}
use Rattle.std.specs.Prelude.{nat_lt}
use Rattle.std.proofs.lemmas.Fn.{always_returns_same}
use Rattle.fuse_tables.proofs.Rows.{is_partitioned, place_is}
use Rattle.fuse_tables.proofs.rows_by_key.place_in.Goals as goal

pub returns-clause-place : goal.returns-clause-place
returns-clause-place g c =
    place_is c.args.rows.now.items c.args.key c.partition_point.result (omega (arith, c.partition_point.ensures.bound))
    (c.partition_point.ensures.partitioned (λ e. nat_lt e.0 c.args.key)
    (always_returns_same _ _ _ (λ a r f k. search (rules, of_calls)))
    (is_partitioned c.args.rows.now.items c.args.key c.requires))
