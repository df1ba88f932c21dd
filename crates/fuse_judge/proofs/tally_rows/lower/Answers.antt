use Rattle.std.proofs.Common.{◌≡◌, ◌-◌, Some, None, sym, ◌∙◌, ap, is_some, arith}
use Rattle.std.specs.Prelude.{unwrap_or}
use Rattle.std.specs.Cmp.{ties}
use Rattle.fuse_judge.specs.Tallies.{row_of}
use Rattle.fuse_judge.proofs.TallyLaws.{found_row, lowered}
use Rattle.fuse_judge.proofs.tally_rows.lower.Goals as goal

pub overflow_sub-count : goal.overflow_sub-count
overflow_sub-count g c =
    let tied = ties g.met.K.PartialOrd.laws g.met.K.Ord.matches_partial_cmp in
    let found : row_of g.K.PartialEq.eq c.args.rows.now.entries c.args.key ≡ c.in-Some.count.now
    = found_row g.K.Ord.cmp g.met.K.Eq.laws tied c.args.rows.now.entries c.args.key
    ∙ ap (λ o. unwrap_or o 0) (sym c.in-Some.ensures.value) in
    omega (arith, found, c.row_of.ensures, c.if-row_of-gt1.true)

pub returns-in-Some : goal.returns-in-Some
returns-in-Some g c =
    let tied = ties g.met.K.PartialOrd.laws g.met.K.Ord.matches_partial_cmp in
    let found = found_row g.K.Ord.cmp g.met.K.Eq.laws tied c.args.rows.now.entries c.args.key
    ∙ ap (λ o. unwrap_or o 0) (sym c.in-Some.ensures.value) in
    let wrote = c.get_mut.follows.holds (c.in-Some.count.now - 1) in
    lowered g.K.Ord.cmp g.met.K.Eq.laws tied c.args.rows.now.entries _ c.args.key (Some (c.in-Some.count.now - 1))
    (wrote.3 (ap is_some (sym c.in-Some.ensures.value))).0 (ap (λ n. n - 1) (sym found))

pub returns : goal.returns
returns g c =
    let tied = ties g.met.K.PartialOrd.laws g.met.K.Ord.matches_partial_cmp in
    lowered g.K.Ord.cmp g.met.K.Eq.laws tied c.args.rows.now.entries c.remove-last.new.self.entries c.args.key None
    c.remove-last.ensures.updates.0 (omega (arith, c.row_of.ensures, c.if-row_of-gt1.false))
