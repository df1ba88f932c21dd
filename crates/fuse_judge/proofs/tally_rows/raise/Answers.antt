use Rattle.std.proofs.Common.{◌≡◌, ◌+◌, Some, sym, ◌∙◌, ap, is_some, arith}
use Rattle.std.specs.Prelude.{unwrap_or}
use Rattle.std.specs.Cmp.{ties}
use Rattle.std.specs.Option.{option_copied_mut}
use Rattle.fuse_judge.specs.Tallies.{row_of}
use Rattle.fuse_judge.proofs.TallyLaws.{found_row, raised}
use Rattle.fuse_judge.proofs.tally_rows.raise.Goals as goal

pub overflow_add-count : goal.overflow_add-count
overflow_add-count g c =
    let tied = ties g.met.K.PartialOrd.laws g.met.K.Ord.matches_partial_cmp in
    let found : row_of g.K.PartialEq.eq c.args.rows.now.entries c.args.key ≡ c.in-Some.count.now
    = found_row g.K.Ord.cmp g.met.K.Eq.laws tied c.args.rows.now.entries c.args.key
    ∙ ap (λ o. unwrap_or o 0) (sym c.in-Some.ensures.value) in
    omega (arith, found, c.requires)

pub returns-in-Some-clause-raised : goal.returns-in-Some-clause-raised
returns-in-Some-clause-raised g c = λ _.
    let tied = ties g.met.K.PartialOrd.laws g.met.K.Ord.matches_partial_cmp in
    let found = found_row g.K.Ord.cmp g.met.K.Eq.laws tied c.args.rows.now.entries c.args.key
    ∙ ap (λ o. unwrap_or o 0) (sym c.in-Some.ensures.value) in
    let wrote = c.get_mut.follows.holds (c.in-Some.count.now + 1) in
    raised g.K.Ord.cmp g.met.K.Eq.laws tied c.args.rows.now.entries _ c.args.key (Some (c.in-Some.count.now + 1))
    (wrote.3 (ap is_some (sym c.in-Some.ensures.value))).0 (ap (λ n. n + 1) (sym found))

pub returns-in-Ok-clause-raised : goal.returns-in-Ok-clause-raised
returns-in-Ok-clause-raised g c = λ _.
    let tied = ties g.met.K.PartialOrd.laws g.met.K.Ord.matches_partial_cmp in
    let none = found_row g.K.Ord.cmp g.met.K.Eq.laws tied c.args.rows.now.entries c.args.key
    ∙ ap (λ o. unwrap_or o 0) (sym c.get_mut.ensures.value ∙ ap option_copied_mut c.in_default.is) in
    raised g.K.Ord.cmp g.met.K.Eq.laws tied c.args.rows.now.entries c.insert.new.self.entries c.args.key (Some 1)
    (rw c.get_mut.follows.holds-at-none at c.in-Ok.ensures.updates.0) (ap (λ n. n + 1) (sym none))
