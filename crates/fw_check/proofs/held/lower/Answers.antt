use Rattle.std.proofs.Common.{◌≡◌, ◌-◌, Some, None, sym, ◌∙◌, ap, is_some, arith}
use Rattle.std.specs.Prelude.{unwrap_or}
use Rattle.std.specs.Cmp.{ties}
use Rattle.fw_check.proofs.HeldLaws.{found, count_in_row, less_none, less_some, row_is, updated}
use Rattle.fw_check.proofs.held.lower.Goals as goal

pub overflow_sub-count : goal.overflow_sub-count
overflow_sub-count g c =
    let tied = ties g.met.K.PartialOrd.laws g.met.K.Ord.matches_partial_cmp in
    let row = row_is g.K.Ord.cmp g.met.K.Eq.laws tied c.args.held.now.entries c.args.key c.in-Some.count.now
    (sym c.in-Some.ensures.value) in
    omega (arith, row, c.count_of.ensures, c.if-count_of-less.true)

pub returns-in-Some : goal.returns-in-Some
returns-in-Some g c count later held is =
    let tied = ties g.met.K.PartialOrd.laws g.met.K.Ord.matches_partial_cmp in
    let left = c.in-Some.count.now - c.args.less in
    let wrote = c.get_mut.follows.holds left in
    let row = row_is g.K.Ord.cmp g.met.K.Eq.laws tied c.args.held.now.entries c.args.key c.in-Some.count.now
    (sym c.in-Some.ensures.value) in
    let here : count c.args.key ≡ c.in-Some.count.now
    = found g.K.Ord.cmp g.met.K.Eq.laws tied c.args.held.now.entries count c.args.key held (sym c.in-Some.ensures.value) in
    updated g.K.Ord.cmp g.met.K.Eq.laws tied c.args.held.now.entries _ count later c.args.key (Some left) held
    (wrote.3 (ap is_some (sym c.in-Some.ensures.value))).0 (λ n. n - c.args.less)
    (ap (λ n. Some (n - c.args.less)) (sym here)
    ∙ less_some (count c.args.key) c.args.less (omega (arith, here, row, c.count_of.ensures, c.if-count_of-less.true))) is

pub returns : goal.returns
returns g c count later held is =
    let tied = ties g.met.K.PartialOrd.laws g.met.K.Ord.matches_partial_cmp in
    let here : count c.args.key ≡ c.count_of.result
    = sym (c.count_of.ensures ∙ ap (λ o. unwrap_or o 0) (held c.args.key) ∙ count_in_row (count c.args.key)) in
    updated g.K.Ord.cmp g.met.K.Eq.laws tied c.args.held.now.entries c.remove-last.new.self.entries count later c.args.key
    None held c.remove-last.ensures.updates.0 (λ n. n - c.args.less)
    (less_none (count c.args.key) c.args.less (omega (arith, here, c.if-count_of-less.false))) is
