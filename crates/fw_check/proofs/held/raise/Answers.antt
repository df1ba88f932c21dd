use Rattle.std.proofs.Common.{◌≡◌, ◌+◌, Some, sym, ◌∙◌, ap, is_some, arith}
use Rattle.std.specs.Cmp.{ties}
use Rattle.std.specs.Option.{option_copied_mut}
use Rattle.fw_check.specs.Held.{any_of}
use Rattle.fw_check.proofs.HeldLaws.{found, found_none, plus_one, updated}
use Rattle.fw_check.proofs.held.raise.Goals as goal

pub returns-in-Some : goal.returns-in-Some
returns-in-Some g c count later held is =
    let tied = ties g.met.K.PartialOrd.laws g.met.K.Ord.matches_partial_cmp in
    let more = c.in-Some-checked_add.more in
    let wrote = c.get_mut.follows.holds more in
    let here : count c.args.key ≡ c.in-Some.count.now
    = found g.K.Ord.cmp g.met.K.Eq.laws tied c.args.held.now.entries count c.args.key held (sym c.in-Some.ensures.value) in
    let one : more ≡ c.in-Some.count.now + 1 = grind (arith, c.checked_add.ensures, c.in-Some-checked_add.is, c.in-Some-checked_add.ensures) in
    updated g.K.Ord.cmp g.met.K.Eq.laws tied c.args.held.now.entries _ count later c.args.key (Some more) held
    (wrote.3 (ap is_some (sym c.in-Some.ensures.value))).0 (λ n. n + 1)
    (ap Some (one ∙ ap (λ n. n + 1) (sym here)) ∙ plus_one (count c.args.key)) is

pub returns-in-Ok : goal.returns-in-Ok
returns-in-Ok g c count later held is =
    let tied = ties g.met.K.PartialOrd.laws g.met.K.Ord.matches_partial_cmp in
    let here : count c.args.key ≡ 0
    = found_none g.K.Ord.cmp g.met.K.Eq.laws tied c.args.held.now.entries count c.args.key held
    (sym c.get_mut.ensures.value ∙ ap option_copied_mut c.in_default.is) in
    updated g.K.Ord.cmp g.met.K.Eq.laws tied c.args.held.now.entries c.insert.new.self.entries count later c.args.key
    (Some 1) held (rw c.get_mut.follows.holds-at-none at c.in-Ok.ensures.updates.0) (λ n. n + 1)
    (ap (λ n. any_of (n + 1)) (sym here)) is
