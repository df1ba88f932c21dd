use Rattle.std.proofs.Common.{◌∙◌}
use Rattle.std.specs.Cmp.{ties}
use Rattle.fw_check.proofs.HeldLaws.{as_many}
use Rattle.fw_check.proofs.held.held_keys.Goals as goal

pub returns : goal.returns
returns g c keys members =
    let tied = ties g.met.K.PartialOrd.laws g.met.K.Ord.matches_partial_cmp in
    c.len.ensures.len
    ∙ as_many g.K.Ord.cmp g.met.K.Eq.laws tied c.args.held.now.entries keys c.len.ensures.ordered members
