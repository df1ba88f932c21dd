use Rattle.std.proofs.Common.{option_copied, ap, sym, ◌∙◌}
use Rattle.fuse_spec.specs.World.Worlds.{World}
use Rattle.fw_world.proofs.LastFrames.{none_stands_last}
use Rattle.fw_world.proofs.sides.SidesOf.last_result.Goals as goal

pub returns-in-None-clause-none : goal.returns-in-None-clause-none
returns-in-None-clause-none g c =
    sym (ap (λ (w : World). w.results) c.self.view_is)
    ∙ none_stands_last c.self.inside.results.items (sym (ap option_copied c.in-None.is) ∙ c.last.ensures)
