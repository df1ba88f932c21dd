use Rattle.std.proofs.Common.{ap, sym, ◌∙◌}
use Rattle.fw_check.specs.Past.{count_then}
use Rattle.fw_check.proofs.past.count_then.Goals as goal

pub returns-in-Given : goal.returns-in-Given
returns-in-Given g c s stands = sym (c.count_of_node.ensures s stands) ∙ ap (count_then s) (sym c.in-Given.is)

pub returns-in-Forgotten : goal.returns-in-Forgotten
returns-in-Forgotten g c s stands = sym (c.count_of_node-in-Forgotten.ensures s stands) ∙ ap (count_then s) (sym c.in-Forgotten.is)
