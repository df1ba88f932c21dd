use Rattle.fw_world.proofs.InOrder.{has_failed, not_failed}
use Rattle.fw_world.proofs.laws.lost_where_failed.Goals as goal

pub returns-clause-lost : goal.returns-clause-lost
returns-clause-lost g c = λ s after first last events records recorded idle before gone.
    has_failed g.L.Link.carries g.L.Link.failed g.L.LinkInOrder.is_idle g.met.L.LinkInOrder.in_order g.met.L.LinkInOrder.stays_idle s after first last events records recorded idle before gone

pub returns-clause-kept : goal.returns-clause-kept
returns-clause-kept g c =
    λ s after first last events records recorded kept. not_failed g.L.Link.carries g.L.Link.failed s after first last events records recorded kept
