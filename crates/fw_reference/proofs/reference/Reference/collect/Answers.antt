use Rattle.std.proofs.Common.{ap, refl}
use Rattle.std.specs.Prelude.{option_map}
use Rattle.fw_reference.proofs.GoingOn.{collects_on}
use Rattle.fw_reference.proofs.reference.Reference.collect.Goals as goal

pub returns-in-Some : goal.returns-in-Some
returns-in-Some g c = record {
  answer = ap (option_map (λ r. r.1)) c.in-Some.ensures.answer;
  goes_on = (collects_on (λ r. r.0) _ c.collect.result _ c.collect.ensures.none c.collect.ensures.taken, refl);
}

pub returns-in-None : goal.returns-in-None
returns-in-None g c = record {
  answer = ap (option_map (λ r. r.1)) c.in-None.ensures.answer;
  goes_on = (collects_on (λ r. r.0) _ c.collect.result _ c.collect.ensures.none c.collect.ensures.taken, refl);
}
