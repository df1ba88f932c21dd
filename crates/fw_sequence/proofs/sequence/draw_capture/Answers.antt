use Rattle.std.proofs.Common.{◌∷◌, [], Contains, arith, refl, subst, sym}
use Rattle.fw_draw.proofs.Statuses.{not_0, not_0_or_5, not_1_or_3_of_5, status_of_reading}
use Rattle.fw_sequence.proofs.Statuses.{not_1_or_3_of_0}
use Rattle.fw_sequence.proofs.sequence.draw_capture.Goals as goal

pub returns-in-Err : goal.returns-in-Err
returns-in-Err g c =
    let ended : Contains (1 ∷ 3 ∷ []) c.report.result = subst (Contains (1 ∷ 3 ∷ [])) (sym c.report.ensures.status) c.in-Err.ensures in
    record {
      statuses = status_of_reading c.report.result ended;
      printed = λ at. absurd (not_0 c.report.result ended at);
      silent = λ at. refl;
      no_fault = not_0_or_5 c.report.result ended;
    }

pub returns-in-Ok-print_svg : goal.returns-in-Ok-print_svg
returns-in-Ok-print_svg g c = record {
  statuses = (0, omega arith, refl);
  printed = λ at. (c.as_slice.result.now, c.in-Ok-print_svg.ensures);
  silent = not_1_or_3_of_0;
  no_fault = λ at. refl;
}

pub returns : goal.returns
returns g c = record {
  statuses = (3, omega arith, refl);
  printed = λ at. absurd (cc at);
  silent = not_1_or_3_of_5;
  no_fault = λ at. refl;
}
