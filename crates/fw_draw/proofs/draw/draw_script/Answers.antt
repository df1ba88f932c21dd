use Rattle.std.proofs.Common.{arith, refl}
use Rattle.fw_draw.proofs.Statuses.{not_0, not_0_or_5, not_0_or_5_of_3, not_1_or_3_of_5, status_of_reading}
use Rattle.fw_draw.proofs.draw.draw_script.Goals as goal

pub returns-in-Err : goal.returns-in-Err
returns-in-Err g c = record {
  statuses = status_of_reading c.in-Err.status c.in-Err.ensures.statuses;
  judged = not_0_or_5 c.in-Err.status c.in-Err.ensures.statuses;
  printed = λ at. absurd (not_0 c.in-Err.status c.in-Err.ensures.statuses at);
  silent = λ at. refl;
  fault = c.in-Err.ensures.fault;
  no_memory = c.in-Err.ensures.no_memory;
  no_fault = not_0_or_5 c.in-Err.status c.in-Err.ensures.statuses;
}

pub returns-in_default : goal.returns-in_default
returns-in_default g c = rw c.no_memory.ensures.status
    (record {
      statuses = (2, omega arith, refl);
      judged = not_0_or_5_of_3;
      printed = λ at. absurd (cc at);
      silent = λ at. refl;
      fault = λ at. absurd (cc at);
      no_memory = λ at. rw c.in-Ok.ensures.no_fault at c.no_memory.ensures.said;
      no_fault = not_0_or_5_of_3;
    })

pub returns : goal.returns
returns g c = record {
  statuses = (3, omega arith, refl);
  judged = λ at. c.in-Ok.ensures.judged;
  printed = λ at. absurd (cc at);
  silent = not_1_or_3_of_5;
  fault = λ at. absurd (cc at);
  no_memory = λ at. absurd (cc at);
  no_fault = λ at. c.in-Ok.ensures.no_fault;
}
