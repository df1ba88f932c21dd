use Rattle.std.proofs.Common.{ap, sym}
use Rattle.fw_orders.specs.Found.{FinishEnds, SearchEnds}
use Rattle.fw_orders.specs.Saying.{parts_of}
use Rattle.fw_orders.proofs.Found.{prints, search_ends}
use Rattle.fw_orders.proofs.Making.{if_err}
use Rattle.fw_orders.proofs.Steps.{on_ok}
use Rattle.fw_orders.proofs.run.print_parts.Goals as goal

pub returns-in-Ok-default-clause-printed : goal.returns-in-Ok-default-clause-printed
returns-in-Ok-default-clause-printed g c =
    let found = rw c.in-Ok-default.is-0 at c.search-found.ensures in
    on_ok c.finish.result
    (λ finish. prints (parts_of c.new-orders.result.parts.now) (parts_of c.args.parts.now)
    (ap parts_of c.new-orders.ensures) _ c.args.wanted c.in-Ok-default.found _ _ found _ _ _ (λ orders printed. rw (c.out-1.given.1 (sym printed.0)) printed.1)
    finish)
    c.finish.ensures.finished

pub returns-in-Ok-default-clause-ends : goal.returns-in-Ok-default-clause-ends
returns-in-Ok-default-clause-ends g c =
    let found = rw c.in-Ok-default.is-0 at c.search-found.ensures in
    if_err (FinishEnds c.in-Ok-default.found) (SearchEnds (parts_of c.args.parts.now)) c.finish.result
    (search_ends (parts_of c.new-orders.result.parts.now) (parts_of c.args.parts.now) (ap parts_of c.new-orders.ensures)
    _ c.args.wanted c.in-Ok-default.found _ _ found)
    c.finish.ensures.ends
