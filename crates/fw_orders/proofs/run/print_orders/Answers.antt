use Rattle.std.proofs.Common.{ℕ, List, inr, subst}
use Rattle.fw_orders.specs.Found.{SaysStop}
use Rattle.fw_orders.proofs.Statuses.{of_known, unread}
use Rattle.fw_orders.proofs.run.print_orders.Goals as goal

pub returns-in-Err-clause-statuses : goal.returns-in-Err-clause-statuses
returns-in-Err-clause-statuses g c = unread c.in-Err.status c.in-Err.ensures.statuses

pub returns-in-Ok-clause-why : goal.returns-in-Ok-clause-why
returns-in-Ok-clause-why g c one =
    let SaysIt : List ℕ → Type 0 =
    λ s. SaysStop s (g.F.Write.contents c.read_file.new.faults) (g.F.Write.contents c.print_text.new.faults) in
    inr (rw c.in-Ok.ensures.silent at (of_known SaysIt (g.R.Read.remaining c.args.input.now) c.in-Ok.text.items
    c.in-Ok.ensures.ok (subst SaysIt c.as_slice.ensures.value (c.print_text.ensures.why one))))
