use Rattle.std.proofs.Common.{ap, subst, sym}
use Rattle.order_law.specs.Moments.{Act, Acts, by_forgets}
use Rattle.fw_orders.specs.Saying.{act_of}
use Rattle.fw_orders.proofs.Steps.{on_ok}
use Rattle.fw_orders.proofs.moment.Moment.act.Goals as goal

pub returns-in-Forget : goal.returns-in-Forget
returns-in-Forget g c = on_ok c.forget.result
    (λ forgotten. subst (λ (act : Act). Acts c.args.self.now act c.forget.new.self) (sym (ap act_of c.in-Forget.is))
    (by_forgets c.forget.new.self forgotten)) c.forget.ensures
