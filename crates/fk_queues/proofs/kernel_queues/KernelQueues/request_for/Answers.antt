use Rattle.std.proofs.Common.{ℕ, ap, ◌∙◌}
use Rattle.std.specs.Prelude.{find, nat_eq, option_map}
use Rattle.fk_queues.proofs.Served.{first_served}
use Rattle.fk_queues.proofs.kernel_queues.KernelQueues.request_for.Goals as goal

pub returns : goal.returns
returns g c =
    let es = (g.Q.QueueTable.state c.self.inside.queues).requests in
    rw (← c.self.view_is)
    (c.request_in.ensures ∙ ap (λ m. option_map (λ (e : ℕ × ℕ). e.0) (find (λ (e : ℕ × ℕ). nat_eq e.1 c.args.call) m))
    (c.rows.ensures ∙ c.self.invariant.served) ∙ first_served c.args.call es)
