use Rattle.std.proofs.Common.{ℕ, List, subst}
use Rattle.std.specs.Prelude.{MatchOption}
use Rattle.fuse_spec.specs.Server.Server.{Server}
use Rattle.fs_server.specs.Faults.{IsAnswerable, IsFaultReply}
use Rattle.fs_server.proofs.server.ServerOf.step_take.Goals as goal

pub returns-in-Err-clause-refused : goal.returns-in-Err-clause-refused
returns-in-Err-clause-refused g c = record {
  refused = c.in-Err.ensures.effect;
  memory = λ is. (c.in-Err.ensures.can is, c.in-Err.ensures.memory is);
  says = subst (λ (s : Server). MatchOption c.fault_reply.result (IsAnswerable c.args.bytes.now c.in-Err.fault → ⊥)
      (λ reply. IsFaultReply s.minor c.args.bytes.now c.in-Err.fault reply)) c.in-Err.ensures.refused c.fault_reply.ensures;
}
