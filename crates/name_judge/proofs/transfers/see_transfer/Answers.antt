use Rattle.std.proofs.Common.{sym, subst}
use Rattle.fuse_sessions.specs.declared.transfer.Transfer.{Transfer}
use Rattle.name_sessions.specs.NameFrames.{AreNameActs}
use Rattle.name_judge.specs.Seen.{IsVerdict}
use Rattle.name_judge.proofs.Results.{if_ok}
use Rattle.name_judge.proofs.transfers.see_transfer.Goals as goal

pub returns-in-Request : goal.returns-in-Request
returns-in-Request g c = if_ok _ _ c.see_read.result (λ verdict is s are sure.
    subst (λ (t : Transfer). IsVerdict (AreNameActs c.args.agreed s t) s c.see_read.new.tables verdict)
    (sym c.in-Request.is) (is s are sure)) c.see_read.ensures

pub returns-in-Written : goal.returns-in-Written
returns-in-Written g c = if_ok _ _ c.see_write.result (λ verdict is s are sure.
    subst (λ (t : Transfer). IsVerdict (AreNameActs c.args.agreed s t) s c.see_write.new.tables verdict)
    (sym c.in-Written.is) (is s are sure)) c.see_write.ensures
