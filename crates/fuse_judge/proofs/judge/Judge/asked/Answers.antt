use Rattle.std.proofs.Common.{◌∙◌, ap, sym, subst}
use Rattle.std.specs.Option.{option_copied}
use Rattle.fuse_judge.specs.Pending.{IsWaiting}
use Rattle.fuse_judge.specs.Seen.{HasSeen}
use Rattle.fuse_judge.proofs.PendingLaws.{pending_waiting}
use Rattle.fuse_judge.proofs.judge.Judge.asked.Goals as goal

pub returns-in-Some : goal.returns-in-Some
returns-in-Some g c = λ s seen.
    let right : HasSeen s _ = subst (HasSeen s) (sym c.self.view_is) seen in
    sym (subst (IsWaiting s c.args.unique) (sym c.get.ensures ∙ ap option_copied c.in-Some.is)
    (pending_waiting s _ _ _ right.right_pending c.args.unique)).0

pub returns-in-None : goal.returns-in-None
returns-in-None g c = λ s seen.
    let right : HasSeen s _ = subst (HasSeen s) (sym c.self.view_is) seen in
    sym (subst (IsWaiting s c.args.unique) (sym c.get.ensures ∙ ap option_copied c.in-None.is)
    (pending_waiting s _ _ _ right.right_pending c.args.unique))
