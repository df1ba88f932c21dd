use Rattle.std.proofs.Common.{◌++◌, Bool, List, [], ◌∷◌, cond, append-nil, sym, subst, ◌∙◌}
use Rattle.fuse_sessions.specs.declared.act.Act.{Act}
use Rattle.name_sessions.specs.NameActs.{NameAct, Leaves}
use Rattle.name_sessions.specs.NameFrames.{leaves}
use Rattle.name_judge.specs.Judged.{HasSeen}
use Rattle.fw_check.proofs.names.see_left.Goals as goal

pub returns-then-is_left : goal.returns-then-is_left
returns-then-is_left g c = λ n later seen stands.
    subst (λ (a : Act). HasSeen (n ++ leaves later a) c.forget.new.self) (sym c.in-Forgets.is)
    (subst (λ (b : Bool). HasSeen (n ++ cond b (Leaves c.in-Forgets.node ∷ []) []) c.forget.new.self)
    (sym c.if-is_left.true ∙ c.is_left.ensures later stands) (c.forget.ensures n seen))

pub returns-else-is_left : goal.returns-else-is_left
returns-else-is_left g c = λ n later seen stands.
    subst (λ (a : Act). HasSeen (n ++ leaves later a) c.args.names.now) (sym c.in-Forgets.is)
    (subst (λ (b : Bool). HasSeen (n ++ cond b (Leaves c.in-Forgets.node ∷ []) []) c.args.names.now)
    (sym c.if-is_left.false ∙ c.is_left.ensures later stands)
    (subst (λ (l : List NameAct). HasSeen l c.args.names.now) (sym (append-nil n)) seen))
