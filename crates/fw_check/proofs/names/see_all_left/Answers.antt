use Rattle.std.proofs.Common.{◌++◌, List, append-nil, arith, subst, sym, take}
use Rattle.std.specs.List.{flat_map}
use Rattle.std.proofs.lemmas.List.{take_all}
use Rattle.fuse_sessions.specs.declared.act.Act.{Act}
use Rattle.name_sessions.specs.NameFrames.{leaves}
use Rattle.name_sessions.specs.NameSessions.{NameSession}
use Rattle.name_judge.specs.Judged.{HasSeen}
use Rattle.fw_check.proofs.NameLaws.{left_more}
use Rattle.fw_check.proofs.names.see_all_left.Goals as goal

pub loop-act-init : goal.loop-act-init
loop-act-init g c = λ n later seen stands.
    subst (λ (l : NameSession). HasSeen l c.args.names.now) (sym (append-nil n)) seen

pub loop-act-preserved : goal.loop-act-preserved
loop-act-preserved g c = λ n later seen stands.
    let acts = c.args.acts.now in
    subst (λ (l : NameSession). HasSeen l c.see_left.new.names)
    (left_more n (leaves later) acts c.loop-act.act-index _ (omega arith))
    (c.see_left.ensures (n ++ flat_map (leaves later) (take c.loop-act.act-index acts)) later
    (c.loop-act.invariant n later seen stands) stands)

pub returns : goal.returns
returns g c = λ n later seen stands.
    let acts = c.args.acts.now in
    subst (λ (l : List Act). HasSeen (n ++ flat_map (leaves later) l) c.loop-act.names)
    (take_all c.loop-act.act-index acts (omega arith)) (c.loop-act.invariant n later seen stands)
