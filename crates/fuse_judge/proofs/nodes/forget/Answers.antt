use Rattle.std.proofs.Common.{ap, sym, ◌∙◌, subst}
use Rattle.std.specs.Option.{option_copied_mut}
use Rattle.fuse_judge.specs.Nodes.{IsNode}
use Rattle.fuse_judge.proofs.NodeLaws.{forgot_none, forgot_some}
use Rattle.fuse_judge.proofs.nodes.forget.Goals as goal

pub returns-in-Some-clause-kept : goal.returns-in-Some-clause-kept
returns-in-Some-clause-kept g c = λ s are. rw (c.saturating_sub-row.ensures, c.saturating_sub-row-in-Some.ensures)
    (forgot_some s c.args.nodes.now.entries c.args.node c.args.lookups are c.in-Some.row.now
    (sym c.get_mut.ensures.value ∙ ap option_copied_mut c.in-Some.is))

pub returns-in-Some-clause-verdict : goal.returns-in-Some-clause-verdict
returns-in-Some-clause-verdict g c = λ s are used. c.fault_of_forget.ensures s
    (subst (IsNode s c.args.node) (sym c.get_mut.ensures.value ∙ ap option_copied_mut c.in-Some.is) (are c.args.node)).most
    used

pub returns-clause-kept : goal.returns-clause-kept
returns-clause-kept g c = λ s are. forgot_none s c.args.nodes.now.entries c.args.node c.args.lookups are
    (sym c.get_mut.ensures.value ∙ ap option_copied_mut c.in_default.is)

pub returns-clause-verdict : goal.returns-clause-verdict
returns-clause-verdict g c = λ s are used. c.fault_of_forget-2.ensures s
    (subst (IsNode s c.args.node) (sym c.get_mut.ensures.value ∙ ap option_copied_mut c.in_default.is) (are c.args.node)).1
    used
