use Rattle.std.proofs.Common.{ap, sym, ◌∙◌, subst}
use Rattle.std.specs.Option.{option_copied_mut}
use Rattle.fuse_judge.specs.Nodes.{IsNode}
use Rattle.fuse_judge.proofs.NodeLaws.{gave_first, gave_more}
use Rattle.fuse_judge.proofs.PendingLaws.{from_one}
use Rattle.fuse_judge.proofs.nodes.give.Goals as goal

pub returns-in-Some-clause-kept : goal.returns-in-Some-clause-kept
returns-in-Some-clause-kept g c = λ s are.
    rw (c.file_given-row.ensures, c.from.ensures, from_one c.args.is_certain)
    (gave_more s c.args.nodes.now.entries c.args.node c.args.file c.args.is_certain are c.in-Some.row.now
    (sym c.get_mut.ensures.value ∙ ap option_copied_mut c.in-Some.is))

pub returns-in-Some-clause-verdict : goal.returns-in-Some-clause-verdict
returns-in-Some-clause-verdict g c = λ s are. c.fault_of_gift-fault.ensures s c.args.node
    (subst (IsNode s c.args.node) (sym c.get_mut.ensures.value ∙ ap option_copied_mut c.in-Some.is) (are c.args.node))

pub returns-clause-kept : goal.returns-clause-kept
returns-clause-kept g c = λ s are.
    rw (c.put.ensures.entries, c.from-2.ensures, from_one c.args.is_certain, c.file_given.ensures)
    (gave_first s c.args.nodes.now.entries c.args.node c.args.file c.args.is_certain are
    (sym c.get_mut.ensures.value ∙ ap option_copied_mut c.in_default.is))

pub returns-clause-verdict : goal.returns-clause-verdict
returns-clause-verdict g c = λ s are. c.fault_of_gift.ensures s c.args.node
    (subst (IsNode s c.args.node) (sym c.get_mut.ensures.value ∙ ap option_copied_mut c.in_default.is) (are c.args.node))
