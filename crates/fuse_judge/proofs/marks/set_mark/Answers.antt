use Rattle.std.proofs.Common.{Some, None, ap, sym, ◌∙◌}
use Rattle.std.specs.Option.{option_copied_mut}
use Rattle.fuse_judge.proofs.MarkLaws.{marks_read, whole_read}
use Rattle.fuse_judge.proofs.marks.set_mark.Goals as goal

pub returns-in-Some-clause-marks : goal.returns-in-Some-clause-marks
returns-in-Some-clause-marks g c = λ whole q.
    marks_read c.args.numbers.now.entries c.args.unique c.read.result whole (Some c.in-Some.block.now) c.args.is_forget
    (sym c.get_mut.ensures.value ∙ ap option_copied_mut c.in-Some.is) c.read.ensures q

pub returns-in-Some-clause-whole : goal.returns-in-Some-clause-whole
returns-in-Some-clause-whole g c = λ whole.
    whole_read c.args.numbers.now.entries c.args.unique c.read.result whole (Some c.in-Some.block.now)
    (sym c.get_mut.ensures.value ∙ ap option_copied_mut c.in-Some.is)

pub returns-clause-marks : goal.returns-clause-marks
returns-clause-marks g c = λ whole q. rw c.put.ensures.entries
    (marks_read c.args.numbers.now.entries c.args.unique c.read-2.result whole None c.args.is_forget
    (sym c.get_mut.ensures.value ∙ ap option_copied_mut c.in_default.is) c.read-2.ensures q)

pub returns-clause-whole : goal.returns-clause-whole
returns-clause-whole g c = λ whole. rw c.put.ensures.entries
    (whole_read c.args.numbers.now.entries c.args.unique c.read-2.result whole None
    (sym c.get_mut.ensures.value ∙ ap option_copied_mut c.in_default.is))
