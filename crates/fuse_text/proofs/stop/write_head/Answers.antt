use Rattle.std.proofs.Common.{append_assoc, codes}
use Rattle.std.specs.Prelude.{decimal}
use Rattle.fuse_text.proofs.Writes.{refused_1, refused_2, refused_3}
use Rattle.fuse_text.proofs.stop.write_head.Goals as goal

pub returns-in_err-write_text-clause-refused : goal.returns-in_err-write_text-clause-refused
returns-in_err-write_text-clause-refused g c =
    let digits = decimal c.args.number in
    refused_1 _ _ _ (codes "line ") digits (codes ": ") _ (append_assoc (codes "line ") digits (codes ": "))
    c.in_err-write_text.ensures.refused

pub returns-in_err-write_number-clause-refused : goal.returns-in_err-write_number-clause-refused
returns-in_err-write_number-clause-refused g c =
    let digits = decimal c.args.number in
    refused_2 _ _ _ _ (codes "line ") digits (codes ": ") _ (append_assoc (codes "line ") digits (codes ": "))
    c.in_ok-write_text.ensures.ok c.in_err-write_number.ensures.refused

pub returns-clause-refused : goal.returns-clause-refused
returns-clause-refused g c =
    let digits = decimal c.args.number in
    refused_3 c.write_text-2.result _ _ _ _ (codes "line ") digits (codes ": ") _
    (append_assoc (codes "line ") digits (codes ": ")) c.in_ok-write_text.ensures.ok c.in_ok-write_number.ensures.ok
    c.write_text-2.ensures.refused
