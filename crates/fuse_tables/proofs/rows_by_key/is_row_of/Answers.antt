use Rattle.std.proofs.Common.{arith}
use Rattle.std.proofs.lemmas.Bool.Decides.{nat_tests}
use Rattle.fuse_tables.proofs.Rows.{row_there, none_past, none_other}
use Rattle.fuse_tables.proofs.rows_by_key.is_row_of.Goals as goal

pub returns-then-place-len-clause-absent : goal.returns-then-place-len-clause-absent
returns-then-place-len-clause-absent g c = λ _. none_past c.args.rows.now.items c.args.key c.args.place
    c.requires.sorted c.requires.place (omega arith)

pub returns-clause-there : goal.returns-clause-there
returns-clause-there g c = λ same. row_there c.args.rows.now.items c.args.key c.args.place c.index-row.result.now
    c.requires.place (omega arith) (omega arith) c.index-row.ensures (grind (arith, nat_tests))

pub returns-clause-absent : goal.returns-clause-absent
returns-clause-absent g c = λ other. none_other c.args.rows.now.items c.args.key c.args.place c.index-row.result.now
    c.requires.sorted c.requires.place (omega arith) (omega arith) c.index-row.ensures (grind (arith, nat_tests))
