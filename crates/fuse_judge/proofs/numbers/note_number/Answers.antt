use Rattle.std.proofs.Common.{◌&&◌, refl, sym, ap, nat_eq}
use Rattle.fuse_sessions.specs.declared.act.Act.TheVariants.{Read, Resent}
use Rattle.fuse_judge.proofs.NumberLaws.{number_read, quiet_numbers, reads_none}
use Rattle.fuse_judge.proofs.Keys.{and_false}
use Rattle.fuse_judge.proofs.numbers.note_number.Goals as goal

pub returns-in-Read-clause-kept : goal.returns-in-Read-clause-kept
returns-in-Read-clause-kept g c = λ s are. rw c.in-Read.is
    (number_read s (Read c.in-Read.opcode c.in-Read.unique) c.args.numbers.now.entries c.set_mark-before.new.numbers.entries
    c.in-Read.unique c.is_forget.result (λ q. (refl, ap (λ b. nat_eq c.in-Read.unique q && b) (sym c.is_forget.ensures))) are
    (c.set_mark-before.ensures.marks are.whole) (c.set_mark-before.ensures.whole are.whole))

pub returns-in-Resent-clause-kept : goal.returns-in-Resent-clause-kept
returns-in-Resent-clause-kept g c = λ s are. rw c.in-Resent.is
    (number_read s (Resent c.in-Resent.unique _) c.args.numbers.now.entries c.set_mark-before-in-Resent.new.numbers.entries
    c.in-Resent.unique _ (λ q. (refl, sym (and_false (nat_eq c.in-Resent.unique q)))) are
    (c.set_mark-before-in-Resent.ensures.marks are.whole) (c.set_mark-before-in-Resent.ensures.whole are.whole))

pub returns-in_default-clause-kept : goal.returns-in_default-clause-kept
returns-in_default-clause-kept g c = λ s are. quiet_numbers s c.args.act _
    (reads_none c.args.act c.in_default.not-Read c.in_default.not-Resent) are
