use Rattle.std.proofs.Common.{sym, ◌∙◌, arith}
use Rattle.fk_syscalls.proofs.Splits.{word_there, slash_before, last_there}
use Rattle.fk_syscalls.proofs.words.word_at.Goals as goal

pub returns-in-Some-clause-words : goal.returns-in-Some-clause-words
returns-in-Some-clause-words c = word_there c.args.words.now c.args.place c.in-Some.len
    (sym c.first_slash.ensures ∙ c.in-Some.is)

pub returns-in-Some-clause-behind : goal.returns-in-Some-clause-behind
returns-in-Some-clause-behind c = (
  omega arith,
  slash_before c.args.words.now c.args.place c.in-Some.len
      (sym c.first_slash.ensures ∙ c.in-Some.is),
)

pub returns-in-None-clause-words : goal.returns-in-None-clause-words
returns-in-None-clause-words c = last_there c.args.words.now c.args.place (sym c.first_slash.ensures ∙ c.in-None.is)
