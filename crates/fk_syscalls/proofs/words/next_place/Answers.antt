use Rattle.std.proofs.Common.{subst}
use Rattle.fk_syscalls.specs.Words.{AreWords}
use Rattle.fk_syscalls.proofs.FaultlessWords.{behind_are_words}
use Rattle.fk_syscalls.proofs.words.next_place.Goals as goal

pub returns-in-Some-clause-left : goal.returns-in-Some-clause-left
returns-in-Some-clause-left c =
    let left = subst (λ at. AreWords c.args.words.now at) c.in-Some.is c.requires in
    behind_are_words c.args.words.now c.in-Some.place c.word_at.result.0.now c.word_at.result.1 left c.word_at.ensures.words c.word_at.ensures.place
