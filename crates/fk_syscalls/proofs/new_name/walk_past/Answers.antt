use Rattle.std.proofs.Common.{rules, subst}
use Rattle.fk_syscalls.specs.Words.{AreWords}
use Rattle.fk_syscalls.proofs.FaultlessWords.{behind_are_words}
use Rattle.fk_syscalls.proofs.new_name.walk_past.Goals as goal

pub loop-stop-preserved : goal.loop-stop-preserved
loop-stop-preserved g c =
    let words = c.args.words.now in
    let left = subst (λ at. AreWords words at) c.in-Some.is c.loop-stop.invariant.left in
    record {
      left = behind_are_words words c.in-Some.place c.word_at-next.result.0.now c.word_at-next.result.1 left c.word_at-next.ensures.words c.word_at-next.ensures.place;
      walked = search rules;
    }
