use Rattle.std.proofs.Common.{subst}
use Rattle.fk_syscalls.specs.Words.{AreWords}
use Rattle.fk_syscalls.proofs.FaultlessWords.{copied_are_words}
use Rattle.fk_syscalls.proofs.state.CallState.new.Goals as goal

pub invariant_of-result : goal.invariant_of-result
invariant_of-result g c =
    let left = subst (λ at. AreWords c.args.words.now at) c.in-Some.is c.requires.left in
    let copied = c.in_ok-to_vec-in-Some.ensures.items_if_clones_equal (λ x y e. e) in
    record {
      left = rw copied (copied_are_words c.args.words.now c.in-Some.place left);
      sound = (c.in_ok-plan.ensures.sound, λ none. cc);
    }
