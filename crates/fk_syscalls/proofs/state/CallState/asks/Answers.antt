use Rattle.std.proofs.Common.{◌≡◌, List, ◌∷◌, All, [], refl, sym, subst, ◌∙◌, ap}
use Rattle.fuse_spec.specs.Files.Operations.{operation_names, operation_of}
use Rattle.std.proofs.lemmas.List.Elements.{All-head, All-cons, All-nil}
use Rattle.fk_syscalls.specs.Words.{IsWord, words_from}
use Rattle.fk_syscalls.proofs.NamesStay.{names_at}
use Rattle.fk_syscalls.proofs.state.CallState.asks.Goals as goal

pub returns-in-Some-clause-word : goal.returns-in-Some-clause-word
returns-in-Some-clause-word g c =
    let left = rw c.in-Some.is at c.self.invariant.left.words in
    let here = rw c.deref.ensures.value at c.word_at.ensures.words in
    let first = rw here at left in
    All-cons IsWord c.word_at.result.0.now [] (All-head IsWord c.word_at.result.0.now _ first) (All-nil IsWord)

pub returns-in-Last-clause-word : goal.returns-in-Last-clause-word
returns-in-Last-clause-word g c =
    let aim = rw c.in-Walks.is at c.self.invariant.sound in
    let sound = rw c.in-Last.is at aim.0 in
    subst (All IsWord) (sym (ap operation_names c.at.ensures ∙ names_at (operation_of (λ s. s.items) c.in-Last.operation)
    c.self.inside.node)) sound.words
