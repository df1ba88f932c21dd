use Rattle.std.proofs.Common.{◌∷◌, inl, inr, ap, ◌∙◌}
use Rattle.fk_syscalls.specs.Words.{words_from}
use Rattle.fk_syscalls.proofs.Parents.{parted, before_are_words, last_is_word}
use Rattle.fk_syscalls.proofs.path.split_last_word.Goals as goal

pub returns-in-None-2-clause-parts : goal.returns-in-None-2-clause-parts
returns-in-None-2-clause-parts c =
    let words = c.args.words.now in
    let last = c.loop-next.last in
    let name = c.word_at-next.result.0.now in
    let alone = c.word_at-next.ensures.words ∙ ap (λ at. name ∷ words_from words at) c.in-None-2.is in
    elim c.loop-next.invariant.start [
      | inl same ↦ absurd (c.if-last-first.false same)
      | inr behind ↦ parted words c.args.first last name behind.0 c.loop-next.invariant.within behind.1 alone
    ]

pub returns-in-None-2-clause-left : goal.returns-in-None-2-clause-left
returns-in-None-2-clause-left c =
    let words = c.args.words.now in
    let last = c.loop-next.last in
    let name = c.word_at-next.result.0.now in
    let alone = c.word_at-next.ensures.words ∙ ap (λ at. name ∷ words_from words at) c.in-None-2.is in
    elim c.loop-next.invariant.start [
      | inl same ↦ absurd (c.if-last-first.false same)
      | inr behind ↦ before_are_words words c.args.first last name behind.0 c.loop-next.invariant.within behind.1 alone c.requires
    ]

pub returns-in-None-2-clause-name : goal.returns-in-None-2-clause-name
returns-in-None-2-clause-name c =
    let words = c.args.words.now in
    let last = c.loop-next.last in
    let name = c.word_at-next.result.0.now in
    let alone = c.word_at-next.ensures.words ∙ ap (λ at. name ∷ words_from words at) c.in-None-2.is in
    elim c.loop-next.invariant.start [
      | inl same ↦ absurd (c.if-last-first.false same)
      | inr behind ↦ last_is_word words c.args.first last name behind.0 c.loop-next.invariant.within behind.1 alone c.requires
    ]
