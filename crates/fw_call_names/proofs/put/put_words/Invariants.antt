use Rattle.std.proofs.Common.{◌≡◌, ◌++◌, ◌∷◌, drop}
use Rattle.std.specs.Prelude.{flat_map, map}
use Rattle.fw_call_names.proofs.put.put_words.Given as goal

-- what was put, and what is left to put
abbrev pub invariant-loop-word : goal.invariant-loop-word
invariant-loop-word g l =
    l.line.items ++ flat_map (λ word. 32 ∷ word) (map (λ word. word.now) (drop l.word-index l.words))
    ≡ l.initial.line.items ++ flat_map (λ word. 32 ∷ word) (map (λ word. word.now) l.words)
