use Rattle.std.proofs.Common.{◌≡◌, ◌++◌}
use Rattle.std.specs.Prelude.{option_copied}
use Rattle.fw_json.specs.Fields.{more_listed}
use Rattle.fuse_text.specs.Words.{words_left}
use Rattle.fw_json.proofs.field.put_more.Given as goal

-- what was put, and what is left to put
abbrev pub invariant-loop-word : goal.invariant-loop-word
invariant-loop-word g l =
    l.initial.text.items ++ more_listed (words_left (option_copied l.fn.rest))
    ≡ l.text.items ++ more_listed (words_left (option_copied l.word-iterator.rest))
