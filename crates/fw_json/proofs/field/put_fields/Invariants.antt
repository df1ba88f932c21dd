use Rattle.std.proofs.Common.{◌≡◌, ◌++◌, ℕ, List, Some, drop, option_copied}
use Rattle.std.specs.Fmt.{option_append}
use Rattle.fuse_text.specs.Words.{words_left}
use Rattle.fw_json.specs.Fields.{fields}
use Rattle.fw_json.proofs.field.put_fields.Given as goal

-- what was put, and what is left to put
abbrev pub invariant-loop-key : goal.invariant-loop-key
invariant-loop-key g l = (done : List ℕ) × (l.text.items ≡ l.initial.text.items ++ done)
    × (fields l.keys l.list_key (words_left (option_copied l.initial.rest))
    ≡ option_append (Some done) (fields (drop l.key-index l.keys) l.list_key (words_left (option_copied l.rest))))
