use Rattle.std.proofs.Common.{◌≡◌, ◌++◌, ◌∷◌, []}
use Rattle.std.specs.Prelude.{flat_map, option_copied}
use Rattle.fuse_text.specs.Lines.{lines_left}
use Rattle.fw_call_names.specs.CallNames.{names_of}
use Rattle.fw_call_names.specs.PlainScripts.{plain_lines, plain_script}
use Rattle.fw_call_names.proofs.plain.put_all.Given as goal

-- what was put, and what is left to put
abbrev pub invariant-loop-raw : goal.invariant-loop-raw
invariant-loop-raw g l =
    flat_map (λ line. line ++ 10 ∷ []) (plain_script l.fn.script)
    ≡ l.text.items ++ flat_map (λ line. line ++ 10 ∷ [])
    (plain_lines (names_of l.names.items) (lines_left (option_copied l.raw-iterator.rest)))
