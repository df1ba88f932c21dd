use Rattle.std.proofs.Common.{◌≡◌, ◌++◌, ◌∷◌, []}
use Rattle.std.specs.Prelude.{flat_map, map, option_copied}
use Rattle.fuse_text.specs.Lines.{lines_left}
use Rattle.fw_expand.specs.Scripts.{expandable_script, judged_line}
use Rattle.fw_expand.proofs.script.put_all.Given as goal

-- what was put, and what is left to put
abbrev pub invariant-loop-raw : goal.invariant-loop-raw
invariant-loop-raw g l =
    flat_map (λ line. line ++ 10 ∷ []) (expandable_script l.is_of_calls l.fn.script)
    ≡ l.text.items ++ flat_map (λ line. line ++ 10 ∷ [])
    (map (judged_line l.is_of_calls) (lines_left (option_copied l.raw-iterator.rest)))
