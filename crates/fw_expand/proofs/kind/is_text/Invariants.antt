use Rattle.std.proofs.Common.{◌≡◌, drop}
use Rattle.fw_expand.specs.Expanding.{is_text}
use Rattle.fw_expand.proofs.kind.is_text.Given as goal

-- what is left to look at
abbrev pub invariant-loop-byte : goal.invariant-loop-byte
invariant-loop-byte l = is_text (drop l.byte-index l.word) ≡ is_text l.word
