use Rattle.std.proofs.Common.{◌≡◌, ◌<◌, ◌≤◌, ◌^◌, ℕ, get_or, take}
use Rattle.std.specs.Str.Parse.{digits_value}
use Rattle.fuse_text.proofs.number.value_of_digits.Given as goal

abbrev pub invariant-loop-byte : goal.invariant-loop-byte
invariant-loop-byte l = record {
  fits : l.number < 2 ^ 64;
  value : l.number ≡ digits_value 10 (take l.byte-index l.word);
  digits : (k : ℕ) → k < l.byte-index → (48 ≤ get_or l.word k 0) × (get_or l.word k 0 ≤ 57);
}
