use Rattle.std.proofs.Common.{◌≡◌, ◌≤◌, Some, length}
use Rattle.fuse_spec.specs.Calls.Paths.{first_fault}
use Rattle.fk_syscalls.specs.Words.{words_from}
use Rattle.fk_syscalls.proofs.path.words_fault.Given as goal

abbrev pub invariant-loop-place : goal.invariant-loop-place
invariant-loop-place l = record {
  few : l.place ≤ 32;
  within : l.at ≤ length l.words;
  left : first_fault 0 (words_from l.words (Some l.first)) ≡ first_fault l.place (words_from l.words (Some l.at));
}
