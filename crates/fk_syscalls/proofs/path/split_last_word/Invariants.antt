use Rattle.std.proofs.Common.{◌≡◌, ◌≤◌, ◌<◌, ◌-◌, ◌⊎◌, ◌∷◌, length, drop}
use Rattle.fk_syscalls.proofs.path.split_last_word.Given as goal

abbrev pub invariant-loop-next : goal.invariant-loop-next
invariant-loop-next l = record {
  within : l.last ≤ length l.words;
  start : (l.last ≡ l.first)
      ⊎ ((l.first < l.last) × (drop (l.last - 1) l.words ≡ 47 ∷ drop l.last l.words));
}

abbrev pub decreases-loop-next : goal.decreases-loop-next
decreases-loop-next l = length l.words - l.last
