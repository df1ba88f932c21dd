-- A test of each byte of a text, from the first one on.
use Rattle.std.proofs.Common.{◌+◌, ◌<◌, ◌&&◌, ℕ, Bool, List, length, take, get_or, arith, subst}
use Rattle.std.specs.Prelude.{◌↔◌, All, IsTrue}
use Rattle.std.proofs.lemmas.Bool.{and_from, and_parts}
use Rattle.std.proofs.lemmas.Grind.{common_steps}
use Rattle.std.proofs.lemmas.List.{get_or-take, take-take}
use Rattle.std.proofs.lemmas.List.Elements.{All-get_or, All-more, All-take}

-- one byte more is tested
pub one_more_tested : (P : ℕ → Type 0) (text : List ℕ) (i : ℕ) (before byte : Bool) → i < length text
    → (IsTrue before ↔ All P (take i text)) → (IsTrue byte ↔ P (get_or text i 0))
    → IsTrue (before && byte) ↔ All P (take (i + 1) text)
one_more_tested P text i before byte below so_far here = (
  λ both.
      let parts = and_parts before byte both in
      All-more P text i 0 below (so_far.0 parts.0) (here.0 parts.1),
  λ all.
      let first : All P (take i text) = subst (All P) (take-take i (i + 1) text (omega arith))
      (All-take P i (take (i + 1) text) all) in
      let last : P (get_or text i 0) =
      subst P (get_or-take (i + 1) text i 0 (omega arith))
      (All-get_or P (take (i + 1) text) i 0 (grind (arith, common_steps)) all) in
      and_from before byte (so_far.1 first) (here.1 last),
)
