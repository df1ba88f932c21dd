-- Pairs that were put into bytes are those that the bytes have.
use Rattle.std.proofs.Common.{◌≡◌, ℕ, Option, Some, None, List, [], length, rules, sym, ap, subst, ◌∙◌, arith}
use Rattle.std.specs.Prelude.{IsSome, MatchOption}
use Rattle.fk_wire.specs.Fields.{InRange, ReadsAs, spellings}
use Rattle.fk_wire.specs.Pairs.{pairs_from, pairs_in, forget_ones}
use Rattle.fk_wire.specs.declared.pairs.Pairs.{Pairs}
use Rattle.fk_wire.proofs.Frames.{reads_back, forgets_are_named}
use Rattle.fk_wire.proofs.PairLists.{list_ends, one_list}

pub pairs_read : (ps : List (ℕ × ℕ)) (bytes : List ℕ) → InRange (forget_ones ps) → bytes ≡ spellings (forget_ones ps)
    → ReadsAs 0 (forget_ones ps) bytes
pairs_read ps bytes fits is = subst (λ (b : List ℕ). ReadsAs 0 (forget_ones ps) b) (sym is)
    (reads_back (forget_ones ps) [] fits (forgets_are_named ps))

-- bytes have one list of pairs
pub same_pairs : (ps qs : List (ℕ × ℕ)) (bytes : List ℕ) → ReadsAs 0 (forget_ones ps) bytes
    → ReadsAs 0 (forget_ones qs) bytes → qs ≡ ps
same_pairs ps qs bytes h k =
    let ends = list_ends ps 0 bytes h in
    let ends_too = list_ends qs 0 bytes k in
    let same : length qs ≡ length ps = omega (arith, ends, ends_too) in
    sym (one_list qs 0 bytes k) ∙ ap (λ (count : ℕ). pairs_from count 0 bytes) same ∙ one_list ps 0 bytes h

-- What was read over the bytes of pairs.
abbrev IsOver : List ℕ → Option Pairs → Type 0
IsOver bytes r = MatchOption r ((qs : List (ℕ × ℕ)) → ReadsAs 0 (forget_ones qs) bytes → ⊥)
    (λ p. ReadsAs 0 (forget_ones (pairs_in p)) bytes)

pub is_over : (ps : List (ℕ × ℕ)) (bytes : List ℕ) (r : Option Pairs) → ReadsAs 0 (forget_ones ps) bytes
    → IsOver bytes r → IsSome r
is_over ps bytes None h over = absurd (over ps h)
is_over ps bytes (Some p) h over = search rules

pub pairs_over : (ps : List (ℕ × ℕ)) (bytes : List ℕ) (r : Option Pairs) (p : Pairs) → ReadsAs 0 (forget_ones ps) bytes
    → IsOver bytes r → r ≡ Some p → pairs_in p ≡ ps
pairs_over ps bytes r p h over is = same_pairs ps (pairs_in p) bytes h (rw is at over)
