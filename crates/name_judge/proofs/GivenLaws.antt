-- The table of names that were given, with one more act.
use Rattle.std.proofs.Common.{◌≡◌, ℕ, Bool, true, false, true≢false, cond, nat_eq, List, [], ◌∷◌, ◌++◌, Some, None, refl, sym, ◌∙◌, ap, ◌&&◌, rules, arith}
use Rattle.std.specs.Prelude.{Vec}
use Rattle.std.specs.Option.{unwrap_or}
use Rattle.std.specs.BTreeSet.{BTreeSet}
use Rattle.std.specs.Cmp.Lexicographic.{pointwise}
use Rattle.fuse_sessions.specs.Sessions.{latest, or_earlier}
use Rattle.name_sessions.specs.Names.{Name, same_name}
use Rattle.name_sessions.specs.NameActs.{NameAct, Gives, Loses, Leaves}
use Rattle.name_sessions.specs.NameSessions.{NameSession, is_given, says_of_name}
use Rattle.name_sessions.proofs.NameLaws.{given-more, given-same}
use Rattle.name_judge.specs.Given.{holds, AreGiven}
use Rattle.name_judge.proofs.Bytes.{same_bytes}
use Rattle.std.proofs.lemmas.Map.Text.{is_eq-slice_cmp}

abbrev Rows : Type 0 → Type 0
Rows A = List (ℕ × BTreeSet (Vec ℕ A))

said : (s : NameSession) (q : Name) (held b is : Bool) → held ≡ is_given s q
    → cond is b held ≡ unwrap_or (or_earlier (cond is (Some b) None) (latest (says_of_name q) s)) false
said s q held b true e = refl
said s q held b false e = e

module _ {A : Type 0} (s : NameSession) (old new : Rows A) where
  -- an act that speaks of no name leaves the table right
  pub given_on : (a : NameAct) → ((q : Name) → says_of_name q a ≡ None) → AreGiven s old → AreGiven (s ++ a ∷ []) old
  given_on a none are q = are q ∙ sym (given-same s a q (none q))

  pub gave : (n : Name) → ((q : Name) → holds new q ≡ cond (same_name n q) true (holds old q)) → AreGiven s old
      → AreGiven (s ++ Gives n ∷ []) new
  gave n is are q = is q ∙ said s q (holds old q) true (same_name n q) (are q) ∙ sym (given-more s (Gives n) q)

  pub lost : (n : Name) → ((q : Name) → holds new q ≡ cond (same_name n q) false (holds old q)) → AreGiven s old
      → AreGiven (s ++ Loses n ∷ []) new
  lost n is are q = is q ∙ said s q (holds old q) false (same_name n q) (are q) ∙ sym (given-more s (Loses n) q)

  pub left : (node : ℕ) → ((q : Name) → holds new q ≡ cond (nat_eq node q.0) false (holds old q)) → AreGiven s old
      → AreGiven (s ++ Leaves node ∷ []) new
  left node is are q = is q ∙ said s q (holds old q) false (nat_eq node q.0) (are q) ∙ sym (given-more s (Leaves node) q)

  same_number : (a b : ℕ) → nat_eq a b ≡ true → a ≡ b
  same_number a b e = grind (arith, rules)

  both_first : (a b : Bool) → (a && b) ≡ true → a ≡ true
  both_first true b e = refl
  both_first false b e = e

  both_second : (a b : Bool) → (a && b) ≡ true → b ≡ true
  both_second true b e = e
  both_second false b e = absurd (true≢false (sym e))

  abbrev named : ℕ → List ℕ → Name
  named parent bytes = (parent, bytes)

  same_is : (a b : Name) → same_name a b ≡ true → a ≡ b
  same_is a b e =
      ap (λ n. named n a.1) (same_number a.0 b.0 (both_first (nat_eq a.0 b.0) (pointwise nat_eq a.1 b.1) e))
      ∙ ap (named b.0) (same_bytes a.1 b.1
      (is_eq-slice_cmp a.1 b.1 ∙ both_second (nat_eq a.0 b.0) (pointwise nat_eq a.1 b.1) e))

  -- a name that was given is given again
  pub gave_again : (n : Name) → is_given s n ≡ true → AreGiven s old → AreGiven (s ++ Gives n ∷ []) old
  gave_again n there are q =
      are q ∙ by (same_name n q) refl ∙ sym (given-more s (Gives n) q)
    where
      by : (b : Bool) → same_name n q ≡ b → is_given s q
          ≡ unwrap_or (or_earlier (cond (same_name n q) (Some true) None) (latest (says_of_name q) s)) false
      by true e = rw e (ap (is_given s) (sym (same_is n q e)) ∙ there)
      by false e = rw e refl
