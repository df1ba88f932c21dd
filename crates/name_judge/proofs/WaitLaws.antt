-- The table of requests that wait, with one more act.
use Rattle.std.proofs.Common.{◌≡◌, ℕ, Bool, true, false, cond, nat_eq, arith, rules, [], ◌∷◌, ◌++◌, Option, Some, None, refl, sym, ◌∙◌, ap}
use Rattle.std.specs.Option.{option_map, option_flatten}
use Rattle.fuse_spec.specs.Values.Maps.{Map, get, put, remove}
use Rattle.fuse_tables.proofs.Maps.{get-put, get-remove}
use Rattle.fuse_sessions.specs.Sessions.{latest, or_earlier}
use Rattle.name_sessions.specs.NameActs.{NameAct, Asks, Ends}
use Rattle.name_sessions.specs.NameSessions.{NameSession, waits, says_of_number}
use Rattle.name_sessions.proofs.NameLaws.{waits-more, waits-same}
use Rattle.name_judge.specs.declared.kept.Waiting.{Waiting}
use Rattle.name_judge.specs.Kept.{asked_of}
use Rattle.name_judge.specs.Waits.{AreWaiting}

same_number : (a b : ℕ) → nat_eq a b ≡ true → a ≡ b
same_number a b e = grind (arith, rules)

module _ {A : Type 0} (s : NameSession) (rows : Map (Waiting A)) where
  -- an act that speaks of no number leaves the table right
  pub waiting_on : (a : NameAct) → ((unique : ℕ) → says_of_number unique a ≡ None) → AreWaiting s rows
      → AreWaiting (s ++ a ∷ []) rows
  waiting_on a none are q = are q ∙ sym (waits-same s a q (none q))

  said : (u q : ℕ) (row : Option (Waiting A)) (b : Bool) → option_map asked_of (get rows q) ≡ waits s q
      → option_map asked_of (cond b row (get rows q))
      ≡ option_flatten (or_earlier (cond b (Some (option_map asked_of row)) None) (latest (says_of_number q) s))
  said u q row true e = refl
  said u q row false e = e

  -- what waits under a number ends
  pub ended : (u : ℕ) → AreWaiting s rows → AreWaiting (s ++ Ends u ∷ []) (remove rows u)
  ended u are q = ap (option_map asked_of) (get-remove rows u q) ∙ said u q None (nat_eq u q) (are q)
      ∙ sym (waits-more s (Ends u) q)

  -- nothing waits under a number
  pub ended_none : (u : ℕ) → get rows u ≡ None → AreWaiting s rows → AreWaiting (s ++ Ends u ∷ []) rows
  ended_none u none are q = by (nat_eq u q) refl ∙ sym (waits-more s (Ends u) q)
    where
      by : (b : Bool) → nat_eq u q ≡ b → option_map asked_of (get rows q)
          ≡ option_flatten (or_earlier (cond (nat_eq u q) (Some None) None) (latest (says_of_number q) s))
      by true e = rw e (ap (λ n. option_map asked_of (get rows n)) (sym (same_number u q e)) ∙ ap (option_map asked_of) none)
      by false e = rw e (are q)

  overwritten : (b : Bool) (x y : Option (Waiting A)) → cond b x (cond b None y) ≡ cond b x y
  overwritten true x y = refl
  overwritten false x y = refl

  -- a request waits under a number
  pub asked : (u : ℕ) (row : Waiting A) → AreWaiting s rows
      → AreWaiting (s ++ Asks u (asked_of row) ∷ []) (put (remove rows u) u row)
  asked u row are q =
      ap (option_map asked_of)
      (get-put (remove rows u) u row q ∙ ap (cond (nat_eq u q) (Some row)) (get-remove rows u q)
      ∙ overwritten (nat_eq u q) (Some row) (get rows q))
      ∙ said u q (Some row) (nat_eq u q) (are q)
      ∙ sym (waits-more s (Asks u (asked_of row)) q)
