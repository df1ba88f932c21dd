-- The tables, and the verdict, with a request that is read.
use Rattle.std.proofs.Common.{◌≡◌, ℕ, ◌-◌, ◌<◌, ◌≤◌, Bool, true, false, not, ◌||◌, cond, [], ◌∷◌, ◌++◌, Option, Some, None, refl, sym, ◌∙◌, ap, subst, append_assoc, arith, rules}
use Rattle.std.specs.Prelude.{nat_le}
use Rattle.std.proofs.lemmas.List.{append-nil}
use Rattle.fuse_protocol.specs.declared.opcode.Opcode.{Opcode}
use Rattle.fuse_protocol.specs.Requests.{RequestMessage}
use Rattle.fuse_sessions.specs.RequestActs.{resend_bit}
use Rattle.name_sessions.specs.Names.{Name}
use Rattle.name_sessions.specs.NameActs.{NamesAsked, Ends, Removes}
use Rattle.name_sessions.specs.NameSessions.{NameSession, is_unsure, is_given}
use Rattle.name_sessions.specs.NameFrames.{has_fault}
use Rattle.name_sessions.specs.RequestNames.{beginning, names_asked, removal, removed_name, request_acts, takes_no_reply, waiting}
use Rattle.name_sessions.proofs.NameLaws.{or_false}
use Rattle.name_judge.specs.declared.tables.Tables.{Tables}
use Rattle.name_judge.specs.Seen.{AreRight}
use Rattle.name_judge.proofs.GivenLaws.{given_on}
use Rattle.name_judge.proofs.WaitLaws.{waiting_on}

le_true : (a b : ℕ) → a ≤ b → nat_le a b ≡ true
le_true a b h = grind (arith, rules)

le_false : (a b : ℕ) → b < a → nat_le a b ≡ false
le_false a b h = grind (arith, rules)

pub removed_fault : (s : NameSession) (n : Name) (given : Bool) → is_unsure s ≡ false → given ≡ is_given s n
    → not given ≡ has_fault s (Removes n ∷ [])
removed_fault s n given sure is =
    ap not is ∙ ap (λ b. not (b || is_given s n)) (sym sure) ∙ sym (or_false (not (is_unsure s || is_given s n)))

module _ {A : Type 0} (s : NameSession) (t : Tables A) where
  -- a removal that is judged leaves the tables right
  pub removal_on : (o : Option Name) → AreRight s t → AreRight (s ++ removal o) t
  removal_on None are = subst (λ (x : NameSession). AreRight x t) (sym (append-nil s)) are
  removal_on (Some n) are = record {
    waiting = waiting_on s t.rows.entries (Removes n) (λ q. refl) are.waiting;
    given = given_on s t.given.entries t.given.entries (Removes n) (λ q. refl) are.given;
  }

  pub begun_again : (o : Opcode) (m : RequestMessage) → resend_bit ≤ m.unique
      → AreRight (s ++ Ends (m.unique - resend_bit) ∷ []) t → AreRight (s ++ beginning o m) t
  begun_again o m high are =
      subst (λ b. AreRight (s ++ cond b (Ends (m.unique - resend_bit) ∷ []) (removal (removed_name o m))) t)
      (sym (le_true resend_bit m.unique high)) are

  pub begun : (o : Opcode) (m : RequestMessage) → m.unique < resend_bit → AreRight s t → AreRight (s ++ beginning o m) t
  begun o m low are =
      subst (λ b. AreRight (s ++ cond b (Ends (m.unique - resend_bit) ∷ []) (removal (removed_name o m))) t)
      (sym (le_false resend_bit m.unique low)) (removal_on (removed_name o m) are)

  pub asked_on : (o : Opcode) (m : RequestMessage) (row : Option NamesAsked) → row ≡ names_asked o m
      → takes_no_reply o ≡ false → AreRight ((s ++ beginning o m) ++ waiting m.unique row) t
      → AreRight (s ++ request_acts o m) t
  asked_on o m row is takes are =
      subst (λ b. AreRight (s ++ cond b [] (beginning o m ++ waiting m.unique (names_asked o m))) t) (sym takes)
      (subst (λ (x : NameSession). AreRight x t)
      (append_assoc s (beginning o m) (waiting m.unique (names_asked o m)))
      (subst (λ (x : Option NamesAsked). AreRight ((s ++ beginning o m) ++ waiting m.unique x) t) is are))
