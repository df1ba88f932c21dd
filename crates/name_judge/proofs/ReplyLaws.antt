-- The tables, with a reply that is written.
use Rattle.std.proofs.Common.{◌≡◌, ℕ, Bool, true, false, not, ◌||◌, cond, nat_eq, List, [], ◌∷◌, ◌++◌, Option, Some, None, sym, ◌∙◌, ap, subst, append_assoc, arith, rules}
use Rattle.std.proofs.lemmas.List.{append-nil}
use Rattle.fuse_replies.specs.Record.{EntryRecordContent}
use Rattle.fuse_sessions.specs.declared.act.Taken.{Taken}
use Rattle.fuse_sessions.specs.Frames.{number_in}
use Rattle.fuse_sessions.specs.Waiting.{reaches}
use Rattle.name_sessions.specs.Names.{Name}
use Rattle.name_sessions.specs.NameActs.{NameAct, NamesAsked, Ends, Gives}
use Rattle.name_sessions.specs.NameSessions.{NameSession}
use Rattle.name_sessions.specs.ReplyNames.{changed_acts, done_acts, giving, is_done, is_negative_entry, losing, record_acts, said_acts, written_acts}
use Rattle.name_judge.specs.declared.tables.Tables.{Tables}
use Rattle.name_judge.specs.Seen.{AreRight}

pub same_number : (a b : ℕ) → a ≡ b → nat_eq a b ≡ true
same_number a b e = grind (arith, rules)

pub differ : (a b : ℕ) → (a ≡ b → ⊥) → nat_eq a b ≡ false
differ a b ne = grind (arith, rules)

module _ {A : Type 0} (s : NameSession) (t : Tables A) where
  -- no act leaves the tables right
  pub none_on : AreRight s t → AreRight (s ++ []) t
  none_on are = subst (λ (x : NameSession). AreRight x t) (sym (append-nil s)) are

  pub both_on : (xs ys : List NameAct) → AreRight ((s ++ xs) ++ ys) t → AreRight (s ++ (xs ++ ys)) t
  both_on xs ys are = subst (λ (x : NameSession). AreRight x t) (append_assoc s xs ys) are

  pub record_on : (parent : ℕ) (r : EntryRecordContent) → nat_eq r.entry.nodeid 0 ≡ false
      → AreRight (s ++ Gives (parent, r.said.name) ∷ []) t → AreRight (s ++ record_acts parent r) t
  record_on parent r some are =
      subst (λ b. AreRight (s ++ cond b [] (Gives (parent, r.said.name) ∷ [])) t) (sym some) are

  pub record_on_none : (parent : ℕ) (r : EntryRecordContent) → nat_eq r.entry.nodeid 0 ≡ true → AreRight s t
      → AreRight (s ++ record_acts parent r) t
  record_on_none parent r none are =
      subst (λ b. AreRight (s ++ cond b [] (Gives (parent, r.said.name) ∷ [])) t) (sym none) (none_on are)

  pub changed_on : (removed made : Option Name) (bytes : List ℕ) → is_negative_entry bytes ≡ false
      → AreRight ((s ++ losing removed) ++ giving made) t → AreRight (s ++ changed_acts removed made bytes) t
  changed_on removed made bytes some are =
      subst (λ b. AreRight (s ++ cond b [] (losing removed ++ giving made)) t) (sym some)
      (both_on (losing removed) (giving made) are)

  pub changed_on_none : (removed made : Option Name) (bytes : List ℕ) → is_negative_entry bytes ≡ true → AreRight s t
      → AreRight (s ++ changed_acts removed made bytes) t
  changed_on_none removed made bytes none are =
      subst (λ b. AreRight (s ++ cond b [] (losing removed ++ giving made)) t) (sym none) (none_on are)

  pub said_on : (asked : NamesAsked) (bytes : List ℕ) (taken : Taken) → is_done bytes taken ≡ true
      → AreRight (s ++ done_acts asked bytes) t → AreRight (s ++ said_acts (Some asked) bytes taken) t
  said_on asked bytes taken done are = subst (λ b. AreRight (s ++ cond b (done_acts asked bytes) []) t) (sym done) are

  pub said_on_none : (o : Option NamesAsked) (bytes : List ℕ) (taken : Taken) → is_done bytes taken ≡ false
      → AreRight s t → AreRight (s ++ said_acts o bytes taken) t
  said_on_none None bytes taken none are = none_on are
  said_on_none (Some asked) bytes taken none are =
      subst (λ b. AreRight (s ++ cond b (done_acts asked bytes) []) t) (sym none) (none_on are)

  pub written_on : (o : Option NamesAsked) (bytes : List ℕ) (taken : Taken) → nat_eq (number_in bytes) 0 ≡ false
      → reaches taken ≡ true → AreRight ((s ++ Ends (number_in bytes) ∷ []) ++ said_acts o bytes taken) t
      → AreRight (s ++ written_acts o bytes taken) t
  written_on o bytes taken some reached are =
      subst (λ b. AreRight (s ++ cond b [] (Ends (number_in bytes) ∷ said_acts o bytes taken)) t)
      (sym (ap (λ b. b || not (reaches taken)) some ∙ ap not reached))
      (both_on (Ends (number_in bytes) ∷ []) (said_acts o bytes taken) are)

  by_either : (a b : Bool) (x : List NameAct) → (a || b) ≡ true → AreRight s t → AreRight (s ++ cond (a || b) [] x) t
  by_either a b x e are = subst (λ c. AreRight (s ++ cond c [] x) t) (sym e) (none_on are)

  pub written_on_none : (o : Option NamesAsked) (bytes : List ℕ) (taken : Taken)
      → (nat_eq (number_in bytes) 0 || not (reaches taken)) ≡ true → AreRight s t
      → AreRight (s ++ written_acts o bytes taken) t
  written_on_none o bytes taken e are = by_either (nat_eq (number_in bytes) 0) (not (reaches taken))
      (Ends (number_in bytes) ∷ said_acts o bytes taken) e are
