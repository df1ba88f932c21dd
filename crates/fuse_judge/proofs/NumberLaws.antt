-- The table of numbers, with one more act.
use Rattle.std.proofs.Common.{◌≡◌, ◌≢◌, ℕ, Bool, Option, true, false, ◌||◌, ◌&&◌, cond, [], ◌∷◌, ◌++◌, refl, sym, ◌∙◌, ap, subst, nat_eq, inl, inr}
use Rattle.std.proofs.lemmas.Bool.{cases_eq}
use Rattle.fuse_spec.specs.Values.Maps.{Map}
use Rattle.fuse_protocol.specs.declared.opcode.Opcode.{Opcode}
use Rattle.fuse_sessions.specs.declared.act.Act.{Act}
use Rattle.fuse_sessions.specs.declared.act.Act.TheVariants as act
use Rattle.fuse_sessions.specs.Sessions.{Session}
use Rattle.fuse_sessions.specs.Numbers.{reads, reads_forget, was_read, was_forget}
use Rattle.fuse_sessions.proofs.Laws.{any-more}
use Rattle.fuse_judge.specs.declared.marks.Block.{Block}
use Rattle.fuse_judge.specs.declared.marks.Mark.{Mark}
use Rattle.fuse_judge.specs.Numbers.{IsMark, AreNumbers, AreWhole, is_read, is_forgets, read_mark, mark_in}
use Rattle.fuse_judge.proofs.Keys.{same, differ, or_false, or_true}

pub other_mark : (s : Session) (a : Act) (q : ℕ) (m : Mark) → reads q a ≡ false → reads_forget q a ≡ false
    → IsMark s q m → IsMark (s ++ a ∷ []) q m
other_mark s a q m no_read no_forget is = record {
  read = rw (any-more (reads q) s a, no_read, or_false (was_read s q)) is.read;
  forget = rw (any-more (reads_forget q) s a, no_forget, or_false (was_forget s q)) is.forget;
}

pub quiet_numbers : (s : Session) (a : Act) (numbers : Map Block)
    → ((q : ℕ) → (reads q a ≡ false) × (reads_forget q a ≡ false)) → AreNumbers s numbers
    → AreNumbers (s ++ a ∷ []) numbers
quiet_numbers s a numbers quiet are = record {
  marked = λ q. other_mark s a q _ (quiet q).0 (quiet q).1 (are.marked q);
  whole = are.whole;
}

reads_it : (b : Bool) → true ≡ is_read (read_mark b)
reads_it true = refl
reads_it false = refl

forgets_it : (b : Bool) → b ≡ is_forgets (read_mark b)
forgets_it true = refl
forgets_it false = refl

pub number_read : (s : Session) (a : Act) (numbers new : Map Block) (u : ℕ) (is_forget : Bool)
    → ((q : ℕ) → (reads q a ≡ nat_eq u q) × (reads_forget q a ≡ (nat_eq u q && is_forget))) → AreNumbers s numbers
    → ((q : ℕ) → mark_in new q ≡ cond (nat_eq u q) (read_mark (is_forgets (mark_in numbers u) || is_forget))
    (mark_in numbers q))
    → AreWhole new → AreNumbers (s ++ a ∷ []) new
number_read s a numbers new u is_forget is are after whole = record {
  marked = λ q. elim (cases_eq u q) [
    | inl e ↦ subst (λ k. IsMark (s ++ a ∷ []) k (mark_in new k)) e here
    | inr ne ↦ subst (IsMark (s ++ a ∷ []) q)
        (sym (after q ∙ ap (λ b. cond b (read_mark (is_forgets (mark_in numbers u) || is_forget))
        (mark_in numbers q)) (differ u q ne)))
        (other_mark s a q _ ((is q).0 ∙ differ u q ne) ((is q).1
        ∙ ap (λ b. b && is_forget) (differ u q ne)) (are.marked q))
  ];
  whole = whole;
}
  where
    now : mark_in new u ≡ read_mark (is_forgets (mark_in numbers u) || is_forget)
    now = after u ∙ ap (λ b. cond b (read_mark (is_forgets (mark_in numbers u) || is_forget)) (mark_in numbers u))
        (same u)

    here : IsMark (s ++ a ∷ []) u (mark_in new u)
    here = subst (IsMark (s ++ a ∷ []) u) (sym now) record {
      read = any-more (reads u) s a ∙ ap (λ b. was_read s u || b) ((is u).0 ∙ same u) ∙ or_true (was_read s u)
          ∙ reads_it (is_forgets (mark_in numbers u) || is_forget);
      forget = any-more (reads_forget u) s a
          ∙ ap (λ b. was_forget s u || b) ((is u).1 ∙ ap (λ b. b && is_forget) (same u))
          ∙ ap (λ b. b || is_forget) (are.marked u).forget
          ∙ forgets_it (is_forgets (mark_in numbers u) || is_forget);
    }

-- an act that reads no number
pub reads_none : (a : Act) → ((opcode : Option Opcode) (u : ℕ) → a ≢ act.Read opcode u)
    → ((u original : ℕ) → a ≢ act.Resent u original) → (q : ℕ) → (reads q a ≡ false) × (reads_forget q a ≡ false)
reads_none (act.Read opcode u) no_read no_resent q = absurd (no_read opcode u refl)
reads_none (act.Resent u original) no_read no_resent q = absurd (no_resent u original refl)
reads_none a no_read no_resent q = (refl, refl)
