-- The file that a node is of, behind an earlier session.
use Rattle.std.proofs.Common.{◌≡◌, ◌<◌, ◌⊎◌, ℕ, true, [], ◌∷◌, ◌++◌, Some, refl, sym, ◌∙◌, ap, append_assoc, arith, subst, inl, inr}
use Rattle.std.proofs.lemmas.Bool.{cases_eq}
use Rattle.fuse_sessions.specs.declared.act.Act.{Act}
use Rattle.fuse_sessions.specs.declared.act.Act.TheVariants as act
use Rattle.fuse_sessions.specs.declared.act.File.{File}
use Rattle.fuse_sessions.specs.declared.fault.Fault.TheVariants as fault
use Rattle.fuse_sessions.specs.Sessions.{Session}
use Rattle.fuse_sessions.specs.Counts.{gives_least, forgets_of, least_count, known}
use Rattle.fuse_sessions.proofs.FileLaws.{GivesNoFile, cases_zero, each_session, file_or_none, has_file, known_first, known_later, known_still, no_more, one_file}
use Rattle.joined_sessions.specs.Joined.{GivesTwoFiles}
use Rattle.joined_sessions.proofs.Behind.{left_grows}

-- What is known of a node that a session counts for certain is known behind an earlier one too, or there an act gives two
-- files.
abbrev Agrees : (e s : Session) → ℕ → Type 0
Agrees e s n = (least_count s n ≡ 0) ⊎ ((known (e ++ s) n ≡ known s n) ⊎ GivesTwoFiles e s)

two_still : (e s : Session) (a : Act) → GivesTwoFiles e s → GivesTwoFiles e (s ++ a ∷ [])
two_still e s a two = record {
  before = two.before;
  act = two.act;
  after = two.after ++ a ∷ [];
  parts = ap (λ t. t ++ a ∷ []) two.parts ∙ append_assoc two.before (two.act ∷ two.after) (a ∷ []);
  fault = two.fault;
  two = two.two;
  breaks = two.breaks;
}

module _ (e : Session) (n : ℕ) where
  -- an entry gives another file than the one that is known, or the same
  gives_two : (s : Session) (old file : File) → 0 < least_count (e ++ s) n → known (e ++ s) n ≡ Some old
      → (old ≡ file) ⊎ GivesTwoFiles e (s ++ act.Gives n file true ∷ [])
  gives_two s old file some is = elim (cases_eq old.generation file.generation) [
    | inr other ↦ inr record {
      before = s;
      act = act.Gives n file true;
      after = [];
      parts = refl;
      fault = fault.NodeOfTwoGenerations;
      two = refl;
      breaks = (some, old, is, other);
    }
    | inl generation ↦ elim (cases_eq old.kind file.kind) [
      | inr other ↦ inr record {
        before = s;
        act = act.Gives n file true;
        after = [];
        parts = refl;
        fault = fault.NodeOfTwoKinds;
        two = refl;
        breaks = (some, old, is, generation, other);
      }
      | inl kind ↦ elim (cases_eq old.ino file.ino) [
        | inr other ↦ inr record {
          before = s;
          act = act.Gives n file true;
          after = [];
          parts = refl;
          fault = fault.NodeOfTwoInodeNumbers;
          two = refl;
          breaks = (some, old, is, generation, kind, other);
        }
        | inl ino ↦ inl (one_file old file generation kind ino)
      ]
    ]
  ]

  behind : (s : Session) (a : Act) → known ((e ++ s) ++ a ∷ []) n ≡ known (e ++ (s ++ a ∷ [])) n
  behind s a = ap (λ t. known t n) (append_assoc e s (a ∷ []))

  -- with an entry that gives the node
  agrees_given : (s : Session) (file : File) → Agrees e s n → Agrees e (s ++ act.Gives n file true ∷ []) n
  agrees_given s file agrees = elim (cases_zero (least_count s n)) [
    | inl none ↦ elim (cases_zero (least_count (e ++ s) n)) [
      | inl never ↦ inr (inl (sym (behind s (act.Gives n file true)) ∙ known_first n (e ++ s) file never
          ∙ sym (known_first n s file none)))
      | inr some ↦ let old = has_file n (e ++ s) some in elim (gives_two s old.0 file some old.1) [
        | inl same ↦ inr (inl (sym (behind s (act.Gives n file true)) ∙ known_later n (e ++ s) file some ∙ old.1 ∙ ap Some same
            ∙ sym (known_first n s file none)))
        | inr two ↦ inr (inr two)
      ]
    ]
    | inr was ↦ elim agrees [
      | inl none ↦ absurd (omega (arith, none, was))
      | inr (inl alike) ↦ inr (inl (sym (behind s (act.Gives n file true))
          ∙ known_later n (e ++ s) file (omega (arith, was, left_grows (gives_least n) (forgets_of n) e s))
          ∙ alike ∙ sym (known_later n s file was)))
      | inr (inr two) ↦ inr (inr (two_still e s (act.Gives n file true) two))
    ]
  ]

  -- with another act
  agrees_still : (s : Session) (a : Act) → GivesNoFile n a → Agrees e s n → Agrees e (s ++ a ∷ []) n
  agrees_still s a none (inl uncounted) = inl (omega (arith, no_more n s a none, uncounted))
  agrees_still s a none (inr (inl alike)) =
      inr (inl (sym (behind s a) ∙ known_still n (e ++ s) a none ∙ alike ∙ sym (known_still n s a none)))
  agrees_still s a none (inr (inr two)) = inr (inr (two_still e s a two))

  agrees_more : (s : Session) (a : Act) → Agrees e s n → Agrees e (s ++ a ∷ []) n
  agrees_more s a agrees = elim (file_or_none n a) [
    | inl given ↦ subst (λ b. Agrees e (s ++ b ∷ []) n) (sym given.1) (agrees_given s given.0 agrees)
    | inr none ↦ agrees_still s a none agrees
  ]

  pub agrees_behind : (s : Session) → Agrees e s n
  agrees_behind s = each_session (λ t. Agrees e t n) agrees_more (inl refl) s

  -- What is known of a node that is counted for certain.
  pub known_behind : (s : Session) → 0 < least_count s n
      → ((0 < least_count (e ++ s) n) × (known (e ++ s) n ≡ known s n)) ⊎ GivesTwoFiles e s
  known_behind s some = elim (agrees_behind s) [
    | inl none ↦ absurd (omega (arith, none, some))
    | inr (inl alike) ↦ inl (omega (arith, some, left_grows (gives_least n) (forgets_of n) e s), alike)
    | inr (inr two) ↦ inr two
  ]
