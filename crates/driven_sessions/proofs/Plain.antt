-- The acts that a frame is read as, each by itself. The groups here ask no more of them than that they are no faults, and of
-- no request that is read once more.
use Rattle.std.proofs.Common.{◌≡◌, ◌≤◌, ◌^◌, ℕ, Bool, true, false, not, ◌&&◌, List, [], ◌∷◌, ◌++◌, refl, ◌∙◌, ap, nat_eq}
use Rattle.std.specs.List.{list_all}
use Rattle.std.proofs.lemmas.Bool.{and_from, and_parts}
use Rattle.fuse_protocol.specs.declared.agreed.Agreed.{Agreed}
use Rattle.fuse_protocol.specs.declared.opcode.Opcode.TheVariants as op
use Rattle.fuse_protocol.specs.Pairs.{pairs_of_row}
use Rattle.fuse_protocol.specs.Table.{row_at}
use Rattle.fuse_sessions.specs.declared.act.Act.{Act}
use Rattle.fuse_sessions.specs.declared.act.Act.TheVariants as act
use Rattle.fuse_sessions.specs.declared.fault.Fault.{Fault}
use Rattle.fuse_sessions.specs.Faults.{Breaks}
use Rattle.fuse_sessions.specs.RequestActs.{forgets_in}
use Rattle.fuse_sessions.specs.Sessions.{Session}
use Rattle.fuse_sessions.specs.UnreadRequests.{opcode_in, unique_in}
use Rattle.driven_sessions.proofs.Calm.{AreCalm, each_of, is_calm, is_of_numbers}
use Rattle.driven_sessions.proofs.Doing.{Does, comes_again, forgets_many, forgets_one, interrupts, nothing, reads}
use Rattle.driven_sessions.proofs.Leading.{AreFree, HasSeveral, several_append}

-- It is no fault of the groups, and unless `again` of no request that is read once more.
abbrev pub is_plain : (again : Bool) → Act → Bool
is_plain again (act.Faulty f) = not (is_of_numbers f)
is_plain again (act.Resent unique original) = again
is_plain again a = true

abbrev pub ArePlain : (again : Bool) → List Act → Type 0
ArePlain again acts = list_all (is_plain again) acts ≡ true

module _ (again : Bool) where
  calm_plain : (acts : List Act) → AreCalm acts → ArePlain again acts
  calm_plain [] are = refl
  calm_plain (a ∷ acts) are =
      let both = and_parts (is_calm a) (list_all is_calm acts) are in
      and_from (is_plain again a) (list_all (is_plain again) acts) (by a both.0) (calm_plain acts both.1)
    where
      by : (a : Act) → is_calm a ≡ true → is_plain again a ≡ true
      by (act.Faulty f) is = is
      by (act.Resent unique original) is = cc
      by a is = refl

  forgets_plain : (pairs : List (ℕ × ℕ)) → ArePlain again (forgets_in pairs)
  forgets_plain [] = refl
  forgets_plain (p ∷ pairs) = forgets_plain pairs

  -- A frame is read so, where one that is read once more may be.
  pub does_plain : (agreed : Agreed) (frame : List ℕ) (acts : List Act)
      → (2 ^ 63 ≤ unique_in frame → nat_eq (opcode_in frame) 36 ≡ false → again ≡ true) → Does agreed frame acts
      → ArePlain again acts
  does_plain agreed frame acts may (reads other before after calm calm_after o same) =
      ap (list_all (is_plain again)) same ∙ each_of (is_plain again) before (act.Read o (unique_in frame) ∷ after)
      (calm_plain before calm) (calm_plain after calm_after)
  does_plain agreed frame acts may (forgets_one m is same) = ap (list_all (is_plain again)) same
  does_plain agreed frame acts may (forgets_many m is same) =
      ap (list_all (is_plain again)) same ∙ forgets_plain (pairs_of_row (row_at op.BatchForget).tail m.tail)
  does_plain agreed frame acts may (interrupts m is same) = ap (list_all (is_plain again)) same
  does_plain agreed frame acts may (comes_again high other o m same) =
      ap (list_all (is_plain again)) same ∙ ap (λ (b : Bool). b && true) (may high other)
  does_plain agreed frame acts may (nothing calm) = calm_plain acts calm

  module _ (group : Fault → Bool) (none : (s : Session) (a : Act) (f : Fault) → HasSeveral s → is_plain again a ≡ true
      → Breaks s a f → group f ≡ true → ⊥) where
    pub plain_free : (s : Session) (acts : List Act) → HasSeveral s → ArePlain again acts → AreFree group s acts
    plain_free s [] several are = tt
    plain_free s (a ∷ acts) several are =
        let both = and_parts (is_plain again a) (list_all (is_plain again) acts) are in (
          λ f b is. none s a f several both.0 b is,
          plain_free (s ++ a ∷ []) acts (several_append s (a ∷ []) several) both.1,
        )
