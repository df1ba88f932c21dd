-- A session in which nothing is certain of names shows no fault of them.
use Rattle.std.proofs.Common.{◌≡◌, ◌||◌, Bool, true, false, not, List, [], ◌∷◌, ◌++◌, Option, Some, None, append_assoc, refl, ap, sym, subst, ◌∙◌}
use Rattle.std.specs.List.{flat_map, list_any}
use Rattle.std.specs.Prelude.{MatchOption}
use Rattle.std.proofs.lemmas.List.Folds.{list_any-append}
use Rattle.fuse_protocol.specs.declared.agreed.Unjudged.{Unjudged}
use Rattle.name_sessions.specs.NameActs.{NameAct, Removes, Unsure}
use Rattle.name_sessions.specs.NameFrames.{AreNameActs, has_fault, leaves}
use Rattle.name_sessions.specs.NameSessions.{NameSession, is_doubt, is_fault, is_given, is_unsure}
use Rattle.name_sessions.specs.NameTheorems.{SeveralAreUnsure, StaysUnsure}

unsure_on : (s acts : NameSession) → is_unsure s ≡ true → is_unsure (s ++ acts) ≡ true
unsure_on s acts is = list_any-append is_doubt s acts ∙ ap (λ (b : Bool). b || list_any is_doubt acts) is

unsure_fault : (s : NameSession) (act : NameAct) → is_unsure s ≡ true → is_fault s act ≡ false
unsure_fault s (Removes name) is = ap (λ (b : Bool). not (b || is_given s name)) is
unsure_fault s act is = refl

unsure_faults : (s acts : NameSession) → is_unsure s ≡ true → has_fault s acts ≡ false
unsure_faults s [] is = refl
unsure_faults s (act ∷ acts) is = ap (λ (b : Bool). b || has_fault (s ++ act ∷ []) acts) (unsure_fault s act is)
    ∙ unsure_faults (s ++ act ∷ []) acts (unsure_on s (act ∷ []) is)

last_unsure : (s : NameSession) → is_unsure (s ++ Unsure ∷ []) ≡ true
last_unsure s = list_any-append is_doubt s (Unsure ∷ []) ∙ or_true (list_any is_doubt s)
  where
    or_true : (b : Bool) → (b || true) ≡ true
    or_true true = refl
    or_true false = refl

pub stays_unsure : StaysUnsure
stays_unsure k names s t acts after is_missing is does = by k.unjudged does
  where
    by : (o : Option Unjudged) → MatchOption o ((said : List NameAct) × AreNameActs k.agreed names t said
        × (is_missing ≡ has_fault names said) × (after ≡ names ++ (said ++ flat_map (leaves (s ++ acts)) acts)))
        (λ why. (is_missing ≡ false) × (after ≡ names)) → (is_missing ≡ false) × (is_unsure after ≡ true)
    by None (said, are, missing, same) = (
      missing ∙ unsure_faults names said is,
      ap is_unsure same ∙ unsure_on names (said ++ flat_map (leaves (s ++ acts)) acts) is,
    )
    by (Some why) (missing, same) = (missing, ap is_unsure same ∙ is)

pub several_are_unsure : SeveralAreUnsure
several_are_unsure k names s acts after is_missing judged does = by (subst (λ (o : Option Unjudged). MatchOption o
    ((said : List NameAct) × (said ≡ Unsure ∷ []) × (is_missing ≡ has_fault names said)
    × (after ≡ names ++ (said ++ flat_map (leaves (s ++ acts)) acts))) (λ why. (is_missing ≡ false) × (after ≡ names))) judged does)
  where
    by : (said : List NameAct) × (said ≡ Unsure ∷ []) × (is_missing ≡ has_fault names said)
        × (after ≡ names ++ (said ++ flat_map (leaves (s ++ acts)) acts)) → (is_missing ≡ false) × (is_unsure after ≡ true)
    by (said, are, missing, same) = (
      missing ∙ ap (has_fault names) are,
      ap is_unsure (same ∙ ap (λ (l : List NameAct). names ++ (l ++ flat_map (leaves (s ++ acts)) acts)) are)
          ∙ ap is_unsure (sym (append_assoc names (Unsure ∷ []) (flat_map (leaves (s ++ acts)) acts)))
          ∙ unsure_on (names ++ Unsure ∷ []) (flat_map (leaves (s ++ acts)) acts) (last_unsure names),
    )
