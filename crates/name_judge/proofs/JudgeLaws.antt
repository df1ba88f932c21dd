-- What the judge has seen after one more transfer.
use Rattle.std.proofs.Common.{◌≡◌, ℕ, Bool, true, false, true≢false, ◌||◌, List, [], ◌∷◌, ◌++◌, refl, sym, ◌∙◌, ap, subst}
use Rattle.fuse_protocol.specs.declared.agreed.Agreed.{Agreed}
use Rattle.fuse_sessions.specs.declared.transfer.Transfer.{Transfer}
use Rattle.name_sessions.specs.NameActs.{NameAct, Unsure, Leaves}
use Rattle.name_sessions.specs.NameFrames.{AreNameActs, has_fault}
use Rattle.name_sessions.specs.NameSessions.{NameSession, is_unsure}
use Rattle.name_sessions.proofs.NameLaws.{stays_unsure, unsure-append, unsure-same}
use Rattle.name_sessions.proofs.NameFrameLaws.{name_acts_once}
use Rattle.name_judge.specs.declared.judge.NameJudge.{NameJudge}
use Rattle.name_judge.specs.declared.tables.Tables.{Tables}
use Rattle.name_judge.specs.Judged.{HasSeen}
use Rattle.name_judge.specs.Seen.{AreRight, IsSeen}

or_true : (b : Bool) → (b || true) ≡ true
or_true true = refl
or_true false = refl

abbrev judge_of : {A : Type 0} → Bool → Tables A → NameJudge A
judge_of unsure tables = record { unsure = unsure; tables = tables }

module _ {A : Type 0} (s : NameSession) where
  -- nothing is certain from here on
  pub doubted : (t : Tables A) → HasSeen (s ++ Unsure ∷ []) (judge_of true t)
  doubted t = record {
    doubt = sym (unsure-append s (Unsure ∷ []) ∙ or_true (is_unsure s));
    right = λ e. absurd (true≢false e);
  }

  -- nothing was certain before
  pub still_unsure : (j : NameJudge A) (acts : List NameAct) → j.unsure ≡ true → HasSeen s j → HasSeen (s ++ acts) j
  still_unsure j acts unsure seen = record {
    doubt = unsure ∙ sym (stays_unsure s acts (sym seen.doubt ∙ unsure));
    right = λ e. absurd (true≢false (sym unsure ∙ e));
  }

  module _ (agreed : Agreed) (transfer : Transfer) (t : Tables A) (fault : Bool) (acts : List NameAct)
      (v : IsSeen (AreNameActs agreed s transfer) s t fault) (are : AreNameActs agreed s transfer acts) where
    pub verdict : fault ≡ has_fault s acts
    verdict = v.said ∙ ap (has_fault s) (name_acts_once agreed s transfer v.acts acts v.are are)

    pub seen_on : (unsure : Bool) → unsure ≡ false → unsure ≡ is_unsure s → HasSeen (s ++ acts) (judge_of unsure t)
    seen_on unsure sure is =
        subst (λ (xs : List NameAct). HasSeen (s ++ xs) (judge_of unsure t))
        (name_acts_once agreed s transfer v.acts acts v.are are)
        (record { doubt = is ∙ sym (unsure-same s v.acts v.certain); right = λ e. v.right })

  -- nothing is certain from this transfer on
  pub doubt_seen : (agreed : Agreed) (transfer : Transfer) (acts : List NameAct)
      → AreNameActs agreed s transfer (Unsure ∷ []) → AreNameActs agreed s transfer acts → (j : NameJudge A)
      → HasSeen (s ++ Unsure ∷ []) j → HasSeen (s ++ acts) j
  doubt_seen agreed transfer acts v are j seen = subst (λ (xs : List NameAct). HasSeen (s ++ xs) j)
      (name_acts_once agreed s transfer (Unsure ∷ []) acts v are) seen

  -- a node is left
  pub left_on : (j : NameJudge A) (node : ℕ) (t : Tables A)
      → (AreRight s j.tables → AreRight (s ++ Leaves node ∷ []) t) → HasSeen s j
      → HasSeen (s ++ Leaves node ∷ []) (judge_of j.unsure t)
  left_on j node t right seen = record {
    doubt = seen.doubt ∙ sym (unsure-same s (Leaves node ∷ []) refl);
    right = λ e. right (seen.right e);
  }

pub doubt_verdict : (s : NameSession) (agreed : Agreed) (transfer : Transfer) (acts : List NameAct)
    → AreNameActs agreed s transfer (Unsure ∷ []) → AreNameActs agreed s transfer acts → false ≡ has_fault s acts
doubt_verdict s agreed transfer acts v are =
    ap (has_fault s) (name_acts_once agreed s transfer (Unsure ∷ []) acts v are)
