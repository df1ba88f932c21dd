-- The verdicts on several acts.
use Rattle.std.proofs.Common.{◌≡◌, ◌↔◌, ℕ, zero, suc, List, [], ◌∷◌, ◌++◌, Option, Some, take, refl, ap, sym, subst, append_assoc}
use Rattle.std.specs.Prelude.{slice_get}
use Rattle.std.proofs.lemmas.Option.{none-some, same_Some}
use Rattle.std.proofs.lemmas.List.{append-nil}
use Rattle.fuse_sessions.specs.declared.act.Act.{Act}
use Rattle.fuse_sessions.specs.declared.fault.Fault.{Fault}
use Rattle.fuse_sessions.specs.Sessions.{Session}
use Rattle.fuse_sessions.specs.Faults.{Breaks, HasFaultAt}
use Rattle.fuse_judge.specs.Verdicts.{IsVerdict, AreVerdicts}

-- one more act, with its verdict
pub verdicts-more : (s acts : Session) (verdicts : List (Option Fault)) (act : Act) (verdict : Option Fault)
    → AreVerdicts s acts verdicts → IsVerdict (s ++ acts) act verdict
    → AreVerdicts s (acts ++ act ∷ []) (verdicts ++ verdict ∷ [])
verdicts-more s [] [] act verdict are is = (subst (λ t. IsVerdict t act verdict) (append-nil s) is, tt)
verdicts-more s [] (v ∷ verdicts) act verdict are is = absurd are
verdicts-more s (a ∷ acts) [] act verdict are is = absurd are
verdicts-more s (a ∷ acts) (v ∷ verdicts) act verdict are is = (
  are.0,
  verdicts-more (s ++ a ∷ []) acts verdicts act verdict are.1
      (subst (λ t. IsVerdict t act verdict) (sym (append_assoc s (a ∷ []) acts)) is),
)

-- the verdict at a place is the fault of the act there
pub verdict_at : (s acts : Session) (verdicts : List (Option Fault)) → AreVerdicts s acts verdicts
    → (place : ℕ) (fault : Fault)
    → slice_get verdicts place ≡ Some (Some fault) ↔ HasFaultAt s acts place fault
verdict_at s [] [] are place fault = ((λ e. absurd (none-some _ e)), (λ at. absurd (none-some _ at.stands)))
verdict_at s [] (v ∷ verdicts) are place fault = absurd are
verdict_at s (a ∷ acts) [] are place fault = absurd are
verdict_at s (a ∷ acts) (v ∷ verdicts) are zero fault = (
  (λ e. record {
    act = a;
    stands = refl;
    breaks = subst (λ t. Breaks t a fault) (sym (append-nil s)) ((are.0 fault).0 (same_Some v (Some fault) e));
  }),
  (λ at. ap Some ((are.0 fault).1 (subst (λ t. Breaks t a fault) (append-nil s)
      (subst (λ x. Breaks (s ++ []) x fault) (sym (same_Some a at.act at.stands)) at.breaks)))),
)
verdict_at s (a ∷ acts) (v ∷ verdicts) are (suc place) fault =
    let later = verdict_at (s ++ a ∷ []) acts verdicts are.1 place fault in
    let joined : s ++ a ∷ [] ++ take place acts ≡ s ++ (a ∷ take place acts) = append_assoc s (a ∷ [])
    (take place acts) in (
      (λ e. let at = later.0 e in record {
        act = at.act;
        stands = at.stands;
        breaks = subst (λ t. Breaks t at.act fault) joined at.breaks;
      }),
      (λ at. later.1 record {
        act = at.act;
        stands = at.stands;
        breaks = subst (λ t. Breaks t at.act fault) (sym joined) at.breaks;
      }),
    )
