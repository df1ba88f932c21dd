-- The step function and the cases of `Refusals.antt` in `fuse_spec` say the same.
use Rattle.std.proofs.Common.{◌≡◌, ℕ, true, false, Ok, Err, sym, subst, ◌∙◌}
use Rattle.fuse_spec.specs.declared.Refusal.{Refusal}
use Rattle.fuse_spec.specs.World.Worlds.{World}
use Rattle.fuse_spec.specs.World.Events.{Event, Outcome}
use Rattle.fuse_spec.specs.World.Steps.{Stepped, is_past, step}
use Rattle.fuse_spec.specs.World.Refusals.{Leads, Refuses, allocates}
use Rattle.fuse_theorem.proofs.RefusalCases.Accepted.{ok_is}
use Rattle.fuse_theorem.proofs.RefusalCases.RefusalsOnly.{ByCases, is_refused, leads, by_cases}
use Rattle.fuse_theorem.proofs.RefusalCases.RefusalsAlso.{led_to, refused}

abbrev refused_with : Refusal → Stepped
refused_with r = Err r

same_refusal : (r s : Refusal) → refused_with r ≡ refused_with s → r ≡ s
same_refusal r s e = cc

module _ (choice : ℕ → ℕ) (w : World) (e : Event) where
  refused_is : (s : Stepped) (r : Refusal) → ByCases choice w e s → s ≡ Err r → Refuses choice w e r
  refused_is s r (is_refused q refuses) is = subst (Refuses choice w e) (same_refusal q r is) refuses
  refused_is s r (leads o after there within) is = absurd (cc)

  pub only_refused : (r : Refusal) → step choice w e ≡ Err r → Refuses choice w e r
  only_refused r stepped = refused_is (step choice w e) r (by_cases choice w e) stepped

  pub also_refused : (r : Refusal) → Refuses choice w e r → step choice w e ≡ Err r
  also_refused r refuses = refused choice w e r refuses

  pub refused_once : (r s : Refusal) → Refuses choice w e r → Refuses choice w e s → r ≡ s
  refused_once r s first second = same_refusal r s (sym (refused choice w e r first) ∙ refused choice w e s second)

  module _ (o : Outcome) (after : World) where
    leads_is : (s : Stepped) → ByCases choice w e s → s ≡ Ok (o, after) → Leads choice w e o after
    leads_is s (is_refused r refuses) is = absurd (cc)
    leads_is s (leads p reached there within) is =
        let same = ok_is p reached o after is in
        subst (λ (x : Outcome). Leads choice w e x after) same.outcome_is
        (subst (λ (v : World). Leads choice w e p v) same.after_is there)

    within_is : (s : Stepped) → ByCases choice w e s → s ≡ Ok (o, after) → allocates e ≡ true → is_past after ≡ false
    within_is s (is_refused r refuses) is allocated = absurd (cc)
    within_is s (leads p reached there within) is allocated =
        subst (λ (v : World). is_past v ≡ false) (ok_is p reached o after is).after_is (within allocated)

    pub only_accepted : step choice w e ≡ Ok (o, after) → Leads choice w e o after
    only_accepted stepped = leads_is (step choice w e) (by_cases choice w e) stepped

    pub within_accepted : step choice w e ≡ Ok (o, after) → allocates e ≡ true → is_past after ≡ false
    within_accepted stepped allocated = within_is (step choice w e) (by_cases choice w e) stepped allocated

    pub also_accepted : Leads choice w e o after → (allocates e ≡ true → is_past after ≡ false)
        → step choice w e ≡ Ok (o, after)
    also_accepted there within = led_to choice w e o after there within
