-- Nodes in use, and nodes that are evicted.
use Rattle.std.proofs.Common.{◌≡◌, ◌≢◌, ℕ, ◌+◌, ◌≤◌, Bool, true, false, ◌||◌, [], ◌∷◌, Option, Some, None, Bor, refl, sym, ap, ◌∙◌, arith, inl, inr, true≢false}
use Rattle.std.specs.Prelude.{option_map, ◌&&◌, not, cond, nat_eq}
use Rattle.std.specs.Option.{option_copied}
use Rattle.std.specs.Prelude.{is_some}
use Rattle.std.specs.List.{list_any}
use Rattle.std.proofs.lemmas.Bool.{cases_eq}
use Rattle.fuse_spec.proofs.Tables.{get_gone_here, get_gone_there}
use Rattle.fuse_spec.specs.declared.Counted.{Counted}
use Rattle.fuse_spec.specs.Values.Maps.{Map, get, remove, values}
use Rattle.fuse_spec.specs.Kernel.Kernel.{Kernel, is_live, is_pinned, is_bound}
use Rattle.fuse_spec.specs.Kernel.Refusals.{unused_found, refusal_in, accepted}
use Rattle.fk_kernel.specs.Refused.{evict_refusal}
use Rattle.fk_kernel.specs.Soundness.{CanForgetAll}
use Rattle.fk_kernel.proofs.Sound.{length_gone}

-- One node fewer is counted, and there is room for one forget fewer.
pub evicted_counted : (nodes : Map Counted) (node forgets more : ℕ) → CanForgetAll nodes forgets → get nodes node ≢ None
    → forgets ≤ more + 1 → CanForgetAll (remove nodes node) more
evicted_counted nodes node forgets more old there room =
    let fewer = length_gone nodes node there in
    record {
      below = record {
        below = λ id counted at.
            elim (cases_eq id node) [
              | inl e ↦
                  let no : ◌≡◌ {A = Option Counted} None (Some counted) =
                  sym (get_gone_here nodes node) ∙ ap (λ (k : ℕ). get (remove nodes node) k) (sym e) ∙ at in
                  cc
              | inr ne ↦ old.below.below id counted (sym (get_gone_there nodes node id ne) ∙ at)
            ];
      };
      room = omega (arith, fewer, old.room);
    }

pub is_there : (nodes : Map Counted) (node count : ℕ)
    → Some count ≡ option_map (λ (counted : Counted). counted.count) (get nodes node) → get nodes node ≢ None
is_there nodes node count is none =
    let no : ◌≡◌ {A = Option ℕ} (Some count) None = is ∙ ap (option_map (λ (counted : Counted). counted.count)) none in
    cc

-- What a test of the entries but one finds is what a test finds once that is gone.
pub any_gone : {V : Type 0} (test : V → Bool) (m : Map V) (k : ℕ)
    → list_any (λ (e : ℕ × V). not (nat_eq e.0 k) && test e.1) m ≡ list_any test (values (remove m k))
any_gone test [] k = refl
any_gone {V} test (e ∷ m) k =
    elim (nat_eq e.0 k) as (λ b. ((not b && test e.1) || list_any (λ (x : ℕ × V). not (nat_eq x.0 k) && test x.1) m)
    ≡ list_any test (values (cond (not b) (e ∷ remove m k) (remove m k)))) [
      | true ↦ any_gone test m k
      | false ↦ ap (λ (b : Bool). test e.1 || b) (any_gone test m k)
    ]

pub copied_is : {X : Type 0} (o : Option (Bor X)) → is_some (option_copied o) ≡ is_some o
copied_is None = refl
copied_is (Some x) = refl

-- a node that is counted, not in use and not named is evicted
pub unrefused : (k : Kernel) (node : ℕ) → is_live k.phase ≡ true → is_some (get k.nodes node) ≡ true
    → (is_pinned k node || is_bound k node) ≡ false → None ≡ evict_refusal k node
unrefused k node live there idle = rw live (by (get k.nodes node) there)
  where
    by : (o : Option Counted) → is_some o ≡ true → None ≡ refusal_in (unused_found k node o (λ counted. accepted))
    by None never = absurd (true≢false (sym never))
    by (Some counted) some = rw idle refl
