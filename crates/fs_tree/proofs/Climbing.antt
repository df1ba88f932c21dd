-- Going up from a directory, step by step.
use Rattle.std.proofs.Common.{◌≡◌, ◌≢◌, eq-eqb, ℕ, zero, suc, ◌+◌, ◌-◌, ◌<◌, true, false, List, Option, Some, None, find, nat_eq, refl, ap, ◌∙◌, arith}
use Rattle.std.specs.Option.{option_map}
use Rattle.std.proofs.lemmas.Grind.{common_steps}
use Rattle.fuse_spec.specs.Files.Trees.{Named, is_within}

-- the directory of the first name of a file
abbrev pub parent_in : List Named → ℕ → Option ℕ
parent_in names file = option_map (λ n. n.directory) (find (λ n. nat_eq n.file file) names)

module _ (names : List Named) (top directory : ℕ) where
  other : directory ≢ top → nat_eq directory top ≡ false
  other apart = grind (arith, common_steps)

  -- the directory itself, however many steps are left
  pub within-here : (steps : ℕ) → directory ≡ top → is_within steps names top directory ≡ true
  within-here zero here = eq-eqb directory top here
  within-here (suc steps) here = rw (eq-eqb directory top here) refl

  above : (o : Option Named) (steps : ℕ) → find (λ n. nat_eq n.file directory) names ≡ o → nat_eq directory top ≡ false
      → is_within (suc steps) names top directory
      ≡ elim o [ None ↦ false | Some n ↦ is_within steps names top n.directory ]
  above o steps at apart = rw (apart, at) refl

  -- one step up
  pub within-up : (steps i parent : ℕ) → i < steps → directory ≢ top → parent_in names directory ≡ Some parent
      → is_within (steps - i) names top directory ≡ is_within (steps - (i + 1)) names top parent
  within-up steps i parent below not_here at =
      let e : steps - i ≡ suc (steps - (i + 1)) = omega arith in
      rw e (by (find (λ n. nat_eq n.file directory) names) refl at)
    where
      by : (o : Option Named) → find (λ n. nat_eq n.file directory) names ≡ o
          → option_map (λ n. n.directory) o ≡ Some parent
          → is_within (suc (steps - (i + 1))) names top directory ≡ is_within (steps - (i + 1)) names top parent
      by None found at = cc
      by (Some n) found at = above (Some n) (steps - (i + 1)) found (other not_here) ∙ ap
          (is_within (steps - (i + 1)) names top) (same_parent n.directory parent at)
        where
          same_parent : (a b : ℕ) → Some a ≡ Some b → a ≡ b
          same_parent a b e = cc

  -- no way up
  pub within-top : (steps i : ℕ) → i < steps → directory ≢ top → parent_in names directory ≡ None
      → is_within (steps - i) names top directory ≡ false
  within-top steps i below not_here at =
      let e : steps - i ≡ suc (steps - (i + 1)) = omega arith in
      rw e (by (find (λ n. nat_eq n.file directory) names) refl at)
    where
      by : (o : Option Named) → find (λ n. nat_eq n.file directory) names ≡ o → option_map (λ n. n.directory) o ≡ None
          → is_within (suc (steps - (i + 1))) names top directory ≡ false
      by None found at = above None (steps - (i + 1)) found (other not_here)
      by (Some n) found at = cc

  -- no step left
  pub within-end : (steps i : ℕ) → i ≡ steps → is_within (steps - i) names top directory ≡ nat_eq directory top
  within-end steps i end = let e : steps - i ≡ zero = omega arith in rw e refl
