-- Two maps stay each other's inverse where a file and its place are added to both, or taken from both.
use Rattle.std.proofs.Common.{◌≡◌, ◌≢◌, ℕ, false, cond, Option, Some, None, ap, sym, ◌∙◌, arith, rules, nat_eq, inl, inr}
use Rattle.std.proofs.lemmas.Bool.{cases_eq, eq-eqb}
use Rattle.std.proofs.lemmas.Option.{none-some, same_Some}
use Rattle.fs_nodes.specs.Inverse.{AreInverse}

apart : (a b : ℕ) → a ≢ b → nat_eq a b ≡ false
apart a b ne = grind (arith, ne, rules)

-- what a map has where it is written, and elsewhere
module _ {X : Type 0} (new old : ℕ → Option X) (k : ℕ) (o : Option X)
    (at : (q : ℕ) → new q ≡ cond (nat_eq k q) o (old q)) where
  pub at_written : (q : ℕ) → k ≡ q → new q ≡ o
  at_written q e = at q ∙ ap (λ b. cond b o (old q)) (eq-eqb k q e)

  pub at_other : (q : ℕ) → k ≢ q → new q ≡ old q
  at_other q ne = at q ∙ ap (λ b. cond b o (old q)) (apart k q ne)

pub inverse_same : {files places : ℕ → Option ℕ} (new : ℕ → Option ℕ) → AreInverse files places
    → ((q : ℕ) → new q ≡ files q) → AreInverse new places
inverse_same new are same = record {
  leads = λ file place is. same place ∙ are.leads file place is;
  named = λ file place is. are.named file place (sym (same place) ∙ is);
}

pub inverse_with : {files places : ℕ → Option ℕ} (new more : ℕ → Option ℕ) (file place : ℕ) → AreInverse files places
    → files place ≡ None → places file ≡ None
    → ((q : ℕ) → new q ≡ cond (nat_eq place q) (Some file) (files q))
    → ((q : ℕ) → more q ≡ cond (nat_eq file q) (Some place) (places q)) → AreInverse new more
inverse_with {files = files} {places = places} new more file place are free absent at put = record {
  leads = λ f p is. elim (cases_eq file f) [
    | inl e ↦ at_written new files place (Some file) at p
        (same_Some place p (sym (at_written more places file (Some place) put f e) ∙ is)) ∙ ap Some e
    | inr ne ↦
        let was = are.leads f p (sym (at_other more places file (Some place) put f ne) ∙ is) in
        at_other new files place (Some file) at p (λ e. none-some f (sym free ∙ ap files e ∙ was)) ∙ was
  ];
  named = λ f p is. elim (cases_eq place p) [
    | inl e ↦ at_written more places file (Some place) put f
        (same_Some file f (sym (at_written new files place (Some file) at p e) ∙ is)) ∙ ap Some e
    | inr ne ↦
        let was = are.named f p (sym (at_other new files place (Some file) at p ne) ∙ is) in
        at_other more places file (Some place) put f (λ e. none-some p (sym absent ∙ ap places e ∙ was)) ∙ was
  ];
}

pub inverse_without : {files places : ℕ → Option ℕ} (new fewer : ℕ → Option ℕ) (file place : ℕ)
    → AreInverse files places → files place ≡ Some file
    → ((q : ℕ) → new q ≡ cond (nat_eq place q) None (files q))
    → ((q : ℕ) → fewer q ≡ cond (nat_eq file q) None (places q)) → AreInverse new fewer
inverse_without {files = files} {places = places} new fewer file place are there at gone = record {
  leads = λ f p is. elim (cases_eq file f) [
    | inl e ↦ absurd (none-some p (sym (at_written fewer places file None gone f e) ∙ is))
    | inr ne ↦
        let was = are.leads f p (sym (at_other fewer places file None gone f ne) ∙ is) in
        at_other new files place None at p (λ e. ne (same_Some file f (sym there ∙ ap files e ∙ was))) ∙ was
  ];
  named = λ f p is. elim (cases_eq place p) [
    | inl e ↦ absurd (none-some f (sym (at_written new files place None at p e) ∙ is))
    | inr ne ↦
        let was = are.named f p (sym (at_other new files place None at p ne) ∙ is) in
        at_other fewer places file None gone f (λ e. ne (same_Some place p
        (sym (are.named file place there) ∙ ap places e ∙ was))) ∙ was
  ];
}
