use Rattle.std.proofs.Common.{not, cond, count_by, ap, ◌∙◌, map, nat_eq, refl, arith, ℕ}
use Rattle.std.proofs.lemmas.Grind.{common_steps}
use Rattle.fs_tree.specs.Views.{viewed_file}
use Rattle.fs_tree.proofs.ListLemmas.{filter-map}
use Rattle.fs_tree.proofs.files.Files.retain_named.Goals as goal

pub retain-requires-clause-steady : goal.retain-requires-clause-steady
retain-requires-clause-steady g c = (
  λ k. not (nat_eq (cond (nat_eq k 0) 1 (count_by (λ n. nat_eq n.file k) c.args.names.now)) 0),
  λ k b says. grind (arith, common_steps),
)

pub returns : goal.returns
returns g c =
    let test = λ (k : ℕ). not (nat_eq (cond (nat_eq k 0) 1 (count_by (λ n. nat_eq n.file k) c.args.names.now)) 0) in
    let kept = c.retain.ensures.entries test (λ k b says. grind (arith, common_steps)) in
    rw (← c.self.view_is) (ap (map viewed_file) kept ∙ filter-map viewed_file _ (λ e. test e.0) (λ e. refl)
    c.self.inside.contents.entries)
