-- Open files as keys, and their counts, with one more or fewer or with the same.
use Rattle.std.proofs.Common.{◌≡◌, ℕ, ◌+◌, ◌-◌, Bool, true, false, ◌&&◌, refl, ◌∙◌, ap, arith, rules, nat_eq}
use Rattle.std.specs.Bool.{beq}
use Rattle.fuse_sessions.specs.declared.act.OpenFile.{OpenFile}
use Rattle.fuse_sessions.specs.declared.act.OpenKind.{OpenKind}
use Rattle.fuse_sessions.specs.declared.act.OpenKind.TheVariants as kind
use Rattle.fuse_sessions.specs.Waiting.{same_open, same_kind}
use Rattle.fuse_judge.specs.declared.handle.Handle.{Handle}
use Rattle.fuse_judge.specs.Handles.{is_directory, handle, same_handle}
use Rattle.fuse_judge.specs.Tallies.{Counts, count_in, one_if}

tells : (a b : OpenKind) (rest : Bool) → (beq (is_directory a) (is_directory b) && rest) ≡ (same_kind a b && rest)
tells kind.File kind.File rest = refl
tells kind.File kind.Directory rest = refl
tells kind.Directory kind.File rest = refl
tells kind.Directory kind.Directory rest = refl

pub same_keys : (a b : OpenFile) → same_handle (handle a) (handle b) ≡ same_open a b
same_keys a b = tells a.kind b.kind (nat_eq a.nodeid b.nodeid && nat_eq a.fh b.fh)

pub left_of : (a b : Bool) → (a && b) ≡ true → a ≡ true
left_of true b e = refl
left_of false b e = e

pub right_of : (a b : Bool) → (a && b) ≡ true → b ≡ true
right_of true b e = e
right_of false true e = refl
right_of false false e = e

pub same_numbers : (a b : ℕ) → nat_eq a b ≡ true → a ≡ b
same_numbers a b e = grind (arith, rules)

module _ (old new : Counts Handle) (key : OpenFile) where
  pub one_more : ((q : Handle) → count_in same_handle new q
      ≡ count_in same_handle old q + one_if (same_handle (handle key) q))
      → (q : OpenFile) → count_in same_handle new (handle q)
      ≡ count_in same_handle old (handle q) + one_if (same_open key q)
  one_more is q = is (handle q) ∙ ap (λ b. count_in same_handle old (handle q) + one_if b) (same_keys key q)

  pub one_fewer : ((q : Handle) → count_in same_handle new q
      ≡ count_in same_handle old q - one_if (same_handle (handle key) q))
      → (q : OpenFile) → count_in same_handle new (handle q)
      ≡ count_in same_handle old (handle q) - one_if (same_open key q)
  one_fewer is q = is (handle q) ∙ ap (λ b. count_in same_handle old (handle q) - one_if b) (same_keys key q)
