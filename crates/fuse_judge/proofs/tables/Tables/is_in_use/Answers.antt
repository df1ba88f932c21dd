use Rattle.std.proofs.Common.{◌≡◌, ap, nat_lt, Bool, true, false, true≢false, ◌||◌, ◌&&◌, not, ◌∙◌, sym, refl, inl, inr, ◌⊎◌}
use Rattle.fuse_judge.proofs.PendingLaws.{named_counts}
use Rattle.fuse_judge.proofs.tables.Tables.is_in_use.Goals as goal

either : (a b c : Bool) → (a || (b && not c)) ≡ true → (a ≡ true) ⊎ ((c ≡ false) × (b ≡ true))
either true b c e = inl refl
either false true true e = absurd (true≢false (sym e))
either false true false e = inr (refl, refl)
either false false c e = absurd (true≢false (sym e))

first_holds : (a b : Bool) → a ≡ true → (a || b) ≡ true
first_holds true b e = refl
first_holds false b e = absurd (cc)

second_holds : (a b c : Bool) → c ≡ false → b ≡ true → (a || (b && not c)) ≡ true
second_holds true b c e h = refl
second_holds false true true e h = absurd (true≢false e)
second_holds false true false e h = refl
second_holds false false c e h = absurd (true≢false (sym h))

pub returns : goal.returns
returns g c = λ s are.
    let named = ap (nat_lt 0) c.count-named.ensures ∙ named_counts s _ _ _ are.right_pending c.args.node in
    let opened = c.has_open-opened.ensures s are.right_opens in
    let none = are.right_flags.no_files in (
      (λ e. elim (either (nat_lt 0 c.count-named.result) c.has_open-opened.result _ e) [
        | inl h ↦ inl (sym named ∙ h)
        | inr h ↦ inr (sym none ∙ h.0, opened.0 h.1)
      ]),
      (λ u. elim u [
        | inl h ↦ first_holds (nat_lt 0 c.count-named.result) _ (named ∙ h)
        | inr h ↦ second_holds (nat_lt 0 c.count-named.result) c.has_open-opened.result _ (none ∙ h.0) (opened.1 h.1)
      ]),
    )
