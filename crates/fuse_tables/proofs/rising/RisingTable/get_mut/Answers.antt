use Rattle.std.proofs.Common.{◌≡◌, Option, Some, None, is_some, true, ◌∙◌, ◌-◌, ◌/◌, refl, sym, ap, subst, inl, inr}
use Rattle.std.specs.Borrow.{MutBor}
use Rattle.std.specs.Option.{ghost_name_of, option_copied_mut}
use borrow.Follows.Closed.{read_of}
use Rattle.fuse_tables.specs.LateValues.{entries_of, IsRisingTable}
use Rattle.fuse_tables.proofs.LateEntries.{sorted_entries}
use Rattle.fuse_tables.proofs.Written.{table_of, same_row, late_is, late_entries, late_written, row_is_value, row_entries, row_written}
use Rattle.fuse_tables.proofs.rising.RisingTable.get_mut.Goals as goal

-- what is written through a borrow, where there is one
lent_as : {V A : Type 0} (r : Option (MutBor V)) (f g : V → A) (x y : A)
    → (is_some (option_copied_mut r) ≡ true → (w : V) → f w ≡ g w) → x ≡ y
    → read_of (ghost_name_of r) f x ≡ read_of (ghost_name_of r) g y
lent_as None f g x y written same = ap inr same
lent_as (Some b) f g x y written same = λ i. inl (b.ghost_name, λ w. written refl w i)

pub invariant_of-self-lent : goal.invariant_of-self-lent
invariant_of-self-lent g c =
    let lent = c.get_mut.follows in
    λ r. (
      λ w. late_written c.self.invariant (lent.lender w).entries c.args.key w c.in_default.ensures (lent.holds w).0
          (λ some. ((lent.holds w).3 some).0),
      subst (λ l. IsRisingTable c.self.inside.rows.items l.entries c.self.inside.count c.self.inside.rows.cap)
          (sym lent.holds-at-none) c.self.invariant,
    )

pub returns-in_default : goal.returns-in_default
returns-in_default g c =
    let rows = c.self.inside.rows in
    let room = rows.cap / 2 - c.self.inside.count in
    let lent = c.get_mut.follows in
    let value = c.get_mut.ensures.value in
    rw (← c.self.view_is) (
      lent_as c.get_mut.result _ _ _ _
          (λ some w. ap (table_of room) (late_entries c.self.invariant (lent.lender w).entries c.args.key w
          ((lent.holds w).3 (ap is_some (sym value) ∙ some)).0))
          (ap (λ l. table_of room (entries_of rows.items l.entries)) lent.holds-at-none),
      record {
        writes_back = tt;
        value = value ∙ sym (late_is c.self.invariant c.args.key c.in_default.ensures);
        sorted = sorted_entries c.self.invariant.kept;
      },
    )

pub invariant_of-self-lent-2 : goal.invariant_of-self-lent-2
invariant_of-self-lent-2 g c = λ w.
    let none = c.self.invariant.kept.apart c.args.key c.in-Some.ensures.1 in
    row_written c.self.invariant c.args.key none c.in-Some.place c.index_mut-row.result.now c.in-Some.ensures.0
    c.index_mut-row.ensures.value w (sym c.in_ok-value.ensures.variant)

pub returns-in_err-value : goal.returns-in_err-value
returns-in_err-value g c =
    let none = c.self.invariant.kept.apart c.args.key c.in-Some.ensures.1 in
    let rows = c.self.inside.rows in
    let late = c.self.inside.late.entries in
    let room = rows.cap / 2 - c.self.inside.count in
    let row = c.index_mut-row.result.now in
    let value = row_is_value c.self.invariant c.args.key none c.in-Some.place row c.in-Some.ensures.0
    c.index_mut-row.ensures.value in
    rw (c.from_residual.ensures, ← c.self.view_is) (
      ap (λ items. inr (table_of room (entries_of items late))) (same_row rows.items c.in-Some.place row
          c.index_mut-row.ensures.value),
      record { writes_back = tt; value = c.in_err-value.ensures.value ∙ value; sorted = sorted_entries c.self.invariant.kept },
    )

pub returns : goal.returns
returns g c =
    let none = c.self.invariant.kept.apart c.args.key c.in-Some.ensures.1 in
    let rows = c.self.inside.rows in
    let room = rows.cap / 2 - c.self.inside.count in
    let row = c.index_mut-row.result.now in
    let value = row_is_value c.self.invariant c.args.key none c.in-Some.place row c.in-Some.ensures.0
    c.index_mut-row.ensures.value in
    let written = row_entries c.self.invariant c.args.key none c.in-Some.place row c.in-Some.ensures.0
    c.index_mut-row.ensures.value in
    rw (← c.self.view_is) (
      (λ i. inl (c.in_ok-value.value.ghost_name, λ w. ap (table_of room) (written w) i)),
      record { writes_back = tt; value = c.in_ok-value.ensures.value ∙ value; sorted = sorted_entries c.self.invariant.kept },
    )
