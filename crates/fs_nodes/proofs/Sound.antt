-- Held nodes stay sound where one is added, counted again or taken out.
use Rattle.std.proofs.Common.{◌≡◌, ◌≢◌, ℕ, ◌+◌, ◌<◌, ◌≤◌, Bool, true, false, true≢false, Some, None, refl, ap, sym, ◌∙◌, subst, arith, inl, inr, T}
use Rattle.std.proofs.lemmas.Bool.{cases_eq}
use Rattle.std.proofs.lemmas.Option.{none-some, same_Some}
use Rattle.fuse_spec.specs.Values.Maps.{Map, get, put, remove}
use Rattle.fuse_spec.specs.Server.Nodes.{HeldNode}
use Rattle.fs_nodes.specs.Rows.{IsOfNone}
use Rattle.fs_nodes.specs.Sound.{IsSoundNodeTable}
use Rattle.fs_nodes.proofs.Inverse.{at_written, at_other}
use Rattle.fuse_tables.proofs.Maps.{get-put, get-remove, sorted_put, sorted_remove}

holds : (b : Bool) → b ≡ true → T b
holds true e = tt
holds false e = absurd (true≢false (sym e))

is_true : (b : Bool) → T b → b ≡ true
is_true true h = refl
is_true false h = absurd h

module _ (rows : Map HeldNode) (id : ℕ) (x : HeldNode) where
  put_here : (q : ℕ) (row : HeldNode) → id ≡ q → get (put rows id x) q ≡ Some row → x ≡ row
  put_here q row e is = same_Some x row (sym (at_written (get (put rows id x)) (get rows) id (Some x)
      (get-put rows id x) q e) ∙ is)

  put_there : (q : ℕ) (row : HeldNode) → id ≢ q → get (put rows id x) q ≡ Some row → get rows q ≡ Some row
  put_there q row ne is = sym (at_other (get (put rows id x)) (get rows) id (Some x) (get-put rows id x) q ne) ∙ is

removed : (rows : Map HeldNode) (id q : ℕ) (row : HeldNode) → get (remove rows id) q ≡ Some row → get rows q ≡ Some row
removed rows id q row is = elim (cases_eq id q) [
  | inl e ↦ absurd (none-some row (sym (at_written (get (remove rows id)) (get rows) id None
      (get-remove rows id) q e) ∙ is))
  | inr ne ↦ sym (at_other (get (remove rows id)) (get rows) id None (get-remove rows id) q ne) ∙ is
]

-- a node of a file that had none, under a free nodeid
pub sound_given : {rows : Map HeldNode} {next : ℕ} (new : Map HeldNode) (id : ℕ) (x : HeldNode)
    → IsSoundNodeTable (record { rows = rows; next_generation = next }) → 2 ≤ id → IsOfNone rows x.file
    → x.generation ≡ next → 0 < x.count → new ≡ put rows id x
    → IsSoundNodeTable (record { rows = new; next_generation = next + 1 })
sound_given {rows = rows} {next = next} new id x is low free generation some put_is =
    subst (λ m. IsSoundNodeTable (record { rows = m; next_generation = next + 1 })) (sym put_is) (record {
      sorted = is_true _ (sorted_put rows id x (holds _ is.sorted));
      from_two = λ q row at. elim (cases_eq id q) [
        | inl e ↦ omega (arith, e)
        | inr ne ↦ is.from_two q row
            (put_there rows id x q row ne at)
      ];
      one_each = λ q o row same at there file. elim (cases_eq id q) [
        | inl e ↦ elim (cases_eq id o) [
          | inl f ↦ sym e ∙ f
          | inr nf ↦ absurd (free o same (put_there rows id x o same nf there)
              (sym file ∙ ap (λ (r : HeldNode). r.file) (sym (put_here rows id x q row e at))))
        ]
        | inr ne ↦ elim (cases_eq id o) [
          | inl f ↦ absurd (free q row (put_there rows id x q row ne at)
              (file ∙ ap (λ (r : HeldNode). r.file) (sym (put_here rows id x o same f there))))
          | inr nf ↦ is.one_each q o row same (put_there rows id x q row ne at) (put_there rows id x o same nf there) file
        ]
      ];
      counted = λ q row at. elim (cases_eq id q) [
        | inl e ↦ (let same = ap (λ (r : HeldNode). r.count) (put_here rows id x q row e at) in omega (arith, same))
        | inr ne ↦ is.counted q row (put_there rows id x q row ne at)
      ];
      given_before = λ q row at. elim (cases_eq id q) [
        | inl e ↦ (let same = ap (λ (r : HeldNode). r.generation) (put_here rows id x q row e at) in omega (arith, same))
        | inr ne ↦ (let before = is.given_before q row (put_there rows id x q row ne at) in omega (arith, before))
      ];
    })

-- another count of a node
pub sound_counted : {rows : Map HeldNode} {next : ℕ} (new : Map HeldNode) (id : ℕ) (was x : HeldNode)
    → IsSoundNodeTable (record { rows = rows; next_generation = next }) → get rows id ≡ Some was
    → x.file ≡ was.file → x.generation ≡ was.generation → 0 < x.count → new ≡ put rows id x
    → IsSoundNodeTable (record { rows = new; next_generation = next })
sound_counted {rows = rows} {next = next} new id was x is there file generation some put_is =
    subst (λ m. IsSoundNodeTable (record { rows = m; next_generation = next })) (sym put_is) (record {
      sorted = is_true _ (sorted_put rows id x (holds _ is.sorted));
      from_two = λ q row at. (let h = old q row at in is.from_two q h.0 h.1);
      one_each = λ q o row same at at_o files. (let h = old q row at in let k = old o same at_o in
          is.one_each q o h.0 k.0 h.1 k.1 (h.2 ∙ files ∙ sym k.2));
      counted = λ q row at. elim (cases_eq id q) [
        | inl e ↦ (let same = ap (λ (r : HeldNode). r.count) (put_here rows id x q row e at) in omega (arith, same))
        | inr ne ↦ is.counted q row (put_there rows id x q row ne at)
      ];
      given_before = λ q row at. (let h = old q row at in let before = is.given_before q h.0 h.1 in
          omega (arith, before, h.3));
    })
  where
    old : (q : ℕ) (row : HeldNode) → get (put rows id x) q ≡ Some row
        → (o : HeldNode) × (get rows q ≡ Some o) × (o.file ≡ row.file) × (o.generation ≡ row.generation)
    old q row at = elim (cases_eq id q) [
      | inl e ↦ (let same = put_here rows id x q row e at in (
        was,
        ap (get rows) (sym e) ∙ there,
        sym file ∙ ap (λ (r : HeldNode). r.file) same,
        sym generation ∙ ap (λ (r : HeldNode). r.generation) same,
      ))
      | inr ne ↦ (row, put_there rows id x q row ne at, refl, refl)
    ]

-- a node goes
pub sound_gone : {rows : Map HeldNode} {next : ℕ} (new : Map HeldNode) (id : ℕ)
    → IsSoundNodeTable (record { rows = rows; next_generation = next }) → new ≡ remove rows id
    → IsSoundNodeTable (record { rows = new; next_generation = next })
sound_gone {rows = rows} {next = next} new id is remove_is =
    subst (λ m. IsSoundNodeTable (record { rows = m; next_generation = next })) (sym remove_is) (record {
      sorted = is_true _ (sorted_remove rows id (holds _ is.sorted));
      from_two = λ q row at. is.from_two q row (removed rows id q row at);
      one_each = λ q o row same at at_o files. is.one_each q o row same (removed rows id q row at)
          (removed rows id o same at_o) files;
      counted = λ q row at. is.counted q row (removed rows id q row at);
      given_before = λ q row at. is.given_before q row (removed rows id q row at);
    })
