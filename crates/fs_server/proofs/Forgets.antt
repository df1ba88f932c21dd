-- Lookups that are given back, pair by pair.
use Rattle.std.proofs.Common.{◌≡◌, ◌≢◌, ℕ, ◌+◌, ◌-◌, ◌≤◌, Bool, true, false, true≢false, cond, ◌||◌, List, [], ◌∷◌, Option, Some, None, nat_eq, refl, sym, ap, subst, arith, inl, inr}
use Rattle.std.specs.Prelude.{nat_lt}
use Rattle.std.specs.List.{list_any}
use Rattle.std.proofs.lemmas.Bool.{ltb-false, cases_eq, eq-eqb}
use Rattle.std.proofs.lemmas.List.Sums.{sum_by-append}
use Rattle.fuse_spec.specs.Values.Maps.{get, put, remove}
use Rattle.fuse_spec.specs.Kernel.Messages.{Forget}
use Rattle.fuse_spec.specs.Server.Nodes.{HeldNode, NodeTable, taken_back, rows_less}
use Rattle.fuse_spec.specs.Server.Server.{count_in, forgotten}
use Rattle.fuse_spec.proofs.Tables.{get_put_here, get_put_there, get_gone_here, get_gone_there}
use Rattle.fs_tree.proofs.Shaping.{same_number, other_number}

-- the lookups of a node, of one pair more
pub forgotten_more : (id node n : ℕ) (fs : List Forget)
    → forgotten id ((node, n) ∷ fs) ≡ cond (nat_eq node id) n 0 + forgotten id fs
forgotten_more id node n fs =
    let both : forgotten id ((node, n) ∷ fs) ≡ forgotten id ((node, n) ∷ []) + forgotten id fs =
    sum_by-append (λ (f : Forget). cond (nat_eq f.0 id) f.1 0) ((node, n) ∷ []) fs in
    omega (arith, both)

pub forgotten_here : (id n : ℕ) (fs : List Forget) → forgotten id ((id, n) ∷ fs) ≡ n + forgotten id fs
forgotten_here id n fs =
    let more = forgotten_more id id n fs in
    let one : cond (nat_eq id id) n 0 ≡ n = ap (λ (b : Bool). cond b n 0) (eq-eqb id id refl) in
    omega (arith, more, one)

pub forgotten_there : (id node n : ℕ) (fs : List Forget) → node ≢ id → forgotten id ((node, n) ∷ fs) ≡ forgotten id fs
forgotten_there id node n fs ne =
    let more = forgotten_more id node n fs in
    let none : cond (nat_eq node id) n 0 ≡ 0 = ap {B = ℕ} (λ (b : Bool). cond b n 0) (other_number node id ne) in
    omega (arith, more, none)

-- a node of which nothing is said, or one of a pair
not_forgotten : (id : ℕ) (fs : List Forget) → list_any (λ f. nat_eq f.0 id) fs ≡ false → forgotten id fs ≡ 0
not_forgotten id [] none = refl
not_forgotten id (f ∷ fs) none = by (nat_eq f.0 id) refl none (not_forgotten id fs)
  where
    by : (b : Bool) → nat_eq f.0 id ≡ b → (b || list_any (λ f. nat_eq f.0 id) fs) ≡ false
        → (list_any (λ f. nat_eq f.0 id) fs ≡ false → forgotten id fs ≡ 0) → forgotten id (f ∷ fs) ≡ 0
    by true e any rest = absurd (true≢false any)
    by false e any rest =
        let more : forgotten id (f ∷ fs) ≡ cond (nat_eq f.0 id) f.1 0 + forgotten id fs =
        forgotten_more id f.0 f.1 fs in
        let zero : cond (nat_eq f.0 id) f.1 0 ≡ 0 = ap {B = ℕ} (λ (b : Bool). cond b f.1 0) e in
        let less = rest any in
        omega (arith, more, zero, less)

module _ (t : NodeTable) (all : List Forget) where
  of_pair : (id : ℕ) (fs : List Forget) → list_any (λ f. nat_lt (count_in (get t.rows f.0)) (forgotten f.0 all)) fs
      ≡ false → list_any (λ f. nat_eq f.0 id) fs ≡ true → forgotten id all ≤ count_in (get t.rows id)
  of_pair id [] enough any = absurd (true≢false (sym any))
  of_pair id (f ∷ fs) enough any = by (nat_eq f.0 id)
      (nat_lt (count_in (get t.rows f.0)) (forgotten f.0 all)) refl refl enough any (of_pair id fs)
    where
      by : (b l : Bool) → nat_eq f.0 id ≡ b → nat_lt (count_in (get t.rows f.0)) (forgotten f.0 all) ≡ l
          → (l || list_any (λ f. nat_lt (count_in (get t.rows f.0)) (forgotten f.0 all)) fs) ≡ false
          → (b || list_any (λ f. nat_eq f.0 id) fs) ≡ true
          → (list_any (λ f. nat_lt (count_in (get t.rows f.0)) (forgotten f.0 all)) fs ≡ false
          → list_any (λ f. nat_eq f.0 id) fs ≡ true → forgotten id all ≤ count_in (get t.rows id))
          → forgotten id all ≤ count_in (get t.rows id)
      by b true same less few any rest = absurd (true≢false few)
      by true false same less few any rest = subst (λ (x : ℕ). forgotten x all ≤ count_in (get t.rows x))
          (same_number f.0 id same) (ltb-false (count_in (get t.rows f.0)) (forgotten f.0 all) less)
      by false false same less few any rest = rest few any

  -- where no node has fewer lookups than are given back, none has
  pub enough : list_any (λ f. nat_lt (count_in (get t.rows f.0)) (forgotten f.0 all)) all ≡ false → (id : ℕ)
      → forgotten id all ≤ count_in (get t.rows id)
  enough few id = by (list_any (λ f. nat_eq f.0 id) all) refl
    where
      by : (b : Bool) → list_any (λ f. nat_eq f.0 id) all ≡ b → forgotten id all ≤ count_in (get t.rows id)
      by true e = of_pair id all few e
      by false e = let none = not_forgotten id all e in omega (arith, none)

-- one pair is given back, and the others still can be
module _ (t : NodeTable) (node n : ℕ) (fs : List Forget)
    (old : (id : ℕ) → forgotten id ((node, n) ∷ fs) ≤ count_in (get t.rows id)) where
  pub first_has : n ≤ count_in (get t.rows node)
  first_has = let here = forgotten_here node n fs in let most = old node in omega (arith, here, most)

  pub rest_has : (id : ℕ) → forgotten id fs ≤ count_in (get (taken_back t node n).rows id)
  rest_has id = elim (cases_eq node id) [
    | inl e ↦ subst (λ (x : ℕ). forgotten x fs ≤ count_in (get (taken_back t node n).rows x)) e
        (here (get t.rows node) refl)
    | inr ne ↦ there ne (get t.rows node) refl
  ]
    where
      least : forgotten node fs + n ≤ count_in (get t.rows node)
      least = let here = forgotten_here node n fs in let most = old node in omega (arith, here, most)

      less : (row : HeldNode) (b : Bool) → nat_lt n row.count ≡ b → forgotten node fs + n ≤ row.count
          → forgotten node fs ≤ count_in (get (cond b (put t.rows node (record row { count = row.count - n }))
          (remove t.rows node)) node)
      less row true e le = rw (get_put_here t.rows node (record row { count = row.count - n })) (omega (arith, le))
      less row false e le = let most = ltb-false n row.count e in
          rw (get_gone_here t.rows node) (omega (arith, le, most))

      here : (o : Option HeldNode) → get t.rows node ≡ o
          → forgotten node fs ≤ count_in (get (rows_less t.rows node n o) node)
      here None e = let low = ap count_in e in omega (arith, low, least)
      here (Some row) e = less row (nat_lt n row.count) refl (let count = ap count_in e in omega (arith, count, least))

      kept : (row : HeldNode) (b : Bool) → id ≢ node → get
          (cond b (put t.rows node (record row { count = row.count - n })) (remove t.rows node)) id ≡ get t.rows id
      kept row true ne = get_put_there t.rows node (record row { count = row.count - n }) id ne
      kept row false ne = get_gone_there t.rows node id ne

      same : node ≢ id → (o : Option HeldNode) → get (rows_less t.rows node n o) id ≡ get t.rows id
      same ne None = refl
      same ne (Some row) = kept row (nat_lt n row.count) (λ e. ne (sym e))

      there : node ≢ id → (o : Option HeldNode) → get t.rows node ≡ o
          → forgotten id fs ≤ count_in (get (rows_less t.rows node n o) id)
      there ne o e =
          let still = ap count_in (same ne o) in
          let more = forgotten_there id node n fs ne in
          let most = old id in
          omega (arith, still, more, most)
