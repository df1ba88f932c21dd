-- How the lookup counts of the server's nodes change, and those of the kernel.
use Rattle.std.proofs.Common.{◌≡◌, ◌≢◌, ℕ, ◌+◌, ◌-◌, ◌≤◌, Bool, true, false, cond, List, [], ◌∷◌, Option, Some, None, nat_eq, refl, ap, sym, subst, ◌∙◌, arith, inl, inr}
use Rattle.std.specs.Prelude.{nat_lt}
use Rattle.std.proofs.lemmas.Bool.{cases_eq}
use Rattle.std.proofs.lemmas.Bool.Decides.{nat_tests}
use Rattle.std.proofs.lemmas.List.Sums.{sum_by-cons}
use Rattle.fuse_spec.specs.declared.Counted.{Counted}
use Rattle.fuse_spec.specs.declared.Entry.{Entry}
use Rattle.fuse_spec.specs.Values.Maps.{Map, get, put, remove}
use Rattle.fuse_spec.specs.Kernel.Messages.{Forget}
use Rattle.fuse_spec.specs.Server.Nodes.{HeldNode, NodeTable, given, given_row, rows_less, taken_back, rows_more, row_more}
use Rattle.fuse_spec.specs.Server.Server.{count_in, forgotten, all_taken_back}
use Rattle.fuse_spec.specs.Kernel.Replies.{counted_more}
use Rattle.fuse_spec.specs.Claim.Counts.{counted}
use Rattle.fuse_spec.proofs.Tables.{get_put_here, get_put_there, get_gone_here, get_gone_there}
use Rattle.fuse_theorem.proofs.Calls.Finding.{same_is, other_is}

-- How often the server counts a node.
abbrev pub count_of : NodeTable → ℕ → ℕ
count_of t id = count_in (get t.rows id)

-- What a row has for another, and for itself, after it is written.
put_count : (rows : Map HeldNode) (i id : ℕ) (new : HeldNode)
    → count_in (get (put rows i new) id) ≡ cond (nat_eq i id) new.count (count_in (get rows id))
put_count rows i id new = elim (cases_eq i id) [
  | inl e ↦
      let here : count_in (get (put rows i new) id) ≡ new.count =
      subst (λ (n : ℕ). count_in (get (put rows i new) n) ≡ new.count) e (ap count_in (get_put_here rows i new)) in
      let tie : nat_eq i id ≡ true = subst (λ (n : ℕ). nat_eq i n ≡ true) e (same_is i) in
      here ∙ ap (λ (b : Bool). cond b new.count (count_in (get rows id))) (sym tie)
  | inr ne ↦ ap count_in (get_put_there rows i new id (λ e. ne (sym e))) ∙ ap
      (λ (b : Bool). cond b new.count (count_in (get rows id))) (sym (other_is i id ne))
]

gone_count : (rows : Map HeldNode) (i id : ℕ) → count_in (get (remove rows i) id)
    ≡ cond (nat_eq i id) 0 (count_in (get rows id))
gone_count rows i id = elim (cases_eq i id) [
  | inl e ↦
      let here : count_in (get (remove rows i) id) ≡ 0 =
      subst (λ (n : ℕ). count_in (get (remove rows i) n) ≡ 0) e (ap count_in (get_gone_here rows i)) in
      let tie : nat_eq i id ≡ true = subst (λ (n : ℕ). nat_eq i n ≡ true) e (same_is i) in
      here ∙ ap (λ (b : Bool). cond b 0 (count_in (get rows id))) (sym tie)
  | inr ne ↦ ap count_in (get_gone_there rows i id (λ e. ne (sym e))) ∙ ap
      (λ (b : Bool). cond b 0 (count_in (get rows id))) (sym (other_is i id ne))
]

-- ---- lookups are given back

-- Lookups of one node are given back.
pub taken_count : (t : NodeTable) (i n id : ℕ) → count_of (taken_back t i n) id ≡ count_of t id - cond (nat_eq i id) n 0
taken_count t i n id = by (get t.rows i) refl
  where
    tied : (b : Bool) → nat_eq i id ≡ b → count_of t id - cond b n 0 ≡ cond b (count_of t i - n) (count_of t id)
    tied true e = ap (λ (m : ℕ). count_of t m - n) (sym key)
      where
        key : i ≡ id
        key = grind (arith, nat_tests, e)
    tied false e = omega arith

    by : (o : Option HeldNode) → get t.rows i ≡ o → count_of (record t { rows = rows_less t.rows i n o }) id
        ≡ count_of t id - cond (nat_eq i id) n 0
    by None at = none (nat_eq i id) refl
      where
        none : (b : Bool) → nat_eq i id ≡ b → count_of t id ≡ count_of t id - cond b n 0
        none true e =
            let key : i ≡ id = grind (arith, nat_tests, e) in
            let zero_here : count_of t id ≡ 0 = subst (λ (m : ℕ). count_of t m ≡ 0) key (ap count_in at) in
            omega (arith, zero_here)
        none false e = omega arith
    by (Some row) at = less (nat_lt n row.count) refl
      where
        mine : count_of t i ≡ row.count
        mine = ap count_in at

        less : (b : Bool) → nat_lt n row.count ≡ b → count_of
            (record t { rows = cond b (put t.rows i (record row { count = row.count - n })) (remove t.rows i) }) id
            ≡ count_of t id - cond (nat_eq i id) n 0
        less true more = put_count t.rows i id (record row { count = row.count - n }) ∙ ap
            (λ (m : ℕ). cond (nat_eq i id) (m - n) (count_of t id)) (sym mine) ∙ sym (tied (nat_eq i id) refl)
        less false all =
            let none : 0 ≡ count_of t i - n = grind (arith, nat_tests, all, mine) in
            gone_count t.rows i id ∙ ap (λ (m : ℕ). cond (nat_eq i id) m (count_of t id)) none ∙ sym
            (tied (nat_eq i id) refl)

-- Forgets are taken, as many as there are lookups at most.
pub all_taken_count : (fs : List Forget) (t : NodeTable) (id : ℕ) → forgotten id fs ≤ count_of t id
    → count_of (all_taken_back t fs) id + forgotten id fs ≡ count_of t id
all_taken_count [] t id few = omega arith
all_taken_count (f ∷ fs) t id few =
    let whole : forgotten id (f ∷ fs) ≡ cond (nat_eq f.0 id) f.1 0 + forgotten id fs =
    sum_by-cons (λ (g : Forget). cond (nat_eq g.0 id) g.1 0) f fs in
    let first = taken_count t f.0 f.1 id in
    let rest = all_taken_count fs (taken_back t f.0 f.1) id (omega (arith, first, whole, few)) in
    omega (arith, whole, first, rest, few)

-- ---- lookups are given

pub given_count : (t : NodeTable) (file i id : ℕ)
    → count_of (given t file i) id ≡ count_of t id + cond (nat_eq i id) 1 0
given_count t file i id = put_count t.rows i id (given_row t file (get t.rows i)) ∙ by (nat_eq i id) refl
  where
    one_more : (o : Option HeldNode) → (given_row t file o).count ≡ count_in o + 1
    one_more None = refl
    one_more (Some row) = refl

    by : (b : Bool) → nat_eq i id ≡ b → cond b (given_row t file (get t.rows i)).count (count_of t id)
        ≡ count_of t id + cond b 1 0
    by true e =
        let key : i ≡ id = grind (arith, nat_tests, e) in
        one_more (get t.rows i) ∙ ap (λ (n : ℕ). count_of t n + 1) key
    by false e = omega arith

-- One more copy names a node that is held.
pub more_count : (t : NodeTable) (i id : ℕ) → get t.rows i ≢ None
    → count_of (row_more t i) id ≡ count_of t id + cond (nat_eq i id) 1 0
more_count t i id there = by (get t.rows i) refl
  where
    tied : (row : HeldNode) → get t.rows i ≡ Some row → (b : Bool) → nat_eq i id ≡ b
        → cond b (row.count + 1) (count_of t id) ≡ count_of t id + cond b 1 0
    tied row at true e =
        let key : i ≡ id = grind (arith, nat_tests, e) in
        let mine : count_of t id ≡ row.count = subst (λ (n : ℕ). count_of t n ≡ row.count) key (ap count_in at) in
        omega (arith, mine)
    tied row at false e = omega arith

    by : (o : Option HeldNode) → get t.rows i ≡ o → count_of (record t { rows = rows_more t.rows i o }) id
        ≡ count_of t id + cond (nat_eq i id) 1 0
    by None at = absurd (there at)
    by (Some row) at = put_count t.rows i id (record row { count = row.count + 1 }) ∙ tied row at (nat_eq i id) refl

-- ---- the kernel's counts

pub looked_up_count : (nodes : Map Counted) (g : Entry) (id : ℕ)
    → counted (get (put nodes g.nodeid (counted_more g (get nodes g.nodeid))) id)
    ≡ counted (get nodes id) + cond (nat_eq g.nodeid id) 1 0
looked_up_count nodes g id = elim (cases_eq g.nodeid id) [
  | inl e ↦
      let tie : nat_eq g.nodeid id ≡ true = subst (λ (n : ℕ). nat_eq g.nodeid n ≡ true) e (same_is g.nodeid) in
      let here : counted (get (put nodes g.nodeid (counted_more g (get nodes g.nodeid))) id)
      ≡ counted (get nodes id) + 1 =
      subst (λ (n : ℕ). counted (get (put nodes g.nodeid (counted_more g (get nodes g.nodeid))) n)
      ≡ counted (get nodes n) + 1) e (ap counted (get_put_here nodes g.nodeid
      (counted_more g (get nodes g.nodeid))) ∙ one_more (get nodes g.nodeid)) in
      rw tie here
  | inr ne ↦ let other = other_is g.nodeid id ne in
      rw other (ap counted (get_put_there nodes g.nodeid (counted_more g (get nodes g.nodeid)) id
      (λ e. ne (sym e))) ∙ omega arith)
]
  where
    one_more : (o : Option Counted) → counted (Some (counted_more g o)) ≡ counted o + 1
    one_more None = refl
    one_more (Some c) = refl

pub evicted_count : (nodes : Map Counted) (i id : ℕ)
    → counted (get (remove nodes i) id) + cond (nat_eq i id) (counted (get nodes i)) 0 ≡ counted (get nodes id)
evicted_count nodes i id = elim (cases_eq i id) [
  | inl e ↦
      let tie : nat_eq i id ≡ true = subst (λ (n : ℕ). nat_eq i n ≡ true) e (same_is i) in
      let gone : counted (get (remove nodes i) id) ≡ 0 =
      subst (λ (n : ℕ). counted (get (remove nodes i) n) ≡ 0) e (ap counted (get_gone_here nodes i)) in
      let same : counted (get nodes i) ≡ counted (get nodes id) = ap (λ (n : ℕ). counted (get nodes n)) e in
      rw tie (omega (arith, gone, same))
  | inr ne ↦ let left = ap counted (get_gone_there nodes i id (λ e. ne (sym e))) in
      rw (other_is i id ne) (omega (arith, left))
]
