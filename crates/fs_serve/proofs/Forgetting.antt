-- Which forgets are taken, by the counts of the server that takes them.
use Rattle.std.proofs.Common.{◌≡◌, ℕ, ◌+◌, ◌≤◌, ◌⊎◌, Bool, true, false, true≢false, ◌||◌, ◌&&◌, cond, List, [], ◌∷◌, Option, Some, None, is_some, nat_eq, get_or, refl, ap, sym, subst, ◌∙◌, arith, inl, inr, All}
use Rattle.std.specs.Prelude.{nat_lt}
use Rattle.std.specs.List.{list_any, list_all}
use Rattle.std.proofs.lemmas.Bool.{cases_eq}
use Rattle.std.proofs.lemmas.Bool.Decides.{nat_tests}
use Rattle.std.proofs.lemmas.List.Elements.{All-head, All-tail}
use Rattle.std.proofs.lemmas.List.Folds.{list_any_none, list_any_at}
use Rattle.std.proofs.lemmas.List.Sums.{AllPass-from_list_all, list_all-from_AllPass, sum_by-cons}
use Rattle.fuse_spec.specs.Values.Maps.{Map, get}
use Rattle.fuse_spec.specs.Values.Numbers.{counter_end}
use Rattle.fuse_spec.specs.Kernel.Messages.{Forget, RequestBody}
use Rattle.fuse_spec.specs.Server.Nodes.{HeldNode, NodeTable, taken_back}
use Rattle.fuse_spec.specs.Server.Refusals.{is_server_past_end}
use Rattle.fuse_spec.specs.Server.Server.{Server, RequestFault, unknown_opcode, unknown_node, too_many_forgets, repeated_unique, HeldRequest, Kept, all_taken_back, count_in, fault_of, forgets_of, forgetting, forgotten, is_forgettable, is_known, knows, nodes_of_body}
use Rattle.fuse_theorem.specs.ServerTables.{NodesSound}
use Rattle.fuse_theorem.proofs.Calls.Finding.{other_is}
use Rattle.fs_serve.specs.LookupCounts.{MayForget, lookup_count}

-- ---- what a request without a fault shows

-- A request has no fault only where its minor knows it, its nodes and those that it forgets are there, and it forgets no
-- more than is counted.
pub parts : (known held many used : Bool)
    → cond known (cond held (cond many (Some too_many_forgets) (cond used (Some repeated_unique) None))
    (Some unknown_node)) (Some unknown_opcode) ≡ None → (known ≡ true) × (held ≡ true) × (many ≡ false)
parts true true false used none = (refl, refl, refl)
parts true true true used none = let no : ◌≡◌ {A = Option RequestFault} (Some too_many_forgets) None = none in cc
parts true false many used none = let no : ◌≡◌ {A = Option RequestFault} (Some unknown_node) None = none in cc
parts false held many used none = let no : ◌≡◌ {A = Option RequestFault} (Some unknown_opcode) None = none in cc

second : (a b : Bool) → (a && b) ≡ true → b ≡ true
second true b both = both
second false b both = absurd (true≢false (sym both))

-- No node is forgotten more often than it is counted, where none of those that are named is.
few_of_all : (fs : List Forget) (counts : ℕ → ℕ) → All (λ (f : Forget). forgotten f.0 fs ≤ counts f.0) fs → (id : ℕ)
    → forgotten id fs ≤ counts id
few_of_all fs counts few id = elim (by fs few) [ inl none ↦ omega (arith, none) | inr le ↦ le ]
  where
    by : (gs : List Forget) → All (λ (f : Forget). forgotten f.0 fs ≤ counts f.0) gs
        → (forgotten id gs ≡ 0) ⊎ (forgotten id fs ≤ counts id)
    by [] all = inl refl
    by (f ∷ gs) all = elim (cases_eq f.0 id) [
      | inl same ↦ inr (subst (λ (n : ℕ). forgotten n fs ≤ counts n) same
          (All-head (λ (g : Forget). forgotten g.0 fs ≤ counts g.0) f gs all))
      | inr apart ↦ elim (by gs (All-tail (λ (g : Forget). forgotten g.0 fs ≤ counts g.0) f gs all)) [
        | inl none ↦
            let whole : forgotten id (f ∷ gs) ≡ cond (nat_eq f.0 id) f.1 0 + forgotten id gs =
            sum_by-cons (λ (g : Forget). cond (nat_eq g.0 id) g.1 0) f gs in
            let mine : cond (nat_eq f.0 id) f.1 0 ≡ 0 = ap (λ (b : Bool). cond b f.1 0) (other_is f.0 id apart) in
            inl (omega (arith, whole, mine, none))
        | inr le ↦ inr le
      ]
    ]

module _ (s : Server) (sound : NodesSound s.nodes) where
  abbrev is_over : List Forget → Forget → Bool
  is_over fs f = nat_lt (count_in (get s.nodes.rows f.0)) (forgotten f.0 fs)

  counted_there : (id : ℕ) → is_some (get s.nodes.rows id) ≡ true → 1 ≤ lookup_count s id
  counted_there id there = by (get s.nodes.rows id) refl there
    where
      by : (o : Option HeldNode) → get s.nodes.rows id ≡ o → is_some o ≡ true → 1 ≤ count_in o
      by None at fails = absurd (true≢false (sym fails))
      by (Some row) at passes = sound.counts id row at

  none_over : (fs : List Forget) → list_any (is_over fs) fs ≡ false
      → All (λ (f : Forget). forgotten f.0 fs ≤ lookup_count s f.0) fs
  none_over fs none i d lt = by (is_over fs (get_or fs i d)) refl
    where
      by : (b : Bool) → is_over fs (get_or fs i d) ≡ b
          → forgotten (get_or fs i d).0 fs ≤ lookup_count s (get_or fs i d).0
      by true over = absurd (true≢false (sym (list_any_at (is_over fs) fs i d lt over) ∙ none))
      by false within = grind (arith, nat_tests, within)

  -- The forgets of a request without a fault may be taken.
  pub may_forget : (unique : ℕ) (body : RequestBody) → fault_of s (record { unique = unique; body = body }) ≡ None
      → (knows s.minor body ≡ true) × MayForget (lookup_count s) (forgets_of body)
  may_forget unique body none =
      let fs = forgets_of body in
      let known_nodes = list_all (is_known s.nodes) (nodes_of_body body) in
      let (known, held, within) = parts (knows s.minor body) (known_nodes && list_all (is_forgettable s.nodes) fs)
      (list_any (is_over fs) fs) (is_some (get s.held unique) || is_some (get s.kept unique)) none in
      let there = AllPass-from_list_all (is_forgettable s.nodes) fs
      (second known_nodes (list_all (is_forgettable s.nodes) fs) held) in (
        known,
        record {
          known = λ i d lt. counted_there (get_or fs i d).0 (there i d lt);
          counted = few_of_all fs (lookup_count s) (none_over fs within);
        },
      )

  -- ---- and the other way around

  there_counted : (id : ℕ) → 1 ≤ lookup_count s id → is_some (get s.nodes.rows id) ≡ true
  there_counted id many = by (get s.nodes.rows id) many
    where
      by : (o : Option HeldNode) → 1 ≤ count_in o → is_some o ≡ true
      by None few = absurd (omega (arith, few))
      by (Some row) some = refl

  forgettable : (fs : List Forget) → MayForget (lookup_count s) fs → list_all (is_forgettable s.nodes) fs ≡ true
  forgettable fs may = list_all-from_AllPass (is_forgettable s.nodes) fs
      (λ i d lt. there_counted (get_or fs i d).0 (may.known i d lt))

  within : (fs : List Forget) → MayForget (lookup_count s) fs → list_any (is_over fs) fs ≡ false
  within fs may = list_any_none (is_over fs) fs
      (λ i d lt. let few = may.counted (get_or fs i d).0 in grind (arith, nat_tests, few))

  unused : (unique : ℕ) → s.held ≡ [] → s.kept ≡ [] → (is_some (get s.held unique) || is_some (get s.kept unique)) ≡ false
  unused unique held kept =
      ap (λ (m : Map HeldRequest). is_some (get m unique) || is_some (get s.kept unique)) held
      ∙ ap (λ (m : Map Kept). is_some (get m unique)) kept

  -- A request that forgets what may be forgotten, and names no other node, has no fault.
  pub faultless : (unique : ℕ) (body : RequestBody) → s.held ≡ [] → s.kept ≡ [] → nodes_of_body body ≡ []
      → knows s.minor body ≡ true → MayForget (lookup_count s) (forgets_of body)
      → fault_of s (record { unique = unique; body = body }) ≡ None
  faultless unique body held kept no_nodes known may =
      let fs = forgets_of body in
      let nodes : list_all (is_known s.nodes) (nodes_of_body body) ≡ true =
      ap (list_all (is_known s.nodes)) no_nodes in
      rw (known, nodes, forgettable fs may, within fs may, unused unique held kept) refl

-- ---- no counter moves

pub same_generation : (fs : List Forget) (t : NodeTable) → (all_taken_back t fs).next_generation ≡ t.next_generation
same_generation [] t = refl
same_generation (f ∷ fs) t = same_generation fs (taken_back t f.0 f.1)

pub within_still : (s : Server) (fs : List Forget) → is_server_past_end s ≡ false → is_server_past_end (forgetting s fs) ≡ false
within_still s fs low =
    ap (λ (n : ℕ). nat_lt counter_end s.tree.next_inode || nat_lt counter_end s.tree.next_cookie
    || nat_lt counter_end n || nat_lt counter_end s.handles.next_fh
    || nat_lt counter_end s.next_copy) (same_generation fs s.nodes) ∙ low
