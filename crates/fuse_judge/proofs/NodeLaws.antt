-- The counts of nodes, with one more act.
use Rattle.std.proofs.Common.{◌≡◌, ◌≢◌, ◌≤◌, ◌<◌, ℕ, ◌+◌, ◌-◌, ◌*◌, Bool, true, false, cond, [], ◌∷◌, ◌++◌, length, Option, Some, None, refl, sym, ◌∙◌, ap, subst, arith, nat_eq, inl, inr, List}
use Rattle.std.specs.Prelude.{sum_by}
use Rattle.std.proofs.lemmas.Bool.{cases_eq}
use Rattle.fuse_spec.specs.Values.Maps.{Map, get, put}
use Rattle.fuse_sessions.specs.declared.act.Act.{Act}
use Rattle.fuse_sessions.specs.declared.act.Act.TheVariants.{Gives, Forgets}
use Rattle.fuse_sessions.specs.declared.act.File.{File}
use Rattle.fuse_sessions.specs.Sessions.{Session, or_earlier, left}
use Rattle.fuse_sessions.specs.Counts.{gives_least, gives_most, forgets_of, least_count, most_count, first_file, known}
use Rattle.fuse_sessions.proofs.FileLaws.{known-more}
use Rattle.fuse_sessions.proofs.Laws.{left-more}
use Rattle.fuse_judge.specs.declared.nodes.NodeRow.{NodeRow}
use Rattle.fuse_judge.specs.Nodes.{LeavesNode, file_given, IsRow, IsNode, AreNodes}
use Rattle.fuse_judge.specs.Tallies.{one_if}
use Rattle.fuse_judge.proofs.Keys.{same, differ, all_after_put}
use Rattle.fuse_judge.proofs.PendingLaws.{sum_small, one_small}

pub other_node : (s : Session) (a : Act) (q : ℕ) (o : Option NodeRow) → gives_least q a ≡ 0 → gives_most q a ≡ 0
    → forgets_of q a ≡ 0 → first_file q (s, a) ≡ None → IsNode s q o → IsNode (s ++ a ∷ []) q o
other_node s a q o no_least no_most no_less no_file = by o
  where
    least : least_count (s ++ a ∷ []) q ≡ least_count s q
    least =
        let more : least_count (s ++ a ∷ []) q ≡ least_count s q + gives_least q a - forgets_of q a
        = left-more (gives_least q) (forgets_of q) s a (inl no_least) in
        omega (arith, more, no_least, no_less)

    most : most_count (s ++ a ∷ []) q ≡ most_count s q
    most =
        let more : most_count (s ++ a ∷ []) q ≡ most_count s q + gives_most q a - forgets_of q a
        = left-more (gives_most q) (forgets_of q) s a (inl no_most) in
        omega (arith, more, no_most, no_less)

    file : known (s ++ a ∷ []) q ≡ known s q
    file = rw (known-more s a q, no_file) refl

    by : (p : Option NodeRow) → IsNode s q p → IsNode (s ++ a ∷ []) q p
    by None is = (least ∙ is.0, most ∙ is.1, file ∙ is.2)
    by (Some row) is = record {
      within = is.within;
      least = least ∙ is.least;
      most = most ∙ is.most;
      file = file ∙ is.file;
    }

-- an act that neither gives a node nor forgets one
pub nodes_left : (a : Act) → ((node : ℕ) (file : File) (c : Bool) → a ≢ Gives node file c)
    → ((node lookups : ℕ) → a ≢ Forgets node lookups) → (q : ℕ) → LeavesNode q a
nodes_left (Gives node file c) no_gift no_forget q = absurd (no_gift node file c refl)
nodes_left (Forgets node lookups) no_gift no_forget q = absurd (no_forget node lookups refl)
nodes_left a no_gift no_forget q = record { least = refl; most = refl; forgets = refl; file = λ s. refl }

pub left_alone : (s : Session) (a : Act) (nodes : Map NodeRow) → ((q : ℕ) → LeavesNode q a) → AreNodes s nodes
    → AreNodes (s ++ a ∷ []) nodes
left_alone s a nodes is are q =
    other_node s a q (get nodes q) (is q).least (is q).most (is q).forgets ((is q).file s) (are q)

-- A node is given.
module _ (s : Session) (nodes : Map NodeRow) (n : ℕ) (file : File) (c : Bool) (are : AreNodes s nodes) where
  one_given : (b : Bool) → gives_least n (Gives n file b) ≡ one_if b
  one_given true = ap one_if (same n)
  one_given false = refl

  none_given : (q : ℕ) (b : Bool) → n ≢ q → gives_least q (Gives n file b) ≡ 0
  none_given q true ne = ap one_if (differ n q ne)
  none_given q false ne = refl

  no_file_given : (q : ℕ) (b : Bool) → n ≢ q → first_file q (s, Gives n file b) ≡ None
  no_file_given q true ne = rw (differ n q ne) refl
  no_file_given q false ne = refl

  least_given : least_count (s ++ Gives n file c ∷ []) n ≡ least_count s n + one_if c
  least_given =
      let more : least_count (s ++ Gives n file c ∷ []) n ≡ least_count s n + gives_least n (Gives n file c) - 0
      = left-more (gives_least n) (forgets_of n) s (Gives n file c) (inr refl) in
      omega (arith, more, one_given c)

  most_given : most_count (s ++ Gives n file c ∷ []) n ≡ most_count s n + 1
  most_given =
      let more : most_count (s ++ Gives n file c ∷ []) n ≡ most_count s n + gives_most n (Gives n file c) - 0
      = left-more (gives_most n) (forgets_of n) s (Gives n file c) (inr refl) in
      let one : gives_most n (Gives n file c) ≡ 1 = ap one_if (same n) in
      omega (arith, more, one)

  others_given : (q : ℕ) → n ≢ q → IsNode (s ++ Gives n file c ∷ []) q (get nodes q)
  others_given q ne = other_node s (Gives n file c) q (get nodes q) (none_given q c ne) (ap one_if (differ n q ne)) refl
      (no_file_given q c ne) (are q)

  chosen : (h : Bool) (was : Option File) → or_earlier (cond h (Some file) None) was ≡ cond h (Some file) was
  chosen true was = refl
  chosen false was = refl

  file_now : (b : Bool) (least : ℕ) (was : Option File) → least_count s n ≡ least → known s n ≡ was
      → known (s ++ Gives n file b ∷ []) n ≡ file_given least b was file
  file_now true least was is_least is_was =
      rw (known-more s (Gives n file true) n, same n, is_least, is_was) (chosen (nat_eq least 0) was)
  file_now false least was is_least is_was = rw (known-more s (Gives n file false) n) is_was

  pub gave_first : get nodes n ≡ None → AreNodes (s ++ Gives n file c ∷ [])
      (put nodes n (record { least = one_if c; most = 1; file = file_given 0 c None file }))
  gave_first gone =
      let is : IsNode s n None = subst (IsNode s n) gone (are n) in
      let small : one_if c ≤ 1 = one_small c in
      all_after_put (IsNode (s ++ Gives n file c ∷ [])) nodes n _
      (record {
        within = small;
        least = omega (arith, least_given, is.0);
        most = omega (arith, most_given, is.1);
        file = file_now c 0 None is.0 is.2;
      })
      others_given

  pub gave_more : (row : NodeRow) → get nodes n ≡ Some row → AreNodes (s ++ Gives n file c ∷ [])
      (put nodes n (record {
        least = row.least + one_if c;
        most = row.most + 1;
        file = file_given row.least c row.file file;
      }))
  gave_more row there =
      let is : IsRow s n row = subst (IsNode s n) there (are n) in
      let small : one_if c ≤ 1 = one_small c in
      all_after_put (IsNode (s ++ Gives n file c ∷ [])) nodes n _
      (record {
        within = omega (arith, is.within, small);
        least = least_given ∙ ap (λ k. k + one_if c) is.least;
        most = most_given ∙ ap (λ k. k + 1) is.most;
        file = file_now c row.least row.file is.least is.file;
      })
      others_given

-- A node is forgotten.
module _ (s : Session) (nodes : Map NodeRow) (n lookups : ℕ) (are : AreNodes s nodes) where
  least_left : least_count (s ++ Forgets n lookups ∷ []) n ≡ least_count s n - lookups
  least_left =
      let more : least_count (s ++ Forgets n lookups ∷ []) n ≡ least_count s n + 0 - forgets_of n (Forgets n lookups)
      = left-more (gives_least n) (forgets_of n) s (Forgets n lookups) (inl refl) in
      let less : forgets_of n (Forgets n lookups) ≡ lookups = rw (same n) refl in
      omega (arith, more, less)

  most_left : most_count (s ++ Forgets n lookups ∷ []) n ≡ most_count s n - lookups
  most_left =
      let more : most_count (s ++ Forgets n lookups ∷ []) n ≡ most_count s n + 0 - forgets_of n (Forgets n lookups)
      = left-more (gives_most n) (forgets_of n) s (Forgets n lookups) (inl refl) in
      let less : forgets_of n (Forgets n lookups) ≡ lookups = rw (same n) refl in
      omega (arith, more, less)

  others_left : (q : ℕ) → n ≢ q → IsNode (s ++ Forgets n lookups ∷ []) q (get nodes q)
  others_left q ne = other_node s (Forgets n lookups) q (get nodes q) refl refl (rw (differ n q ne) refl) refl (are q)

  file_left : known (s ++ Forgets n lookups ∷ []) n ≡ known s n
  file_left = rw (known-more s (Forgets n lookups) n) refl

  pub forgot_some : (row : NodeRow) → get nodes n ≡ Some row → AreNodes (s ++ Forgets n lookups ∷ [])
      (put nodes n (record { least = row.least - lookups; most = row.most - lookups; file = row.file }))
  forgot_some row there =
      let is : IsRow s n row = subst (IsNode s n) there (are n) in
      all_after_put (IsNode (s ++ Forgets n lookups ∷ [])) nodes n _
      (record {
        within = omega (arith, is.within);
        least = least_left ∙ ap (λ k. k - lookups) is.least;
        most = most_left ∙ ap (λ k. k - lookups) is.most;
        file = file_left ∙ is.file;
      })
      others_left

  pub forgot_none : get nodes n ≡ None → AreNodes (s ++ Forgets n lookups ∷ []) nodes
  forgot_none gone q = elim (cases_eq n q) [
    | inl e ↦
        let is : IsNode s n None = subst (IsNode s n) gone (are n) in
        subst (λ k. IsNode (s ++ Forgets n lookups ∷ []) k (get nodes k)) e
        (subst (IsNode (s ++ Forgets n lookups ∷ []) n) (sym gone)
        (omega (arith, least_left, is.0), omega (arith, most_left, is.1), file_left ∙ is.2))
    | inr ne ↦ others_left q ne
  ]

-- No count is larger than the session.

pub left_small : {A : Type 0} (gives takes : A → ℕ) → ((a : A) → gives a ≤ 1) → (s : List A)
    → left gives takes s ≤ length s
left_small gives takes small [] = omega arith
left_small gives takes small (a ∷ s) =
    let all : sum_by gives (a ∷ s) ≤ 1 * length (a ∷ s) = sum_small gives 1 small (a ∷ s) in
    let rest : left gives takes s ≤ length s = left_small gives takes small s in
    omega (arith, all, rest)

least_small : (n : ℕ) (a : Act) → gives_least n a ≤ 1
least_small n (Gives other file true) = one_small (nat_eq other n)
least_small n a = omega arith

most_small : (n : ℕ) (a : Act) → gives_most n a ≤ 1
most_small n (Gives other file c) = one_small (nat_eq other n)
most_small n a = omega arith

pub nodes_few : (s : Session) (nodes : Map NodeRow) → AreNodes s nodes → (limit : ℕ) → length s + 1 < limit
    → (n : ℕ) (row : NodeRow) → get nodes n ≡ Some row → (row.least + 1 < limit) × (row.most + 1 < limit)
nodes_few s nodes are limit small n row there =
    let is : IsRow s n row = subst (IsNode s n) there (are n) in
    let least : least_count s n ≤ length s = left_small (gives_least n) (forgets_of n) (least_small n) s in
    let most : most_count s n ≤ length s = left_small (gives_most n) (forgets_of n) (most_small n) s in
    (omega (arith, is.least, least, small), omega (arith, is.most, most, small))
