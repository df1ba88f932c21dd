-- The files that are open, with one more act.
use Rattle.std.proofs.Common.{◌≡◌, ◌≢◌, ◌≤◌, ◌<◌, ℕ, ◌+◌, ◌-◌, ◌*◌, Bool, true, false, true≢false, ◌&&◌, not, cond, [], ◌∷◌, ◌++◌, length, suc, refl, sym, ◌∙◌, ap, subst, arith, rules, nat_eq, inl, inr, List}
use Rattle.std.specs.Prelude.{sum_by, filter, nat_lt}
use Rattle.std.proofs.lemmas.List.{length_push}
use Rattle.fuse_sessions.specs.declared.act.Act.{Act}
use Rattle.fuse_sessions.specs.declared.act.Act.TheVariants.{Opens, Releases}
use Rattle.fuse_sessions.specs.declared.act.OpenFile.{OpenFile}
use Rattle.fuse_sessions.specs.declared.act.OpenKind.{OpenKind}
use Rattle.fuse_sessions.specs.declared.act.OpenKind.TheVariants as kind
use Rattle.fuse_sessions.specs.Sessions.{Session}
use Rattle.fuse_sessions.specs.Waiting.{same_open, same_kind}
use Rattle.fuse_sessions.specs.OpenFiles.{opened, opens_this, releases_this, HasOpen}
use Rattle.fuse_sessions.proofs.Laws.{left-more}
use Rattle.fuse_judge.specs.declared.handle.Handle.{Handle}
use Rattle.fuse_judge.specs.Handles.{handle, same_handle}
use Rattle.fuse_judge.specs.Opens.{LeavesOpen, AreOpen}
use Rattle.fuse_judge.specs.Tallies.{Counts, count_in, one_if}
use Rattle.fuse_judge.proofs.Keys.{same}
use Rattle.fuse_judge.proofs.HandleLaws.{left_of, right_of, same_numbers}
use Rattle.fuse_judge.proofs.NodeLaws.{left_small}
use Rattle.fuse_judge.proofs.PendingLaws.{kept_both, kept_none, sum_split, sum_first, sum_small, one_small}

same_kinds : (a b : OpenKind) → same_kind a b ≡ true → a ≡ b
same_kinds kind.File kind.File e = refl
same_kinds kind.File kind.Directory e = absurd (true≢false (sym e))
same_kinds kind.Directory kind.File e = absurd (true≢false (sym e))
same_kinds kind.Directory kind.Directory e = refl

own_kind : (a : OpenKind) → same_kind a a ≡ true
own_kind kind.File = refl
own_kind kind.Directory = refl

abbrev make : OpenKind → ℕ → ℕ → OpenFile
make k n f = record { kind = k; nodeid = n; fh = f }

made : (k k' : OpenKind) (n n' f f' : ℕ) → k ≡ k' → n ≡ n' → f ≡ f' → make k n f ≡ make k' n' f'
made k k' n n' f f' e g h = rw (e, g, h) refl

pub open_is : (a b : OpenFile) → same_open a b ≡ true → a ≡ b
open_is a b e =
    let kinds : same_kind a.kind b.kind ≡ true = left_of _ (nat_eq a.nodeid b.nodeid && nat_eq a.fh b.fh) e in
    let rest : (nat_eq a.nodeid b.nodeid && nat_eq a.fh b.fh) ≡ true = right_of (same_kind a.kind b.kind) _ e in
    made _ _ _ _ _ _ (same_kinds _ _ kinds) (same_numbers _ _ (left_of _ (nat_eq a.fh b.fh) rest))
    (same_numbers _ _ (right_of (nat_eq a.nodeid b.nodeid) _ rest))

pub open_self : (a : OpenFile) → same_open a a ≡ true
open_self a = rw (own_kind a.kind, same a.nodeid, same a.fh) refl

pub turned_open : (a b : OpenFile) → same_open a b ≡ false → same_open b a ≡ false
turned_open a b e = by (same_open b a) refl
  where
    by : (r : Bool) → same_open b a ≡ r → r ≡ false
    by true h = absurd (true≢false (sym (subst (λ x. same_open x b ≡ true) (open_is b a h) (open_self b)) ∙ e))
    by false h = refl

-- how often a file is open

opened_same : (s : Session) (a : Act) (q : OpenFile) → opens_this q a ≡ 0 → releases_this q a ≡ 0
    → opened (s ++ a ∷ []) q ≡ opened s q
opened_same s a q no_more no_less =
    let more : opened (s ++ a ∷ []) q ≡ opened s q + opens_this q a - releases_this q a
    = left-more (opens_this q) (releases_this q) s a (inl no_more) in
    omega (arith, more, no_more, no_less)

opened_more : (s : Session) (f q : OpenFile) → opened (s ++ Opens f ∷ []) q ≡ opened s q + one_if (same_open f q)
opened_more s f q =
    let more : opened (s ++ Opens f ∷ []) q ≡ opened s q + opens_this q (Opens f) - 0
    = left-more (opens_this q) (releases_this q) s (Opens f) (inr refl) in
    let one : opens_this q (Opens f) ≡ one_if (same_open f q) = refl in
    omega (arith, more, one)

opened_less : (s : Session) (f q : OpenFile) → opened (s ++ Releases f ∷ []) q ≡ opened s q - one_if (same_open f q)
opened_less s f q =
    let more : opened (s ++ Releases f ∷ []) q ≡ opened s q + 0 - releases_this q (Releases f)
    = left-more (opens_this q) (releases_this q) s (Releases f) (inl refl) in
    let one : releases_this q (Releases f) ≡ one_if (same_open f q) = refl in
    omega (arith, more, one)

abbrev if_open : ℕ → OpenFile → List OpenFile
if_open n q = cond (nat_lt 0 n) (q ∷ []) []

one_longer : (s : Session) (a : Act) (n : ℕ) → n ≤ length s → n ≤ length (s ++ a ∷ [])
one_longer s a n h = let long : length (s ++ a ∷ []) ≡ length s + 1 = length_push s a in omega (arith, long, h)

fewer : {X : Type 0} (p : X → Bool) (xs : List X) → length (filter p xs) ≤ length xs
fewer p [] = omega arith
fewer p (x ∷ xs) = by (p x) (fewer p xs)
  where
    by : (b : Bool) → length (filter p xs) ≤ length xs → length (cond b (x ∷ filter p xs) (filter p xs)) ≤ suc
        (length xs)
    by true h = omega (arith, h)
    by false h = omega (arith, h)

-- an act that neither opens a file nor releases one
pub files_left : (a : Act) → ((file : OpenFile) → a ≢ Opens file) → ((file : OpenFile) → a ≢ Releases file)
    → (q : OpenFile) → LeavesOpen q a
files_left (Opens file) no_opening no_release q = absurd (no_opening file refl)
files_left (Releases file) no_opening no_release q = absurd (no_release file refl)
files_left a no_opening no_release q = record { opens = refl; releases = refl }

pub left_open : (s : Session) (a : Act) (counts : Counts Handle) (nodes : Counts ℕ) → ((q : OpenFile) → LeavesOpen q a)
    → AreOpen s counts nodes → AreOpen (s ++ a ∷ []) counts nodes
left_open s a counts nodes is are = record {
  open_count = λ q. are.open_count q ∙ sym (opened_same s a q (is q).opens (is q).releases);
  files = are.files;
  once = λ q. are.once q ∙ ap (λ n. if_open n q) (sym (opened_same s a q (is q).opens (is q).releases));
  of_nodes = are.of_nodes;
  few = one_longer s a (length are.files) are.few;
}

-- other tables with the same counts
pub open_recounted : (s : Session) (counts new : Counts Handle) (nodes names : Counts ℕ) → AreOpen s counts nodes
    → ((q : Handle) → count_in same_handle new q ≡ count_in same_handle counts q)
    → ((n : ℕ) → count_in nat_eq names n ≡ count_in nat_eq nodes n) → AreOpen s new names
open_recounted s counts new nodes names are same_counts same_names = record {
  open_count = λ q. same_counts (handle q) ∙ are.open_count q;
  files = are.files;
  once = are.once;
  of_nodes = λ n. same_names n ∙ are.of_nodes n;
  few = are.few;
}

module _ (s : Session) (f : OpenFile) (counts new : Counts Handle) (nodes : Counts ℕ) (are : AreOpen s counts nodes) where
  -- a file is opened again
  pub opened_again : ((q : OpenFile) → count_in same_handle new (handle q)
      ≡ count_in same_handle counts (handle q) + one_if (same_open f q))
      → opened s f ≢ 0 → AreOpen (s ++ Opens f ∷ []) new nodes
  opened_again more some = record {
    open_count = λ q. more q ∙ ap (λ n. n + one_if (same_open f q)) (are.open_count q) ∙ sym (opened_more s f q);
    files = are.files;
    once = λ q. are.once q ∙ ap (λ b. cond b (q ∷ []) [])
        (by q (same_open f q) refl ∙ ap (nat_lt 0) (sym (opened_more s f q)));
    of_nodes = are.of_nodes;
    few = one_longer s (Opens f) (length are.files) are.few;
  }
    where
      by : (q : OpenFile) (b : Bool) → same_open f q ≡ b → nat_lt 0 (opened s q)
          ≡ nat_lt 0 (opened s q + one_if (same_open f q))
      by q true e =
          let there : opened s q ≢ 0 = subst (λ x. opened s x ≢ 0) (open_is f q e) some in
          rw e (grind (arith, there, rules))
      by q false e = rw e (ap (nat_lt 0) (omega arith))

  -- a file is opened first
  pub opened_first : (names : Counts ℕ) → ((q : OpenFile) → count_in same_handle new (handle q)
      ≡ count_in same_handle counts (handle q) + one_if (same_open f q))
      → ((n : ℕ) → count_in nat_eq names n ≡ count_in nat_eq nodes n + one_if (nat_eq f.nodeid n))
      → opened s f ≡ 0 → AreOpen (s ++ Opens f ∷ []) new names
  opened_first names more named none = record {
    open_count = λ q. more q ∙ ap (λ n. n + one_if (same_open f q)) (are.open_count q) ∙ sym (opened_more s f q);
    files = f ∷ are.files;
    once = λ q. by q (same_open f q) refl ∙ ap (λ n. if_open n q) (sym (opened_more s f q));
    of_nodes = λ n. named n ∙ ap (λ k. k + one_if (nat_eq f.nodeid n)) (are.of_nodes n) ∙ sum n;
    few =
        let long : length (s ++ Opens f ∷ []) ≡ length s + 1 = length_push s (Opens f) in
        let was : length are.files ≤ length s = are.few in
        omega (arith, long, was);
  }
    where
      by : (q : OpenFile) (b : Bool) → same_open f q ≡ b
          → cond (same_open q f) (f ∷ filter (same_open q) are.files) (filter (same_open q) are.files)
          ≡ if_open (opened s q + one_if (same_open f q)) q
      by q true e =
          let is : f ≡ q = open_is f q e in
          subst (λ x. cond (same_open x f) (f ∷ filter (same_open x) are.files) (filter (same_open x) are.files)
          ≡ if_open (opened s x + one_if (same_open f x)) x) is
          (rw (open_self f, are.once f, none) refl)
      by q false e = rw (turned_open f q e, e) (are.once q ∙ ap (λ n. if_open n q) (omega arith))

      sum : (n : ℕ) → sum_by (λ (o : OpenFile). one_if (nat_eq o.nodeid n)) are.files + one_if (nat_eq f.nodeid n)
          ≡ sum_by (λ (o : OpenFile). one_if (nat_eq o.nodeid n)) (f ∷ are.files)
      sum n =
          let first : sum_by (λ (o : OpenFile). one_if (nat_eq o.nodeid n)) (f ∷ are.files)
          ≡ one_if (nat_eq f.nodeid n) + sum_by (λ (o : OpenFile). one_if (nat_eq o.nodeid n)) are.files
          = sum_first (λ (o : OpenFile). one_if (nat_eq o.nodeid n)) f are.files in
          omega (arith, first)

  -- a file is released, and not for the last time, or it is not open
  pub released_not_last : ((q : OpenFile) → count_in same_handle new (handle q)
      ≡ count_in same_handle counts (handle q) - one_if (same_open f q))
      → opened s f ≢ 1 → AreOpen (s ++ Releases f ∷ []) new nodes
  released_not_last less not_one = record {
    open_count = λ q. less q ∙ ap (λ n. n - one_if (same_open f q)) (are.open_count q) ∙ sym (opened_less s f q);
    files = are.files;
    once = λ q. are.once q ∙ ap (λ b. cond b (q ∷ []) [])
        (by q (same_open f q) refl ∙ ap (nat_lt 0) (sym (opened_less s f q)));
    of_nodes = are.of_nodes;
    few = one_longer s (Releases f) (length are.files) are.few;
  }
    where
      by : (q : OpenFile) (b : Bool) → same_open f q ≡ b → nat_lt 0 (opened s q)
          ≡ nat_lt 0 (opened s q - one_if (same_open f q))
      by q true e =
          let there : opened s q ≢ 1 = subst (λ x. opened s x ≢ 1) (open_is f q e) not_one in
          rw e (grind (arith, there, rules))
      by q false e = rw e (ap (nat_lt 0) (omega arith))

  -- a file is released for the last time
  pub released_last : (names : Counts ℕ) → ((q : OpenFile) → count_in same_handle new (handle q)
      ≡ count_in same_handle counts (handle q) - one_if (same_open f q))
      → ((n : ℕ) → count_in nat_eq names n ≡ count_in nat_eq nodes n - one_if (nat_eq f.nodeid n))
      → opened s f ≡ 1 → AreOpen (s ++ Releases f ∷ []) new names
  released_last names less named one = record {
    open_count = λ q. less q ∙ ap (λ n. n - one_if (same_open f q)) (are.open_count q) ∙ sym (opened_less s f q);
    files = filter (λ o. not (same_open f o)) are.files;
    once = λ q. by q (same_open f q) refl ∙ ap (λ n. if_open n q) (sym (opened_less s f q));
    of_nodes = λ n. named n ∙ ap (λ k. k - one_if (nat_eq f.nodeid n)) (are.of_nodes n) ∙ sum n;
    few =
        let less : length (filter (λ o. not (same_open f o)) are.files) ≤ length are.files
        = fewer (λ o. not (same_open f o)) are.files in
        let was : length are.files ≤ length s = are.few in
        one_longer s (Releases f) _ (omega (arith, less, was));
  }
    where
      apart : (q : OpenFile) → same_open f q ≡ false → (x : OpenFile) → same_open q x ≡ true → not (same_open f x)
          ≡ true
      apart q e x h = ap not (subst (λ y. same_open f y ≡ false) (open_is q x h) e)

      by : (q : OpenFile) (b : Bool) → same_open f q ≡ b
          → filter (same_open q) (filter (λ o. not (same_open f o)) are.files)
          ≡ if_open (opened s q - one_if (same_open f q)) q
      by q true e =
          subst (λ x. filter (same_open x) (filter (λ o. not (same_open f o)) are.files)
          ≡ if_open (opened s x - one_if (same_open f x)) x) (open_is f q e)
          (kept_none (same_open f) (λ o. not (same_open f o)) (λ x h. ap not h) are.files
          ∙ sym (rw (open_self f, one) refl))
      by q false e = kept_both (same_open q) (λ o. not (same_open f o)) (apart q e) are.files ∙ are.once q
          ∙ ap (λ n. if_open n q) (rw e (omega arith))

      sum : (n : ℕ) → sum_by (λ (o : OpenFile). one_if (nat_eq o.nodeid n)) are.files - one_if (nat_eq f.nodeid n)
          ≡ sum_by (λ (o : OpenFile). one_if (nat_eq o.nodeid n)) (filter (λ o. not (same_open f o)) are.files)
      sum n =
          let w = λ (o : OpenFile). one_if (nat_eq o.nodeid n) in
          let split : sum_by w are.files ≡ sum_by w (filter (same_open f) are.files)
          + sum_by w (filter (λ o. not (same_open f o)) are.files) = sum_split w (same_open f) are.files in
          let here : sum_by w (filter (same_open f) are.files) ≡ sum_by w (f ∷ []) =
          ap (sum_by w) (are.once f ∙ ap (λ k. if_open k f) one) in
          let it : sum_by w (f ∷ []) ≡ one_if (nat_eq f.nodeid n) + 0 = sum_first w f [] in
          omega (arith, split, here, it)

-- Some file of a node is open where its count says so.

abbrev weight : ℕ → OpenFile → ℕ
weight n o = one_if (nat_eq o.nodeid n)

not_empty : {X : Type 0} (x : X) (xs : List X) → x ∷ xs ≢ []
not_empty x xs e = cc

still : (o x : OpenFile) (xs : List OpenFile) → filter (same_open o) xs ≢ [] → filter (same_open o) (x ∷ xs) ≢ []
still o x xs some = on (same_open o x)
  where
    on : (b : Bool) → cond b (x ∷ filter (same_open o) xs) (filter (same_open o) xs) ≢ []
    on true = not_empty x (filter (same_open o) xs)
    on false = some

itself : (x : OpenFile) (xs : List OpenFile) → filter (same_open x) (x ∷ xs) ≢ []
itself x xs = rw (open_self x) (not_empty x (filter (same_open x) xs))

abbrev Found : ℕ → List OpenFile → Type 0
Found n xs = (o : OpenFile) × (o.nodeid ≡ n) × (filter (same_open o) xs ≢ [])

none_found : 0 < 0 → ⊥
none_found e = omega (arith, e)

found_one : (n : ℕ) (xs : List OpenFile) → 0 < sum_by (weight n) xs → Found n xs
found_one n [] h = absurd (none_found h)
found_one n (x ∷ xs) h = by (nat_eq x.nodeid n) refl (found_one n xs)
  where
    by : (b : Bool) → nat_eq x.nodeid n ≡ b → (0 < sum_by (weight n) xs → Found n xs) → Found n (x ∷ xs)
    by true e ih = (x, same_numbers x.nodeid n e, itself x xs)
    by false e ih =
        let first : sum_by (weight n) (x ∷ xs) ≡ weight n x + sum_by (weight n) xs = sum_first (weight n) x xs in
        let zero_here : weight n x ≡ 0 = ap one_if e in
        let rest : Found n xs = ih (omega (arith, first, zero_here, h)) in
        (rest.0, rest.1, still rest.0 x xs rest.2)

pub has_open_some : (s : Session) (counts : Counts Handle) (nodes : Counts ℕ) → AreOpen s counts nodes → (n : ℕ)
    → 0 < count_in nat_eq nodes n → HasOpen s n
has_open_some s counts nodes are n h =
    let found = found_one n are.files (subst (λ k. 0 < k) (are.of_nodes n) h) in
    (found.0, found.1, is_open (opened s found.0) found.0 (λ e. found.2 (are.once found.0 ∙ e)))
  where
    is_open : (k : ℕ) (o : OpenFile) → if_open k o ≢ [] → 0 < k
    is_open k o some = by (nat_lt 0 k) refl
      where
        by : (b : Bool) → nat_lt 0 k ≡ b → 0 < k
        by true e = grind (arith, e, rules)
        by false e = absurd (some (rw e refl))

pub has_open_counts : (s : Session) (counts : Counts Handle) (nodes : Counts ℕ) → AreOpen s counts nodes → (n : ℕ)
    → HasOpen s n → 0 < count_in nat_eq nodes n
has_open_counts s counts nodes are n (o, of_node, some) =
    let split : sum_by (weight n) are.files ≡ sum_by (weight n) (filter (same_open o) are.files)
    + sum_by (weight n) (filter (λ x. not (same_open o x)) are.files) = sum_split (weight n) (same_open o) are.files in
    let lt : nat_lt 0 (opened s o) ≡ true = grind (arith, some, rules) in
    let here : sum_by (weight n) (filter (same_open o) are.files) ≡ sum_by (weight n) (o ∷ []) =
    ap (sum_by (weight n)) (are.once o ∙ ap (λ b. cond b (o ∷ []) []) lt) in
    let it : sum_by (weight n) (o ∷ []) ≡ weight n o + 0 = sum_first (weight n) o [] in
    let one : weight n o ≡ 1 = ap one_if (ap (λ k. nat_eq k n) of_node ∙ same n) in
    let total = are.of_nodes n in
    omega (arith, split, here, it, one, total)

-- No count is larger than the session.

opens_small : (q : OpenFile) (a : Act) → opens_this q a ≤ 1
opens_small q (Opens o) = one_small (same_open o q)
opens_small q a = omega arith

pub opened_few : (s : Session) (counts : Counts Handle) (nodes : Counts ℕ) → AreOpen s counts nodes → (limit : ℕ)
    → length s + 1 < limit → (q : OpenFile) → count_in same_handle counts (handle q) + 1 < limit
opened_few s counts nodes are limit small q =
    let is : count_in same_handle counts (handle q) ≡ opened s q = are.open_count q in
    let few : opened s q ≤ length s = left_small (opens_this q) (releases_this q) (opens_small q) s in
    omega (arith, is, few, small)

pub open_nodes_few : (s : Session) (counts : Counts Handle) (nodes : Counts ℕ) → AreOpen s counts nodes → (limit : ℕ)
    → length s + 1 < limit → (n : ℕ) → count_in nat_eq nodes n + 1 < limit
open_nodes_few s counts nodes are limit small n =
    let is : count_in nat_eq nodes n ≡ sum_by (weight n) are.files = are.of_nodes n in
    let few : sum_by (weight n) are.files ≤ 1 * length are.files
    = sum_small (weight n) 1 (λ o. one_small (nat_eq o.nodeid n)) are.files in
    let short : length are.files ≤ length s = are.few in
    omega (arith, is, few, short, small)

pub above_zero : (k : ℕ) → nat_lt 0 k ≡ true → 0 < k
above_zero k e = grind (arith, e, rules)

pub is_above : (k : ℕ) → 0 < k → nat_lt 0 k ≡ true
is_above k h = grind (arith, h, rules)
