-- Files that get nodes one after another.
use Rattle.std.proofs.Common.{◌≡◌, ℕ, suc, ◌+◌, ◌-◌, ◌≤◌, ◌<◌, ◌^◌, Bool, true, false, true≢false, cond, ◌||◌, List, [], ◌∷◌, length, Option, Some, None, nat_eq, refl, sym, ap, subst, ◌∙◌, arith, inl, inr, T}
use Rattle.std.specs.Prelude.{◌⊎◌, IfNone, IfSome, MatchOption, count_by, nat_le}
use Rattle.std.specs.Option.{unwrap_or}
use Rattle.std.specs.List.{list_any}
use Rattle.std.specs.FinMap.{is_sorted}
use Rattle.std.specs.Ordering.{nat_cmp}
use Rattle.std.proofs.lemmas.Bool.{cases_eq, leb-true, leb-false}
use Rattle.std.proofs.lemmas.List.{length-map}
use Rattle.std.proofs.lemmas.Option.{same_Some}
use Rattle.std.proofs.lemmas.Grind.{common_steps}
use Rattle.fuse_spec.specs.Values.Maps.{Map, get, values}
use Rattle.fuse_spec.specs.Server.Nodes.{HeldNode, NodeTable, MayName, IsUnheld, file_of, generation_after, given, given_row, count_overflows}
use Rattle.fuse_spec.specs.declared.Entry.{Entry}
use Rattle.fuse_spec.specs.Values.Numbers.{counter_end}
use Rattle.fuse_spec.proofs.Tables.{get_put_here, get_put_there}
use Rattle.fuse_spec.specs.Server.Server.{count_in}
use Rattle.fs_nodes.specs.Rows.{IsOf}
use Rattle.fs_nodes.specs.Sound.{IsSoundNodeTable}
use Rattle.fuse_tables.proofs.Maps.{HasValue, any_is, any_there, first_there, sorted_later, there_any, there_later, sorted_put, turned}
use Rattle.fs_tree.proofs.Shaping.{same_number}
use Rattle.fs_files.specs.Bounds.{AreHeldBelow}
use Rattle.fs_files.specs.Giving.{AreCountable, IsCountable, files_of, generations_after, has_node_already, new_among, node_in}

pub is_true : (b : Bool) → b ≡ true → T b
is_true true e = tt
is_true false e = absurd (true≢false (sym e))

-- ---- how many are new

module _ (known more : ℕ → Bool) (file : ℕ) (is_more : (x : ℕ) → more x ≡ (known x || nat_eq x file))
    (unknown : known file ≡ false) where
  -- a file that gets a node is new no longer
  new_once : (files : List ℕ) → new_among known files ≡ cond (list_any (nat_eq file) files) 1 0 + new_among more files
  new_once [] = refl
  new_once (x ∷ files) =
      rw (is_more x) (by (nat_eq file x) (known x) (nat_eq x file) (list_any (nat_eq x) files)
      (list_any (nat_eq file) files) (turned file x) at later (new_once files))
    where
      at : nat_eq file x ≡ true → known x ≡ false
      at same = ap known (sym (same_number file x same)) ∙ unknown

      later : nat_eq file x ≡ true → list_any (nat_eq x) files ≡ list_any (nat_eq file) files
      later same = ap (λ y. list_any (nat_eq y) files) (sym (same_number file x same))

      by : (e k f there has : Bool) → e ≡ f → (e ≡ true → k ≡ false) → (e ≡ true → there ≡ has)
          → new_among known files ≡ cond has 1 0 + new_among more files
          → cond (k || there) 0 1 + new_among known files ≡ cond (e || has) 1 0 +
          (cond ((k || f) || there) 0 1 + new_among more files)
      by true true f there has same at later rest = absurd (true≢false (at refl))
      by true false false there has same at later rest = absurd (true≢false same)
      by true false true true true same at later rest = omega (arith, rest)
      by true false true false false same at later rest = omega (arith, rest)
      by true false true true false same at later rest = absurd (true≢false (later refl))
      by true false true false true same at later rest = absurd (true≢false (sym (later refl)))
      by false k true there has same at later rest = absurd (true≢false (sym same))
      by false true false there true same at later rest = omega (arith, rest)
      by false true false there false same at later rest = omega (arith, rest)
      by false false false true true same at later rest = omega (arith, rest)
      by false false false true false same at later rest = omega (arith, rest)
      by false false false false true same at later rest = omega (arith, rest)
      by false false false false false same at later rest = omega (arith, rest)

same_new : (known more : ℕ → Bool) → ((x : ℕ) → more x ≡ known x) → (files : List ℕ)
    → new_among more files ≡ new_among known files
same_new known more same [] = refl
same_new known more same (x ∷ files) = rw (same x)
    (ap (λ n. cond (known x || list_any (nat_eq x) files) 0 1 + n) (same_new known more same files))

-- ---- one file more

-- the node that is given is of the file
pub given_file : (t : NodeTable) (file id : ℕ) → MayName t file id → (given_row t file (get t.rows id)).file ≡ file
given_file t file id may = by (get t.rows id) may
  where
    by : (o : Option HeldNode) → MatchOption o ((2 ≤ id) × IsUnheld t file) (λ row. row.file ≡ file)
        → (given_row t file o).file ≡ file
    by None m = refl
    by (Some row) m = m

-- a node that there was is of the same file still
pub stays : (t : NodeTable) (file id q : ℕ) (row : HeldNode) → get t.rows q ≡ Some row
    → (r : HeldNode) × (get (given t file id).rows q ≡ Some r) × (r.file ≡ row.file)
stays t file id q row there = elim (cases_eq q id) [
  | inl e ↦
      let here : get t.rows id ≡ Some row = ap (get t.rows) (sym e) ∙ there in (
        given_row t file (get t.rows id),
        ap (get (given t file id).rows) e ∙ get_put_here t.rows id
            (given_row t file (get t.rows id)),
        ap (λ (o : Option HeldNode). (given_row t file o).file) here,
      )
  | inr ne ↦ (row, get_put_there t.rows id (given_row t file (get t.rows id)) q ne ∙ there, refl)
]

either : (a b : Bool) → (a || b) ≡ true → (a ≡ true) ⊎ (b ≡ true)
either true b e = inl refl
either false b e = inr e

or_left : (a b : Bool) → a ≡ true → (a || b) ≡ true
or_left a b e = ap (λ x. x || b) e

or_right : (a b : Bool) → b ≡ true → (a || b) ≡ true
or_right true b e = refl
or_right false b e = e

or_none : (a : Bool) → (a || false) ≡ a
or_none true = refl
or_none false = refl

-- which files have nodes then
pub given_has : (t : NodeTable) (file id : ℕ) → T (is_sorted nat_cmp t.rows) → MayName t file id → (x : ℕ)
    → has_node_already (given t file id) x ≡ (has_node_already t x || nat_eq x file)
given_has t file id sorted may x = sym (any_is (has_node_already t x || nat_eq x file) (given t file id).rows test
    (sorted_put t.rows id (given_row t file (get t.rows id)) sorted) there back)
  where
    test : HeldNode → Bool
    test row = nat_eq row.file x

    of_file : (given_row t file (get t.rows id)).file ≡ file
    of_file = given_file t file id may

    there : (has_node_already t x || nat_eq x file) ≡ true → HasValue (given t file id).rows test
    there any = elim (either (has_node_already t x) (nat_eq x file) any) [
      | inl had ↦
          let has = there_any t.rows test sorted had in
          let still = stays t file id has.key has.value has.there in
          record { key = has.key; value = still.0; there = still.1; passes = ap (λ n. nat_eq n x) still.2 ∙ has.passes }
      | inr same ↦ record {
        key = id;
        value = given_row t file (get t.rows id);
        there = get_put_here t.rows id (given_row t file (get t.rows id));
        passes = ap (λ n. nat_eq n x) of_file ∙ turned file x ∙ same;
      }
    ]

    back : HasValue (given t file id).rows test → (has_node_already t x || nat_eq x file) ≡ true
    back has = elim (cases_eq has.key id) [
      | inl e ↦
          let is = same_Some (given_row t file (get t.rows id)) has.value
          (sym (get_put_here t.rows id (given_row t file (get t.rows id))) ∙ ap (get (given t file id).rows)
          (sym e) ∙ has.there) in
          or_right (has_node_already t x) (nat_eq x file) (turned x file ∙ ap (λ n. nat_eq n x)
          (sym of_file ∙ ap (λ (r : HeldNode). r.file) is) ∙ has.passes)
      | inr ne ↦ or_left (has_node_already t x) (nat_eq x file)
          (any_there t.rows test has.key has.value (sym (get_put_there t.rows id
          (given_row t file (get t.rows id)) has.key ne) ∙ has.there) has.passes)
    ]

pub sorted_given : (t : NodeTable) (file id : ℕ) → T (is_sorted nat_cmp t.rows)
    → T (is_sorted nat_cmp (given t file id).rows)
sorted_given t file id sorted = sorted_put t.rows id (given_row t file (get t.rows id)) sorted

pub unheld_not : (t : NodeTable) (file : ℕ) → T (is_sorted nat_cmp t.rows) → IsUnheld t file → has_node_already t file ≡ false
unheld_not t file sorted unheld = by (has_node_already t file) refl
  where
    by : (b : Bool) → has_node_already t file ≡ b → b ≡ false
    by false e = refl
    by true e = let has = there_any t.rows (λ (row : HeldNode). nat_eq row.file file) sorted e in
        absurd (unheld has.key has.value has.there (same_number has.value.file file has.passes))

pub held_has : (t : NodeTable) (file id : ℕ) (row : HeldNode) → get t.rows id ≡ Some row → row.file ≡ file
    → has_node_already t file ≡ true
held_has t file id row there same = any_there t.rows (λ (r : HeldNode). nat_eq r.file file) id row there
    (ap (λ n. nat_eq n file) same ∙ is_itself file)
  where
    is_itself : (n : ℕ) → nat_eq n n ≡ true
    is_itself n = grind (arith, common_steps)

-- the generations that are given, one file after another
pub generations_given : (t : NodeTable) (file id : ℕ) (files : List ℕ) → T (is_sorted nat_cmp t.rows)
    → MayName t file id → generations_after (given t file id) files ≡ generations_after t (file ∷ files)
generations_given t file id files sorted may = by (get t.rows id) refl may
  where
    by : (o : Option HeldNode) → get t.rows id ≡ o → MatchOption o ((2 ≤ id) × IsUnheld t file) (λ row. row.file ≡ file)
        → generations_after (given t file id) files ≡ generations_after t (file ∷ files)
    by None e m =
        let unknown = unheld_not t file sorted m.1 in
        let once = new_once (has_node_already t) (has_node_already (given t file id)) file
        (given_has t file id sorted may) unknown files in
        let next : (given t file id).next_generation ≡ t.next_generation + 1 = ap (generation_after t) e in
        rw (next, unknown) (sums (list_any (nat_eq file) files) once)
      where
        sums : (b : Bool) → new_among (has_node_already t) files ≡ cond b 1 0 + new_among (has_node_already (given t file id)) files
            → t.next_generation + 1 + new_among (has_node_already (given t file id)) files
            ≡ t.next_generation + (cond b 0 1 + new_among (has_node_already t) files)
        sums true once = omega (arith, once)
        sums false once = omega (arith, once)
    by (Some row) e m =
        let known = held_has t file id row e m in
        let next : (given t file id).next_generation ≡ t.next_generation = ap (generation_after t) e in
        let same = same_new (has_node_already t) (has_node_already (given t file id))
        (λ x. given_has t file id sorted may x ∙ still x known) files in
        rw (next, known, same) (omega arith)
      where
        still : (x : ℕ) → has_node_already t file ≡ true → (has_node_already t x || nat_eq x file) ≡ has_node_already t x
        still x known = by_same (nat_eq x file) refl
          where
            by_same : (b : Bool) → nat_eq x file ≡ b → (has_node_already t x || b) ≡ has_node_already t x
            by_same true same = or_right (has_node_already t x) true refl ∙ sym
                (ap (has_node_already t) (same_number x file same) ∙ known)
            by_same false same = or_none (has_node_already t x)

-- the last one among equal files is new
new_later : (known : ℕ → Bool) (file : ℕ) → known file ≡ false → (xs : List ℕ) → list_any (nat_eq file) xs ≡ true
    → 1 ≤ new_among known xs
new_later known file unknown [] e = absurd (true≢false (sym e))
new_later known file unknown (x ∷ xs) e = go (nat_eq file x) refl (known x) refl (list_any (nat_eq x) xs) refl e
    (new_later known file unknown xs)
  where
    go : (f : Bool) → nat_eq file x ≡ f → (k : Bool) → known x ≡ k → (t : Bool) → list_any (nat_eq x) xs ≡ t
        → (f || list_any (nat_eq file) xs) ≡ true → (list_any (nat_eq file) xs ≡ true → 1 ≤ new_among known xs)
        → 1 ≤ cond (k || t) 0 1 + new_among known xs
    go true same true k t there any rest = absurd (true≢false
        (sym k ∙ ap known (sym (same_number file x same)) ∙ unknown))
    go true same false k true there any rest = let more =
        rest (ap (λ y. list_any (nat_eq y) xs) (same_number file x same) ∙ there) in omega (arith, more)
    go true same false k false there any rest = omega arith
    go false same k kk t there any rest = let more = rest any in omega (arith, more)

pub first_new : (known : ℕ → Bool) (file : ℕ) (files : List ℕ) → known file ≡ false → 1 ≤ new_among known (file ∷ files)
first_new known file files unknown = rw unknown (by (list_any (nat_eq file) files) refl)
  where
    by : (b : Bool) → list_any (nat_eq file) files ≡ b → 1 ≤ cond b 0 1 + new_among known files
    by false e = omega arith
    by true e = let more = new_later known file unknown files e in omega (arith, more)

-- a generation is left for a file without a node
pub generation_left : (t : NodeTable) (file : ℕ) (files : List ℕ) → T (is_sorted nat_cmp t.rows)
    → generations_after t (file ∷ files) ≤ 2 ^ 62 → IsUnheld t file → t.next_generation < 2 ^ 62
generation_left t file files sorted enough unheld =
    let unknown = unheld_not t file sorted unheld in
    let some = first_new (has_node_already t) file files unknown in
    omega (arith, enough, some)

-- ---- counts

module _ (t : NodeTable) (files : List ℕ) where
  reaches : HeldNode → Bool
  reaches row = nat_le counter_end (row.count + count_by (nat_eq row.file) files)

  -- a node that reaches the end of counters
  pub out_at : (id : ℕ) (row : HeldNode) (file : ℕ) → get t.rows id ≡ Some row → row.file ≡ file
      → 2 ^ 62 ≤ row.count + count_by (nat_eq file) files → count_overflows t files ≡ true
  out_at id row file there same most =
      any_there t.rows (λ (r : HeldNode). nat_le counter_end (r.count + count_by (nat_eq r.file) files)) id row there
      (ap (λ n. nat_le counter_end (row.count + count_by (nat_eq n) files)) same ∙ reached
      (row.count + count_by (nat_eq file) files) most)
    where
      reached : (n : ℕ) → 2 ^ 62 ≤ n → nat_le counter_end n ≡ true
      reached n le = grind (arith, common_steps)

  -- a file that is among these
  some_among : (file : ℕ) (some : List ℕ) → AreCountable t files some → 0 < count_by (nat_eq file) some
      → IsCountable t files file
  some_among file [] each more = absurd (none more)
    where
      none : 0 < 0 → ⊥
      none e = omega (arith, e)
  some_among file (x ∷ some) each more = by (nat_eq file x) refl more (some_among file some each.1)
    where
      by : (b : Bool) → nat_eq file x ≡ b → 0 < count_by (nat_eq file) (x ∷ some)
          → (0 < count_by (nat_eq file) some → IsCountable t files file) → IsCountable t files file
      by true same more rest = subst (IsCountable t files) (sym (same_number file x same)) each.0
      by false same more rest = rest (rw same at more)

  pub none_out : T (is_sorted nat_cmp t.rows) → AreHeldBelow t → AreCountable t files files → count_overflows t files ≡ false
  none_out sorted below each = by (count_overflows t files) refl
    where
      by : (b : Bool) → count_overflows t files ≡ b → b ≡ false
      by false e = refl
      by true e =
          let has = there_any t.rows (λ (r : HeldNode). nat_le counter_end
          (r.count + count_by (nat_eq r.file) files)) sorted e in
          absurd (over has.value.count (count_by (nat_eq has.value.file) files) has.passes
          (below has.key has.value has.there)
          (λ more. some_among has.value.file files each more has.key has.value has.there refl))
        where
          over : (count more : ℕ) → nat_le counter_end (count + more) ≡ true → count < 2 ^ 62
              → (0 < more → count + more < 2 ^ 62) → ⊥
          over count more most low fits = elim (cases_eq more 0) [
            | inl e ↦ (let le = leb-true counter_end (count + more) most in omega (arith, le, low, e))
            | inr ne ↦ (let le = leb-true counter_end (count + more) most in let fit = fits (omega (arith, ne)) in
                omega (arith, le, fit))
          ]

  module _ (id file : ℕ) (of_file : IsOf (get t.rows id) file) (count more : ℕ)
      (is_count : count ≡ count_in (get t.rows id)) (is_more : more ≡ count_by (nat_eq file) files) where
    row_at : (o : Option HeldNode) → get t.rows id ≡ o → IsOf o file
        → (row : HeldNode) × (get t.rows id ≡ Some row) × (row.file ≡ file)
    row_at None e is = absurd is
    row_at (Some row) e is = (row, e, is)

    -- the node's lookups reaches the end of counters
    pub counted_out_at : nat_le (2 ^ 62 - count) more ≡ true → count_overflows t files ≡ true
    counted_out_at most =
        let row = row_at (get t.rows id) refl of_file in
        let counted : count ≡ row.0.count = is_count ∙ ap count_in row.1 in
        let le = leb-true (2 ^ 62 - count) more most in
        out_at id row.0 file row.1 row.2 (omega (arith, counted, is_more, le))

    -- or they don't
    pub within_at : IsSoundNodeTable t → AreHeldBelow t → nat_le (2 ^ 62 - count) more ≡ false → IsCountable t files file
    within_at sound below short other same there is =
        let row = row_at (get t.rows id) refl of_file in
        let one : id ≡ other = sound.one_each id other row.0 same row.1 there (row.2 ∙ sym is) in
        let counted : count ≡ same.count = is_count ∙ ap count_in (ap (get t.rows) one ∙ there) in
        let low = below other same there in
        let lt = leb-false (2 ^ 62 - count) more short in
        omega (arith, counted, is_more, lt, low)

-- the count of a node, or of none
pub count_low : (t : NodeTable) (id count : ℕ) → AreHeldBelow t → count ≡ count_in (get t.rows id) → count ≤ 2 ^ 62
count_low t id count below is = by (get t.rows id) refl is
  where
    by : (o : Option HeldNode) → get t.rows id ≡ o → count ≡ count_in o → count ≤ 2 ^ 62
    by None e is = omega (arith, is)
    by (Some row) e is = let low = below id row e in omega (arith, is, low)

pub node_found : (rows : Map HeldNode) (file : ℕ) → T (is_sorted nat_cmp rows)
    → list_any (λ (row : HeldNode). nat_eq row.file file) (values rows) ≡ true
    → IsOf (get rows (node_in rows file)) file
node_found [] file sorted any = absurd (true≢false (sym any))
node_found (e ∷ rows) file sorted any = by (nat_eq e.1.file file) refl any
    (node_found rows file (sorted_later e rows sorted))
  where
    behind : (k : ℕ) (o : Option HeldNode) → get rows k ≡ o → IsOf o file → IsOf (get (e ∷ rows) k) file
    behind k None at is = absurd is
    behind k (Some row) at is = subst (λ (o : Option HeldNode). IsOf o file)
        (sym (there_later e rows sorted k row at)) is

    by : (b : Bool) → nat_eq e.1.file file ≡ b → (b || list_any (λ (row : HeldNode). nat_eq row.file file)
        (values rows)) ≡ true
        → (list_any (λ (row : HeldNode). nat_eq row.file file) (values rows) ≡ true
        → IsOf (get rows (node_in rows file)) file) → IsOf (get (e ∷ rows) (cond b e.0 (node_in rows file))) file
    by true same any rest = subst (λ (o : Option HeldNode). IsOf o file) (sym (first_there e rows))
        (same_number e.1.file file same)
    by false same any rest = behind (node_in rows file) (get rows (node_in rows file)) refl (rest any)

-- the node of a file that has one
pub node_of_is : (t : NodeTable) (file id : ℕ) → IsSoundNodeTable t → IsOf (get t.rows id) file → id ≡ node_in t.rows file
node_of_is t file id sound is = by (get t.rows id) refl is (get t.rows (node_in t.rows file)) refl
  where
    by : (o : Option HeldNode) → get t.rows id ≡ o → IsOf o file → (p : Option HeldNode)
        → get t.rows (node_in t.rows file) ≡ p → id ≡ node_in t.rows file
    by None at of p there = absurd of
    by (Some row) at of p there = found p there (subst (λ (o : Option HeldNode). IsOf o file) there
        (node_found t.rows file (is_true (is_sorted nat_cmp t.rows) sound.sorted) (held_has t file id row at of)))
      where
        found : (p : Option HeldNode) → get t.rows (node_in t.rows file) ≡ p → IsOf p file → id ≡ node_in t.rows file
        found None there of_it = absurd of_it
        found (Some other) there of_it = sound.one_each id (node_in t.rows file) row other at there (of ∙ sym of_it)

pub node_of_none : (rows : Map HeldNode) (file : ℕ)
    → list_any (λ (row : HeldNode). nat_eq row.file file) (values rows) ≡ false → 1 ≡ node_in rows file
node_of_none [] file none = refl
node_of_none (e ∷ rows) file none = by (nat_eq e.1.file file) none (node_of_none rows file)
  where
    by : (b : Bool) → (b || list_any (λ (row : HeldNode). nat_eq row.file file) (values rows)) ≡ false
        → (list_any (λ (row : HeldNode). nat_eq row.file file) (values rows) ≡ false → 1 ≡ node_in rows file)
        → 1 ≡ cond b e.0 (node_in rows file)
    by true none rest = absurd (true≢false none)
    by false none rest = rest none

pub holds_sorted : (t : NodeTable) → IsSoundNodeTable t → T (is_sorted nat_cmp t.rows)
holds_sorted t sound = is_true (is_sorted nat_cmp t.rows) sound.sorted

-- at the end of a list nothing is left to be judged
pub none_left : (t : NodeTable) (files left : List ℕ) (at end : ℕ) → at + length left ≡ end → end ≤ at
    → AreCountable t files left
none_left t files [] at end all past = tt
none_left t files (x ∷ left) at end all past = absurd (more (length left) all past)
  where
    more : (n : ℕ) → at + suc n ≡ end → end ≤ at → ⊥
    more n all past = omega (arith, all, past)

-- the same at the end of entries
pub none_counted : (t : NodeTable) (files : List ℕ) (left : List Entry) (at end : ℕ) → at + length left ≡ end → end ≤ at
    → AreCountable t files (files_of t left)
none_counted t files left at end all past = none_left t files (files_of t left) at end
    (ap (λ n. at + n) (length-map left (λ (g : Entry). file_of t g.nodeid)) ∙ all) past

unheld_node : (t : NodeTable) (file : ℕ) → IsSoundNodeTable t → IsUnheld t file → 1 ≡ node_in t.rows file
unheld_node t file sound unheld = node_of_none t.rows file
    (unheld_not t file (is_true (is_sorted nat_cmp t.rows) sound.sorted) unheld)

pub node_of_either : (t : NodeTable) (file : ℕ) → IsSoundNodeTable t → (o : Option ℕ) (id : ℕ)
    → IfSome o (λ n. IsOf (get t.rows n) file) → IfNone o (IsUnheld t file) → id ≡ unwrap_or o 1
    → id ≡ node_in t.rows file
node_of_either t file sound None id some none is = is ∙ unheld_node t file sound none
node_of_either t file sound (Some n) id some none is = is ∙ node_of_is t file n sound some
