-- Tables in which files got nodes one after another.
use Rattle.std.proofs.Common.{◌≡◌, ℕ, ◌+◌, ◌≤◌, ◌<◌, ◌^◌, Bool, true, false, true≢false, cond, List, [], ◌∷◌, Option, Some, None, nat_eq, refl, sym, ap, subst, ◌∙◌, arith, T}
use Rattle.std.specs.FinMap.{is_sorted}
use Rattle.std.specs.Ordering.{nat_cmp}
use Rattle.std.proofs.lemmas.Grind.{common_steps}
use Rattle.fuse_spec.specs.Values.Maps.{Map, get}
use Rattle.fuse_spec.proofs.Tables.{get_put_here}
use Rattle.fuse_spec.specs.Server.Nodes.{HeldNode, NodeTable, IsUnheld, MayChoose, MayName, all_given, given, given_row}
use Rattle.fuse_spec.specs.Files.Operations.{first_listed}
use Rattle.fs_nodes.specs.Rows.{IsOf}
use Rattle.fs_nodes.specs.Sound.{IsSoundNodeTable}
use Rattle.fuse_tables.proofs.Maps.{first_there, sorted_later, there_later}
use Rattle.fs_files.specs.Bounds.{HaveCountsUpTo}
use Rattle.fs_files.specs.Giving.{GivenEach, generations_after, node_in}
use Rattle.fs_files.proofs.Bounds.{given_each}
use Rattle.fs_files.proofs.Giving.{generation_left, generations_given, given_file, holds_sorted, node_of_is, stays}

-- ---- the file of one name, or none

-- a generation is left for the file of a name other than `.` and `..`
pub named_left : (t : NodeTable) (file : ℕ) (dots : Bool) → dots ≡ false → IsSoundNodeTable t
    → generations_after t (first_listed (cond dots None (Some file)) []) ≤ 2 ^ 62 → IsUnheld t file
    → t.next_generation < 2 ^ 62
named_left t file true no_dots sound enough unheld = absurd (true≢false no_dots)
named_left t file false no_dots sound enough unheld = generation_left t file [] (holds_sorted t sound) enough unheld

module _ (t new : NodeTable) where
  -- a name other than `.` and `..`
  pub named_given : (file id : ℕ) (dots : Bool) → dots ≡ false → GivenEach t (file ∷ []) new
      → GivenEach t (first_listed (cond dots None (Some file)) []) new
  named_given file id true no_dots one = absurd (true≢false no_dots)
  named_given file id false no_dots one = one

  pub one_given : (file_named : Option ℕ) (files : List ℕ) (last : NodeTable)
      → GivenEach t (first_listed file_named []) new
      → GivenEach new files last → GivenEach t (first_listed file_named files) last
  one_given None files last one rest = subst (λ (n : NodeTable). GivenEach n files last) one rest
  one_given (Some file) files last one rest = (
    one.0,
    one.1,
    subst (λ (n : NodeTable). GivenEach n files last) one.2 rest,
  )

  pub one_generations : (file_named : Option ℕ) (files : List ℕ) → IsSoundNodeTable t
      → GivenEach t (first_listed file_named []) new
      → generations_after new files ≡ generations_after t (first_listed file_named files)
  one_generations None files sound one = ap (λ (n : NodeTable). generations_after n files) one
  one_generations (Some file) files sound one = ap
      (λ (n : NodeTable). generations_after n files) one.2 ∙ generations_given t file one.0 files
      (holds_sorted t sound) one.1

  pub one_counted : (file_named : Option ℕ) (most : ℕ) → GivenEach t (first_listed file_named []) new → HaveCountsUpTo most t
      → HaveCountsUpTo (most + 1) new
  one_counted None most one low = subst (λ (n : NodeTable). HaveCountsUpTo (most + 1) n) (sym one)
      (λ id row is. let le = low id row is in omega (arith, le))
  one_counted (Some file) most one low =
      subst (λ (n : NodeTable). HaveCountsUpTo (most + 1) n) (sym one.2)
      (given_each (λ row. row.count ≤ most) (λ row. row.count ≤ most + 1) t file one.0 (λ row le. omega (arith, le))
      (λ row le. omega (arith, le)) (omega arith) low)

-- ---- the whole list

module _ (last : NodeTable) where
  -- a node that there was is of the same file still
  each_stays : (t : NodeTable) (files : List ℕ) → GivenEach t files last → (q : ℕ) (row : HeldNode)
      → get t.rows q ≡ Some row → (r : HeldNode) × (get last.rows q ≡ Some r) × (r.file ≡ row.file)
  each_stays t [] given_all q row there = (row, ap (λ (n : NodeTable). get n.rows q) given_all ∙ there, refl)
  each_stays t (file ∷ files) given_all q row there =
      let one = stays t file given_all.0 q row there in
      let more = each_stays (given t file given_all.0) files given_all.2 q one.0 one.1 in
      (more.0, more.1, more.2 ∙ one.2)

  module _ (sound : IsSoundNodeTable last) where
    -- the node that a file got is its node at the end
    chosen : (t : NodeTable) (file : ℕ) (files : List ℕ) (given_all : GivenEach t (file ∷ files) last)
        → given_all.0 ≡ node_in last.rows file
    chosen t file files given_all =
        let here = given_row t file (get t.rows given_all.0) in
        let still = each_stays (given t file given_all.0) files given_all.2 given_all.0 here
        (get_put_here t.rows given_all.0 here) in
        node_of_is last file given_all.0 sound (subst (λ (o : Option HeldNode). IsOf o file) (sym still.1)
        (still.2 ∙ given_file t file given_all.0 given_all.1))

    pub may_each : (t : NodeTable) (files : List ℕ) → GivenEach t files last → MayChoose (node_in last.rows) t files
    may_each t [] given_all = tt
    may_each t (file ∷ files) given_all =
        let is = chosen t file files given_all in (
          subst (λ (id : ℕ). MayName t file id) is given_all.1,
          subst (λ (id : ℕ). MayChoose (node_in last.rows) (given t file id) files) is
              (may_each (given t file given_all.0) files given_all.2),
        )

    pub all_each : (t : NodeTable) (files : List ℕ) → GivenEach t files last
        → last ≡ all_given (node_in last.rows) t files
    all_each t [] given_all = given_all
    all_each t (file ∷ files) given_all = all_each (given t file given_all.0) files given_all.2 ∙ ap
        (λ (id : ℕ). all_given (node_in last.rows) (given t file id) files) (chosen t file files given_all)

-- nodes that are chosen
pub given_chosen : (choice : ℕ → ℕ) (t : NodeTable) (files : List ℕ) → MayChoose choice t files
    → GivenEach t files (all_given choice t files)
given_chosen choice t [] may = refl
given_chosen choice t (file ∷ files) may = (
  choice file,
  may.0,
  given_chosen choice (given t file (choice file)) files may.1,
)

-- ---- no node is 0

some_node : (rows : Map HeldNode) → T (is_sorted nat_cmp rows)
    → ((id : ℕ) (row : HeldNode) → get rows id ≡ Some row → 2 ≤ id) → (file : ℕ) → 1 ≤ node_in rows file
some_node [] sorted two file = omega arith
some_node (e ∷ rows) sorted two file = by (nat_eq e.1.file file)
    (some_node rows (sorted_later e rows sorted) (λ id row there. two id row
    (there_later e rows sorted id row there)) file)
  where
    by : (b : Bool) → 1 ≤ node_in rows file → 1 ≤ cond b e.0 (node_in rows file)
    by true rest = let low = two e.0 e.1 (first_there e rows) in omega (arith, low)
    by false rest = rest

pub no_zero : (t : NodeTable) → IsSoundNodeTable t → (file : ℕ) → nat_eq (node_in t.rows file) 0 ≡ false
no_zero t sound file = above (node_in t.rows file) (some_node t.rows (holds_sorted t sound) sound.from_two file)
  where
    above : (n : ℕ) → 1 ≤ n → nat_eq n 0 ≡ false
    above n some = grind (arith, common_steps)
