-- The files of names get nodes one after another, as the names are walked over.
use Rattle.std.proofs.Common.{◌≡◌, ℕ, ◌-◌, ◌+◌, ◌≤◌, ◌<◌, ◌^◌, Bool, true, false, cond, List, [], ◌∷◌, Option, Some, None, length, map, refl, sym, subst, arith}
use Rattle.std.specs.Prelude.{All}
use Rattle.std.proofs.lemmas.List.Elements.{All-head, All-tail}
use Rattle.fuse_spec.specs.Server.Nodes.{NodeTable}
use Rattle.fuse_spec.specs.Files.Operations.{Dirent, files_listed, first_listed}
use Rattle.fuse_spec.specs.Calls.Paths.{is_dots}
use Rattle.fuse_spec.specs.Files.Trees.{Tree}
use Rattle.fs_files.specs.Bounds.{HaveCountsUpTo, AreHeldBelow}
use Rattle.fs_files.specs.Giving.{GivenEach, generations_after, has_node_already}
use Rattle.fs_files.specs.Listed.{pair_listed}
use Rattle.fs_files.specs.Replies.{IsListable}
use Rattle.fs_files.proofs.Giving.{first_new}
use Rattle.fs_files.proofs.GivenEach.{one_counted, one_given}

-- the file that a name names
abbrev pub file_of_name : Dirent → Option ℕ
file_of_name d = cond (is_dots d.name) None (Some (d.ino - 1))

-- The files of these names are still to be given nodes, of all that are to get them.
pub record StillToGive (tree : Tree) (old : NodeTable) (all : List ℕ) (t : NodeTable) (room : ℕ)
    (ds : List Dirent) : Type 0 where
  pub goes : (last : NodeTable) → GivenEach t (files_listed (map (pair_listed 0) ds)) last → GivenEach old all last
  pub listable : All (IsListable tree) ds
  pub few : length ds ≤ 32
  pub roomy : length ds ≤ room
  pub generations : generations_after t (files_listed (map (pair_listed 0) ds)) ≤ 2 ^ 62
  pub counted : HaveCountsUpTo (2 ^ 63 - length ds) t

pub first_to_give : (tree : Tree) (t : NodeTable) (room : ℕ) (ds : List Dirent) → All (IsListable tree) ds
    → length ds ≤ 32 → length ds ≤ room
    → generations_after t (files_listed (map (pair_listed 0) ds)) ≤ 2 ^ 62 → AreHeldBelow t
    → StillToGive tree t (files_listed (map (pair_listed 0) ds)) t room ds
first_to_give tree t room ds listable few roomy generations below = record {
  goes = λ last rest. rest;
  listable = listable;
  few = few;
  roomy = roomy;
  generations = generations;
  counted = λ id row is. let low = below id row is in omega (arith, low, few);
}

module _ (tree : Tree) (old : NodeTable) (all : List ℕ) (t : NodeTable) (room : ℕ) (d : Dirent) (ds : List Dirent)
    (still : StillToGive tree old all t room (d ∷ ds)) where
  pub given_next : (new : NodeTable) (more : ℕ) → GivenEach t (first_listed (file_of_name d) []) new
      → ((files : List ℕ) → generations_after new files ≡ generations_after t (first_listed (file_of_name d) files))
      → room ≤ more + 1
      → StillToGive tree old all new more ds
  given_next new more one next left =
      let files = files_listed (map (pair_listed 0) ds) in
      let few = still.few in
      let roomy = still.roomy in
      record {
        goes = λ last rest. still.goes last (one_given t new (file_of_name d) files last one rest);
        listable = All-tail (IsListable tree) d ds still.listable;
        few = omega (arith, few);
        roomy = omega (arith, roomy, left);
        generations = subst (λ (n : ℕ). n ≤ 2 ^ 62) (sym (next files)) still.generations;
        counted = λ id row is. let low = one_counted t new (file_of_name d)
            (2 ^ 63 - length (d ∷ ds)) one still.counted id row is in omega (arith, low, few);
      }

  pub next_listable : IsListable tree d
  next_listable = All-head (IsListable tree) d ds still.listable

  pub next_counted : HaveCountsUpTo (2 ^ 63) t
  next_counted id row is = let low = still.counted id row is in omega (arith, low)

  pub next_room : 0 < room
  next_room = let roomy = still.roomy in omega (arith, roomy)

-- the first of some files takes no more generations than all
fewer_first : (t : NodeTable) (file_named : Option ℕ) (files : List ℕ)
    → generations_after t (first_listed file_named files) ≤ 2 ^ 62
    → generations_after t (first_listed file_named []) ≤ 2 ^ 62
fewer_first t None files enough = omega (arith, enough)
fewer_first t (Some file) files enough = by (has_node_already t file) refl
  where
    by : (b : Bool) → has_node_already t file ≡ b → generations_after t (file ∷ []) ≤ 2 ^ 62
    by true e = rw e (omega (arith, enough))
    by false e = let some = first_new (has_node_already t) file files e in rw e (omega (arith, enough, some))

pub next_generations : (tree : Tree) (old : NodeTable) (all : List ℕ) (t : NodeTable) (room : ℕ) (d : Dirent)
    (ds : List Dirent) → StillToGive tree old all t room (d ∷ ds)
    → generations_after t (first_listed (file_of_name d) []) ≤ 2 ^ 62
next_generations tree old all t room d ds still =
    fewer_first t (file_of_name d) (files_listed (map (pair_listed 0) ds)) still.generations
