-- The files of the names of a list are given nodes, and each name goes with its file's entry.
use Rattle.std.proofs.Common.{◌≡◌, ℕ, ◌-◌, Bool, cond, List, [], ◌∷◌, Some, None, length, map, refl, sym, ap, subst, ◌∙◌, arith}
use Rattle.fuse_spec.specs.Server.Nodes.{NodeTable}
use Rattle.fuse_spec.specs.Files.Operations as operation
use Rattle.fuse_spec.specs.Files.Operations.{Dirent, files_listed, first_listed, pair_with}
use Rattle.fuse_spec.specs.Calls.Paths.{is_dots}
use Rattle.fuse_spec.specs.Server.Performs.{entry_for}
use Rattle.fuse_spec.specs.Files.Trees.{Tree}
use Rattle.fuse_spec.specs.declared.Entry.{Entry}
use Rattle.fs_nodes.specs.Sound.{IsSoundNodeTable}
use Rattle.fuse_frames.specs.ReplyTies.{dirent_read, entry_listed, direntpluses_of}
use Rattle.fs_files.specs.Giving.{GivenEach, node_in}
use Rattle.fs_files.specs.Listed.{dirents_in, listed_pairs, dirents_in_bytes, pair_listed}
use Rattle.fs_files.specs.Numbering.{GivesNumbers, entries_named, entry_named}
use Rattle.fs_files.specs.Values.{FilesState}
use Rattle.fs_files.specs.declared.listed_names.ListedNames.{ListedNames}
use Rattle.fuse_frames.specs.declared.reply.Reply.TheVariants.{ListedPlus}
use Rattle.fs_files.proofs.GivenEach.{all_each, may_each, no_zero}

module _ (tree : Tree) (nodes : NodeTable) (sound : IsSoundNodeTable nodes) where
  some_entry : (d : Dirent) → entry_listed (entry_named tree nodes d) ≡ Some (entry_named tree nodes d)
  some_entry d = ap (λ (b : Bool). cond b None (Some (entry_named tree nodes d))) (no_zero nodes sound (d.ino - 1))

  -- the pairs that are sent
  pub pairs_are : (ms : ℕ) (ds : List Dirent) → direntpluses_of ms (map (entry_named tree nodes) ds) ds
      ≡ map (pair_with (entry_for (node_in nodes.rows) nodes tree)) (map (pair_listed ms) ds)
  pairs_are ms [] = refl
  pairs_are ms (d ∷ ds) = λ i. record { file = some_entry d i; valid = ms; dirent = d } ∷ pairs_are ms ds i

  -- the entries of names that name a file
  pub file_entries_are : (ms : ℕ) (ds : List Dirent) → files_listed (direntpluses_of ms (map (entry_named tree nodes) ds) ds)
      ≡ files_listed (entries_named tree nodes ds)
  file_entries_are ms [] = refl
  file_entries_are ms (d ∷ ds) = λ i. first_listed (cond (is_dots d.name) None (some_entry d i))
      (file_entries_are ms ds i)

-- the files are the same however long they are valid
pub same_files : (ms : ℕ) (ds : List Dirent) → files_listed (map (pair_listed ms) ds)
    ≡ files_listed (map (pair_listed 0) ds)
same_files ms [] = refl
same_files ms (d ∷ ds) = ap (λ (files : List ℕ). first_listed (cond (is_dots d.name) None (Some (d.ino - 1))) files)
    (same_files ms ds)

pub gives_listed : {A : Type 0} (one two : FilesState) (ms : ℕ) (bytes : List ℕ) (listing : ListedNames A)
    → GivenEach one.nodes (files_listed (map (pair_listed 0) (dirents_in_bytes bytes))) two.nodes → IsSoundNodeTable two.nodes
    → listing.entries.items ≡ map (entry_named two.tree two.nodes) (dirents_in_bytes bytes) → listing.records.items ≡ bytes
    → listing.found_ms ≡ ms → two.tree ≡ one.tree → two.handles ≡ one.handles
    → GivesNumbers {A = A} one (operation.listed_plus (map (pair_listed ms) (dirents_in_bytes bytes))) (ListedPlus listing) two
gives_listed one two ms bytes listing given sound entries records valid tree handles =
    let names = dirents_in_bytes bytes in
    let files = files_listed (map (pair_listed ms) names) in
    let each : GivenEach one.nodes files two.nodes =
    subst (λ (fs : List ℕ). GivenEach one.nodes fs two.nodes) (sym (same_files ms names)) given in
    record {
      choice = node_in two.nodes.rows;
      may = may_each two.nodes sound one.nodes files each;
      tree_is = tree;
      nodes_is = all_each two.nodes sound one.nodes files each;
      handles_is = handles;
      wire_is =
          (λ i. operation.listed_plus (direntpluses_of (valid i) (entries i) (dirents_in_bytes (records i))))
          ∙ ap (λ pairs. operation.listed_plus pairs) (pairs_are two.tree two.nodes sound ms names)
          ∙ ap (λ (t : Tree). operation.listed_plus (map (pair_with (entry_for (node_in two.nodes.rows) two.nodes t))
          (map (pair_listed ms) names))) tree;
    }

-- ---- what a list keeps

mapped_length : {X Y : Type 0} (f : X → Y) (xs : List X) → length (map f xs) ≡ length xs
mapped_length f [] = refl
mapped_length f (x ∷ xs) = let rest = mapped_length f xs in omega (arith, rest)

module _ (tree : Tree) (nodes : NodeTable) (bytes : List ℕ) (names : List Dirent) (same : names ≡ dirents_in_bytes bytes)
    (entries : List Entry) (is_entries : entries ≡ map (entry_named tree nodes) names) where
  pub one_each : length entries ≡ length (dirents_in_bytes bytes)
  one_each = ap (λ (es : List Entry). length es) is_entries ∙ mapped_length (entry_named tree nodes) names
      ∙ ap (λ (ds : List Dirent). length ds) same

  pub one_a_record : length entries ≡ length (dirents_in bytes)
  one_a_record = one_each ∙ mapped_length dirent_read (dirents_in bytes)

  pub file_entries_so : IsSoundNodeTable nodes → (ms : ℕ) (file_entries : List Entry)
      → file_entries ≡ files_listed (entries_named tree nodes names)
      → file_entries ≡ files_listed (listed_pairs ms entries bytes)
  file_entries_so sound ms file_entries are_files =
      are_files ∙ sym (file_entries_are tree nodes sound ms names) ∙
      (λ i. files_listed (direntpluses_of ms (sym is_entries i) (same i)))
