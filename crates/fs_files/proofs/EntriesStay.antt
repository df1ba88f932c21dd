-- The entry of a file that has a node stays while files get nodes.
use Rattle.std.proofs.Common.{◌≡◌, ℕ, ◌-◌, Bool, true, false, cond, ◌||◌, List, [], ◌∷◌, ◌++◌, Option, Some, None, map, nat_eq, refl, sym, ap, subst, ◌∙◌, inl, inr, arith}
use Rattle.std.proofs.lemmas.Bool.{cases_eq}
use Rattle.std.proofs.lemmas.List.{append-nil}
use Rattle.std.proofs.lemmas.Grind.{common_steps}
use Rattle.fuse_spec.specs.Values.Maps.{get}
use Rattle.fuse_spec.specs.Calls.Paths.{is_dots}
use Rattle.fuse_spec.specs.Files.Operations.{Dirent, files_listed, first_listed}
use Rattle.fuse_spec.specs.Files.Trees.{Tree}
use Rattle.fuse_spec.specs.Server.Nodes.{HeldNode, NodeTable, MayName, given, given_row, root_row, row_of}
use Rattle.fuse_spec.specs.Server.Performs.{entry_for}
use Rattle.fuse_spec.specs.Server.Server.{generation_in}
use Rattle.fuse_spec.specs.declared.Entry.{Entry}
use Rattle.fuse_spec.proofs.Tables.{get_put_here, get_put_there}
use Rattle.fs_nodes.specs.Rows.{IsOf}
use Rattle.fs_nodes.specs.Sound.{IsSoundNodeTable}
use Rattle.fs_files.specs.Giving.{has_node_already, node_in}
use Rattle.fs_files.specs.Numbering.{GivesEntry, entries_named, entry_named}
use Rattle.fs_files.proofs.EntriesPut.{one_on}
use Rattle.fs_files.proofs.Giving.{given_file, given_has, holds_sorted, node_found, node_of_is}

-- a node that there was is of the same file and generation still
kept : (t : NodeTable) (file id q : ℕ) (row : HeldNode) → get t.rows q ≡ Some row
    → (r : HeldNode) × (get (given t file id).rows q ≡ Some r) × (r.file ≡ row.file) × (r.generation ≡ row.generation)
kept t file id q row there = elim (cases_eq q id) [
  | inl e ↦
      let here : get t.rows id ≡ Some row = ap (get t.rows) (sym e) ∙ there in (
        given_row t file (get t.rows id),
        ap (get (given t file id).rows) e ∙ get_put_here t.rows id
            (given_row t file (get t.rows id)),
        ap (λ (o : Option HeldNode). (given_row t file o).file) here,
        ap (λ (o : Option HeldNode). (given_row t file o).generation) here,
      )
  | inr ne ↦ (row, get_put_there t.rows id (given_row t file (get t.rows id)) q ne ∙ there, refl, refl)
]

row_in : (o : Option HeldNode) (file : ℕ) → IsOf o file → (row : HeldNode) × (o ≡ Some row) × (row.file ≡ file)
row_in None file is = absurd is
row_in (Some row) file is = (row, refl, is)

itself : (n : ℕ) → nat_eq n n ≡ true
itself n = grind (arith, common_steps)

or_true : (a b : Bool) → b ≡ true → (a || b) ≡ true
or_true true b e = refl
or_true false b e = e

module _ (tree : Tree) where
  -- Each file that has a node has it still, and the same entry.
  abbrev pub Stay : NodeTable → NodeTable → Type 0
  Stay t u = (file : ℕ) → has_node_already t file ≡ true → (has_node_already u file ≡ true)
      × (entry_for (node_in u.rows) u tree file ≡ entry_for (node_in t.rows) t tree file)

  stay_then : (t u v : NodeTable) → Stay t u → Stay u v → Stay t v
  stay_then t u v one two file has = let first = one file has in let next = two file first.0 in
      (next.0, next.1 ∙ first.1)

  -- while a file gets a node
  stay_given : (t : NodeTable) (file id : ℕ) → IsSoundNodeTable t → MayName t file id
      → IsSoundNodeTable (given t file id) → Stay t (given t file id)
  stay_given t file id sound may sound_then x has =
      let u = given t file id in
      let old = node_in t.rows x in
      let row = row_in (get t.rows old) x (node_found t.rows x (holds_sorted t sound) has) in
      let still = kept t file id old row.0 row.1 in
      let of_it : IsOf (get u.rows old) x = subst (λ (o : Option HeldNode). IsOf o x) (sym still.1) (still.2 ∙ row.2) in
      let same : old ≡ node_in u.rows x = node_of_is u x old sound_then of_it in
      let generations = ap generation_in still.1 ∙ still.3 ∙ sym (ap generation_in row.1) in
      let generation = ap (λ (n : ℕ). generation_in (row_of u n)) (sym same) ∙ by u old (nat_eq old 1) generations in (
        given_has t file id (holds_sorted t sound) may x ∙ ap (λ (b : Bool). b || nat_eq x file) has,
        (λ i. record { nodeid = sym same i; generation = generation i; attributes = (entry_for (node_in t.rows) t tree x).attributes }),
      )
    where
      by : (u : NodeTable) (old : ℕ) (b : Bool) → generation_in (get u.rows old) ≡ generation_in (get t.rows old)
          → generation_in (cond b (Some root_row) (get u.rows old)) ≡ generation_in (cond b (Some root_row) (get t.rows old))
      by u old true e = refl
      by u old false e = e

  -- a file that has just got its node
  module _ (t : NodeTable) (file : ℕ) where
    just_given : (id : ℕ) → IsSoundNodeTable t → MayName t file id → IsSoundNodeTable (given t file id)
        → (has_node_already (given t file id) file ≡ true)
        × (entry_for (λ _. id) (given t file id) tree file
        ≡ entry_for (node_in (given t file id).rows) (given t file id) tree file)
        × Stay t (given t file id)
    just_given id sound may sound_then =
        let u = given t file id in
        let of_it : IsOf (get u.rows id) file = subst (λ (o : Option HeldNode). IsOf o file)
        (sym (get_put_here t.rows id (given_row t file (get t.rows id)))) (given_file t file id may) in
        let same = node_of_is u file id sound_then of_it in (
          given_has t file id (holds_sorted t sound) may file ∙ or_true (has_node_already t file) (nat_eq file file) (itself file),
          ap (λ (n : ℕ). entry_for (λ _. n) u tree file) same,
          stay_given t file id sound may sound_then,
        )

    given_entry : (new : NodeTable) (entry : Entry) → GivesEntry tree t file new entry → IsSoundNodeTable t
        → IsSoundNodeTable new → (has_node_already new file ≡ true)
        × (entry ≡ entry_for (node_in new.rows) new tree file) × Stay t new
    given_entry new entry gives sound sound_then =
        let u = given t file gives.id in
        let one = just_given gives.id sound gives.may (subst IsSoundNodeTable gives.nodes_is sound_then) in
        subst (λ (n : NodeTable). entry ≡ entry_for (λ _. gives.id) n tree file → (has_node_already n file ≡ true)
        × (entry ≡ entry_for (node_in n.rows) n tree file) × Stay t n) (sym gives.nodes_is)
        (λ is. (one.0, is ∙ one.1, one.2)) gives.entry_is

  -- The entries of all names are put once those of the rest are, by nodes that stay.
  abbrev pub WillBePut : NodeTable → (all rest : List Dirent) → (entries files : List Entry) → Type 0
  WillBePut t all rest entries files = (u : NodeTable) → Stay t u
      → (entries ++ map (entry_named tree u) rest ≡ map (entry_named tree u) all)
      × (files ++ files_listed (entries_named tree u rest) ≡ files_listed (entries_named tree u all))

  pub none_put : (t : NodeTable) (all : List Dirent) (entries files : List Entry) → entries ≡ [] → files ≡ []
      → WillBePut t all all entries files
  none_put t all entries files none no_files u stay = (
    ap (λ (es : List Entry). es ++ map (entry_named tree u) all) none,
    ap (λ (es : List Entry). es ++ files_listed (entries_named tree u all)) no_files,
  )

  pub next_put : (t new : NodeTable) (all : List Dirent) (d : Dirent) (ds : List Dirent) (entries files : List Entry)
      (entry : Entry) → is_dots d.name ≡ false → GivesEntry tree t (d.ino - 1) new entry → IsSoundNodeTable t
      → IsSoundNodeTable new → WillBePut t all (d ∷ ds) entries files
      → WillBePut new all ds (entries ++ entry ∷ []) (files ++ entry ∷ [])
  next_put t new all d ds entries files entry no_dots gives sound sound_then will u stay =
      let one = given_entry t (d.ino - 1) new entry gives sound sound_then in
      let was = will u (stay_then t new u one.2 stay) in
      let is : entry ≡ entry_named tree u d = one.1 ∙ sym (stay (d.ino - 1) one.0).1 in
      let rest = files_listed (entries_named tree u ds) in (
        one_on entries entry (map (entry_named tree u) ds)
            ∙ ap (λ (x : Entry). entries ++ x ∷ map (entry_named tree u) ds) is ∙ was.0,
        one_on files entry rest ∙ ap (λ (x : Entry). files ++ x ∷ rest) is
            ∙ ap (λ (b : Bool). files ++ first_listed (cond b None (Some (entry_named tree u d))) rest) (sym no_dots) ∙ was.1,
      )

  pub all_put : (t : NodeTable) (all : List Dirent) (entries files : List Entry) → WillBePut t all [] entries files
      → (entries ≡ map (entry_named tree t) all) × (files ≡ files_listed (entries_named tree t all))
  all_put t all entries files will = let was = will t (λ file has. (has, refl)) in
      (sym (append-nil entries) ∙ was.0, sym (append-nil files) ∙ was.1)
