-- Each name of a server's tree leads to a file that is there, whatever is performed.
use Rattle.std.proofs.Common.{◌≡◌, ◌≢◌, ℕ, ◌≤◌, Bool, true, false, true≢false, not, ◌||◌, cond, List, [], ◌∷◌, Option, Some, None, find, option_map, refl, ap, sym, subst, ◌∙◌, arith, All, count_by, get_or, inl, inr}
use Rattle.std.specs.Prelude.{min, nat_eq, nat_lt}
use Rattle.std.proofs.lemmas.Bool.{cases_eq}
use Rattle.std.proofs.lemmas.List.Elements.{All-nil, All-cons, All-head, All-tail, All-push, All-filter, All-weaker}
use Rattle.fuse_spec.specs.declared.Validity.{Validity}
use Rattle.fuse_spec.specs.Values.Maps.{Map, get, put}
use Rattle.fuse_spec.specs.Calls.Paths.{Name}
use Rattle.fuse_spec.specs.Files.Operations.{lookup, getattr, mkdir, create, unlink, rmdir, rename, link, opening, readdir, readdirplus, read, write, files_in_reply}
use Rattle.fuse_spec.specs.Files.Trees.{Tree, Named, Content, a_directory, a_file, file_at, kind_of, is_kind_directory, is_directory, is_nameless, file_bytes, overwritten, is_at, with_name, without_name, with_inode, pairs_after}
use Rattle.fuse_spec.specs.Files.FileOperations.{FileOperation, Check, making, first_refusal, refusal, lookup_reply, reply_by, reply_or, reply_unrefused, tree_after, tree_or, tree_unrefused, renamed, is_same}
use Rattle.fuse_spec.specs.Server.Server.{Server, is_file_held, without_unheld_files}
use Rattle.fuse_spec.proofs.Tables.{get_put_here, get_put_there}
use Rattle.fuse_spec.proofs.QueueCounts.{count_by-cons}
use Rattle.fuse_theorem.specs.ServerTables.{TreeSound}
use Rattle.fuse_theorem.proofs.Refining.Pairs.{listed_all, fitting_listed}
use Rattle.fuse_theorem.proofs.Trees.Names.{each_named}
use Rattle.fuse_theorem.proofs.Trees.NamelessDiscarded.{get_kept}

-- The file is there.
abbrev pub IsThere : Tree → ℕ → Type 0
IsThere tree file = get tree.files file ≢ None

-- Each name leads to one that is.
abbrev pub Stands : Tree → Type 0
Stands tree = All (λ (n : Named). get tree.files n.file ≢ None) tree.names

pub put_there : (m : Map Content) (k : ℕ) (x : Content) (q : ℕ) → get m q ≢ None → get (put m k x) q ≢ None
put_there m k x q there none = elim (cases_eq q k) [
  | inl e ↦ let no : ◌≡◌ {A = Option Content} (Some x) None =
      sym (get_put_here m k x) ∙ ap (λ (n : ℕ). get (put m k x) n) (sym e) ∙ none in cc
  | inr ne ↦ there (sym (get_put_there m k x q ne) ∙ none)
]

put_now : (m : Map Content) (k : ℕ) (x : Content) → get (put m k x) k ≢ None
put_now m k x none = let no : ◌≡◌ {A = Option Content} (Some x) None = sym (get_put_here m k x) ∙ none in cc

-- the first check does not refuse, nor do the others
pub passes : (check : Check) (rest : List Check) → first_refusal (check ∷ rest) ≡ None
    → (check.0 ≡ false) × (first_refusal rest ≡ None)
passes check rest e = by check.0 refl e
  where
    by : (b : Bool) → check.0 ≡ b → cond b (Some check.1) (first_refusal rest) ≡ None
        → (check.0 ≡ false) × (first_refusal rest ≡ None)
    by true is f = absurd (cc)
    by false is f = (is, f)

-- a file that some name leads to
led_to : (P : ℕ → Type 0) (names : List Named) (file : ℕ) → All (λ (n : Named). P n.file) names
    → 1 ≤ count_by (λ (n : Named). nat_eq n.file file) names → P file
led_to P [] file all some = absurd (omega (arith, some))
led_to P (n ∷ names) file all some = elim (cases_eq n.file file) [
  | inl e ↦ subst P e (All-head (λ (m : Named). P m.file) n names all)
  | inr ne ↦ led_to P names file (All-tail (λ (m : Named). P m.file) n names all)
      (let other : nat_eq n.file file ≡ false = grind (arith, ne) in fewer other)
]
  where
    one_more : Bool → ℕ
    one_more b = cond b 1 0

    fewer : nat_eq n.file file ≡ false → 1 ≤ count_by (λ (m : Named). nat_eq m.file file) names
    fewer other =
        let counted = count_by-cons (λ (m : Named). nat_eq m.file file) n names in
        let none : one_more (nat_eq n.file file) ≡ 0 = ap one_more other in
        omega (arith, some, counted, none)

-- the file that a name leads to
leads : (P : ℕ → Type 0) (test : Named → Bool) (names : List Named) (file : ℕ) → All (λ (n : Named). P n.file) names
    → option_map (λ (n : Named). n.file) (find test names) ≡ Some file → P file
leads P test [] file h found = absurd (cc)
leads P test (n ∷ names) file h found =
    by (test n) found (λ f. leads P test names file (All-tail (λ (m : Named). P m.file) n names h) f)
  where
    by : (b : Bool) → option_map (λ (m : Named). m.file) (cond b (Some n) (find test names)) ≡ Some file
        → (option_map (λ (m : Named). m.file) (find test names) ≡ Some file → P file) → P file
    by true f rest = let same : n.file ≡ file = cc in subst P same (All-head (λ (m : Named). P m.file) n names h)
    by false f rest = rest f

-- ---- the tree afterwards

named : (tree : Tree) → Stands tree → (d : ℕ) (name : Name) (file : ℕ) → IsThere tree file
    → Stands (with_name tree d name file)
named tree stands d name file there = All-push (λ (n : Named). get tree.files n.file ≢ None) tree.names
    (record { directory = d; name = name; file = file; cookie = tree.next_cookie }) stands there

unnamed : (tree : Tree) → Stands tree → (d : ℕ) (name : Name) → Stands (without_name tree d name)
unnamed tree stands d name =
    All-filter (λ n. not (is_at d name n)) (λ (n : Named). get tree.files n.file ≢ None) tree.names stands

moved : (tree : Tree) → Stands tree → (d : ℕ) (old : Name) (e : ℕ) (new : Name) (o : Option ℕ)
    → ((file : ℕ) → o ≡ Some file → IsThere tree file) → Stands (renamed tree d old e new o)
moved tree stands d old e new None f = stands
moved tree stands d old e new (Some file) f =
    let once = without_name tree d old in
    named (without_name once e new) (unnamed once (unnamed tree stands d old) e new) e new file (f file refl)

module _ (tree : Tree) (sound : TreeSound tree) (stands : Stands tree) where
  more_files : (file : ℕ) (content : Content) → All (λ (n : Named). get (put tree.files file content) n.file ≢ None) tree.names
  more_files file content = All-weaker (λ (n : Named). get tree.files n.file ≢ None)
      (λ (n : Named). get (put tree.files file content) n.file ≢ None)
      (λ n there. put_there tree.files file content n.file there) tree.names stands

  made : (d : ℕ) (name : Name) (content : Content) → Stands (with_inode tree d name content)
  made d name content = All-push (λ (n : Named). get (put tree.files tree.next_inode content) n.file ≢ None) tree.names
      (record { directory = d; name = name; file = tree.next_inode; cookie = tree.next_cookie })
      (more_files tree.next_inode content) (put_now tree.files tree.next_inode content)

  found_at : (d : ℕ) (name : Name) (file : ℕ) → file_at tree d name ≡ Some file → IsThere tree file
  found_at d name file found = leads (IsThere tree) (is_at d name) tree.names file stands found

  -- what is linked has a name, and is no directory as the root is
  linked_is : (file d : ℕ) (name : Name) → refusal tree (link file d name) ≡ None → IsThere tree file
  linked_is file d name free =
      let rest = making tree d name in
      let first = passes (not (is_directory tree d), 20)
      ((is_nameless tree d, 2) ∷ (is_directory tree file, 1) ∷ (is_nameless tree file, 2) ∷ rest) free in
      let second = passes (is_nameless tree d, 2)
      ((is_directory tree file, 1) ∷ (is_nameless tree file, 2) ∷ rest) first.1 in
      let third = passes (is_directory tree file, 1) ((is_nameless tree file, 2) ∷ rest) second.1 in
      let fourth = passes (is_nameless tree file, 2) rest third.1 in
      elim (cases_eq file 0) [
        | inl e ↦ absurd (true≢false (sym (ap (λ (n : ℕ). is_directory tree n) e
            ∙ ap (λ (c : Option Content). is_kind_directory (kind_of c)) sound.root) ∙ third.0))
        | inr ne ↦ led_to (IsThere tree) tree.names file stands (some ne fourth.0)
      ]
    where
      some : file ≢ 0 → is_nameless tree file ≡ false → 1 ≤ count_by (λ (n : Named). nat_eq n.file file) tree.names
      some ne e =
          let other : nat_eq file 0 ≡ false = grind (arith, ne) in
          let count : nat_eq (count_by (λ (n : Named). nat_eq n.file file) tree.names) 0 ≡ false = rw other at e in
          grind (arith, count)

  unrefused_stands : (operation : FileOperation) → refusal tree operation ≡ None → Stands (tree_unrefused tree operation)
  unrefused_stands (lookup d name) free = stands
  unrefused_stands (getattr file) free = stands
  unrefused_stands (mkdir d name) free = made d name a_directory
  unrefused_stands (create d name) free = made d name (a_file [])
  unrefused_stands (unlink d name) free = unnamed tree stands d name
  unrefused_stands (rmdir d name) free = unnamed tree stands d name
  unrefused_stands (rename d old e new) free = by (is_same (file_at tree d old) (file_at tree e new))
    where
      by : (b : Bool) → Stands (cond b tree (renamed tree d old e new (file_at tree d old)))
      by true = stands
      by false = moved tree stands d old e new (file_at tree d old) (λ file found. found_at d old file found)
  unrefused_stands (link file d name) free = named tree stands d name file (linked_is file d name free)
  unrefused_stands (opening file) free = stands
  unrefused_stands (readdir d after size) free = stands
  unrefused_stands (readdirplus d after size) free = stands
  unrefused_stands (read file offset size) free = stands
  unrefused_stands (write file offset []) free = stands
  unrefused_stands (write file offset (b ∷ bytes)) free =
      more_files file (a_file (overwritten (file_bytes (get tree.files file)) offset (b ∷ bytes)))

  pub stands_after : (operation : FileOperation) → Stands (tree_after tree operation)
  stands_after operation = by (refusal tree operation) refl
    where
      by : (o : Option ℕ) → refusal tree operation ≡ o → Stands (tree_or tree (tree_unrefused tree operation) o)
      by None free = unrefused_stands operation free
      by (Some errno) free = stands

  -- ---- the files that a reply names

  looked : (valid : Validity) (o : Option ℕ) → ((file : ℕ) → o ≡ Some file → IsThere tree file)
      → All (IsThere tree) (files_in_reply (lookup_reply valid o))
  looked valid None f = All-nil (IsThere tree)
  looked valid (Some file) f = All-cons (IsThere tree) file [] (f file refl) (All-nil (IsThere tree))

  born : (content : Content) → All (λ (f : ℕ). get (put tree.files tree.next_inode content) f ≢ None) (tree.next_inode ∷ [])
  born content = All-cons (λ (f : ℕ). get (put tree.files tree.next_inode content) f ≢ None) tree.next_inode []
      (put_now tree.files tree.next_inode content)
      (All-nil (λ (f : ℕ). get (put tree.files tree.next_inode content) f ≢ None))

  given_unrefused : (valid : Validity) (operation : FileOperation) → refusal tree operation ≡ None
      → All (IsThere (tree_unrefused tree operation)) (files_in_reply (reply_unrefused valid tree operation))
  given_unrefused valid (lookup d name) free = looked valid (file_at tree d name) (λ file found. found_at d name file found)
  given_unrefused valid (mkdir d name) free = born a_directory
  given_unrefused valid (create d name) free = born (a_file [])
  given_unrefused valid (link file d name) free =
      All-cons (IsThere tree) file [] (linked_is file d name free) (All-nil (IsThere tree))
  given_unrefused valid (readdirplus d after size) free =
      fitting_listed (IsThere tree) (min size 4096) (pairs_after valid.found_ms tree d after)
      (listed_all (IsThere tree) valid.found_ms tree _ (All-filter (λ n. nat_lt after n.cookie)
      (λ (n : Named). get tree.files n.file ≢ None) _ (All-filter (λ n. nat_eq n.directory d)
      (λ (n : Named). get tree.files n.file ≢ None) tree.names stands)))
  given_unrefused valid operation free = All-nil (IsThere (tree_unrefused tree operation))

  -- Each is there afterwards.
  pub given_there : (valid : Validity) (operation : FileOperation)
      → All (IsThere (tree_after tree operation)) (files_in_reply (reply_by valid tree operation))
  given_there valid operation = by (refusal tree operation) refl
    where
      by : (o : Option ℕ) → refusal tree operation ≡ o → All (IsThere (tree_or tree (tree_unrefused tree operation) o))
          (files_in_reply (reply_or (reply_unrefused valid tree operation) o))
      by None free = given_unrefused valid operation free
      by (Some errno) free = All-nil (IsThere tree)

-- ---- nameless files go

pub discarded_stands : (s : Server) → Stands s.tree → Stands (without_unheld_files s).tree
discarded_stands s stands = λ i d lt none.
    let n : Named = get_or s.tree.names i d in
    let named_so : not (is_nameless s.tree n.file) ≡ true = each_named s.tree.names i d lt in
    let kept = get_kept (λ f. not (is_nameless s.tree f) || is_file_held s f) s.tree.files n.file in
    let stays : (not (is_nameless s.tree n.file) || is_file_held s n.file) ≡ true = rw named_so refl in
    stands i d lt (sym (kept ∙ ap (λ (b : Bool). cond b (get s.tree.files n.file) None) stays) ∙ none)
