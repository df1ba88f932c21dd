-- The tree stays sound: the root is a directory to which no name leads.
use Rattle.std.proofs.Common.{◌≡◌, ◌≢◌, ℕ, Bool, true, false, true≢false, not, cond, List, [], ◌∷◌, Option, Some, None, find, option_map, refl, ap, sym, subst, ◌∙◌, arith, All}
use Rattle.std.specs.Prelude.{min, nat_eq, nat_lt}
use Rattle.std.proofs.lemmas.List.Elements.{All-nil, All-cons, All-head, All-tail, All-push, All-filter}
use Rattle.fuse_spec.specs.declared.Validity.{Validity}
use Rattle.fuse_spec.specs.Values.Maps.{get}
use Rattle.fuse_spec.specs.Calls.Paths.{Name}
use Rattle.fuse_spec.specs.Files.Operations.{lookup, getattr, mkdir, create, unlink, rmdir, rename, link, opening, readdir, readdirplus, read, write, files_in_reply, opens_in_reply}
use Rattle.fuse_spec.specs.Files.Trees.{Tree, Named, Content, a_directory, a_file, file_at, kind_of, is_kind_directory, is_directory, is_nameless, file_bytes, overwritten, is_at, with_name, without_name, with_inode, pairs_after}
use Rattle.fuse_spec.specs.Files.FileOperations.{FileOperation, Check, making, first_refusal, refusal, lookup_reply, reply_by, reply_or, reply_unrefused, tree_after, tree_or, tree_unrefused, renamed, is_same}
use Rattle.fuse_spec.proofs.Tables.{get_put_there}
use Rattle.fuse_theorem.specs.ServerTables.{TreeSound}
use Rattle.fuse_theorem.proofs.Refining.Pairs.{listed_all, fitting_listed}

-- A file that is not the root.
abbrev NotRoot : ℕ → Type 0
NotRoot file = file ≢ 0

abbrev NamesNone : Named → Type 0
NamesNone n = n.file ≢ 0

-- No read or write is of the root.
abbrev pub OpensNoRoot : FileOperation → Type 0
OpensNoRoot (read file offset size) = file ≢ 0
OpensNoRoot (write file offset bytes) = file ≢ 0
OpensNoRoot operation = Unit {0}

-- the first check does not refuse, nor do the others
passes : (check : Check) (rest : List Check) → first_refusal (check ∷ rest) ≡ None
    → (check.0 ≡ false) × (first_refusal rest ≡ None)
passes check rest e = by check.0 refl e
  where
    by : (b : Bool) → check.0 ≡ b → cond b (Some check.1) (first_refusal rest) ≡ None
        → (check.0 ≡ false) × (first_refusal rest ≡ None)
    by true is f = absurd (cc)
    by false is f = (is, f)

module _ (tree : Tree) (sound : TreeSound tree) where
  not_directory : (file : ℕ) → is_directory tree file ≡ false → file ≢ 0
  not_directory file e zero_is =
      let root : is_directory tree file ≡ true = ap (λ (n : ℕ). is_directory tree n) zero_is ∙ ap
      (λ (c : Option Content). is_kind_directory (kind_of c)) sound.root in
      true≢false (sym root ∙ e)

  -- a name leads to another file than the root
  leads : (test : Named → Bool) (names : List Named) (file : ℕ) → All NamesNone names
      → option_map (λ (n : Named). n.file) (find test names) ≡ Some file → file ≢ 0
  leads test [] file h found = absurd (cc)
  leads test (n ∷ names) file h found = by (test n) found (λ f. leads test names file (All-tail NamesNone n names h) f)
    where
      by : (b : Bool) → option_map (λ (m : Named). m.file) (cond b (Some n) (find test names)) ≡ Some file
          → (option_map (λ (m : Named). m.file) (find test names) ≡ Some file → file ≢ 0) → file ≢ 0
      by true f rest = let same : n.file ≡ file = cc in subst NotRoot same (All-head NamesNone n names h)
      by false f rest = rest f

  born : tree.next_inode ≢ 0
  born e = let low = sound.inodes in omega (arith, e, low)

  opened_is : (file : ℕ) → refusal tree (opening file) ≡ None → file ≢ 0
  opened_is file free = not_directory file (passes (is_directory tree file, 21) [] free).0

  linked_is : (file d : ℕ) (name : Name) → refusal tree (link file d name) ≡ None → file ≢ 0
  linked_is file d name free =
      let rest = (is_nameless tree file, 2) ∷ making tree d name in
      let first = passes (not (is_directory tree d), 20)
      ((is_nameless tree d, 2) ∷ (is_directory tree file, 1) ∷ rest) free in
      let second = passes (is_nameless tree d, 2) ((is_directory tree file, 1) ∷ rest) first.1 in
      not_directory file (passes (is_directory tree file, 1) rest second.1).0

  -- ---- the files that a reply names or opens

  looked : (valid : Validity) (o : Option ℕ) → ((file : ℕ) → o ≡ Some file → file ≢ 0)
      → All NotRoot (files_in_reply (lookup_reply valid o))
  looked valid None f = All-nil NotRoot
  looked valid (Some file) f = All-cons NotRoot file [] (f file refl) (All-nil NotRoot)

  given_unrefused : (valid : Validity) (operation : FileOperation) → refusal tree operation ≡ None
      → All NotRoot (files_in_reply (reply_unrefused valid tree operation))
  given_unrefused valid (lookup d name) free = looked valid (file_at tree d name)
      (λ file found. leads (is_at d name) tree.names file sound.names found)
  given_unrefused valid (mkdir d name) free = All-cons NotRoot tree.next_inode [] born (All-nil NotRoot)
  given_unrefused valid (create d name) free = All-cons NotRoot tree.next_inode [] born (All-nil NotRoot)
  given_unrefused valid (link file d name) free = All-cons NotRoot file [] (linked_is file d name free)
      (All-nil NotRoot)
  given_unrefused valid (readdirplus d after size) free =
      fitting_listed NotRoot (min size 4096) (pairs_after valid.found_ms tree d after)
      (listed_all NotRoot valid.found_ms tree _ (All-filter (λ n. nat_lt after n.cookie) NamesNone _
      (All-filter (λ n. nat_eq n.directory d) NamesNone tree.names sound.names)))
  given_unrefused valid operation free = All-nil NotRoot

  opened_looked : (valid : Validity) (o : Option ℕ) → All NotRoot (opens_in_reply (lookup_reply valid o))
  opened_looked valid None = All-nil NotRoot
  opened_looked valid (Some file) = All-nil NotRoot

  opened_unrefused : (valid : Validity) (operation : FileOperation) → refusal tree operation ≡ None
      → All NotRoot (opens_in_reply (reply_unrefused valid tree operation))
  opened_unrefused valid (lookup d name) free = opened_looked valid (file_at tree d name)
  opened_unrefused valid (create d name) free = All-cons NotRoot tree.next_inode [] born (All-nil NotRoot)
  opened_unrefused valid (opening file) free = All-cons NotRoot file [] (opened_is file free) (All-nil NotRoot)
  opened_unrefused valid operation free = All-nil NotRoot

  -- No reply names the root.
  pub given_not_root : (valid : Validity) (operation : FileOperation)
      → All NotRoot (files_in_reply (reply_by valid tree operation))
  given_not_root valid operation = by (refusal tree operation) refl
    where
      by : (o : Option ℕ) → refusal tree operation ≡ o
          → All NotRoot (files_in_reply (reply_or (reply_unrefused valid tree operation) o))
      by None free = given_unrefused valid operation free
      by (Some errno) free = All-nil NotRoot

  -- No reply opens the root.
  pub opened_not_root : (valid : Validity) (operation : FileOperation)
      → All NotRoot (opens_in_reply (reply_by valid tree operation))
  opened_not_root valid operation = by (refusal tree operation) refl
    where
      by : (o : Option ℕ) → refusal tree operation ≡ o
          → All NotRoot (opens_in_reply (reply_or (reply_unrefused valid tree operation) o))
      by None free = opened_unrefused valid operation free
      by (Some errno) free = All-nil NotRoot

  -- ---- the tree afterwards

  named : (d : ℕ) (name : Name) (file : ℕ) → file ≢ 0 → TreeSound (with_name tree d name file)
  named d name file other = record {
    root = sound.root;
    names = All-push NamesNone tree.names (record {
      directory = d;
      name = name;
      file = file;
      cookie = tree.next_cookie;
    }) sound.names other;
    inodes = sound.inodes;
  }

  unnamed : (d : ℕ) (name : Name) → TreeSound (without_name tree d name)
  unnamed d name = record {
    root = sound.root;
    names =
        All-filter (λ n. not (is_at d name n)) NamesNone tree.names sound.names;
    inodes = sound.inodes;
  }

  made : (d : ℕ) (name : Name) (content : Content) → TreeSound (with_inode tree d name content)
  made d name content = record {
    root = get_put_there tree.files tree.next_inode content 0 (λ e. born (sym e)) ∙ sound.root;
    names = All-push NamesNone tree.names (record {
      directory = d;
      name = name;
      file = tree.next_inode;
      cookie = tree.next_cookie;
    }) sound.names born;
    inodes = let low = sound.inodes in omega (arith, low);
  }

-- a rename of a name that leads to another file than the root
moved : (tree : Tree) → TreeSound tree → (d : ℕ) (old : Name) (e : ℕ) (new : Name) (o : Option ℕ)
    → ((file : ℕ) → o ≡ Some file → file ≢ 0) → TreeSound (renamed tree d old e new o)
moved tree sound d old e new None f = sound
moved tree sound d old e new (Some file) f =
    let once = without_name tree d old in
    named (without_name once e new) (unnamed once (unnamed tree sound d old) e new) e new file (f file refl)

module _ (tree : Tree) (sound : TreeSound tree) where
  unrefused_sound : (operation : FileOperation) → refusal tree operation ≡ None → OpensNoRoot operation
      → TreeSound (tree_unrefused tree operation)
  unrefused_sound (lookup d name) free opens = sound
  unrefused_sound (getattr file) free opens = sound
  unrefused_sound (mkdir d name) free opens = made tree sound d name a_directory
  unrefused_sound (create d name) free opens = made tree sound d name (a_file [])
  unrefused_sound (unlink d name) free opens = unnamed tree sound d name
  unrefused_sound (rmdir d name) free opens = unnamed tree sound d name
  unrefused_sound (rename d old e new) free opens = by (is_same (file_at tree d old) (file_at tree e new))
    where
      by : (b : Bool) → TreeSound (cond b tree (renamed tree d old e new (file_at tree d old)))
      by true = sound
      by false = moved tree sound d old e new (file_at tree d old)
          (λ file found. leads tree sound (is_at d old) tree.names file sound.names found)
  unrefused_sound (link file d name) free opens = named tree sound d name file (linked_is tree sound file d name free)
  unrefused_sound (opening file) free opens = sound
  unrefused_sound (readdir d after size) free opens = sound
  unrefused_sound (readdirplus d after size) free opens = sound
  unrefused_sound (read file offset size) free opens = sound
  unrefused_sound (write file offset []) free opens = sound
  unrefused_sound (write file offset (b ∷ bytes)) free opens = record {
    root = get_put_there tree.files file (a_file (overwritten (file_bytes (get tree.files file)) offset (b ∷ bytes))) 0
        (λ e. opens (sym e)) ∙ sound.root;
    names = sound.names;
    inodes = sound.inodes;
  }

  -- The tree is sound after any operation that reads and writes no root.
  pub tree_sound : (operation : FileOperation) → OpensNoRoot operation → TreeSound (tree_after tree operation)
  tree_sound operation opens = by (refusal tree operation) refl
    where
      by : (o : Option ℕ) → refusal tree operation ≡ o → TreeSound (tree_or tree (tree_unrefused tree operation) o)
      by None free = unrefused_sound operation free opens
      by (Some errno) free = sound
