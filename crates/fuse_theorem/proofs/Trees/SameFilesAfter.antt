-- A tree operation on the server's tree and on the plain tree: the same files stand afterwards, the new one among them.
use Rattle.std.proofs.Common.{◌≡◌, ℕ, Bool, true, false, true≢false, not, ◌||◌, cond, List, [], ◌∷◌, ◌++◌, Option, Some, None, nat_eq, get_or, filter, find, option_map, refl, ap, sym, subst, ◌∙◌, inl, inr, All}
use Rattle.std.proofs.lemmas.Bool.{cases_eq}
use Rattle.std.specs.Prelude.{min, nat_lt}
use Rattle.std.proofs.lemmas.List.Elements.{All-nil, All-cons, All-head, All-tail, All-filter}
use Rattle.fuse_spec.specs.Values.Maps.{Map, get, put}
use Rattle.fuse_spec.specs.Files.Operations.{lookup, getattr, mkdir, create, unlink, rmdir, rename, link, opening, readdir, readdirplus, read, write, files_in_reply, opens_in_reply}
use Rattle.fuse_spec.specs.Files.Trees.{Tree, Named, Content, a_directory, a_file, file_at, file_bytes, overwritten, is_at, pairs_after}
use Rattle.fuse_spec.specs.declared.Validity.{Validity}
use Rattle.fuse_spec.specs.Files.FileOperations.{FileOperation, refusal, reply_by, reply_or, reply_unrefused, lookup_reply, tree_after, tree_or, tree_unrefused, renamed, is_same}
use Rattle.fuse_spec.proofs.Tables.{get_put_here, get_put_there}
use Rattle.fuse_theorem.proofs.Calls.Finding.{same_is, other_is}
use Rattle.fuse_theorem.proofs.Trees.Names.{is_named, named_before, named_push, each_named, found_named}
use Rattle.fuse_theorem.proofs.Refining.Pairs.{listed_all, fitting_listed}
use Rattle.fuse_theorem.proofs.Trees.Trees.{with_files, Same, AllSame, DeedSame, refusal_same}

or_left : (a b : Bool) → a ≡ true → (a || b) ≡ true
or_left true b e = refl
or_left false b e = absurd (true≢false (sym e))

or_right : (a b : Bool) → b ≡ true → (a || b) ≡ true
or_right true b e = refl
or_right false b e = e

-- whether an operation makes this file
abbrev pub makes : Tree → FileOperation → ℕ → Bool
makes tree (mkdir d name) file = nat_eq tree.next_inode file
makes tree (create d name) file = nat_eq tree.next_inode file
makes tree operation file = false

abbrev pub makes_unless : Tree → FileOperation → ℕ → Option ℕ → Bool
makes_unless tree operation file None = makes tree operation file
makes_unless tree operation file (Some errno) = false

-- the files are those of the tree that are named or held
module _ (tree : Tree) (files : Map Content) (held : ℕ → Bool)
    (kept : (file : ℕ) → get files file ≡ cond (is_named tree.names file || held file) (get tree.files file) None) where
  -- Whether the file is named or held.
  abbrev pub stands : ℕ → Bool
  stands file = is_named tree.names file || held file

  abbrev pub Stands : ℕ → Type 0
  Stands file = stands file ≡ true

  pub same_if_stands : (file : ℕ) → Stands file → Same tree files file
  same_if_stands file e = kept file ∙ ap (λ (b : Bool). cond b (get tree.files file) None) e

  named_stands : (file : ℕ) → is_named tree.names file ≡ true → Stands file
  named_stands file e = or_left (is_named tree.names file) (held file) e

  all_same : (names : List Named) → All (λ (n : Named). is_named tree.names n.file ≡ true) names
      → AllSame tree files names
  all_same [] h = tt
  all_same (n ∷ names) h = (
    same_if_stands n.file (named_stands n.file
        (All-head (λ (m : Named). is_named tree.names m.file ≡ true) n names h)),
    all_same names (All-tail (λ (m : Named). is_named tree.names m.file ≡ true) n names h),
  )

  pub named_same : AllSame tree files tree.names
  named_same = all_same tree.names (each_named tree.names)

  lead_stands : (test : Named → Bool) (file : ℕ) → option_map (λ (n : Named). n.file) (find test tree.names)
      ≡ Some file → Stands file
  lead_stands test file e = named_stands file (found_named tree.names test tree.names file (each_named tree.names) e)

  -- The files that an operation names stand.
  abbrev pub DeedStands : FileOperation → Type 0
  DeedStands (lookup d name) = Stands d
  DeedStands (getattr file) = Stands file
  DeedStands (mkdir d name) = Stands d
  DeedStands (create d name) = Stands d
  DeedStands (unlink d name) = Stands d
  DeedStands (rmdir d name) = Stands d
  DeedStands (rename d old e new) = Stands d × Stands e
  DeedStands (link file d name) = Stands file × Stands d
  DeedStands (opening file) = Stands file
  DeedStands (readdir d after size) = Stands d
  DeedStands (readdirplus d after size) = Stands d
  DeedStands (read file offset size) = Stands file
  DeedStands (write file offset bytes) = Stands file

  pub deed_same : (operation : FileOperation) → DeedStands operation → DeedSame tree files operation
  deed_same (lookup d name) h = same_if_stands d h
  deed_same (getattr file) h = same_if_stands file h
  deed_same (mkdir d name) h = same_if_stands d h
  deed_same (create d name) h = same_if_stands d h
  deed_same (unlink d name) h = same_if_stands d h
  deed_same (rmdir d name) h = same_if_stands d h
  deed_same (rename d old e new) h = (same_if_stands d h.0, same_if_stands e h.1)
  deed_same (link file d name) h = (same_if_stands file h.0, same_if_stands d h.1)
  deed_same (opening file) h = same_if_stands file h
  deed_same (readdir d after size) h = same_if_stands d h
  deed_same (readdirplus d after size) h = same_if_stands d h
  deed_same (read file offset size) h = same_if_stands file h
  deed_same (write file offset bytes) h = same_if_stands file h

  -- ---- the files

  unmade : (file : ℕ) → get files file ≡ cond (stands file || false) (get tree.files file) None
  unmade file = kept file ∙ ap (λ (b : Bool). cond b (get tree.files file) None) (or_false (stands file))
    where
      or_false : (b : Bool) → b ≡ (b || false)
      or_false true = refl
      or_false false = refl

  made : (c : Content) (file : ℕ) → get (put files tree.next_inode c) file
      ≡ cond (stands file || nat_eq tree.next_inode file) (get (put tree.files tree.next_inode c) file) None
  made c file = elim (cases_eq file tree.next_inode) [
    | inl e ↦
        let both : (stands file || nat_eq tree.next_inode file) ≡ true =
        or_right (stands file) (nat_eq tree.next_inode file)
        (subst (λ (n : ℕ). nat_eq tree.next_inode n ≡ true) (sym e) (same_is tree.next_inode)) in
        (ap (λ (n : ℕ). get (put files tree.next_inode c) n) e ∙ get_put_here files tree.next_inode c)
        ∙ sym (ap (λ (n : ℕ). get
        (put tree.files tree.next_inode c) n) e ∙ get_put_here tree.files tree.next_inode c) ∙ sym
        (ap (λ (b : Bool). cond b (get (put tree.files tree.next_inode c) file) None) both)
    | inr ne ↦
        get_put_there files tree.next_inode c file ne ∙ unmade file
        ∙ (λ i. cond (stands file || sym (other_is tree.next_inode file (λ z. ne (sym z))) i)
        (sym (get_put_there tree.files tree.next_inode c file ne) i) None)
  ]

  overwriting : (target : ℕ) (f : Option Content → Content) → Stands target → (file : ℕ)
      → get (put files target (f (get files target))) file
      ≡ cond (stands file || false) (get (put tree.files target (f (get tree.files target))) file) None
  overwriting target f there file = elim (cases_eq file target) [
    | inl e ↦
        let both : (stands file || false) ≡ true = or_left (stands file) false (subst Stands (sym e) there) in
        (ap (λ (n : ℕ). get (put files target (f (get files target))) n) e ∙ get_put_here files target
        (f (get files target))) ∙ ap (λ (o : Option Content). Some (f o)) (same_if_stands target there)
        ∙ sym (ap (λ (n : ℕ). get (put tree.files target
        (f (get tree.files target))) n) e ∙ get_put_here tree.files target (f (get tree.files target)))
        ∙ sym (ap (λ (b : Bool). cond b (get (put tree.files target (f (get tree.files target))) file) None) both)
    | inr ne ↦
        get_put_there files target (f (get files target)) file ne ∙ unmade file ∙ ap
        (λ (o : Option Content). cond (stands file || false) o None)
        (sym (get_put_there tree.files target (f (get tree.files target)) file ne))
  ]

  files_unrefused : (operation : FileOperation) → DeedStands operation → (file : ℕ)
      → get (tree_unrefused (with_files tree files) operation).files file
      ≡ cond (stands file || makes tree operation file) (get (tree_unrefused tree operation).files file) None
  files_unrefused (lookup d name) h file = unmade file
  files_unrefused (getattr x) h file = unmade file
  files_unrefused (mkdir d name) h file = made a_directory file
  files_unrefused (create d name) h file = made (a_file []) file
  files_unrefused (unlink d name) h file = unmade file
  files_unrefused (rmdir d name) h file = unmade file
  files_unrefused (rename d old e new) h file = by (is_same (file_at tree d old) (file_at tree e new))
      (file_at tree d old)
    where
      by : (b : Bool) (o : Option ℕ) → get (cond b (with_files tree files)
          (renamed (with_files tree files) d old e new o)).files file
          ≡ cond (stands file || false) (get (cond b tree (renamed tree d old e new o)).files file) None
      by true o = unmade file
      by false None = unmade file
      by false (Some x) = unmade file
  files_unrefused (link x d name) h file = unmade file
  files_unrefused (opening x) h file = unmade file
  files_unrefused (readdir d after size) h file = unmade file
  files_unrefused (readdirplus d after size) h file = unmade file
  files_unrefused (read x offset size) h file = unmade file
  files_unrefused (write x offset []) h file = unmade file
  files_unrefused (write x offset (b ∷ bytes)) h file =
      overwriting x (λ (o : Option Content). a_file (overwritten (file_bytes o) offset (b ∷ bytes))) h file

  -- The files after the operation are those of the plain tree after it that stood, and the one that it made.
  pub files_after : (operation : FileOperation) → DeedStands operation → (file : ℕ)
      → get (tree_after (with_files tree files) operation).files file
      ≡ cond (stands file || makes_unless tree operation file (refusal tree operation))
      (get (tree_after tree operation).files file) None
  files_after operation h file =
      ap (λ (o : Option ℕ). get (tree_or (with_files tree files)
      (tree_unrefused (with_files tree files) operation) o).files file)
      (refusal_same tree files named_same operation (deed_same operation h)) ∙ by (refusal tree operation)
    where
      by : (o : Option ℕ) → get (tree_or (with_files tree files)
          (tree_unrefused (with_files tree files) operation) o).files file
          ≡ cond (stands file || makes_unless tree operation file o)
          (get (tree_or tree (tree_unrefused tree operation) o).files file) None
      by None = files_unrefused operation h file
      by (Some errno) = unmade file

  -- ---- the names

  pushed : (names : List Named) (x : Named) (made_file : ℕ → Bool) (file : ℕ)
      → (is_named names file ≡ true → is_named tree.names file ≡ true)
      → (nat_eq x.file file ≡ true → (stands file || made_file file) ≡ true)
      → is_named (names ++ x ∷ []) file ≡ true → (stands file || made_file file) ≡ true
  pushed names x made_file file before new h = by (is_named names file) (nat_eq x.file file) refl refl
      (named_push names x file h)
    where
      by : (a b : Bool) → is_named names file ≡ a → nat_eq x.file file ≡ b → (a || b) ≡ true
          → (stands file || made_file file) ≡ true
      by true b e f q = or_left (stands file) (made_file file) (named_stands file (before e))
      by false true e f q = new f
      by false false e f q = absurd (true≢false (sym q))

  kept_name : (operation : FileOperation) (file : ℕ) → is_named tree.names file ≡ true
      → (stands file || makes tree operation file) ≡ true
  kept_name operation file h = or_left (stands file) (makes tree operation file) (named_stands file h)

  named_unrefused : (operation : FileOperation) → DeedStands operation → (file : ℕ)
      → is_named (tree_unrefused tree operation).names file ≡ true → (stands file || makes tree operation file) ≡ true
  named_unrefused (lookup d name) h file n = kept_name (lookup d name) file n
  named_unrefused (getattr x) h file n = kept_name (getattr x) file n
  named_unrefused (mkdir d name) h file n =
      pushed tree.names (record { directory = d; name = name; file = tree.next_inode; cookie = tree.next_cookie })
      (λ f. nat_eq tree.next_inode f) file (λ e. e) (λ e. or_right (stands file) (nat_eq tree.next_inode file) e) n
  named_unrefused (create d name) h file n =
      pushed tree.names (record { directory = d; name = name; file = tree.next_inode; cookie = tree.next_cookie })
      (λ f. nat_eq tree.next_inode f) file (λ e. e) (λ e. or_right (stands file) (nat_eq tree.next_inode file) e) n
  named_unrefused (unlink d name) h file n = kept_name (unlink d name) file
      (named_before (λ m. not (is_at d name m)) tree.names file n)
  named_unrefused (rmdir d name) h file n = kept_name (rmdir d name) file
      (named_before (λ m. not (is_at d name m)) tree.names file n)
  named_unrefused (rename d old e new) h file n = by (is_same (file_at tree d old) (file_at tree e new))
      (file_at tree d old) refl n
    where
      one_file : (a : ℕ) → nat_eq a file ≡ true → Stands a → (stands file || false) ≡ true
      one_file a q there = elim (cases_eq a file) [
        | inl same ↦ or_left (stands file) false
            (subst Stands same there)
        | inr ne ↦ absurd (true≢false (sym q ∙ other_is a file ne))
      ]

      by : (b : Bool) (o : Option ℕ) → file_at tree d old ≡ o
          → is_named (cond b tree (renamed tree d old e new o)).names file ≡ true → (stands file || false) ≡ true
      by true o f m = kept_name (rename d old e new) file m
      by false None f m = kept_name (rename d old e new) file m
      by false (Some x) f m =
          pushed (filter (λ k. not (is_at e new k)) (filter (λ k. not (is_at d old k)) tree.names))
          (record { directory = e; name = new; file = x; cookie = tree.next_cookie }) (λ k. false) file
          (λ k. named_before (λ z. not (is_at d old z)) tree.names file
          (named_before (λ z. not (is_at e new z)) (filter (λ z. not (is_at d old z)) tree.names) file k))
          (λ q. one_file x q (lead_stands (is_at d old) x f)) m
  named_unrefused (link x d name) h file n =
      pushed tree.names (record { directory = d; name = name; file = x; cookie = tree.next_cookie }) (λ f. false) file
      (λ e. e)
      (λ q. elim (cases_eq x file) [
        | inl same ↦ or_left (stands file) false (subst Stands same h.0)
        | inr ne ↦ absurd
            (true≢false (sym q ∙ other_is x file ne))
      ]) n
  named_unrefused (opening x) h file n = kept_name (opening x) file n
  named_unrefused (readdir d after size) h file n = kept_name (readdir d after size) file n
  named_unrefused (readdirplus d after size) h file n = kept_name (readdirplus d after size) file n
  named_unrefused (read x offset size) h file n = kept_name (read x offset size) file n
  named_unrefused (write x offset []) h file n = kept_name (write x offset []) file n
  named_unrefused (write x offset (b ∷ bytes)) h file n = kept_name (write x offset (b ∷ bytes)) file n

  -- What is named after the operation stood, or was made.
  pub named_after : (operation : FileOperation) → DeedStands operation → (file : ℕ)
      → is_named (tree_after tree operation).names file ≡ true
      → (stands file || makes_unless tree operation file (refusal tree operation)) ≡ true
  named_after operation h file n = by (refusal tree operation) n
    where
      by : (o : Option ℕ) → is_named (tree_or tree (tree_unrefused tree operation) o).names file ≡ true
          → (stands file || makes_unless tree operation file o) ≡ true
      by None m = named_unrefused operation h file m
      by (Some errno) m = or_left (stands file) false (named_stands file m)

  -- ---- the files that a reply names

  looked_stands : (valid : Validity) (test : Named → Bool) (o : Option ℕ)
      → option_map (λ (n : Named). n.file) (find test tree.names) ≡ o
      → All (λ f. (stands f || false) ≡ true) (files_in_reply (lookup_reply valid o))
  looked_stands valid test None e = All-nil (λ f. (stands f || false) ≡ true)
  looked_stands valid test (Some x) e = All-cons (λ f. (stands f || false) ≡ true) x []
      (or_left (stands x) false (lead_stands test x e)) (All-nil (λ f. (stands f || false) ≡ true))

  abbrev TellsStanding : Named → Type 0
  TellsStanding n = (stands n.file || false) ≡ true

  each_stands : All TellsStanding tree.names
  each_stands i n lt = or_left (stands (get_or tree.names i n).file) false
      (named_stands (get_or tree.names i n).file (each_named tree.names i n lt))

  given_unrefused : (valid : Validity) (operation : FileOperation) → DeedStands operation
      → All (λ f. (stands f || makes tree operation f) ≡ true) (files_in_reply (reply_unrefused valid tree operation))
  given_unrefused valid (lookup d name) h = looked_stands valid (is_at d name) (file_at tree d name) refl
  given_unrefused valid (getattr x) h = All-nil (λ f. (stands f || false) ≡ true)
  given_unrefused valid (mkdir d name) h =
      All-cons (λ f. (stands f || nat_eq tree.next_inode f) ≡ true) tree.next_inode []
      (or_right (stands tree.next_inode) (nat_eq tree.next_inode tree.next_inode) (same_is tree.next_inode))
      (All-nil (λ f. (stands f || nat_eq tree.next_inode f) ≡ true))
  given_unrefused valid (create d name) h =
      All-cons (λ f. (stands f || nat_eq tree.next_inode f) ≡ true) tree.next_inode []
      (or_right (stands tree.next_inode) (nat_eq tree.next_inode tree.next_inode) (same_is tree.next_inode))
      (All-nil (λ f. (stands f || nat_eq tree.next_inode f) ≡ true))
  given_unrefused valid (unlink d name) h = All-nil (λ f. (stands f || false) ≡ true)
  given_unrefused valid (rmdir d name) h = All-nil (λ f. (stands f || false) ≡ true)
  given_unrefused valid (rename d old e new) h = All-nil (λ f. (stands f || false) ≡ true)
  given_unrefused valid (link x d name) h = All-cons (λ f. (stands f || false) ≡ true) x []
      (or_left (stands x) false h.0) (All-nil (λ f. (stands f || false) ≡ true))
  given_unrefused valid (opening x) h = All-nil (λ f. (stands f || false) ≡ true)
  given_unrefused valid (readdir d after size) h = All-nil (λ f. (stands f || false) ≡ true)
  given_unrefused valid (readdirplus d after size) h =
      fitting_listed (λ f. (stands f || false) ≡ true) (min size 4096) (pairs_after valid.found_ms tree d after)
      (listed_all (λ f. (stands f || false) ≡ true) valid.found_ms tree _
      (All-filter (λ n. nat_lt after n.cookie) TellsStanding _
      (All-filter (λ n. nat_eq n.directory d) TellsStanding tree.names each_stands)))
  given_unrefused valid (read x offset size) h = All-nil (λ f. (stands f || false) ≡ true)
  given_unrefused valid (write x offset bytes) h = All-nil (λ f. (stands f || false) ≡ true)

  opened_looked : (valid : Validity) (o : Option ℕ) → opens_in_reply (lookup_reply valid o) ≡ []
  opened_looked valid None = refl
  opened_looked valid (Some x) = refl

  opened_unrefused : (valid : Validity) (operation : FileOperation) → DeedStands operation
      → All (λ f. (stands f || makes tree operation f) ≡ true) (opens_in_reply (reply_unrefused valid tree operation))
  opened_unrefused valid (lookup d name) h = subst (All (λ f. (stands f || false) ≡ true))
      (sym (opened_looked valid (file_at tree d name))) (All-nil (λ f. (stands f || false) ≡ true))
  opened_unrefused valid (getattr x) h = All-nil (λ f. (stands f || false) ≡ true)
  opened_unrefused valid (mkdir d name) h = All-nil (λ f. (stands f || nat_eq tree.next_inode f) ≡ true)
  opened_unrefused valid (create d name) h =
      All-cons (λ f. (stands f || nat_eq tree.next_inode f) ≡ true) tree.next_inode []
      (or_right (stands tree.next_inode) (nat_eq tree.next_inode tree.next_inode) (same_is tree.next_inode))
      (All-nil (λ f. (stands f || nat_eq tree.next_inode f) ≡ true))
  opened_unrefused valid (unlink d name) h = All-nil (λ f. (stands f || false) ≡ true)
  opened_unrefused valid (rmdir d name) h = All-nil (λ f. (stands f || false) ≡ true)
  opened_unrefused valid (rename d old e new) h = All-nil (λ f. (stands f || false) ≡ true)
  opened_unrefused valid (link x d name) h = All-nil (λ f. (stands f || false) ≡ true)
  opened_unrefused valid (opening x) h = All-cons (λ f. (stands f || false) ≡ true) x [] (or_left (stands x) false h)
      (All-nil (λ f. (stands f || false) ≡ true))
  opened_unrefused valid (readdir d after size) h = All-nil (λ f. (stands f || false) ≡ true)
  opened_unrefused valid (readdirplus d after size) h = All-nil (λ f. (stands f || false) ≡ true)
  opened_unrefused valid (read x offset size) h = All-nil (λ f. (stands f || false) ≡ true)
  opened_unrefused valid (write x offset bytes) h = All-nil (λ f. (stands f || false) ≡ true)

  -- Each file that the reply names, or opens, stood or was made.
  pub given_stands : (valid : Validity) (operation : FileOperation) → DeedStands operation
      → All (λ f. (stands f || makes_unless tree operation f (refusal tree operation)) ≡ true)
      (files_in_reply (reply_by valid tree operation))
      × All (λ f. (stands f || makes_unless tree operation f (refusal tree operation)) ≡ true)
      (opens_in_reply (reply_by valid tree operation))
  given_stands valid operation h = by (refusal tree operation)
    where
      by : (o : Option ℕ) → All (λ f. (stands f || makes_unless tree operation f o) ≡ true)
          (files_in_reply (reply_or (reply_unrefused valid tree operation) o))
          × All (λ f. (stands f || makes_unless tree operation f o) ≡ true)
          (opens_in_reply (reply_or (reply_unrefused valid tree operation) o))
      by None = (given_unrefused valid operation h, opened_unrefused valid operation h)
      by (Some errno) = (All-nil (λ f. (stands f || false) ≡ true), All-nil (λ f. (stands f || false) ≡ true))
