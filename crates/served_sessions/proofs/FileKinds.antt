-- A file of a server's tree stays of its kind, whatever is performed.
use Rattle.std.proofs.Common.{◌≡◌, ◌≢◌, ◌≤◌, ◌<◌, ◌⊎◌, inl, inr, ℕ, ◌+◌, Bool, true, false, not, ◌||◌, cond, [], ◌∷◌, Option, Some, None, refl, sym, ◌∙◌, ap, subst, All, arith}
use Rattle.std.proofs.lemmas.Bool.{cases_eq}
use Rattle.std.proofs.lemmas.List.Elements.{All-nil, All-cons}
use Rattle.fuse_spec.specs.declared.Kind.TheVariants.{Regular, Other}
use Rattle.fuse_spec.specs.declared.Validity.{Validity}
use Rattle.fuse_spec.specs.Values.Maps.{Map, get, put}
use Rattle.fuse_spec.specs.Files.Operations.{lookup, mkdir, create, rename, opening, write, opens_in_reply}
use Rattle.fuse_spec.specs.Files.Trees.{Tree, Content, a_directory, a_file, file_at, file_bytes, is_directory, is_kind_directory, is_nameless, kind_of, overwritten}
use Rattle.fuse_spec.specs.Files.FileOperations.{FileOperation, is_same, lookup_reply, refusal, renamed, reply_by, reply_or, reply_unrefused, tree_after, tree_or, tree_unrefused}
use Rattle.fuse_spec.specs.Server.Server.{Server, is_file_held, without_unheld_files}
use Rattle.fuse_spec.proofs.Tables.{get_put_here, get_put_there}
use Rattle.fuse_theorem.proofs.Trees.NamelessDiscarded.{get_kept}
use Rattle.served_sessions.proofs.Standing.{IsThere, passes, put_there}

-- the file is a regular one
abbrev pub IsRegular : Map Content → ℕ → Type 0
IsRegular files file = kind_of (get files file) ≡ Regular

-- Each file has a number below that of the next.
abbrev pub AreNumbered : Map Content → ℕ → Type 0
AreNumbered files next = (file : ℕ) → get files file ≢ None → file < next

-- The file was there, of this kind.
abbrev pub WasThere : Map Content → ℕ → Option Content → Type 0
WasThere files file now = (get files file ≢ None) × (kind_of now ≡ kind_of (get files file))

-- Each file that is there later was there before and is of its kind, or its number was still to be given.
pub record FilesLater (old : Map Content) (old_next : ℕ) (new : Map Content) (new_next : ℕ) : Type 0 where
  pub next : old_next ≤ new_next
  pub kinds : (file : ℕ) → get new file ≢ None → (old_next ≤ file) ⊎ WasThere old file (get new file)
  pub numbered : AreNumbered old old_next → AreNumbered new new_next

pub same_files : (m : Map Content) (next : ℕ) → FilesLater m next m next
same_files m next = record {
  next = omega arith;
  kinds = λ file there. inr (there, refl);
  numbered = λ all. all;
}

pub then_files : (a b c : Map Content) (i j k : ℕ) → FilesLater a i b j → FilesLater b j c k → FilesLater a i c k
then_files a b c i j k one two = record {
  next = let first = one.next in let second = two.next in omega (arith, first, second);
  kinds = λ file there. by file (two.kinds file there);
  numbered = λ all. two.numbered (one.numbered all);
}
  where
    by : (file : ℕ) → (j ≤ file) ⊎ WasThere b file (get c file) → (i ≤ file) ⊎ WasThere a file (get c file)
    by file (inl fresh) = inl (let first = one.next in omega (arith, first, fresh))
    by file (inr was) = before (one.kinds file was.0)
      where
        before : (i ≤ file) ⊎ WasThere a file (get b file) → (i ≤ file) ⊎ WasThere a file (get c file)
        before (inl fresh) = inl fresh
        before (inr held) = inr (held.0, was.1 ∙ held.1)

-- one file is put, which is new, or of its kind
put_later : (m : Map Content) (next file : ℕ) (content : Content) (new_next : ℕ) → next ≤ new_next
    → ((next ≤ file) × (file < new_next)) ⊎ WasThere m file (Some content)
    → FilesLater m next (put m file content) new_next
put_later m next file content new_next more here = record {
  next = more;
  kinds = kinds_of;
  numbered = λ all other there. elim (cases_eq other file) [
    | inl e ↦ subst (λ (n : ℕ). n < new_next) (sym e) (below all here)
    | inr ne ↦ let low = all other (λ none. there (get_put_there m file content other ne ∙ none)) in
        omega (arith, low, more)
  ];
}
  where
    below : AreNumbered m next → ((next ≤ file) × (file < new_next)) ⊎ WasThere m file (Some content) → file < new_next
    below all (inl fresh) = fresh.1
    below all (inr was) = let low = all file was.0 in omega (arith, low, more)

    at_file : ((next ≤ file) × (file < new_next)) ⊎ WasThere m file (Some content)
        → (next ≤ file) ⊎ WasThere m file (get (put m file content) file)
    at_file (inl fresh) = inl fresh.0
    at_file (inr was) = inr (was.0, ap kind_of (get_put_here m file content) ∙ was.1)

    kinds_of : (other : ℕ) → get (put m file content) other ≢ None
        → (next ≤ other) ⊎ WasThere m other (get (put m file content) other)
    kinds_of other there = elim (cases_eq other file) [
      | inl e ↦ subst (λ (n : ℕ). (next ≤ n) ⊎ WasThere m n (get (put m file content) n)) (sym e) (at_file here)
      | inr ne ↦ inr (
        λ none. there (get_put_there m file content other ne ∙ none),
        ap kind_of (get_put_there m file content other ne),
      )
    ]

-- ---- an operation

-- An operation writes to a regular file alone, and opens one that is there.
abbrev pub IsFit : Tree → FileOperation → Type 0
IsFit tree (write file offset bytes) = IsRegular tree.files file
IsFit tree (opening file) = IsThere tree file
IsFit tree operation = Unit {0}

pub regular_there : (o : Option Content) → kind_of o ≡ Regular → o ≢ None
regular_there o regular none = let other : Other ≡ Regular = sym (ap kind_of none) ∙ regular in cc

module _ (tree : Tree) where
  abbrev Later : Tree → Type 0
  Later new = FilesLater tree.files tree.next_inode new.files new.next_inode

  unrefused_later : (operation : FileOperation) → IsFit tree operation → Later (tree_unrefused tree operation)
  unrefused_later (mkdir d name) fit = put_later tree.files tree.next_inode tree.next_inode a_directory
      (tree.next_inode + 1) (omega arith) (inl (omega arith, omega arith))
  unrefused_later (create d name) fit = put_later tree.files tree.next_inode tree.next_inode (a_file [])
      (tree.next_inode + 1) (omega arith) (inl (omega arith, omega arith))
  unrefused_later (rename d old e new) fit = by (is_same (file_at tree d old) (file_at tree e new))
    where
      moved : (o : Option ℕ) → Later (renamed tree d old e new o)
      moved None = same_files tree.files tree.next_inode
      moved (Some file) = same_files tree.files tree.next_inode

      by : (b : Bool) → Later (cond b tree (renamed tree d old e new (file_at tree d old)))
      by true = same_files tree.files tree.next_inode
      by false = moved (file_at tree d old)
  unrefused_later (write file offset []) fit = same_files tree.files tree.next_inode
  unrefused_later (write file offset (b ∷ bytes)) fit = put_later tree.files tree.next_inode file
      (a_file (overwritten (file_bytes (get tree.files file)) offset (b ∷ bytes))) tree.next_inode (omega arith)
      (inr (regular_there (get tree.files file) fit, sym fit))
  unrefused_later operation fit = same_files tree.files tree.next_inode

  pub later_after : (operation : FileOperation) → IsFit tree operation → Later (tree_after tree operation)
  later_after operation fit = by (refusal tree operation)
    where
      by : (o : Option ℕ) → Later (tree_or tree (tree_unrefused tree operation) o)
      by None = unrefused_later operation fit
      by (Some errno) = same_files tree.files tree.next_inode

  -- A file that is there stays there.
  unrefused_there : (operation : FileOperation) (file : ℕ) → IsThere tree file
      → IsThere (tree_unrefused tree operation) file
  unrefused_there (mkdir d name) file there = put_there tree.files tree.next_inode a_directory file there
  unrefused_there (create d name) file there = put_there tree.files tree.next_inode (a_file []) file there
  unrefused_there (rename d old e new) file there = by (is_same (file_at tree d old) (file_at tree e new))
    where
      moved : (o : Option ℕ) → IsThere (renamed tree d old e new o) file
      moved None = there
      moved (Some other) = there

      by : (b : Bool) → IsThere (cond b tree (renamed tree d old e new (file_at tree d old))) file
      by true = there
      by false = moved (file_at tree d old)
  unrefused_there (write other offset []) file there = there
  unrefused_there (write other offset (b ∷ bytes)) file there = put_there tree.files other
      (a_file (overwritten (file_bytes (get tree.files other)) offset (b ∷ bytes))) file there
  unrefused_there operation file there = there

  pub there_after : (operation : FileOperation) (file : ℕ) → IsThere tree file → IsThere (tree_after tree operation) file
  there_after operation file there = by (refusal tree operation)
    where
      by : (o : Option ℕ) → IsThere (tree_or tree (tree_unrefused tree operation) o) file
      by None = unrefused_there operation file there
      by (Some errno) = there

  -- ---- the files that a reply opens

  opens_regular : (file : ℕ) → refusal tree (opening file) ≡ None → IsThere tree file → IsRegular tree.files file
  opens_regular file free there = by (get tree.files file) (passes (is_directory tree file, 21) [] free).0 there
    where
      by : (o : Option Content) → is_kind_directory (kind_of o) ≡ false → o ≢ None → kind_of o ≡ Regular
      by None other some = absurd (some refl)
      by (Some a_directory) other some = cc
      by (Some (a_file bytes)) other some = refl

  looks_none : (valid : Validity) (o : Option ℕ) → All (IsRegular tree.files) (opens_in_reply (lookup_reply valid o))
  looks_none valid None = All-nil (IsRegular tree.files)
  looks_none valid (Some file) = All-nil (IsRegular tree.files)

  unrefused_opens : (valid : Validity) (operation : FileOperation) → IsFit tree operation → refusal tree operation ≡ None
      → All (IsRegular (tree_unrefused tree operation).files) (opens_in_reply (reply_unrefused valid tree operation))
  unrefused_opens valid (create d name) fit free = All-cons (IsRegular (put tree.files tree.next_inode (a_file [])))
      tree.next_inode [] (ap kind_of (get_put_here tree.files tree.next_inode (a_file [])))
      (All-nil (IsRegular (put tree.files tree.next_inode (a_file []))))
  unrefused_opens valid (opening file) fit free = All-cons (IsRegular tree.files) file [] (opens_regular file free fit)
      (All-nil (IsRegular tree.files))
  unrefused_opens valid (lookup d name) fit free = looks_none valid (file_at tree d name)
  unrefused_opens valid operation fit free = All-nil (IsRegular (tree_unrefused tree operation).files)

  -- Each is a regular one afterwards.
  pub opens_after : (valid : Validity) (operation : FileOperation) → IsFit tree operation
      → All (IsRegular (tree_after tree operation).files) (opens_in_reply (reply_by valid tree operation))
  opens_after valid operation fit = by (refusal tree operation) refl
    where
      by : (o : Option ℕ) → refusal tree operation ≡ o
          → All (IsRegular (tree_or tree (tree_unrefused tree operation) o).files)
          (opens_in_reply (reply_or (reply_unrefused valid tree operation) o))
      by None free = unrefused_opens valid operation fit free
      by (Some errno) free = All-nil (IsRegular tree.files)

-- ---- nameless files go

module _ (s : Server) where
  stays : (file : ℕ) → get (without_unheld_files s).tree.files file
      ≡ cond (not (is_nameless s.tree file) || is_file_held s file) (get s.tree.files file) None
  stays file = get_kept (λ f. not (is_nameless s.tree f) || is_file_held s f) s.tree.files file

  -- a file that is held stays
  pub held_stays : (file : ℕ) → is_file_held s file ≡ true
      → get (without_unheld_files s).tree.files file ≡ get s.tree.files file
  held_stays file held = stays file ∙ ap (λ (b : Bool). cond b (get s.tree.files file) None) (second (not (is_nameless s.tree file)))
    where
      second : (b : Bool) → (b || is_file_held s file) ≡ true
      second true = refl
      second false = held

  pub discarded_later : FilesLater s.tree.files s.tree.next_inode (without_unheld_files s).tree.files s.tree.next_inode
  discarded_later = record {
    next = omega arith;
    kinds = λ file there. inr (
      λ none. there (stays file ∙ gone file none),
      ap kind_of (left file there),
    );
    numbered = λ all file there. all file (λ none. there (stays file ∙ gone file none));
  }
    where
      gone : (file : ℕ) → get s.tree.files file ≡ None
          → cond (not (is_nameless s.tree file) || is_file_held s file) (get s.tree.files file) None ≡ None
      gone file none = by (not (is_nameless s.tree file) || is_file_held s file)
        where
          by : (b : Bool) → cond b (get s.tree.files file) None ≡ None
          by true = none
          by false = refl

      left : (file : ℕ) → get (without_unheld_files s).tree.files file ≢ None
          → get (without_unheld_files s).tree.files file ≡ get s.tree.files file
      left file there = stays file ∙ by (not (is_nameless s.tree file) || is_file_held s file)
          (λ none. there (stays file ∙ none))
        where
          by : (b : Bool) → cond b (get s.tree.files file) None ≢ None → cond b (get s.tree.files file) None ≡ get s.tree.files file
          by true some = refl
          by false some = absurd (some refl)
