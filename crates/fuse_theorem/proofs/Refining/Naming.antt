-- What a reply names as it is sent: files by the nodes that are given, an open file by its new number.
use Rattle.fuse_theorem.proofs.Refining.Pairs.{pairs_named}
use Rattle.fuse_theorem.proofs.Refining.LookupsCounted.{all_given_denotes}
use Rattle.std.proofs.Common.{◌≡◌, ◌≢◌, ℕ, ◌≤◌, Bool, true, false, true≢false, ◌||◌, cond, List, [], ◌∷◌, Option, Some, None, nat_eq, refl, ap, sym, subst, ◌∙◌, arith, inl, inr, All}
use Rattle.std.specs.Prelude.{MatchOption}
use Rattle.std.specs.List.{list_any}
use Rattle.std.specs.declared.cmp.Ordering.{Ordering}
use Rattle.std.specs.declared.cmp.Ordering.TheVariants.{Less, Equal, Greater}
use Rattle.std.specs.Ordering.{nat_cmp}
use Rattle.std.specs.FinMap.Entries.{by_order}
use Rattle.std.proofs.lemmas.Bool.{cases_eq}
use Rattle.std.proofs.lemmas.List.Elements.{All-head, All-tail, All-nil, All-cons}
use Rattle.fuse_spec.specs.Values.Maps.{Map, get, put, values}
use Rattle.fuse_spec.specs.Files.Operations.{Reply, found, missing, created, opened, attributes, listed, listed_plus, content, written, agreed, done, failed, files_in_reply, opens_in_reply, files_listed, ReplyAlike}
use Rattle.fuse_spec.specs.Files.Trees.{Tree}
use Rattle.fuse_spec.specs.Server.Nodes.{HeldNode, NodeTable, row_of, root_row, MayName, IsUnheld, MayChoose, given, given_row, all_given, FileHandle, HandleTable, is_open, is_file_of, handle_opened, all_opened}
use Rattle.fuse_spec.specs.Server.Server.{generation_in}
use Rattle.fuse_spec.specs.Server.Performs.{wire_of, entry_for}
use Rattle.fuse_spec.specs.Claim.Denotes.{Denotes, Names, Opens}
use Rattle.fuse_spec.proofs.Tables.{get_put_here, get_put_there}
use Rattle.fuse_theorem.proofs.Calls.Finding.{same_is, other_is}

module _ (t : NodeTable) (no_root : get t.rows 1 ≡ None) where
  -- the node that a file is given
  pub given_node : (file id : ℕ) → MayName t file id
      → Denotes (given t file id) id (generation_in (row_of (given t file id) id)) file
  given_node file id may =
      let new = given_row t file (get t.rows id) in
      let other : id ≢ 1 = λ e. not_root e (get t.rows id) refl may in
      let there : row_of (given t file id) id ≡ Some new =
      ap (λ (b : Bool). cond b (Some root_row) (get (put t.rows id new) id))
      (other_is id 1 other) ∙ get_put_here t.rows id new in
      record {
        row = new;
        there = there;
        same_generation = sym (ap generation_in there);
        same_file = file_is (get t.rows id) may;
      }
    where
      not_root : id ≡ 1 → (o : Option HeldNode) → get t.rows id ≡ o
          → MatchOption o ((2 ≤ id) × IsUnheld t file) (λ row. row.file ≡ file) → ⊥
      not_root e None q m = let low = m.0 in omega (arith, e, low)
      not_root e (Some row) q m = absurd (cc (subst (λ (n : ℕ). get t.rows n ≡ Some row) e q, no_root))

      file_is : (o : Option HeldNode) → MatchOption o ((2 ≤ id) × IsUnheld t file) (λ row. row.file ≡ file)
          → (given_row t file o).file ≡ file
      file_is None m = refl
      file_is (Some row) m = m

-- an id that may name a file is not the root's
pub not_the_root : (t : NodeTable) → get t.rows 1 ≡ None → (file id : ℕ) → MayName t file id → id ≢ 1
not_the_root t no_root file id may e = by (get t.rows id) refl may
  where
    by : (o : Option HeldNode) → get t.rows id ≡ o → MatchOption o ((2 ≤ id) × IsUnheld t file)
        (λ row. row.file ≡ file) → ⊥
    by None q m = let low = m.0 in omega (arith, e, low)
    by (Some row) q m = absurd (cc (subst (λ (n : ℕ). get t.rows n ≡ Some row) e q, no_root))

-- What the id that is chosen for a file denotes in this table.
abbrev pub IsGiven : (ℕ → ℕ) → NodeTable → ℕ → Type 0
IsGiven choice t file = Denotes t (choice file) (generation_in (row_of t (choice file))) file

-- Each of these files is given a node.
pub all_given_nodes : (choice : ℕ → ℕ) (files : List ℕ) (t : NodeTable) → get t.rows 1 ≡ None
    → MayChoose choice t files → All (IsGiven choice (all_given choice t files)) files
all_given_nodes choice [] t no_root may = All-nil (IsGiven choice t)
all_given_nodes choice (f ∷ files) t no_root may =
    let next = given t f (choice f) in
    let last = all_given choice next files in
    let d = given_node t no_root f (choice f) may.0 in
    let kept = all_given_denotes choice files next (choice f) (generation_in (row_of next (choice f))) f d in
    All-cons (IsGiven choice last) f files (record {
      row = kept.row;
      there = kept.there;
      same_generation = sym (ap generation_in kept.there);
      same_file = kept.same_file;
    })
    (all_given_nodes choice files next (get_put_there t.rows (choice f) (given_row t f (get t.rows (choice f))) 1
    (λ e. not_the_root t no_root f (choice f) may.0 (sym e)) ∙ no_root) may.1)

-- the number that an open file is given
pub opened_handle : (h : HandleTable) (file : ℕ) → is_open (handle_opened h file) h.next_fh file ≡ true
opened_handle h file = ap (is_file_of file) (get_put_here h.handles h.next_fh
    (record { file = file; count = 1 })) ∙ same_is file

-- A reply as it is sent says what the tree replied.
pub named_alike : (choice : ℕ → ℕ) (t : NodeTable) (h : HandleTable) (tree : Tree) (reply : Reply ℕ ℕ)
    → get t.rows 1 ≡ None → MayChoose choice t (files_in_reply reply)
    → ReplyAlike (Names (all_given choice t (files_in_reply reply))) (Opens (all_opened h (opens_in_reply reply)))
    (wire_of choice (all_given choice t (files_in_reply reply)) tree h.next_fh reply) reply
named_alike choice t h tree (found file v) no_root may = (given_node t no_root file (choice file) may.0, refl)
named_alike choice t h tree (missing v) no_root may = refl
named_alike choice t h tree (created file v o) no_root may =
    (given_node t no_root file (choice file) may.0, refl, opened_handle h o)
named_alike choice t h tree (opened o) no_root may = opened_handle h o
named_alike choice t h tree (attributes a) no_root may = refl
named_alike choice t h tree (listed xs) no_root may = refl
named_alike choice t h tree (listed_plus pairs) no_root may =
    let last = all_given choice t (files_listed pairs) in
    pairs_named (Names last) (entry_for choice last tree) pairs
    (all_given_nodes choice (files_listed pairs) t no_root may)
named_alike choice t h tree (content xs) no_root may = refl
named_alike choice t h tree (written n) no_root may = refl
named_alike choice t h tree (agreed a b flags) no_root may = (refl, refl, refl)
named_alike choice t h tree done no_root may = tt
named_alike choice t h tree (failed e) no_root may = refl

-- ---- which files are held afterwards

pub any_put_le : {X : Type 0} (test : X → Bool) (m : Map X) (k : ℕ) (x : X) → list_any test (values (put m k x)) ≡ true
    → (test x || list_any test (values m)) ≡ true
any_put_le test [] k x h = h
any_put_le test (e ∷ m) k x h = by (nat_cmp k e.0) h (any_put_le test m k x)
  where
    skip : (a b c : Bool) → (a || c) ≡ true → (a || (b || c)) ≡ true
    skip true b c q = refl
    skip false true c q = refl
    skip false false c q = q

    over : (a b c d : Bool) → (b || d) ≡ true → (d ≡ true → (a || c) ≡ true) → (a || (b || c)) ≡ true
    over true b c d q f = refl
    over false true c d q f = refl
    over false false c d q f = f q

    by : (r : Ordering) → list_any test (values (by_order r ((k, x) ∷ e ∷ m) ((e.0, x) ∷ m) (e ∷ put m k x))) ≡ true
        → (list_any test (values (put m k x)) ≡ true → (test x || list_any test (values m)) ≡ true)
        → (test x || (test e.1 || list_any test (values m))) ≡ true
    by Less q rest = q
    by Equal q rest = skip (test x) (test e.1) (list_any test (values m)) q
    by Greater q rest = over (test x) (test e.1) (list_any test (values m)) (list_any test (values (put m k x))) q rest

one_of : (a b : ℕ) (S : ℕ → Type 0) → nat_eq a b ≡ true → S a → S b
one_of a b S q s = elim (cases_eq a b) [ inl e ↦ subst S e s | inr ne ↦ absurd (true≢false (sym q ∙ other_is a b ne)) ]

-- A file that a node holds after these are given was held, or is one of them.
pub given_held : (S : ℕ → Type 0) (choice : ℕ → ℕ) (files : List ℕ) (t : NodeTable) (file : ℕ) → All S files
    → MayChoose choice t files → (list_any (λ (row : HeldNode). nat_eq row.file file) (values t.rows) ≡ true → S file)
    → list_any (λ (row : HeldNode). nat_eq row.file file) (values (all_given choice t files).rows) ≡ true → S file
given_held S choice [] t file all may before h = before h
given_held S choice (f ∷ files) t file all may before h =
    given_held S choice files (given t f (choice f)) file (All-tail S f files all) may.1
    (λ q. by (nat_eq (given_row t f (get t.rows (choice f))).file file) refl
    (any_put_le (λ (row : HeldNode). nat_eq row.file file) t.rows (choice f)
    (given_row t f (get t.rows (choice f))) q)) h
  where
    file_is : (o : Option HeldNode) → MatchOption o ((2 ≤ choice f) × IsUnheld t f) (λ row. row.file ≡ f)
        → (given_row t f o).file ≡ f
    file_is None m = refl
    file_is (Some row) m = m

    by : (b : Bool) → nat_eq (given_row t f (get t.rows (choice f))).file file ≡ b
        → (b || list_any (λ (row : HeldNode). nat_eq row.file file) (values t.rows)) ≡ true → S file
    by true e q = one_of f file S (ap (λ (n : ℕ). nat_eq n file) (sym (file_is (get t.rows (choice f)) may.0)) ∙ e)
        (All-head S f files all)
    by false e q = before q

pub opened_held : (S : ℕ → Type 0) (files : List ℕ) (h : HandleTable) (file : ℕ) → All S files
    → (list_any (λ (x : FileHandle). nat_eq x.file file) (values h.handles) ≡ true → S file)
    → list_any (λ (x : FileHandle). nat_eq x.file file) (values (all_opened h files).handles) ≡ true → S file
opened_held S [] h file all before q = before q
opened_held S (f ∷ files) h file all before q =
    opened_held S files (handle_opened h f) file (All-tail S f files all)
    (λ r. by (nat_eq f file) refl (any_put_le (λ (x : FileHandle). nat_eq x.file file) h.handles h.next_fh
    (record { file = f; count = 1 }) r)) q
  where
    by : (b : Bool) → nat_eq f file ≡ b → (b || list_any (λ (x : FileHandle). nat_eq x.file file) (values h.handles))
        ≡ true → S file
    by true e r = one_of f file S e (All-head S f files all)
    by false e r = before r
