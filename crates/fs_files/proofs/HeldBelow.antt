-- Counts stay below their end, as files get nodes one after another.
use Rattle.std.proofs.Common.{◌≡◌, ℕ, ◌+◌, ◌-◌, ◌≤◌, ◌<◌, ◌^◌, Bool, true, false, true≢false, cond, List, [], ◌∷◌, length, map, Option, Some, None, nat_eq, refl, sym, ap, ◌∙◌, arith}
use Rattle.std.specs.Prelude.{MatchOption, count_by, nat_le}
use Rattle.std.proofs.lemmas.Bool.{leb-false}
use Rattle.std.proofs.lemmas.Grind.{common_steps}
use Rattle.std.proofs.lemmas.List.Sums.{count_by-le-length}
use Rattle.fuse_spec.specs.Values.Maps.{get}
use Rattle.fuse_spec.specs.Values.Numbers.{counter_end}
use Rattle.fuse_spec.specs.Server.Nodes.{HeldNode, NodeTable, IsUnheld, MayChoose, MayName, all_given, count_overflows, given, given_row}
use Rattle.fuse_spec.specs.Files.Operations.{Dirent, files_in_reply, files_listed, first_listed}
use Rattle.fuse_spec.specs.Calls.Paths.{is_dots}
use Rattle.fuse_spec.specs.Files.Trees.{Tree}
use Rattle.fuse_spec.proofs.QueueCounts.{count_by-cons}
use Rattle.fuse_tables.proofs.Maps.{any_there}
use Rattle.fs_files.specs.Bounds.{AreHeldBelow}
use Rattle.fs_files.specs.Listed.{dirents_in_bytes, pair_listed}
use Rattle.fs_files.specs.Replies.{IsRepliable, outcome_reply}
use Rattle.fs_files.specs.declared.replies.Outcome.{Outcome}
use Rattle.fs_files.specs.declared.replies.Outcome.TheVariants as outcome
use Rattle.fuse_frames.specs.declared.reply.Reply.TheVariants as said
use Rattle.fs_files.proofs.Bounds.{each_put}

-- A node has fewer lookups than the end of counters once these files are given their nodes.
abbrev pub Fits : List ℕ → HeldNode → Type 0
Fits files row = row.count + count_by (nat_eq row.file) files < 2 ^ 62

-- Each node's lookups are below their end once these files are given their nodes.
abbrev pub IsWithin : NodeTable → List ℕ → Type 0
IsWithin t files = (id : ℕ) (row : HeldNode) → get t.rows id ≡ Some row → Fits files row

pub within_first : (t : NodeTable) (files : List ℕ) → count_overflows t files ≡ false → IsWithin t files
within_first t files none id row there = by (nat_le counter_end (row.count + count_by (nat_eq row.file) files)) refl
  where
    by : (b : Bool) → nat_le counter_end (row.count + count_by (nat_eq row.file) files) ≡ b → Fits files row
    by true e = absurd (true≢false (sym (any_there t.rows
        (λ (r : HeldNode). nat_le counter_end (r.count + count_by (nat_eq r.file) files)) id row there e) ∙ none))
    by false e = leb-false counter_end (row.count + count_by (nat_eq row.file) files) e

-- ---- one file more

-- a file that is not the first to be given its node is given it as often later
pub fits_later : (row : HeldNode) (file : ℕ) (files : List ℕ) → Fits (file ∷ files) row → Fits files row
fits_later row file files fits = by (nat_eq row.file file) (rw (count_by-cons (nat_eq row.file) file files) at fits)
  where
    by : (b : Bool) → row.count + (cond b 1 0 + count_by (nat_eq row.file) files) < 2 ^ 62 → Fits files row
    by true fits = omega (arith, fits)
    by false fits = omega (arith, fits)

-- the file that is given its node is given it once less later
pub fits_once : (row : HeldNode) (file : ℕ) (files : List ℕ) → row.file ≡ file → Fits (file ∷ files) row
    → Fits files (record row { count = row.count + 1 })
fits_once row file files same fits = by (nat_eq row.file file) refl
    (rw (count_by-cons (nat_eq row.file) file files) at fits)
  where
    is_itself : nat_eq row.file file ≡ true
    is_itself = ap (λ n. nat_eq n file) same ∙ itself file
      where
        itself : (n : ℕ) → nat_eq n n ≡ true
        itself n = grind (arith, common_steps)

    by : (b : Bool) → nat_eq row.file file ≡ b → row.count + (cond b 1 0 + count_by (nat_eq row.file) files) < 2 ^ 62
        → Fits files (record row { count = row.count + 1 })
    by true e fits = omega (arith, fits)
    by false e fits = absurd (true≢false (sym is_itself ∙ e))

pub within_next : (t : NodeTable) (file id : ℕ) (files : List ℕ) → length files + 1 < 2 ^ 62 → MayName t file id
    → IsWithin t (file ∷ files) → IsWithin (given t file id) files
within_next t file id files short may old = each_put (Fits files) t.rows id (given_row t file (get t.rows id))
    (by (get t.rows id) refl may) (λ q row is. fits_later row file files (old q row is))
  where
    by : (o : Option HeldNode) → get t.rows id ≡ o → MatchOption o ((2 ≤ id) × IsUnheld t file)
        (λ row. row.file ≡ file) → Fits files (given_row t file o)
    by None e m = let few = count_by-le-length (nat_eq file) files in omega (arith, few, short)
    by (Some row) e same = fits_once row file files same (old id row e)

-- Each node's lookups are below their end, once the files are given their nodes.
pub within_given : (choice : ℕ → ℕ) (t : NodeTable) (files : List ℕ) → length files < 2 ^ 62 → MayChoose choice t files
    → IsWithin t files → AreHeldBelow (all_given choice t files)
within_given choice t [] short may old = λ id row is. let low = old id row is in omega (arith, low)
within_given choice t (file ∷ files) short may old =
    within_given choice (given t file (choice file)) files (omega (arith, short)) may.1
    (within_next t file (choice file) files (omega (arith, short)) may.0 old)

-- ---- a reply names few files

few_files : (ms : ℕ) (ds : List Dirent) → length (files_listed (map (pair_listed ms) ds)) ≤ length ds
few_files ms [] = omega arith
few_files ms (d ∷ ds) = by (is_dots d.name) (few_files ms ds)
  where
    by : (b : Bool) → length (files_listed (map (pair_listed ms) ds)) ≤ length ds
        → length (first_listed (cond b None (Some (d.ino - 1))) (files_listed (map (pair_listed ms) ds))) ≤ length (d ∷ ds)
    by true rest = omega (arith, rest)
    by false rest = omega (arith, rest)

pub few_given : {A : Type 0} (tree : Tree) (ms : ℕ) (o : Outcome A) → IsRepliable tree o
    → length (files_in_reply (outcome_reply ms o)) ≤ 32
few_given tree ms (outcome.Entry file) repliable = omega arith
few_given tree ms (outcome.Created file) repliable = omega arith
few_given tree ms (outcome.Opened file) repliable = omega arith
few_given tree ms (outcome.ListedPlus records names) repliable = let most = repliable.1 in let few =
    few_files ms (dirents_in_bytes records.items) in omega (arith, most, few)
few_given tree ms (outcome.Reply (said.Entry entry valid)) repliable = absurd repliable.0
few_given tree ms (outcome.Reply (said.Negative valid)) repliable = omega arith
few_given tree ms (outcome.Reply (said.Created entry valid fh)) repliable = absurd repliable.0
few_given tree ms (outcome.Reply (said.Opened fh)) repliable = absurd repliable.0
few_given tree ms (outcome.Reply (said.Attributes attributes)) repliable = omega arith
few_given tree ms (outcome.Reply (said.Listed records)) repliable = omega arith
few_given tree ms (outcome.Reply (said.ListedPlus names)) repliable = absurd repliable.0
few_given tree ms (outcome.Reply (said.Content bytes)) repliable = omega arith
few_given tree ms (outcome.Reply (said.Written size)) repliable = omega arith
few_given tree ms (outcome.Reply (said.Agreed major minor flags)) repliable = omega arith
few_given tree ms (outcome.Reply said.Done) repliable = omega arith
few_given tree ms (outcome.Reply (said.Failed errno)) repliable = omega arith
