-- Pairs that were put into bytes are those that the bytes have.
use Rattle.std.proofs.Common.{◌≡◌, ℕ, ◌+◌, ◌-◌, ◌*◌, Bool, true, false, cond, Some, List, [], ◌∷◌, length, map, refl, sym, ap, subst, ◌∙◌, ◌≤◌, ◌<◌, ◌^◌, nat_eq, arith}
use Rattle.std.specs.Prelude.{All, filter, nat_le, nat_lt, sum_by}
use Rattle.std.proofs.lemmas.Bool.{leb-true}
use Rattle.std.proofs.lemmas.List.Elements.{All-cons, All-filter, All-head, All-map, All-nil, All-tail}
use Rattle.std.proofs.lemmas.List.Sums.{sum_by-cons}
use Rattle.fuse_spec.specs.Files.TreeShape.{IsShaped}
use Rattle.fuse_spec.specs.Files.Operations.{Dirent, DirentPlus, Reply, listed_plus}
use Rattle.fuse_spec.specs.Files.Trees.{Named, Tree, fitting_pairs, directory_names, pair_length, pairs_after, record_length}
use Rattle.fuse_spec.specs.Files.Trees.{pair_of as spec_pair_of}
use Rattle.fk_wire.specs.Dirents.{dirents}
use Rattle.fk_wire.specs.Fields.{InRange, spellings}
use Rattle.fuse_frames.specs.ReplyTies.{dirent_read}
use Rattle.fs_tree.specs.declared.listing.Record.{Record}
use Rattle.fs_tree.specs.Views.{viewed_dirent, viewed_pair}
use Rattle.fs_files.specs.Bounds.{IsThere}
use Rattle.fs_files.specs.Listing.{written_record_of}
use Rattle.fs_files.specs.Listed.{pair_listed}
use Rattle.fs_files.specs.Listed.{dirents_in_bytes as listed_in}
use Rattle.fs_files.specs.Replies.{IsListable}
use Rattle.fs_files.proofs.Listing.{listed_are, low_born, records_back, records_end, records_read}

abbrev pairs_said : Reply ℕ ℕ → List (DirentPlus ℕ)
pairs_said (listed_plus pairs) = pairs
pairs_said reply = []

pub pairs_same : (ps qs : List (DirentPlus ℕ)) → ◌≡◌ {A = Reply ℕ ℕ} (listed_plus ps) (listed_plus qs) → ps ≡ qs
pairs_same ps qs e = ap pairs_said e

-- ---- which files are listed

-- a pair whose inode number is of a file of the tree that was born
abbrev IsListed : Tree → DirentPlus ℕ → Type 0
IsListed tree p = IsListable tree p.dirent

less_one : (n : ℕ) → n + 1 - 1 ≡ n
less_one n = omega arith

one_or_more : (n : ℕ) → 1 ≤ n + 1
one_or_more n = omega arith

listable_file : (tree : Tree) → IsShaped tree → tree.next_inode ≤ 2 ^ 62 → (file : ℕ) → IsThere tree file
    → (1 ≤ file + 1) × (file + 1 - 1 < 2 ^ 62) × IsThere tree (file + 1 - 1)
listable_file tree shaped inodes file there =
    let low = low_born tree shaped inodes file there in (
      one_or_more file,
      subst (λ (f : ℕ). f < 2 ^ 62) (sym (less_one file)) low,
      subst (IsThere tree) (sym (less_one file)) there,
    )

listed_fitting : (tree : Tree) (room : ℕ) (ps : List (DirentPlus ℕ)) → All (IsListed tree) ps
    → All (IsListed tree) (fitting_pairs room ps)
listed_fitting tree room [] low = low
listed_fitting tree room (p ∷ ps) low = by (nat_le (pair_length p) room)
    (listed_fitting tree (room - pair_length p) ps (All-tail (IsListed tree) p ps low))
  where
    by : (b : Bool) → All (IsListed tree) (fitting_pairs (room - pair_length p) ps)
        → All (IsListed tree) (cond b (p ∷ fitting_pairs (room - pair_length p) ps) [])
    by true rest = All-cons (IsListed tree) p (fitting_pairs (room - pair_length p) ps)
        (All-head (IsListed tree) p ps low) rest
    by false rest = All-nil (IsListed tree)

listable_names : (tree : Tree) (valid : ℕ) (rs : List Record) → All (IsListed tree) (map (viewed_pair valid) rs)
    → All (IsListable tree) (map viewed_dirent rs)
listable_names tree valid [] low = All-nil (IsListable tree)
listable_names tree valid (r ∷ rs) low =
    All-cons (IsListable tree) (viewed_dirent r) (map viewed_dirent rs)
    (All-head (IsListed tree) (viewed_pair valid r) (map (viewed_pair valid) rs) low)
    (listable_names tree valid rs (All-tail (IsListed tree) (viewed_pair valid r) (map (viewed_pair valid) rs) low))

-- the names of the pairs that fit some room are of files of the tree
pub listable_records : (tree : Tree) → IsShaped tree → tree.next_inode ≤ 2 ^ 62
    → (valid directory after room : ℕ) (rs : List Record)
    → fitting_pairs room (pairs_after valid tree directory after) ≡ map (viewed_pair valid) rs
    → All (IsListable tree) (map viewed_dirent rs)
listable_records tree shaped inodes valid directory after room rs some =
    let named : All (λ (n : Named). IsListed tree (spec_pair_of valid tree n)) tree.names =
    λ i d lt. listable_file tree shaped inodes _ (shaped.names i d lt).file in
    let here = All-filter (λ n. nat_lt after n.cookie) (λ n. IsListed tree (spec_pair_of valid tree n))
    (directory_names tree directory) (All-filter (λ n. nat_eq n.directory directory)
    (λ n. IsListed tree (spec_pair_of valid tree n)) tree.names named) in
    listable_names tree valid rs (subst (λ (ps : List (DirentPlus ℕ)). All (IsListed tree) ps) some
    (listed_fitting tree room (pairs_after valid tree directory after)
    (All-map (IsListed tree) (spec_pair_of valid tree)
    (filter (λ n. nat_lt after n.cookie) (directory_names tree directory)) here)))

-- their files are below the end of inodes
pub low_listed : (tree : Tree) (rs : List Record) → All (IsListable tree) (map viewed_dirent rs)
    → All (λ (r : Record). r.file < 2 ^ 62) rs
low_listed tree [] low = All-nil (λ (r : Record). r.file < 2 ^ 62)
low_listed tree (r ∷ rs) low =
    let first : r.file + 1 - 1 < 2 ^ 62 = (All-head (IsListable tree) (viewed_dirent r) (map viewed_dirent rs) low).1 in
    All-cons (λ (q : Record). q.file < 2 ^ 62) r rs (omega (arith, first))
    (low_listed tree rs (All-tail (IsListable tree) (viewed_dirent r) (map viewed_dirent rs) low))

-- ---- what is said of them

pairs_back : (valid : ℕ) (rs : List Record) → map (pair_listed valid) (map viewed_dirent rs) ≡ map (viewed_pair valid) rs
pairs_back valid [] = refl
pairs_back valid (r ∷ rs) = λ i. record {
  file = Some (less_one r.file i);
  valid = valid;
  dirent = viewed_dirent r;
} ∷ pairs_back valid rs i

-- the pairs of these names, as their records were written
pub pairs_are : (valid : ℕ) (rs : List Record) (bytes : List ℕ) → InRange (dirents (map written_record_of rs))
    → bytes ≡ spellings (dirents (map written_record_of rs))
    → map (pair_listed valid) (listed_in bytes) ≡ map (viewed_pair valid) rs
pairs_are valid rs bytes fits is = ap (λ (ds : List Dirent). map (pair_listed valid) ds)
    (listed_are rs bytes fits is) ∙ pairs_back valid rs

-- ---- how long they are

pairs_fit : (room : ℕ) (ps : List (DirentPlus ℕ)) → sum_by (pair_length {F = ℕ}) (fitting_pairs room ps) ≤ room
pairs_fit room [] = omega arith
pairs_fit room (p ∷ ps) = by (nat_le (pair_length p) room) refl (pairs_fit (room - pair_length p) ps)
  where
    by : (b : Bool) → nat_le (pair_length p) room ≡ b
        → sum_by (pair_length {F = ℕ}) (fitting_pairs (room - pair_length p) ps) ≤ room - pair_length p
        → sum_by (pair_length {F = ℕ}) (cond b (p ∷ fitting_pairs (room - pair_length p) ps) []) ≤ room
    by false e rest = omega arith
    by true e rest =
        let sum : sum_by (pair_length {F = ℕ}) (p ∷ fitting_pairs (room - pair_length p) ps)
        ≡ pair_length p + sum_by (pair_length {F = ℕ}) (fitting_pairs (room - pair_length p) ps) =
        sum_by-cons (pair_length {F = ℕ}) p (fitting_pairs (room - pair_length p) ps) in
        let le = leb-true (pair_length p) room e in
        omega (arith, rest, sum, le)

pairs_sum : (valid : ℕ) (rs : List Record) → sum_by (pair_length {F = ℕ}) (map (viewed_pair valid) rs)
    ≡ 128 * length (map viewed_dirent rs) + sum_by record_length (map viewed_dirent rs)
pairs_sum valid [] = refl
pairs_sum valid (r ∷ rs) =
    let rest = pairs_sum valid rs in
    let pairs : sum_by (pair_length {F = ℕ}) (map (viewed_pair valid) (r ∷ rs))
    ≡ 128 + record_length (viewed_dirent r) + sum_by (pair_length {F = ℕ}) (map (viewed_pair valid) rs) =
    sum_by-cons (pair_length {F = ℕ}) (viewed_pair valid r) (map (viewed_pair valid) rs) in
    let records : sum_by record_length (map viewed_dirent (r ∷ rs))
    ≡ record_length (viewed_dirent r) + sum_by record_length (map viewed_dirent rs) =
    sum_by-cons record_length (viewed_dirent r) (map viewed_dirent rs) in
    omega (arith, rest, pairs, records)

-- the bytes of a listing of pairs that fits some room, with their entries
pub few_pairs : (valid : ℕ) (rs : List Record) (bytes : List ℕ) (room : ℕ) (all : List (DirentPlus ℕ))
    → InRange (dirents (map written_record_of rs)) → bytes ≡ spellings (dirents (map written_record_of rs))
    → fitting_pairs room all ≡ map (viewed_pair valid) rs
    → 128 * length (listed_in bytes) + length bytes ≤ room
few_pairs valid rs bytes room all fits is some =
    let end = records_end (map written_record_of rs) 0 bytes (records_read (map written_record_of rs) bytes fits is) in
    let back : sum_by record_length (map dirent_read (map written_record_of rs)) ≡ sum_by record_length (map viewed_dirent rs) =
    ap (λ (ds : List Dirent). sum_by record_length ds) (records_back rs) in
    let names : length (listed_in bytes) ≡ length (map viewed_dirent rs) =
    ap (λ (ds : List Dirent). length ds) (listed_are rs bytes fits is) in
    let pairs : sum_by (pair_length {F = ℕ}) (fitting_pairs room all)
    ≡ sum_by (pair_length {F = ℕ}) (map (viewed_pair valid) rs) =
    ap (λ (ps : List (DirentPlus ℕ)). sum_by (pair_length {F = ℕ}) ps) some in
    let sum = pairs_sum valid rs in
    let most = pairs_fit room all in
    omega (arith, end, back, names, pairs, sum, most)
