-- Records that were put into bytes are those that the bytes have.
use Rattle.std.proofs.Common.{◌≡◌, ℕ, ◌+◌, ◌-◌, ◌*◌, ◌/◌, Bool, true, false, cond, List, [], ◌∷◌, length, map, refl, sym, ap, subst, ◌∙◌, ◌≤◌, ◌<◌, ◌^◌, true≢false, nat_eq, arith}
use Rattle.std.specs.Prelude.{All, IsSome, filter, is_some, nat_le, nat_lt, sum_by}
use Rattle.std.proofs.lemmas.Bool.{leb-true, ltb-true, ltb-false}
use Rattle.std.proofs.lemmas.List.Elements.{All-cons, All-filter, All-head, All-map, All-nil, All-tail}
use Rattle.fuse_spec.specs.Values.Maps.{get}
use Rattle.fuse_spec.specs.Files.TreeShape.{IsShaped}
use Rattle.std.proofs.lemmas.List.Sums.{sum_by-cons}
use Rattle.fk_wire.specs.RecordEnds.{padding}
use Rattle.fuse_spec.specs.Files.Operations.{Reply, listed}
use Rattle.fuse_spec.specs.Files.Operations.{Dirent as SpecDirent}
use Rattle.fuse_spec.specs.Files.Trees.{Named, Tree, fitting, directory_names, record_length, records_after}
use Rattle.fuse_spec.specs.Files.Trees.{record_of as spec_record_of}
use Rattle.fk_wire.specs.Dirents.{DirentContent, dirents, dirents_from, HaveRecordNames}
use Rattle.fk_wire.specs.Fields.{InRange, ReadsAs, spellings}
use Rattle.fk_wire.proofs.Frames.{reads_back}
use Rattle.fk_wire.proofs.OneReply.{counted_from, ends_beyond}
use Rattle.fk_wire.proofs.RecordLists.{dirents_are_named, one_dirent_list}
use Rattle.fuse_frames.specs.ReplyTies.{dirent_read, dirent_written as dirent_written, kind_of_type, type_of, AreWritten}
use Rattle.fuse_spec.specs.declared.Kind.{Kind}
use Rattle.fuse_spec.specs.declared.Kind.TheVariants.{Directory, Regular, Other}
use Rattle.fs_tree.specs.declared.listing.Record.{Record}
use Rattle.fs_tree.specs.Views.{viewed_dirent}
use Rattle.fs_files.specs.Listing.{written_record_of}
use Rattle.fs_files.specs.Listed.{AreRecordBytes, dirents_in}

pub records_read : (ds : List DirentContent) (bytes : List ℕ) → InRange (dirents ds) → bytes ≡ spellings (dirents ds)
    → ReadsAs 0 (dirents ds) bytes
records_read ds bytes fits is = subst (λ (b : List ℕ). ReadsAs 0 (dirents ds) b) (sym is)
    (reads_back (dirents ds) [] fits (dirents_are_named ds))

-- bytes have one list of records
pub dirents_are : (ds : List DirentContent) (bytes : List ℕ) → ReadsAs 0 (dirents ds) bytes → dirents_in bytes ≡ ds
dirents_are ds bytes h =
    let one = one_dirent_list ds 0 bytes h in
    let beyond = ends_beyond false (length ds) 0 bytes in
    let few : length ds ≤ length bytes = omega (arith, beyond, one.1) in
    ap (λ (n : ℕ). dirents_from n 0 bytes) (counted_from (length bytes) false (length ds) 0 bytes one.1 few) ∙ one.0

abbrev AreTyped : List DirentContent → Type 0
AreTyped ds = map dirent_written (map dirent_read ds) ≡ ds

are_records : (ds : List DirentContent) (bytes : List ℕ) → AreTyped ds → HaveRecordNames ds → InRange (dirents ds)
    → bytes ≡ spellings (dirents ds) → AreRecordBytes bytes
are_records ds bytes typed named fits is =
    let same = sym (dirents_are ds bytes (records_read ds bytes fits is)) in
    subst (λ (xs : List DirentContent). AreWritten xs bytes) same
    (record { named = named; fit = fits; spelled = is; typed = typed })

kind_back : (k : Kind) → kind_of_type (type_of k) ≡ k
kind_back Directory = refl
kind_back Regular = refl
kind_back Other = refl

pub records_back : (rs : List Record) → map dirent_read (map written_record_of rs) ≡ map viewed_dirent rs
records_back [] = refl
records_back (r ∷ rs) = λ i. record {
  ino = (viewed_dirent r).ino;
  offset = (viewed_dirent r).offset;
  kind = kind_back r.kind i;
  name = (viewed_dirent r).name;
} ∷ records_back rs i

types_back : (rs : List Record) → AreTyped (map written_record_of rs)
types_back [] = refl
types_back (r ∷ rs) = λ i. record {
  ino = (written_record_of r).ino;
  off = (written_record_of r).off;
  kind = type_of (kind_back r.kind i);
  name = (written_record_of r).name;
} ∷ types_back rs i

pub names_are_records : (rs : List Record) (bytes : List ℕ) → HaveRecordNames (map written_record_of rs)
    → InRange (dirents (map written_record_of rs)) → bytes ≡ spellings (dirents (map written_record_of rs)) → AreRecordBytes bytes
names_are_records rs bytes named fits is = are_records (map written_record_of rs) bytes (types_back rs) named fits is

-- the records of these names, as they were written
pub listed_are : (rs : List Record) (bytes : List ℕ) → InRange (dirents (map written_record_of rs))
    → bytes ≡ spellings (dirents (map written_record_of rs)) → map dirent_read (dirents_in bytes) ≡ map viewed_dirent rs
listed_are rs bytes fits is = ap (λ (xs : List DirentContent). map dirent_read xs)
    (dirents_are (map written_record_of rs) bytes (records_read (map written_record_of rs) bytes fits is)) ∙ records_back rs

-- ---- how long records are

pad_is : (n : ℕ) → 24 + n + padding n ≡ (31 + n) / 8 * 8
pad_is n = omega arith

-- as long as their names say
pub records_end : (ds : List DirentContent) (place : ℕ) (bytes : List ℕ) → ReadsAs place (dirents ds) bytes
    → length bytes ≡ place + sum_by record_length (map dirent_read ds)
records_end [] place bytes reads = omega (arith, reads)
records_end (d ∷ ds) place bytes reads =
    let rest = records_end ds (place + 8 + 8 + 4 + 4 + length d.name + padding (length d.name)) bytes reads.1.1.1.1.1 in
    let pad = pad_is (length d.name) in
    let sum : sum_by record_length (map dirent_read (d ∷ ds))
    ≡ (31 + length d.name) / 8 * 8 + sum_by record_length (map dirent_read ds) =
    sum_by-cons record_length (dirent_read d) (map dirent_read ds) in
    omega (arith, rest, pad, sum)

-- records that fit some room are no longer than it
fitting_fits : (room : ℕ) (rs : List SpecDirent) → sum_by record_length (fitting room rs) ≤ room
fitting_fits room [] = omega arith
fitting_fits room (r ∷ rs) = by (nat_le (record_length r) room) refl (fitting_fits (room - record_length r) rs)
  where
    by : (b : Bool) → nat_le (record_length r) room ≡ b
        → sum_by record_length (fitting (room - record_length r) rs) ≤ room - record_length r
        → sum_by record_length (cond b (r ∷ fitting (room - record_length r) rs) []) ≤ room
    by false e rest = omega arith
    by true e rest =
        let sum : sum_by record_length (r ∷ fitting (room - record_length r) rs)
        ≡ record_length r + sum_by record_length (fitting (room - record_length r) rs) =
        sum_by-cons record_length r (fitting (room - record_length r) rs) in
        let le = leb-true (record_length r) room e in
        omega (arith, rest, sum, le)

-- the bytes of a listing that fits some room
pub few_bytes : (rs : List Record) (bytes : List ℕ) (room : ℕ) (all : List SpecDirent)
    → InRange (dirents (map written_record_of rs)) → bytes ≡ spellings (dirents (map written_record_of rs))
    → fitting room all ≡ map viewed_dirent rs → length bytes ≤ room
few_bytes rs bytes room all fits is some =
    let end = records_end (map written_record_of rs) 0 bytes (records_read (map written_record_of rs) bytes fits is) in
    let same : sum_by record_length (map dirent_read (map written_record_of rs)) ≡ sum_by record_length (fitting room all) =
    ap (λ (ds : List SpecDirent). sum_by record_length ds) (records_back rs ∙ sym some) in
    let most = fitting_fits room all in
    omega (arith, end, same, most)

abbrev records_said : Reply ℕ ℕ → List SpecDirent
records_said (listed records) = records
records_said reply = []

pub listed_same : (ds es : List SpecDirent) → ◌≡◌ {A = Reply ℕ ℕ} (listed ds) (listed es) → ds ≡ es
listed_same ds es e = ap records_said e

-- ---- which files are listed

pub low_born : (tree : Tree) → IsShaped tree → tree.next_inode ≤ 2 ^ 62 → (file : ℕ) → IsSome (get tree.files file)
    → file < 2 ^ 62
low_born tree shaped inodes file there = by (nat_lt file tree.next_inode) refl
  where
    by : (b : Bool) → nat_lt file tree.next_inode ≡ b → file < 2 ^ 62
    by true e = let lt = ltb-true file tree.next_inode e in omega (arith, lt, inodes)
    by false e = let le = ltb-false file tree.next_inode e in
        absurd (true≢false (sym there ∙ ap is_some (shaped.unborn file le)))

-- a record of a file that was born
abbrev IsLow : SpecDirent → Type 0
IsLow d = d.ino ≤ 2 ^ 62

low_fitting : (room : ℕ) (ds : List SpecDirent) → All IsLow ds → All IsLow (fitting room ds)
low_fitting room [] low = low
low_fitting room (d ∷ ds) low = by (nat_le (record_length d) room)
    (low_fitting (room - record_length d) ds (All-tail IsLow d ds low))
  where
    by : (b : Bool) → All IsLow (fitting (room - record_length d) ds)
        → All IsLow (cond b (d ∷ fitting (room - record_length d) ds) [])
    by true rest = All-cons IsLow d (fitting (room - record_length d) ds) (All-head IsLow d ds low) rest
    by false rest = All-nil IsLow

low_files : (rs : List Record) → All IsLow (map viewed_dirent rs) → All (λ (r : Record). r.file < 2 ^ 62) rs
low_files [] low = All-nil (λ (r : Record). r.file < 2 ^ 62)
low_files (r ∷ rs) low =
    let first : r.file + 1 ≤ 2 ^ 62 = All-head IsLow (viewed_dirent r) (map viewed_dirent rs) low in
    All-cons (λ (q : Record). q.file < 2 ^ 62) r rs (omega (arith, first))
    (low_files rs (All-tail IsLow (viewed_dirent r) (map viewed_dirent rs) low))

-- the files of the names in a directory are below the end of inodes
pub low_records : (tree : Tree) → IsShaped tree → tree.next_inode ≤ 2 ^ 62
    → (directory after room : ℕ) (rs : List Record) → fitting room (records_after tree directory after)
    ≡ map viewed_dirent rs → All (λ (r : Record). r.file < 2 ^ 62) rs
low_records tree shaped inodes directory after room rs some =
    let named : All (λ (n : Named). IsLow (spec_record_of tree n)) tree.names = λ i d lt. let low =
    low_born tree shaped inodes _ (shaped.names i d lt).file in omega (arith, low) in
    let here = All-filter (λ n. nat_lt after n.cookie) (λ n. IsLow (spec_record_of tree n)) (directory_names tree directory)
    (All-filter (λ n. nat_eq n.directory directory) (λ n. IsLow (spec_record_of tree n)) tree.names named) in
    low_files rs (subst (λ (ds : List SpecDirent). All IsLow ds) some
    (low_fitting room (records_after tree directory after)
    (All-map IsLow (spec_record_of tree) (filter (λ n. nat_lt after n.cookie) (directory_names tree directory)) here)))
