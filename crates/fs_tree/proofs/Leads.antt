-- Names with their files, as READDIR and as READDIRPLUS list them.
use Rattle.std.proofs.Common.{◌≡◌, ℕ, ◌+◌, ◌-◌, Bool, true, false, cond, List, [], ◌∷◌, map, Some, refl, sym, ap, ◌∙◌, arith, filter, nat_eq, nat_le, nat_lt}
use Rattle.fuse_spec.specs.Values.Maps.{Map}
use Rattle.fuse_spec.specs.Files.Operations.{Dirent, DirentPlus, files_listed, first_listed, listed_by}
use Rattle.fuse_spec.specs.Files.Trees.{Content, Named, fitting, fitting_pairs, record_length}
use Rattle.fs_tree.specs.Stored.{stored_dirent, files_led, fitting_with, lead_in, lead_pair, listed_names}
use Rattle.fs_tree.specs.Views.{viewed_dirent, lead_of, viewed_pair}
use Rattle.fs_tree.specs.declared.listing.Record.{Record}

none_more : (n : ℕ) → 0 + n ≡ n
none_more n = omega arith

-- the records alone
pub fitting-records : (room : ℕ) (records : List (ℕ × Dirent))
    → map (λ r. r.1) (fitting_with 0 room records) ≡ fitting room (map (λ r. r.1) records)
fitting-records room [] = refl
fitting-records room (r ∷ records) = rw (none_more (record_length r.1))
    (by (nat_le (record_length r.1) room) (fitting-records (room - record_length r.1) records))
  where
    by : (b : Bool) → map (λ r. r.1) (fitting_with 0 (room - record_length r.1) records)
        ≡ fitting (room - record_length r.1) (map (λ r. r.1) records)
        → map (λ r. r.1) (cond b (r ∷ fitting_with 0 (room - record_length r.1) records) [])
        ≡ cond b (r.1 ∷ fitting (room - record_length r.1) (map (λ r. r.1) records)) []
    by true rest = ap (λ l. r.1 ∷ l) rest
    by false rest = refl

-- the names with their entries
pub fitting-pairs : (valid room : ℕ) (records : List (ℕ × Dirent))
    → map (lead_pair valid) (fitting_with 128 room records) ≡ fitting_pairs room (map (lead_pair valid) records)
fitting-pairs valid room [] = refl
fitting-pairs valid room (r ∷ records) = by (nat_le (128 + record_length r.1) room)
    (fitting-pairs valid (room - (128 + record_length r.1)) records)
  where
    by : (b : Bool) → map (lead_pair valid) (fitting_with 128 (room - (128 + record_length r.1)) records)
        ≡ fitting_pairs (room - (128 + record_length r.1)) (map (lead_pair valid) records)
        → map (lead_pair valid) (cond b (r ∷ fitting_with 128 (room - (128 + record_length r.1)) records) [])
        ≡ cond b (lead_pair valid r ∷ fitting_pairs (room - (128 + record_length r.1))
        (map (lead_pair valid) records)) []
    by true rest = ap (λ l. lead_pair valid r ∷ l) rest
    by false rest = refl

told-either : (valid : ℕ) (r : ℕ × Dirent) → listed_by (lead_pair 0 r) ≡ listed_by (lead_pair valid r)
told-either valid r = refl

-- they have the same files however long they are valid
pub files-either : (valid : ℕ) (records : List (ℕ × Dirent))
    → files_led records ≡ files_listed (map (lead_pair valid) records)
files-either valid [] = refl
files-either valid (r ∷ records) = ap (first_listed (listed_by (lead_pair 0 r))) (files-either valid records)

map_map : {A B C : Type 0} (f : A → B) (g : B → C) (xs : List A) → map g (map f xs) ≡ map (λ x. g (f x)) xs
map_map f g [] = refl
map_map f g (x ∷ xs) = ap (λ l. g (f x) ∷ l) (map_map f g xs)

-- the records that a READDIR lists
pub names-listed : (files : Map Content) (dir after room : ℕ) (names : List Named) (records : List Record)
    → map lead_of records ≡ fitting_with 0 room (listed_names files dir after names)
    → map viewed_dirent records ≡ fitting room (map (stored_dirent files)
    (filter (λ n. nat_lt after n.cookie) (filter (λ n. nat_eq n.directory dir) names)))
names-listed files dir after room names records are =
    sym (map_map lead_of (λ r. r.1) records) ∙ ap (map (λ r. r.1)) are ∙ fitting-records room
    (listed_names files dir after names)
    ∙ ap (fitting room) (map_map (lead_in files) (λ r. r.1)
    (filter (λ n. nat_lt after n.cookie) (filter (λ n. nat_eq n.directory dir) names)))

abbrev pair_in : ℕ → Map Content → Named → DirentPlus ℕ
pair_in valid files n = record { file = Some n.file; valid = valid; dirent = stored_dirent files n }

-- the pairs that a READDIRPLUS lists
pub pairs-listed : (valid : ℕ) (files : Map Content) (dir after room : ℕ) (names : List Named) (records : List Record)
    → map lead_of records ≡ fitting_with 128 room (listed_names files dir after names)
    → map (viewed_pair valid) records ≡ fitting_pairs room
    (map (pair_in valid files) (filter (λ n. nat_lt after n.cookie) (filter (λ n. nat_eq n.directory dir) names)))
pairs-listed valid files dir after room names records are =
    sym (map_map lead_of (lead_pair valid) records) ∙ ap (map (lead_pair valid)) are ∙ fitting-pairs valid room
    (listed_names files dir after names)
    ∙ ap (fitting_pairs room) (map_map (lead_in files) (lead_pair valid)
    (filter (λ n. nat_lt after n.cookie) (filter (λ n. nat_eq n.directory dir) names)))

-- the files that they lead to
pub files-listed : (valid : ℕ) (files : Map Content) (dir after room : ℕ) (names : List Named)
    → files_led (fitting_with 128 room (listed_names files dir after names))
    ≡ files_listed (fitting_pairs room (map (pair_in valid files)
    (filter (λ n. nat_lt after n.cookie) (filter (λ n. nat_eq n.directory dir) names))))
files-listed valid files dir after room names =
    files-either valid (fitting_with 128 room (listed_names files dir after names)) ∙ ap files_listed
    (fitting-pairs valid room (listed_names files dir after names)
    ∙ ap (fitting_pairs room) (map_map (lead_in files) (lead_pair valid)
    (filter (λ n. nat_lt after n.cookie) (filter (λ n. nat_eq n.directory dir) names))))
