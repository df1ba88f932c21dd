-- Lists of records in a frame, each after this many other bytes.
use Rattle.std.proofs.Common.{◌≡◌, ℕ, Bool, true, false, zero, suc, ◌+◌, ◌-◌, ◌*◌, ◌≤◌, ◌<◌, List, [], ◌∷◌, length, refl, sym, ap, subst, ◌∙◌, arith, add-one}
use Rattle.std.proofs.Common.{drop, take}
use Rattle.std.specs.Prelude.{◌↔◌}
use Rattle.std.proofs.lemmas.List.{length-take-le, length-drop}
use Rattle.fk_wire.specs.declared.records.Records.{Records}
use Rattle.fk_wire.specs.declared.records_plus.RecordsPlus.{RecordsPlus}
use Rattle.fk_wire.specs.Fields.{Field, IsRecordName, number_at, bytes_at, bytes_of, ReadsAs, HaveNames, sizes}
use Rattle.fk_wire.specs.RecordEnds.{padding, padded, name_length, name_at, record_place, record_end, end_from, NamesFrom, TimesFrom}
use Rattle.fk_wire.specs.Entries.{EntryContent, missing, found, entry_fields, entry_at}
use Rattle.fk_wire.specs.Dirents.{DirentContent, DirentPlusContent, dirent_fields, dirents, dirent_at, dirents_from, direntpluses, direntpluses_from, HaveRecordNames, HavePlusNames, HaveEntries}
use Rattle.fk_wire.specs.Records.{records_in, pluses_in, AreRecords, AreRecordsPlus, RecordsFaultIs, PlusFaultIs}
use Rattle.fk_wire.specs.declared.fault.WireFault.{WireFault}
use Rattle.fk_wire.specs.declared.fault.WireFault.TheVariants as faults
use Rattle.fk_wire.proofs.EntryFields.{is_entry, is_timed, entry_reads, entry_is}

-- ---- where records end

-- a record comes no earlier than what is in front of it
pub record_after : (plus : Bool) (place : ℕ) → place ≤ record_place plus place
record_after true place = omega arith
record_after false place = omega arith

-- records end where they begin, or after
pub ends_after : (plus : Bool) (count place : ℕ) (bytes : List ℕ) → place ≤ end_from plus count place bytes
unfolding end_from record_end
ends_after plus zero place bytes = omega arith
ends_after plus (suc count) place bytes = let k =
    ends_after plus count (record_end plus place bytes) bytes in omega (arith, k, record_after plus place)

-- the first of some records is inside
pub first_inside : (plus : Bool) (left place : ℕ) (bytes : List ℕ) → 0 < left
    → end_from plus left place bytes ≡ length bytes
    → (record_end plus place bytes ≡ record_place plus place + 24 + padded
    (name_length (record_place plus place) bytes)) × (record_end plus place bytes ≤ length bytes)
    × (end_from plus (left - 1) (record_end plus place bytes) bytes ≡ length bytes)
unfolding end_from record_end
first_inside plus zero place bytes some h = absurd (omega arith)
first_inside plus (suc count) place bytes some h =
    let k = ends_after plus count (record_end plus place bytes) bytes in
    let back : suc count - 1 ≡ count = omega arith in
    (refl, omega (arith, k), rw back h)

-- one record more
next_end : (plus : Bool) (count place : ℕ) (bytes : List ℕ)
    → end_from plus (suc count) place bytes ≡ record_end plus (end_from plus count place bytes) bytes
unfolding end_from
next_end plus zero place bytes = refl
next_end plus (suc count) place bytes = next_end plus count (record_end plus place bytes) bytes

pub one_more : (plus : Bool) (count place : ℕ) (bytes : List ℕ)
    → end_from plus (count + 1) place bytes ≡ record_place plus (end_from plus count place bytes) + 24 + padded
    (name_length (record_place plus (end_from plus count place bytes)) bytes)
unfolding record_end
one_more plus count place bytes = rw add-one (next_end plus count place bytes)

pub none_yet : (plus : Bool) (place : ℕ) (bytes : List ℕ) → end_from plus 0 place bytes ≡ place
unfolding end_from
none_yet plus place bytes = refl

-- where records do not reach the end after this many, none more do, if the next does not fit
pub no_records : (plus : Bool) (n place : ℕ) (bytes : List ℕ) (count : ℕ) → end_from plus n place bytes < length bytes
    → length bytes < record_place plus (end_from plus n place bytes) + 24 + padded
    (name_length (record_place plus (end_from plus n place bytes)) bytes)
    → end_from plus count place bytes ≡ length bytes → ⊥
unfolding end_from record_end
no_records plus zero place bytes zero short long e = absurd (omega arith)
no_records plus zero place bytes (suc count) short long e = let k =
    ends_after plus count (record_end plus place bytes) bytes in absurd (omega (arith, k, record_after plus place))
no_records plus (suc n) place bytes zero short long e = let k =
    ends_after plus n (record_end plus place bytes) bytes in absurd (omega (arith, k, record_after plus place))
no_records plus (suc n) place bytes (suc count) short long e =
    no_records plus n (record_end plus place bytes) bytes count short long e

pub no_names_yet : (plus : Bool) (place : ℕ) (bytes : List ℕ) → NamesFrom plus 0 place bytes
unfolding NamesFrom
no_names_yet plus place bytes = tt

-- what a count of records goes by
pub ruleset counted_records = (none_yet, no_names_yet, no_records, one_more, record_after)

-- there is one number of records
pub one_count : (plus : Bool) (a b place : ℕ) (bytes : List ℕ)
    → end_from plus a place bytes ≡ end_from plus b place bytes → a ≡ b
unfolding end_from record_end
one_count plus zero zero place bytes e = refl
one_count plus zero (suc b) place bytes e = let k =
    ends_after plus b (record_end plus place bytes) bytes in absurd (omega (arith, k, record_after plus place))
one_count plus (suc a) zero place bytes e = let k =
    ends_after plus a (record_end plus place bytes) bytes in absurd (omega (arith, k, record_after plus place))
one_count plus (suc a) (suc b) place bytes e = ap suc (one_count plus a b (record_end plus place bytes) bytes e)

-- ---- names and times on the way

-- the name of one record more
next_name : (plus : Bool) (count place : ℕ) (bytes : List ℕ)
    → NamesFrom plus (suc count) place bytes ↔ (NamesFrom plus count place bytes × IsRecordName
    (name_at (record_place plus (end_from plus count place bytes)) bytes))
unfolding NamesFrom end_from
next_name plus zero place bytes = ((λ h. (tt, h.0)), (λ h. (h.1, tt)))
next_name plus (suc count) place bytes =
    let rest = next_name plus count (record_end plus place bytes) bytes in (
      (λ h. ((h.0, (rest.0 h.1).0), (rest.0 h.1).1)),
      (λ h. (h.0.0, rest.1 (h.0.1, h.1))),
    )

pub one_more_name : (plus : Bool) (count place : ℕ) (bytes : List ℕ)
    → NamesFrom plus (count + 1) place bytes ↔ (NamesFrom plus count place bytes × IsRecordName
    (name_at (record_place plus (end_from plus count place bytes)) bytes))
one_more_name plus count place bytes = rw add-one (next_name plus count place bytes)

pub first_name : (plus : Bool) (left place : ℕ) (bytes : List ℕ) → 0 < left
    → NamesFrom plus left place bytes ↔ (IsRecordName (name_at (record_place plus place) bytes)
    × NamesFrom plus (left - 1) (record_end plus place bytes) bytes)
unfolding NamesFrom
first_name plus zero place bytes some = absurd (omega arith)
first_name plus (suc count) place bytes some =
    let back : suc count - 1 ≡ count = omega arith in
    rw back ((λ h. h), (λ h. h))

pub no_more_names : (plus : Bool) (left place : ℕ) (bytes : List ℕ) → left ≤ 0 → NamesFrom plus left place bytes
unfolding NamesFrom
no_more_names plus zero place bytes none = tt
no_more_names plus (suc left) place bytes none = absurd (omega arith)

pub first_time : (left place : ℕ) (bytes : List ℕ) → 0 < left
    → TimesFrom left place bytes ↔ ((number_at (place + 32) 4 bytes ≤ 999999999)
    × TimesFrom (left - 1) (record_end true place bytes) bytes)
unfolding TimesFrom
first_time zero place bytes some = absurd (omega arith)
first_time (suc count) place bytes some =
    let back : suc count - 1 ≡ count = omega arith in
    rw back ((λ h. h), (λ h. h))

pub no_more_times : (left place : ℕ) (bytes : List ℕ) → left ≤ 0 → TimesFrom left place bytes
unfolding TimesFrom
no_more_times zero place bytes none = tt
no_more_times (suc left) place bytes none = absurd (omega arith)

pub names_are : (count place : ℕ) (bytes : List ℕ) → NamesFrom false count place bytes
    → HaveRecordNames (dirents_from count place bytes)
unfolding NamesFrom
names_are zero place bytes h = tt
names_are (suc count) place bytes h = (h.0, names_are count (record_end false place bytes) bytes h.1)

pub names_of : (count place : ℕ) (bytes : List ℕ) → HaveRecordNames (dirents_from count place bytes)
    → NamesFrom false count place bytes
unfolding NamesFrom
names_of zero place bytes h = tt
names_of (suc count) place bytes h = (h.0, names_of count (record_end false place bytes) bytes h.1)

pub plus_names_are : (count place : ℕ) (bytes : List ℕ) → NamesFrom true count place bytes
    → HavePlusNames (direntpluses_from count place bytes)
unfolding NamesFrom
plus_names_are zero place bytes h = tt
plus_names_are (suc count) place bytes h = (h.0, plus_names_are count (record_end true place bytes) bytes h.1)

pub plus_names_of : (count place : ℕ) (bytes : List ℕ) → HavePlusNames (direntpluses_from count place bytes)
    → NamesFrom true count place bytes
unfolding NamesFrom
plus_names_of zero place bytes h = tt
plus_names_of (suc count) place bytes h = (h.0, plus_names_of count (record_end true place bytes) bytes h.1)

pub times_are : (count place : ℕ) (bytes : List ℕ) → TimesFrom count place bytes
    → HaveEntries (direntpluses_from count place bytes)
unfolding TimesFrom
times_are zero place bytes h = tt
times_are (suc count) place bytes h = (is_entry _ _ _ _ _ h.0, times_are count (record_end true place bytes) bytes h.1)

pub times_of : (count place : ℕ) (bytes : List ℕ) → HaveEntries (direntpluses_from count place bytes)
    → TimesFrom count place bytes
unfolding TimesFrom
times_of zero place bytes h = tt
times_of (suc count) place bytes h = (is_timed _ _ _ _ _ h.0, times_of count (record_end true place bytes) bytes h.1)

pub records_are_named : (r : Records) → HaveRecordNames (records_in r)
records_are_named r = names_are r.left r.place r.bytes.now r.named

pub pluses_are_named : (r : RecordsPlus) → HavePlusNames (pluses_in r)
pluses_are_named r = plus_names_are r.left r.place r.bytes.now r.named

pub pluses_are_timed : (r : RecordsPlus) → HaveEntries (pluses_in r)
pluses_are_timed r = times_are r.left r.place r.bytes.now r.timed

-- ---- one record

-- a record whose name is inside is read as itself
dirent_reads : (place : ℕ) (after : List Field) (bytes : List ℕ)
    → place + 24 + padded (name_length place bytes) ≤ length bytes
    → ReadsAs (place + 24 + padded (name_length place bytes)) after bytes
    → ReadsAs place (dirent_fields (dirent_at place bytes) after) bytes
unfolding bytes_at
dirent_reads place after bytes inside h =
    let len = name_length place bytes in
    let name = bytes_at (place + 24) len bytes in
    let size : length name ≡ len = length-take-le len (drop (place + 24) bytes)
    (omega (arith, length-drop (place + 24) bytes)) in
    let there : place + 24 + padded len ≡ place + 8 + 8 + 4 + 4 + length name + padding (length name) =
    rw size (omega arith) in
    let p24 : place + 8 + 8 + 4 + 4 ≡ place + 24 = omega arith in
    let p20 : place + 8 + 8 + 4 ≡ place + 20 = omega arith in
    let p16 : place + 8 + 8 ≡ place + 16 = omega arith in
    let named : bytes_at (place + 8 + 8 + 4 + 4) (length name) bytes ≡ name = rw (p24, size) refl in (
      refl,
      (
        refl,
        (
          rw (p16, size) refl,
          (
            ap (λ (p : ℕ). number_at p 4 bytes) p20,
            (named, subst (λ (p : ℕ). ReadsAs p after bytes) there h),
          ),
        ),
      ),
    )

-- a record that is read is the one that stands there
dirent_is : (d : DirentContent) (place : ℕ) (after : List Field) (bytes : List ℕ)
    → ReadsAs place (dirent_fields d after) bytes → (dirent_at place bytes ≡ d)
    × ReadsAs (place + 24 + padded (name_length place bytes)) after bytes
dirent_is d place after bytes h =
    let p16 : place + 8 + 8 ≡ place + 16 = omega arith in
    let p20 : place + 8 + 8 + 4 ≡ place + 20 = omega arith in
    let p24 : place + 8 + 8 + 4 + 4 ≡ place + 24 = omega arith in
    let size : name_length place bytes ≡ length d.name = ap (λ (p : ℕ). number_at p 4 bytes) (sym p16) ∙ h.1.1.0 in
    let kind : number_at (place + 20) 4 bytes ≡ d.kind = ap (λ (p : ℕ). number_at p 4 bytes) (sym p20) ∙ h.1.1.1.0 in
    let name : bytes_at (place + 24) (name_length place bytes) bytes ≡ d.name =
    ap (λ (p : ℕ). bytes_at p (name_length place bytes) bytes) (sym p24) ∙ ap
    (λ (n : ℕ). bytes_at (place + 8 + 8 + 4 + 4) n bytes) size ∙ h.1.1.1.1.0 in
    let there : place + 8 + 8 + 4 + 4 + length d.name + padding (length d.name)
    ≡ place + 24 + padded (name_length place bytes) = rw size (omega arith) in
    (rw (h.0, h.1.0, kind, name) refl, subst (λ (p : ℕ). ReadsAs p after bytes) there h.1.1.1.1.1)

-- how many bytes a record has whose name is inside
dirent_size : (place : ℕ) (after : List Field) (bytes : List ℕ)
    → place + 24 + padded (name_length place bytes) ≤ length bytes
    → sizes (dirent_fields (dirent_at place bytes) after) ≡ 24 + padded (name_length place bytes) + sizes after
unfolding bytes_at
dirent_size place after bytes inside =
    let len = name_length place bytes in
    let size : length (bytes_at (place + 24) len bytes) ≡ len =
    length-take-le len (drop (place + 24) bytes) (omega (arith, length-drop (place + 24) bytes)) in
    rw size (omega arith)

-- ---- records

-- records that reach the end are read as themselves
pub dirents_read : (count place : ℕ) (bytes : List ℕ) → end_from false count place bytes ≡ length bytes
    → ReadsAs place (dirents (dirents_from count place bytes)) bytes
unfolding end_from record_end
dirents_read zero place bytes e = sym e
dirents_read (suc count) place bytes e =
    let k = ends_after false count (record_end false place bytes) bytes in
    dirent_reads place (dirents (dirents_from count (record_end false place bytes) bytes)) bytes (omega (arith, k))
    (dirents_read count (record_end false place bytes) bytes e)

-- what reads as records is their list
pub one_dirent_list : (ds : List DirentContent) (place : ℕ) (bytes : List ℕ) → ReadsAs place (dirents ds) bytes
    → (dirents_from (length ds) place bytes ≡ ds) × (end_from false (length ds) place bytes ≡ length bytes)
unfolding end_from record_end
one_dirent_list [] place bytes h = (refl, sym h)
one_dirent_list (d ∷ ds) place bytes h =
    let first = dirent_is d place (dirents ds) bytes h in
    let rest = one_dirent_list ds (record_end false place bytes) bytes first.1 in
    (rw (first.0, rest.0) refl, rest.1)

-- bytes that are this many records reach their end by so many steps, with a name at each
pub known_records : (ds : List DirentContent) (bytes : List ℕ) (count : ℕ) → AreRecords 0 bytes ds → length ds ≡ count
    → (end_from false count 0 bytes ≡ length bytes) × NamesFrom false count 0 bytes
known_records ds bytes count are same =
    let one = one_dirent_list ds 0 bytes are.1 in
    let names : NamesFrom false (length ds) 0 bytes =
    names_of (length ds) 0 bytes (subst HaveRecordNames (sym one.0) are.0) in (
      subst (λ (n : ℕ). end_from false n 0 bytes ≡ length bytes) same one.1,
      subst (λ (n : ℕ). NamesFrom false n 0 bytes) same names,
    )

pub sizes_of_dirents : (count place : ℕ) (bytes : List ℕ) → end_from false count place bytes ≡ length bytes
    → place + sizes (dirents (dirents_from count place bytes)) ≡ length bytes
unfolding end_from record_end
sizes_of_dirents zero place bytes e = omega (arith, e)
sizes_of_dirents (suc count) place bytes e =
    let k = ends_after false count (record_end false place bytes) bytes in
    let rest = sizes_of_dirents count (record_end false place bytes) bytes e in
    omega (
      arith,
      rest,
      dirent_size place (dirents (dirents_from count (record_end false place bytes) bytes)) bytes
          (omega (arith, k)),
    )

pub records_left : (r : Records) → r.place + sizes (dirents (records_in r)) ≡ length r.bytes.now
records_left r = sizes_of_dirents r.left r.place r.bytes.now r.ends

pub dirents_are_named : (ds : List DirentContent) → HaveNames (dirents ds)
dirents_are_named [] = tt
dirents_are_named (d ∷ ds) = dirents_are_named ds

-- ---- pairs

pub direntpluses_read : (count place : ℕ) (bytes : List ℕ) → end_from true count place bytes ≡ length bytes
    → ReadsAs place (direntpluses (direntpluses_from count place bytes)) bytes
unfolding end_from record_end
direntpluses_read zero place bytes e = sym e
direntpluses_read (suc count) place bytes e =
    let k = ends_after true count (record_end true place bytes) bytes in
    let rest = direntpluses (direntpluses_from count (record_end true place bytes) bytes) in
    entry_reads place (dirent_fields (dirent_at (place + 128) bytes) rest) bytes
    (dirent_reads (place + 128) rest bytes (omega (arith, k))
    (direntpluses_read count (record_end true place bytes) bytes e))

pub one_plus_list : (ps : List DirentPlusContent) (place : ℕ) (bytes : List ℕ) → HaveEntries ps
    → ReadsAs place (direntpluses ps) bytes → (direntpluses_from (length ps) place bytes ≡ ps)
    × (end_from true (length ps) place bytes ≡ length bytes)
unfolding end_from record_end
one_plus_list [] place bytes good h = (refl, sym h)
one_plus_list (p ∷ ps) place bytes good h =
    let there : place + 128 ≡ 128 + place = omega arith in
    let entry = entry_is p.entry_out place (dirent_fields p.dirent (direntpluses ps)) bytes good.0 h in
    let first = dirent_is p.dirent (place + 128) (direntpluses ps) bytes entry.2 in
    let rest = one_plus_list ps (record_end true place bytes) bytes good.1 first.1 in
    (rw (entry.0, first.0, rest.0) refl, rest.1)

entry_size : (e : EntryContent) (after : List Field) → sizes (entry_fields e after) ≡ 128 + sizes after
entry_size (missing valid nsec) after = omega arith
entry_size (found nodeid generation valid nsec a) after = omega arith

pub sizes_of_direntpluses : (count place : ℕ) (bytes : List ℕ) → end_from true count place bytes ≡ length bytes
    → place + sizes (direntpluses (direntpluses_from count place bytes)) ≡ length bytes
unfolding end_from record_end
sizes_of_direntpluses zero place bytes e = omega (arith, e)
sizes_of_direntpluses (suc count) place bytes e =
    let k = ends_after true count (record_end true place bytes) bytes in
    let after = direntpluses (direntpluses_from count (record_end true place bytes) bytes) in
    let rest = sizes_of_direntpluses count (record_end true place bytes) bytes e in
    omega (
      arith,
      rest,
      entry_size (entry_at place bytes) (dirent_fields (dirent_at (place + 128) bytes) after),
      dirent_size (place + 128) after bytes (omega (arith, k)),
    )

pub pluses_left : (r : RecordsPlus) → r.place + sizes (direntpluses (pluses_in r)) ≡ length r.bytes.now
pluses_left r = sizes_of_direntpluses r.left r.place r.bytes.now r.ends

direntpluses_count : (count place : ℕ) (bytes : List ℕ) → length (direntpluses_from count place bytes) ≡ count
direntpluses_count zero place bytes = refl
direntpluses_count (suc count) place bytes = ap suc (direntpluses_count count (record_end true place bytes) bytes)

pub pluses_count : (r : RecordsPlus) → length (pluses_in r) ≡ r.left
pluses_count r = direntpluses_count r.left r.place r.bytes.now

-- a pair has 152 bytes at least
pairs_end_after : (count place : ℕ) (bytes : List ℕ) → place + 152 * count ≤ end_from true count place bytes
unfolding end_from record_end
pairs_end_after zero place bytes = omega arith
pairs_end_after (suc count) place bytes =
    let rest = pairs_end_after count (record_end true place bytes) bytes in
    omega (arith, rest)

pub pluses_long : (r : RecordsPlus) → 152 * r.left ≤ length r.bytes.now
pluses_long r = omega (arith, pairs_end_after r.left r.place r.bytes.now, r.ends)

entry_is_named : (e : EntryContent) (after : List Field) → HaveNames after → HaveNames (entry_fields e after)
entry_is_named (missing valid nsec) after h = h
entry_is_named (found nodeid generation valid nsec a) after h = h

pub direntpluses_are_named : (ps : List DirentPlusContent) → HaveNames (direntpluses ps)
direntpluses_are_named [] = tt
direntpluses_are_named (p ∷ ps) = entry_is_named p.entry_out (dirent_fields p.dirent (direntpluses ps))
    (direntpluses_are_named ps)

-- ---- faults

one_records : (place : ℕ) (bytes : List ℕ) (ds es : List DirentContent) → ReadsAs place (dirents ds) bytes
    → ReadsAs place (dirents es) bytes → ds ≡ es
one_records place bytes ds es h k =
    let d = one_dirent_list ds place bytes h in
    let e = one_dirent_list es place bytes k in
    let count : length ds ≡ length es = one_count false (length ds) (length es) place bytes (d.1 ∙ sym e.1) in
    sym d.0 ∙ ap (λ (n : ℕ). dirents_from n place bytes) count ∙ e.0

-- bytes that are not read as records are none
pub no_record_list : (place : ℕ) (bytes : List ℕ) (f : WireFault) → RecordsFaultIs place bytes f
    → (ds : List DirentContent) → AreRecords place bytes ds → ⊥
no_record_list place bytes faults.Body x ds h = x ds h.1
no_record_list place bytes faults.Name x ds h = x.2 (subst HaveRecordNames (one_records place bytes ds x.0 h.1 x.1) h.0)
no_record_list place bytes faults.Short x ds h = x
no_record_list place bytes faults.Length x ds h = x
no_record_list place bytes faults.Opcode x ds h = x
no_record_list place bytes faults.ErrorRange x ds h = x
no_record_list place bytes faults.Memory x ds h = x

one_pluses : (place : ℕ) (bytes : List ℕ) (ps qs : List DirentPlusContent) → HaveEntries ps → HaveEntries qs
    → ReadsAs place (direntpluses ps) bytes → ReadsAs place (direntpluses qs) bytes → ps ≡ qs
one_pluses place bytes ps qs good fine h k =
    let p = one_plus_list ps place bytes good h in
    let q = one_plus_list qs place bytes fine k in
    let count : length ps ≡ length qs = one_count true (length ps) (length qs) place bytes (p.1 ∙ sym q.1) in
    sym p.0 ∙ ap (λ (n : ℕ). direntpluses_from n place bytes) count ∙ q.0

pub no_plus_list : (place : ℕ) (bytes : List ℕ) (f : WireFault) → PlusFaultIs place bytes f
    → (ps : List DirentPlusContent) → AreRecordsPlus place bytes ps → ⊥
no_plus_list place bytes faults.Body x ps h = x ps h.0 h.2
no_plus_list place bytes faults.Name x ps h = x.3
    (subst HavePlusNames (one_pluses place bytes ps x.0 h.0 x.1 h.2 x.2) h.1)
no_plus_list place bytes faults.Short x ps h = x
no_plus_list place bytes faults.Length x ps h = x
no_plus_list place bytes faults.Opcode x ps h = x
no_plus_list place bytes faults.ErrorRange x ps h = x
no_plus_list place bytes faults.Memory x ps h = x

-- ---- padding

pub few_zeros : (n : ℕ) → n < 8 → take n (0 ∷ 0 ∷ 0 ∷ 0 ∷ 0 ∷ 0 ∷ 0 ∷ 0 ∷ []) ≡ bytes_of n 0
unfolding bytes_of
few_zeros zero h = refl
few_zeros (suc zero) h = refl
few_zeros (suc (suc zero)) h = refl
few_zeros (suc (suc (suc zero))) h = refl
few_zeros (suc (suc (suc (suc zero)))) h = refl
few_zeros (suc (suc (suc (suc (suc zero))))) h = refl
few_zeros (suc (suc (suc (suc (suc (suc zero)))))) h = refl
few_zeros (suc (suc (suc (suc (suc (suc (suc zero))))))) h = refl
few_zeros (suc (suc (suc (suc (suc (suc (suc (suc n)))))))) h = absurd (omega arith)
