-- The records that follow a record.
use Rattle.std.proofs.Common.{◌≡◌, ◌<◌, ℕ, true, false, List, [], ◌∷◌, length, ap, arith}
use Rattle.std.specs.Prelude.{map}
use Rattle.fuse_replies.specs.RecordPlaces.{record_end, is_whole}
use Rattle.fuse_replies.specs.Record.{record_at, entry_record_at}
use Rattle.fuse_replies.specs.Records.{records_from, entry_records_from}
use Rattle.fuse_replies.proofs.RecordPlaces.{no_record, one_record}

pub no_more : (place : ℕ) (bytes : List ℕ) → is_whole false place bytes ≡ false → records_from place bytes ≡ []
no_more place bytes e = ap (map (record_at bytes)) (no_record false place bytes e)

pub one_more : (place : ℕ) (bytes : List ℕ) → is_whole false place bytes ≡ true
    → records_from place bytes ≡ record_at bytes place ∷ records_from (record_end false place bytes) bytes
one_more place bytes e = ap (map (record_at bytes)) (one_record false place bytes e)

pub no_more_plus : (place : ℕ) (bytes : List ℕ) → is_whole true place bytes ≡ false
    → entry_records_from place bytes ≡ []
no_more_plus place bytes e = ap (map (entry_record_at bytes)) (no_record true place bytes e)

pub one_more_plus : (place : ℕ) (bytes : List ℕ) → is_whole true place bytes ≡ true
    → entry_records_from place bytes
    ≡ entry_record_at bytes place ∷ entry_records_from (record_end true place bytes) bytes
one_more_plus place bytes e = ap (map (entry_record_at bytes)) (one_record true place bytes e)

-- There are fewer behind a record.
pub fewer : (end place : ℕ) (bytes : List ℕ) → is_whole false place bytes ≡ true → end ≡ record_end false place bytes
    → length (records_from end bytes) < length (records_from place bytes)
fewer end place bytes e there = rw there (omega (arith, ap length (one_more place bytes e)))

pub fewer_plus : (end place : ℕ) (bytes : List ℕ) → is_whole true place bytes ≡ true → end ≡ record_end true place bytes
    → length (entry_records_from end bytes) < length (entry_records_from place bytes)
fewer_plus end place bytes e there = rw there (omega (arith, ap length (one_more_plus place bytes e)))
