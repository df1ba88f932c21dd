-- The codec's records are the table's.
use Rattle.std.proofs.Common.{◌≡◌, ◌≤◌, ℕ, Bool, true, false, zero, suc, ◌+◌, List, [], ◌∷◌, length, refl, sym, ap, ◌∙◌, arith}
use Rattle.std.proofs.lemmas.Bool.{le-leb}
use Rattle.std.specs.Prelude.{map}
use Rattle.fk_fields.specs.Fields.{number_at, bytes_at, IsRecordName}
use Rattle.fk_wire.specs.RecordEnds.{end_from}
use Rattle.fk_wire.specs.RecordEnds.{record_end as codec_end}
use Rattle.fk_wire.specs.Dirents.{DirentContent, DirentPlusContent, dirents_from, direntpluses_from, HaveRecordNames, HavePlusNames}
use Rattle.fk_wire.proofs.RecordLists.{ends_after}
use Rattle.fuse_protocol.specs.declared.agreed.Agreed.{Agreed}
use Rattle.fuse_protocol.specs.declared.names.NameRule.TheVariants as rule
use Rattle.fuse_protocol.specs.Names.{IsNameBy}
use Rattle.fuse_replies.specs.RecordPlaces.{front, record_end, is_whole}
use Rattle.fuse_replies.specs.Record.{RecordContent, EntryRecordContent, record_at, entry_record_at}
use Rattle.fuse_replies.specs.Records.{records_from, entry_records_from, AreListed, AreListedPlus}
use Rattle.fuse_replies.proofs.RecordPlaces.{past_end}
use Rattle.fuse_replies.proofs.RecordLists.{no_more, one_more, no_more_plus, one_more_plus}
use Rattle.protocol_law.specs.Law.{Carries}
use Rattle.protocol_law.specs.ReplyLaw.{dirent_said, dirent_plus_said}

-- Both end a record at one place.
same_end : (plus : Bool) (place : ℕ) (bytes : List ℕ) → codec_end plus place bytes ≡ record_end plus place bytes
unfolding codec_end
same_end true place bytes =
    let here : number_at (place + 128 + 16) 4 bytes ≡ number_at (place + 144) 4 bytes =
    ap (λ (n : ℕ). number_at n 4 bytes) (omega arith) in
    rw here (omega arith)
same_end false place bytes = omega arith

-- A record that ends in the bytes is whole.
is_inside : (plus : Bool) (place : ℕ) (bytes : List ℕ) → record_end plus place bytes ≤ length bytes
    → is_whole plus place bytes ≡ true
is_inside plus place bytes le =
    let head : place + (front plus + 24) ≤ length bytes = omega (arith, le) in
    let end = le-leb (record_end plus place bytes) (length bytes) le in
    rw (le-leb (place + (front plus + 24)) (length bytes) head, end) refl

pub listed : (count place : ℕ) (bytes : List ℕ) → end_from false count place bytes ≡ length bytes
    → map dirent_said (records_from place bytes) ≡ dirents_from count place bytes
unfolding end_from bytes_at
listed zero place bytes e = ap (map dirent_said) (no_more place bytes (past_end false place bytes (omega (arith, e))))
listed (suc count) place bytes e =
    let there = same_end false place bytes in
    let within = ends_after false count (codec_end false place bytes) bytes in
    let whole = is_inside false place bytes (omega (arith, there, within, e)) in
    let rest : map dirent_said (records_from (record_end false place bytes) bytes)
    ≡ dirents_from count (codec_end false place bytes) bytes =
    ap (λ (n : ℕ). map dirent_said (records_from n bytes)) (sym there)
    ∙ listed count (codec_end false place bytes) bytes e in
    ap (map dirent_said) (one_more place bytes whole)
    ∙ ap (λ (ds : List DirentContent). dirent_said (record_at bytes place) ∷ ds) rest

pub listed_plus : (count place : ℕ) (bytes : List ℕ) → end_from true count place bytes ≡ length bytes
    → map dirent_plus_said (entry_records_from place bytes) ≡ direntpluses_from count place bytes
unfolding end_from bytes_at
listed_plus zero place bytes e =
    ap (map dirent_plus_said) (no_more_plus place bytes (past_end true place bytes (omega (arith, e))))
listed_plus (suc count) place bytes e =
    let there = same_end true place bytes in
    let within = ends_after true count (codec_end true place bytes) bytes in
    let whole = is_inside true place bytes (omega (arith, there, within, e)) in
    let rest : map dirent_plus_said (entry_records_from (record_end true place bytes) bytes)
    ≡ direntpluses_from count (codec_end true place bytes) bytes =
    ap (λ (n : ℕ). map dirent_plus_said (entry_records_from n bytes)) (sym there)
    ∙ listed_plus count (codec_end true place bytes) bytes e in
    ap (map dirent_plus_said) (one_more_plus place bytes whole)
    ∙ ap (λ (ds : List DirentPlusContent). dirent_plus_said (entry_record_at bytes place) ∷ ds) rest

-- A record's name of the codec's is one of a listing.
is_listed : (agreed : Agreed) (name : List ℕ) → Carries agreed → IsRecordName name → IsNameBy agreed rule.Listed name
is_listed agreed name fits is = record {
  some = is.some;
  short = omega (arith, is.short, fits.names);
  no_nul = λ k d lt. (is.plain k d lt).0;
  plain = λ k d lt. (is.plain k d lt).1;
}

pub are_listed : (agreed : Agreed) (rs : List RecordContent) → Carries agreed → HaveRecordNames (map dirent_said rs)
    → AreListed agreed rs
are_listed agreed [] fits h = tt
are_listed agreed (r ∷ rs) fits h = (is_listed agreed r.name fits h.0, are_listed agreed rs fits h.1)

pub are_listed_plus : (agreed : Agreed) (rs : List EntryRecordContent) → Carries agreed
    → HavePlusNames (map dirent_plus_said rs) → AreListedPlus agreed rs
are_listed_plus agreed [] fits h = tt
are_listed_plus agreed (r ∷ rs) fits h = (is_listed agreed r.said.name fits h.0, are_listed_plus agreed rs fits h.1)
