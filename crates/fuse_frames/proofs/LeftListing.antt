-- What is left of a list of names with their entries while it is written.
use Rattle.std.proofs.Common.{◌≡◌, ◌≤◌, ◌<◌, ℕ, ◌+◌, List, [], ◌∷◌, ◌++◌, drop, get_or, length, refl, sym, ap, subst, ◌∙◌, arith, append_assoc}
use Rattle.std.proofs.lemmas.List.{append-nil, at_drop_more, drop_all, length-append}
use Rattle.fk_wire.specs.Fields.{InRange, IsRecordName, spellings}
use Rattle.fk_wire.specs.Entries.{EntryContent, entry_fields}
use Rattle.fk_wire.specs.Dirents.{DirentContent, dirent_fields, dirents, direntpluses, HaveRecordNames}
use Rattle.fk_wire.proofs.Spelled.{dirent_and, pair_and, pair_in_range}
use Rattle.fuse_spec.specs.declared.Entry.{Entry}
use Rattle.fuse_spec.specs.declared.Kind.TheVariants.{Directory}
use Rattle.fuse_frames.specs.ReplyTies.{pairs_listed, AreWritten}
use Rattle.fuse_frames.proofs.ListedPairs.{listed}

-- These bytes are the records of names to each of which an entry is left, and after them all is written.
pub record IsLeft (valid : ℕ) (entries : List Entry) (bytes out all : List ℕ) (InAll : Type 0) : Type 0 where
  pub rest : List DirentContent
  pub together : length entries ≡ length rest
  pub named : HaveRecordNames rest
  pub fit : InRange (dirents rest)
  pub spelled : bytes ≡ spellings (dirents rest)
  pub items : out ++ spellings (direntpluses (pairs_listed valid entries rest)) ≡ all
  pub fits : InRange (direntpluses (pairs_listed valid entries rest)) → InAll

-- before the first
pub all_left : (valid : ℕ) (entries : List Entry) (ds : List DirentContent) (bytes out : List ℕ) → AreWritten ds bytes
    → length entries ≡ length ds
    → IsLeft valid entries bytes out (out ++ spellings (direntpluses (pairs_listed valid entries ds)))
    (InRange (direntpluses (pairs_listed valid entries ds)))
all_left valid entries ds bytes out are together = record {
  rest = ds;
  together = together;
  named = are.named;
  fit = are.fit;
  spelled = are.spelled;
  items = refl;
  fits = λ h. h;
}

abbrev pub no_entry : Entry
no_entry = record { nodeid = 0; generation = 0; attributes = record { kind = Directory; ino = 0; size = 0; nlink = 0 } }

module _ (valid : ℕ) (bytes out all : List ℕ) (InAll : Type 0) where
  none_left : IsLeft valid [] bytes out all InAll → (out ≡ all) × InAll
  none_left left = (sym (append-nil out) ∙ left.items, left.fits tt)

  module _ (entries : List Entry) (place : ℕ) (left : IsLeft valid (drop place entries) bytes out all InAll) where
    -- at a place before the end
    pub at_place : place < length entries
        → IsLeft valid (get_or entries place no_entry ∷ drop (place + 1) entries) bytes out all InAll
    at_place inside = subst (λ (es : List Entry). IsLeft valid es bytes out all InAll)
        (at_drop_more (λ (es : List Entry). es) entries place no_entry inside) left

    -- at the end
    pub at_end : length entries ≤ place → (out ≡ all) × InAll
    at_end past = none_left (subst (λ (es : List Entry). IsLeft valid es bytes out all InAll)
        (drop_all place entries past) left)

  module _ (e : Entry) (es : List Entry) where
    -- what a first record asks
    pub is_split : IsLeft valid (e ∷ es) bytes out all InAll → (d : DirentContent) × (ds : List DirentContent)
        × IsRecordName d.name × InRange (dirents (d ∷ ds)) × (bytes ≡ spellings (dirents (d ∷ ds)))
    is_split left = by left.rest left.together left.named left.fit left.spelled
      where
        by : (rest : List DirentContent) → length (e ∷ es) ≡ length rest → HaveRecordNames rest → InRange (dirents rest)
            → bytes ≡ spellings (dirents rest) → (d : DirentContent) × (ds : List DirentContent)
            × IsRecordName d.name × InRange (dirents (d ∷ ds)) × (bytes ≡ spellings (dirents (d ∷ ds)))
        by [] together named fit is = absurd (omega (arith, together))
        by (d ∷ ds) together named fit is = (d, ds, named.0, fit, is)

    -- a record and the others are all that is left
    pub shares : IsLeft valid (e ∷ es) bytes out all InAll → (record' others : List ℕ)
        → ((d : DirentContent) (ds : List DirentContent) → InRange (dirents (d ∷ ds)) → bytes ≡ spellings (dirents (d ∷ ds))
        → (record' ≡ spellings (dirent_fields d [])) × (others ≡ spellings (dirents ds)))
        → length bytes ≡ length record' + length others
    shares left record' others split =
        let first = is_split left in
        let d = first.0 in
        let ds = first.1 in
        let parts = split d ds first.3 first.4 in
        let whole : bytes ≡ record' ++ others = first.4 ∙ dirent_and d (dirents ds)
        ∙ ap (λ (x : List ℕ). x ++ spellings (dirents ds)) (sym parts.0) ∙ ap (λ (x : List ℕ). record' ++ x) (sym parts.1) in
        ap (λ (x : List ℕ). length x) whole ∙ length-append record' others

    -- one name more
    pub one_less : IsLeft valid (e ∷ es) bytes out all InAll → (entry : EntryContent) (record' others new : List ℕ)
        → ((d : DirentContent) (ds : List DirentContent) → InRange (dirents (d ∷ ds)) → bytes ≡ spellings (dirents (d ∷ ds))
        → (record' ≡ spellings (dirent_fields d [])) × (others ≡ spellings (dirents ds)))
        → ((d : DirentContent) → entry ≡ (listed valid e d).entry_out)
        → new ≡ out ++ (spellings (entry_fields entry []) ++ record') → InRange (entry_fields entry [])
        → IsLeft valid es others new all InAll
    one_less left entry record' others new split same put range = by left.rest left.together left.named left.fit
        left.spelled left.items left.fits
      where
        by : (rest : List DirentContent) → length (e ∷ es) ≡ length rest → HaveRecordNames rest → InRange (dirents rest)
            → bytes ≡ spellings (dirents rest) → out ++ spellings (direntpluses (pairs_listed valid (e ∷ es) rest)) ≡ all
            → (InRange (direntpluses (pairs_listed valid (e ∷ es) rest)) → InAll)
            → IsLeft valid es others new all InAll
        by [] together named fit is items fits = absurd (omega (arith, together))
        by (d ∷ ds) together named fit is items fits =
            let parts = split d ds fit is in
            let p = listed valid e d in
            let put_entry = spellings (entry_fields p.entry_out []) in
            let mid = out ++ put_entry in
            let whole : new ≡ mid ++ spellings (dirent_fields d []) =
            put ∙ ap (λ (x : EntryContent). out ++ (spellings (entry_fields x []) ++ record')) (same d)
            ∙ ap (λ (x : List ℕ). out ++ (put_entry ++ x)) parts.0
            ∙ sym (append_assoc out put_entry (spellings (dirent_fields d []))) in
            let entry_fits : InRange (entry_fields p.entry_out []) =
            subst (λ (x : EntryContent). InRange (entry_fields x [])) (same d) range in
            record {
              rest = ds;
              together = omega (arith, together);
              named = named.1;
              fit = fit.1.1.1.1;
              spelled = parts.1;
              items = pair_and p (pairs_listed valid es ds) out mid new refl whole items;
              fits = λ h. fits (pair_in_range p (pairs_listed valid es ds) entry_fits
                  (fit.0, (fit.1.0, (fit.1.1.0, (fit.1.1.1.0, tt)))) h);
            }
