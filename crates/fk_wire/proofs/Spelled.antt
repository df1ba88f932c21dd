-- A first record or entry, and what follows it, as they are written.
use Rattle.std.proofs.Common.{◌≡◌, ℕ, ◌+◌, List, [], ◌∷◌, ◌++◌, append_assoc, arith, sym, ap, ◌∙◌}
use Rattle.std.proofs.lemmas.List.{append-nil}
use Rattle.fk_wire.specs.Fields.{Field, InRange, sizes, spellings}
use Rattle.fk_wire.specs.Entries.{EntryContent, missing, found, entry_fields}
use Rattle.fk_wire.specs.Dirents.{DirentContent, DirentPlusContent, dirent_fields, direntpluses}

pub dirent_and : (d : DirentContent) (after : List Field)
    → spellings (dirent_fields d after) ≡ spellings (dirent_fields d []) ++ spellings after
dirent_and d after = simp (append_assoc, append-nil)

pub dirent_in_range : (d : DirentContent) (after : List Field) → InRange (dirent_fields d []) → InRange after
    → InRange (dirent_fields d after)
dirent_in_range d after h k = (h.0, (h.1.0, (h.1.1.0, (h.1.1.1.0, k))))

pub entry_and : (e : EntryContent) (after : List Field)
    → spellings (entry_fields e after) ≡ spellings (entry_fields e []) ++ spellings after
entry_and (missing valid nsec) after = simp (append_assoc, append-nil)
entry_and (found nodeid generation valid nsec a) after = simp (append_assoc, append-nil)

pub entry_in_range : (e : EntryContent) (after : List Field) → InRange (entry_fields e []) → InRange after
    → InRange (entry_fields e after)
entry_in_range (missing valid nsec) after h k = (h.0, (h.1.0, (h.1.1.0, k)))
entry_in_range (found nodeid generation valid nsec a) after h k =
    (h.0, (h.1.0, (h.1.1.0, (h.1.1.1.0, (h.1.1.1.1.0, (h.1.1.1.1.1.0, (h.1.1.1.1.1.1.0, (h.1.1.1.1.1.1.1.0, k))))))))

pub sizes_of_entry : (e : EntryContent) (after : List Field) → sizes (entry_fields e after) ≡ 128 + sizes after
sizes_of_entry (missing valid nsec) after = omega arith
sizes_of_entry (found nodeid generation valid nsec a) after = omega arith

-- what a written entry results in, and what follows it
pub ruleset written_entries = (entry_and, entry_in_range, sizes_of_entry)

-- a first pair, and the others
pub pair_and : (p : DirentPlusContent) (ps : List DirentPlusContent) (old mid new : List ℕ) {all : List ℕ}
    → mid ≡ old ++ spellings (entry_fields p.entry_out []) → new ≡ mid ++ spellings (dirent_fields p.dirent [])
    → old ++ spellings (direntpluses (p ∷ ps)) ≡ all → new ++ spellings (direntpluses ps) ≡ all
pair_and p ps old mid new e d whole =
    let entry = spellings (entry_fields p.entry_out []) in
    let dirent = spellings (dirent_fields p.dirent []) in
    let rest = spellings (direntpluses ps) in
    let parts : spellings (direntpluses (p ∷ ps)) ≡ entry ++ (dirent ++ rest) =
    entry_and p.entry_out (dirent_fields p.dirent (direntpluses ps)) ∙ ap (λ (x : List ℕ). entry ++ x)
    (dirent_and p.dirent (direntpluses ps)) in
    ap (λ (x : List ℕ). x ++ rest) d ∙ append_assoc mid dirent rest ∙ ap
    (λ (x : List ℕ). x ++ (dirent ++ rest)) e ∙ append_assoc old entry (dirent ++ rest) ∙ ap
    (λ (x : List ℕ). old ++ x) (sym parts) ∙ whole

pub pair_in_range : (p : DirentPlusContent) (ps : List DirentPlusContent) → InRange (entry_fields p.entry_out [])
    → InRange (dirent_fields p.dirent []) → InRange (direntpluses ps) → InRange (direntpluses (p ∷ ps))
pair_in_range p ps e d h = entry_in_range p.entry_out (dirent_fields p.dirent (direntpluses ps)) e
    (dirent_in_range p.dirent (direntpluses ps) d h)
