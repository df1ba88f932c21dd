-- The entries that a reply's frame says are those that the server gives.
use Rattle.std.proofs.Common.{◌≡◌, ◌≢◌, ◌≤◌, ◌<◌, ℕ, ℤ, ◌==◌, Bool, true, false, cond, List, [], ◌∷◌, length, drop, map, None, refl, sym, ◌∙◌, ap, subst, nat_eq, if◌then◌else◌, All, arith}
use Rattle.std.proofs.lemmas.Bool.{true≢false}
use Rattle.std.proofs.lemmas.List.Elements.{All-head, All-tail}
use Rattle.fuse_spec.specs.declared.Kind.{Kind}
use Rattle.fuse_spec.specs.declared.Kind.TheVariants.{Directory, Regular, Other}
use Rattle.fuse_spec.specs.declared.Entry.{Entry as Named}
use Rattle.fuse_spec.specs.Calls.Paths as paths
use Rattle.fuse_spec.specs.Files.Operations.{files_listed, first_listed}
use Rattle.fk_fields.specs.Fields.{number_at}
use Rattle.fk_wire.specs.declared.opcode.Opcode.{Opcode as Codec}
use Rattle.fk_wire.specs.declared.opcode.Opcode.TheVariants as codec
use Rattle.fk_wire.specs.Dirents.{HavePlusNames}
use Rattle.fk_wire.specs.Entries.{found, missing}
use Rattle.fk_wire.specs.Replies.{HasReplyNames, ReplyContent, create_reply, entry_reply, plus_reply}
use Rattle.fuse_frames.specs.ReplyTies.{entry_in, file_named, pair_in, wire_body}
use Rattle.fuse_protocol.specs.declared.opcode.Opcode.{Opcode}
use Rattle.fuse_protocol.specs.declared.opcode.Opcode.TheVariants as op
use Rattle.fuse_protocol.specs.declared.row.ReplyShape.{ReplyShape}
use Rattle.fuse_protocol.specs.declared.row.ReplyShape.TheVariants as shape
use Rattle.fuse_replies.specs.declared.entry.Entry.{Entry}
use Rattle.fuse_replies.specs.Record.{EntryRecordContent}
use Rattle.fuse_replies.specs.Replies.{AnswerContent, content_at}
use Rattle.fuse_replies.specs.Replies as answer
use Rattle.fuse_sessions.specs.ReplyActs.{is_kind, kind_of, may_be_missing}
use Rattle.protocol_law.specs.ReplyLaw.{SayTheSame, attr_said, dirent_plus_said, entry_said, table_opcode}
use Rattle.served_sessions.specs.Entries.{AreGiven, HasEntries, IsGiven, IsMadeBy, is_dots}
use Rattle.served_sessions.proofs.Asking.{one_number}
use Rattle.served_sessions.proofs.Given.{IsGood, MadeKind, WireGives}

-- ---- kinds

-- the kind by a mode's bits
abbrev pub by_bits : ℕ → Kind
by_bits bits = cond (nat_eq bits 16384) Directory (cond (nat_eq bits 32768) Regular Other)

of_kind : (bits : ℕ) → by_bits bits ≢ Other → is_kind bits ≡ true
of_kind bits some = by (nat_eq bits 16384) (nat_eq bits 32768) refl refl some
  where
    by : (b c : Bool) → nat_eq bits 16384 ≡ b → nat_eq bits 32768 ≡ c → cond b Directory (cond c Regular Other) ≢ Other
        → is_kind bits ≡ true
    by true c is other some = ap is_kind (one_number bits 16384 is)
    by false true is other some = ap is_kind (one_number bits 32768 other)
    by false false is other some = absurd (some refl)

pub directory_bits : (bits : ℕ) → by_bits bits ≡ Directory → bits ≡ 16384
directory_bits bits same = by (nat_eq bits 16384) (nat_eq bits 32768) refl same
  where
    by : (b c : Bool) → nat_eq bits 16384 ≡ b → cond b Directory (cond c Regular Other) ≡ Directory → bits ≡ 16384
    by true c is same = one_number bits 16384 is
    by false true is same = cc
    by false false is same = cc

pub regular_bits : (bits : ℕ) → by_bits bits ≡ Regular → bits ≡ 32768
regular_bits bits same = by (nat_eq bits 16384) (nat_eq bits 32768) refl same
  where
    by : (b c : Bool) → nat_eq bits 32768 ≡ c → cond b Directory (cond c Regular Other) ≡ Regular → bits ≡ 32768
    by true c is same = cc
    by false true is same = one_number bits 32768 is
    by false false is same = cc

made_bits : (o : Codec) (bits : ℕ) → MadeKind o (by_bits bits) → IsMadeBy (table_opcode o) bits
made_bits codec.Mkdir bits made = directory_bits bits made
made_bits codec.Create bits made = regular_bits bits made
made_bits codec.Lookup bits made = tt
made_bits o bits made = tt

-- ---- an entry

good_given : (o : Codec) (e : Entry) → 2 ≤ e.nodeid → by_bits (kind_of e.attributes) ≢ Other
    → MadeKind o (by_bits (kind_of e.attributes)) → IsGiven (table_opcode o) e
good_given o e low kind made = record {
  not_root = λ root. omega (arith, low, root);
  missing = λ zero. absurd (omega (arith, low, zero));
  kind = λ some. of_kind (kind_of e.attributes) kind;
  made = λ some. made_bits o (kind_of e.attributes) made;
}

missing_given : (p : Opcode) (e : Entry) → (e.nodeid == 0) ≡ true → may_be_missing p ≡ true → IsGiven p e
missing_given p e none may =
    let zero : e.nodeid ≡ 0 = one_number e.nodeid 0 none in
    record {
      not_root = λ root. omega (arith, zero, root);
      missing = λ is. may;
      kind = λ some. absurd (some zero);
      made = λ some. absurd (some zero);
    }

entry_given : (o : Codec) (e : Entry) → WireGives o (wire_body (entry_reply (entry_said e))) → IsGiven (table_opcode o) e
entry_given o e gives = by (e.nodeid == 0) refl gives
  where
    by : (b : Bool) → (e.nodeid == 0) ≡ b → WireGives o (wire_body (entry_reply
        (if b then missing e.name_validity.seconds e.name_validity.nanoseconds
        else found e.nodeid e.generation e.name_validity.seconds e.name_validity.nanoseconds (attr_said e.attributes))))
        → IsGiven (table_opcode o) e
    by true none gives = missing_given (table_opcode o) e none (ap (λ (x : Codec). may_be_missing (table_opcode x)) gives.made)
    by false some gives =
        let one = All-head IsGood (entry_in e.nodeid e.generation (attr_said e.attributes)) [] gives.entries in
        good_given o e one.0 one.1 gives.made

created_given : (o : Codec) (e : Entry) (fh : ℕ) → WireGives o (wire_body (create_reply (entry_said e) fh))
    → IsGiven (table_opcode o) e
created_given o e fh gives = by (e.nodeid == 0) refl gives
  where
    by : (b : Bool) → (e.nodeid == 0) ≡ b → WireGives o (wire_body (create_reply
        (if b then missing e.name_validity.seconds e.name_validity.nanoseconds
        else found e.nodeid e.generation e.name_validity.seconds e.name_validity.nanoseconds (attr_said e.attributes)) fh))
        → IsGiven (table_opcode o) e
    by true none gives = let one = All-head IsGood _ [] gives.entries in absurd (omega (arith, one.0))
    by false some gives =
        let one = All-head IsGood (entry_in e.nodeid e.generation (attr_said e.attributes)) [] gives.entries in
        good_given o e one.0 one.1 gives.made

-- ---- a listing

pub dots_named : (name : List ℕ) → 0 < length name → paths.is_dots name ≡ true → is_dots name ≡ true
dots_named [] some dots = absurd (omega (arith, some))
dots_named (a ∷ []) some dots = ap (λ (n : ℕ). is_dots (n ∷ [])) (one_number a 46 dots)
dots_named (a ∷ b ∷ []) some dots = by (nat_eq a 46) refl dots
  where
    by : (c : Bool) → nat_eq a 46 ≡ c → cond c (nat_eq b 46) false ≡ true → is_dots (a ∷ b ∷ []) ≡ true
    by true first second = ap (λ (n : ℕ). is_dots (n ∷ b ∷ [])) (one_number a 46 first)
        ∙ ap (λ (n : ℕ). is_dots (46 ∷ n ∷ [])) (one_number b 46 second)
    by false first second = cc
dots_named (a ∷ b ∷ c ∷ rest) some dots = cc

records_given : (rs : List EntryRecordContent) → HavePlusNames (map dirent_plus_said rs)
    → All IsGood (files_listed (map pair_in (map dirent_plus_said rs))) → AreGiven rs
records_given [] names good = tt
records_given (r ∷ rs) names good =
    let both = by (paths.is_dots r.said.name) (r.entry.nodeid == 0) refl refl good in
    (both.0, records_given rs names.1 both.1)
  where
    rest : List Named
    rest = files_listed (map pair_in (map dirent_plus_said rs))

    by : (d z : Bool) → paths.is_dots r.said.name ≡ d → (r.entry.nodeid == 0) ≡ z
        → All IsGood (first_listed (cond d None (file_named
        (if z then missing r.entry.name_validity.seconds r.entry.name_validity.nanoseconds
        else found r.entry.nodeid r.entry.generation r.entry.name_validity.seconds r.entry.name_validity.nanoseconds
        (attr_said r.entry.attributes)))) (files_listed (map pair_in (map dirent_plus_said rs))))
        → (is_dots r.said.name ≡ false → IsGiven op.Readdirplus r.entry)
        × All IsGood (files_listed (map pair_in (map dirent_plus_said rs)))
    by true z dots is good = (λ no. absurd (true≢false (sym (dots_named r.said.name (names.0.some) dots) ∙ no)), good)
    by false true dots is good = (λ no. missing_given op.Readdirplus r.entry is refl, good)
    by false false dots is good =
        let e = entry_in r.entry.nodeid r.entry.generation (attr_said r.entry.attributes) in
        let one = All-head IsGood e rest good in
        (λ no. good_given codec.Readdirplus r.entry one.0 one.1 tt, All-tail IsGood e rest good)

-- ---- a reply

pub content_entries : (o : Codec) (error : ℤ) (content : ReplyContent) (said : AnswerContent)
    → SayTheSame error content said → HasReplyNames content → WireGives o (wire_body content)
    → HasEntries (table_opcode o) said
content_entries o error (entry_reply e) (answer.entry given) same names gives = entry_given o given
    (subst (λ c. WireGives o (wire_body (entry_reply c))) (sym same) gives)
content_entries o error (create_reply e fh) (answer.created given handle) same names gives = created_given o given fh
    (subst (λ c. WireGives o (wire_body (create_reply c fh))) (sym same.0) gives)
content_entries o error (plus_reply ps) (answer.entry_records rs) same names gives =
    records_given rs (subst HavePlusNames (sym same) names)
    (subst (λ ps. All IsGood (files_listed (map pair_in ps))) (sym same) gives.entries)
content_entries o error content (answer.entry given) same names gives = absurd same
content_entries o error content (answer.created given handle) same names gives = absurd same
content_entries o error content (answer.entry_records rs) same names gives = absurd same
content_entries o error content said same names gives = tt

-- How many bytes were asked for says nothing of entries.
pub entries_of_any : (p : Opcode) (s : ReplyShape) (n m : ℕ) (reply : List ℕ) → HasEntries p (content_at s n reply)
    → HasEntries p (content_at s m reply)
entries_of_any p (shape.Sized place) n m reply has = by (m == 0)
  where
    by : (b : Bool) → HasEntries p (if b then answer.number (number_at 16 4 reply) else answer.raw (drop 16 reply))
    by true = tt
    by false = tt
entries_of_any p s n m reply has = has
