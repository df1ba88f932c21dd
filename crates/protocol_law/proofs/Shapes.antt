-- The frames of the codec as requests of a row, by their shapes.
use Rattle.std.proofs.Common.{◌≡◌, ◌≤◌, ℕ, false, List, [], ◌∷◌, ◌++◌, ◌+◌, length, drop, refl, sym, ◌∙◌, length-drop, take-append-drop, append_assoc, arith}
use Rattle.std.proofs.lemmas.Grind.{common_steps}
use Rattle.std.proofs.lemmas.List.{drop-drop}
use Rattle.std.specs.Prelude.{slice_range}
use Rattle.fk_fields.specs.Fields.{number_at, bytes_at, IsName, StartsName}
use Rattle.fk_fields.proofs.Names.{ending, EndsInName}
use Rattle.fuse_protocol.specs.declared.agreed.Agreed.{Agreed}
use Rattle.fuse_protocol.specs.declared.names.NameRule.{NameRule}
use Rattle.fuse_protocol.specs.declared.names.NameRule.TheVariants as rule
use Rattle.fuse_protocol.specs.declared.opcode.Opcode.{Opcode}
use Rattle.fuse_protocol.specs.Table.{row_at, code_of}
use Rattle.fuse_protocol.specs.Names.{IsNameBy, AreNames, spelled, rules_of}
use Rattle.fuse_protocol.specs.Requests.{IsRequest, RequestMessage, IsTail, names_from, node_at, handle_at, asked_at}
use Rattle.protocol_law.specs.Law.{Carries}

-- the request of an opcode's row that a frame holds, with these names and this tail
abbrev pub request_in : (agreed : Agreed) (o : Opcode) (bytes : List ℕ) (names : List (List ℕ)) (tail : List ℕ)
    → RequestMessage
request_in agreed o bytes names tail = record {
  unique = number_at 8 8 bytes;
  nodeid = number_at 16 8 bytes;
  node = node_at (row_at o).node bytes;
  handle = handle_at (row_at o).handle bytes;
  asked = asked_at (row_at o).reply bytes;
  fixed = slice_range bytes 40 (names_from agreed (row_at o));
  names = names;
  tail = tail;
  extensions = [];
}

-- The frame has the header of an opcode.
pub record HasHeader (bytes : List ℕ) (o : Opcode) : Type 0 where
  pub short : length bytes ≤ 4176
  pub len : number_at 0 4 bytes ≡ length bytes
  pub opcode : number_at 4 4 bytes ≡ code_of o

-- Behind the struct stand names and a tail.
pub record HasParts (agreed : Agreed) (bytes : List ℕ) (o : Opcode) (names : List (List ℕ))
    (tail : List ℕ) : Type 0 where
  pub whole : names_from agreed (row_at o) ≤ length bytes
  pub parts : drop (names_from agreed (row_at o)) bytes ≡ spelled names ++ tail
  pub has_names : AreNames agreed (rules_of (row_at o).names) names
  pub has_tail : IsTail (row_at o).tail bytes tail

pub is_request : (agreed : Agreed) (bytes : List ℕ) (o : Opcode) (names : List (List ℕ)) (tail : List ℕ)
    → Carries agreed
    → HasHeader bytes o → HasParts agreed bytes o names tail
    → IsRequest agreed bytes (row_at o) (request_in agreed o bytes names tail)
is_request agreed bytes o names tail fits head has =
    let none : agreed.has_extensions ≡ false = fits.no_extensions in
    record {
      short = omega (arith, head.short);
      len = head.len;
      opcode = head.opcode;
      unique = refl;
      nodeid = refl;
      whole = rw none (omega (arith, has.whole));
      node = refl;
      handle = refl;
      asked = refl;
      fixed = refl;
      parts = grind (arith, common_steps, has.parts);
      names = has.has_names;
      tail = has.has_tail;
      extensions = rw none refl;
    }

-- A file's name of the codec's is one of the table's.
pub is_file : (agreed : Agreed) (name : List ℕ) → Carries agreed → IsName name → IsNameBy agreed rule.File name
is_file agreed name fits is = record {
  some = is.some;
  short = omega (arith, is.short, fits.names);
  no_nul = λ k d lt. (is.plain k d lt).0;
  plain = ((λ k d lt. (is.plain k d lt).1), (is.no_dot, is.no_dots));
}

pub is_looked : (agreed : Agreed) (name : List ℕ) → Carries agreed → IsName name → IsNameBy agreed rule.Looked name
is_looked agreed name fits is = record {
  some = is.some;
  short = omega (arith, is.short, fits.names);
  no_nul = λ k d lt. (is.plain k d lt).0;
  plain = ((λ k d lt. (is.plain k d lt).1), (λ _. (is.no_dot, is.no_dots)));
}

-- One name to the end.
pub one_name : (agreed : Agreed) (bytes : List ℕ) (o : Opcode) (by : NameRule) (place : ℕ) (name : List ℕ)
    → EndsInName place bytes name → names_from agreed (row_at o) ≡ place → rules_of (row_at o).names ≡ by ∷ []
    → IsNameBy agreed by name → IsTail (row_at o).tail bytes [] → HasParts agreed bytes o (name ∷ []) []
one_name agreed bytes o by place name ends start one is tail = record {
  whole = rw start (omega (arith, ends.2));
  parts = rw start (grind (arith, common_steps, ending place bytes name ends));
  has_names = rw one (is, tt);
  has_tail = tail;
}

-- Nothing stands behind the last byte.
nothing_behind : (bytes : List ℕ) (size : ℕ) → length bytes ≡ size → drop size bytes ≡ []
nothing_behind bytes size e = grind (arith, common_steps, e, length-drop size bytes)

-- The struct alone.
pub alone : (agreed : Agreed) (bytes : List ℕ) (o : Opcode) (size : ℕ) → length bytes ≡ size
    → names_from agreed (row_at o) ≡ size → rules_of (row_at o).names ≡ [] → IsTail (row_at o).tail bytes []
    → HasParts agreed bytes o [] []
alone agreed bytes o size all start none tail = record {
  whole = rw start (omega (arith, all));
  parts = rw start (nothing_behind bytes size all);
  has_names = rw none tt;
  has_tail = tail;
}

-- The struct, and a tail to the end.
pub with_tail : (agreed : Agreed) (bytes : List ℕ) (o : Opcode) (size : ℕ) → size ≤ length bytes
    → names_from agreed (row_at o) ≡ size → rules_of (row_at o).names ≡ []
    → IsTail (row_at o).tail bytes (drop size bytes) → HasParts agreed bytes o [] (drop size bytes)
with_tail agreed bytes o size whole start none tail = record {
  whole = rw start whole;
  parts = rw start refl;
  has_names = rw none tt;
  has_tail = tail;
}

-- Two names to the end, as they are spelled.
pub two_names : (place : ℕ) (bytes old new : List ℕ) → StartsName place bytes old
    → EndsInName (place + (length old + 1)) bytes new → drop place bytes ≡ spelled (old ∷ new ∷ []) ++ []
unfolding bytes_at
two_names place bytes old new starts ends =
    let whole = take-append-drop (length old + 1) (drop place bytes) in
    let behind : drop (length old + 1) (drop place bytes) ≡ new ++ 0 ∷ [] =
    drop-drop (length old + 1) place bytes ∙ ending (place + (length old + 1)) bytes new ends in
    sym whole ∙ rw (starts.1, behind) (grind (arith, common_steps, append_assoc))
