-- The pairs of a long BATCH_FORGET, as its parts have them, and as a session reads them.
use Rattle.std.proofs.Common.{◌≡◌, ◌≤◌, ℕ, zero, suc, ◌+◌, ◌*◌, ◌/◌, ◌==◌, ◌&&◌, Bool, true, false, cond, List, [], ◌∷◌, ◌++◌, length, take, drop, min, Option, None, refl, sym, ◌∙◌, ap, subst, nat_eq, arith, append-nil, length-append, length-drop, length-take, drop-drop, drop_at, inl, inr, nat_lt, if◌then◌else◌}
use Rattle.std.specs.Prelude.{slice_range, sum_by}
use Rattle.std.proofs.lemmas.List.Sums.{sum_by-append}
use Rattle.byteorder.specs.Endian.{little_bytes}
use Rattle.fk_fields.specs.Fields.{ReadsAs, number_at}
use Rattle.fk_wire.specs.Opcodes as codecs
use Rattle.fk_wire.specs.Pairs.{pairs_from as codec_pairs}
use Rattle.fk_wire.specs.Requests.{RequestContent, request_body}
use Rattle.fk_wire.specs.Requests as wire
use Rattle.fk_wire.proofs.PairLists.{list_ends, one_list}
use Rattle.fuse_spec.specs.Kernel.Messages.{Request, RequestBody}
use Rattle.fuse_spec.specs.Server.Server.{forgotten}
use Rattle.fuse_spec.specs.Server.Server as server
use Rattle.fuse_frames.specs.RequestTies.{SaysRequest, body_in, body_or}
use Rattle.fs_serve.specs.LongBatches.{IsLongBatch, first_pairs, part_of}
use Rattle.fuse_protocol.specs.declared.agreed.Agreed.{Agreed}
use Rattle.fuse_protocol.specs.declared.opcode.Opcode.TheVariants as op
use Rattle.fuse_protocol.specs.declared.request.OpenHandle.TheVariants as opened
use Rattle.fuse_protocol.specs.Pairs.{pairs_from}
use Rattle.fuse_protocol.specs.Requests.{IsRequest, RequestMessage, extension_size}
use Rattle.fuse_protocol.specs.Table.{row_at}
use Rattle.fuse_sessions.specs.declared.act.Act.{Act}
use Rattle.fuse_sessions.specs.declared.act.Act.TheVariants as act
use Rattle.fuse_sessions.specs.declared.fault.Fault.{Fault}
use Rattle.fuse_sessions.specs.declared.fault.Fault.TheVariants as fault
use Rattle.fuse_sessions.specs.declared.known.Known.{Known}
use Rattle.fuse_sessions.specs.Sessions.{Session}
use Rattle.fuse_sessions.specs.Counts.{forgets_of}
use Rattle.fuse_sessions.specs.Frames.{AreRequestActs}
use Rattle.fuse_sessions.specs.RequestActs.{forgets_in}
use Rattle.fuse_sessions.specs.UnreadRequests.{asking_unread, has_header, is_later, may_be_known, opcode_in, unread_acts}
use Rattle.served_sessions.proofs.Forgotten.{acts_of, behind_reading, sums_alike}
use Rattle.served_sessions.proofs.Free.{AreFree}
use Rattle.served_sessions.proofs.Placed.{number_from, same_opcode_of_part}
use Rattle.served_sessions.proofs.Requests.{asked_alike, body_reads, frame_opcode}

-- ---- pairs

abbrev Pair : Type 0
Pair = ℕ × ℕ

pairs_split : (i j place : ℕ) (bytes : List ℕ)
    → pairs_from (i + j) place bytes ≡ pairs_from i place bytes ++ pairs_from j (place + 16 * i) bytes
pairs_split zero j place bytes =
    ap (λ (n : ℕ). pairs_from n place bytes) (omega arith) ∙ ap (λ (p : ℕ). pairs_from j p bytes) (omega arith)
pairs_split (suc i) j place bytes =
    let one_more : suc i + j ≡ suc (i + j) = omega arith in
    let next : place + 16 + 16 * i ≡ place + 16 * suc i = omega arith in
    ap (λ (n : ℕ). pairs_from n place bytes) one_more
    ∙ ap (λ (l : List Pair). (number_at place 8 bytes, number_at (place + 8) 8 bytes) ∷ l)
    (pairs_split i j (place + 16) bytes
    ∙ ap (λ (p : ℕ). pairs_from i (place + 16) bytes ++ pairs_from j p bytes) next)

-- what the first of them forget, and the rest
pub forgotten_split : (n i j : ℕ) (bytes : List ℕ) → forgotten n (pairs_from (i + j) 0 bytes)
    ≡ forgotten n (pairs_from i 0 bytes) + forgotten n (pairs_from j (16 * i) bytes)
forgotten_split n i j bytes =
    let place : 0 + 16 * i ≡ 16 * i = omega arith in
    ap (forgotten n) (pairs_split i j 0 bytes
    ∙ ap (λ (p : ℕ). pairs_from i 0 bytes ++ pairs_from j p bytes) place)
    ∙ sum_by-append (λ (f : Pair). cond (nat_eq f.0 n) f.1 0) (pairs_from i 0 bytes) (pairs_from j (16 * i) bytes)

shifted : (place width start : ℕ) (bytes : List ℕ)
    → number_at place width (drop start bytes) ≡ number_at (start + place) width bytes
unfolding number_at
shifted place width start bytes = rw drop-drop refl

-- Pairs of a part are those of the whole, from its place on.
module _ (part whole : List ℕ) (at most : ℕ) (is : drop 48 part ≡ take most (drop at whole)) where
  same_number : (q : ℕ) → q + 8 ≤ most → number_at (48 + q) 8 part ≡ number_at (at + q) 8 whole
  same_number q fits = sym (shifted q 8 48 part) ∙ ap (number_at q 8) is ∙ number_from at (at + q) most q 8 whole refl fits

  same_pairs : (count q : ℕ) → q + 16 * count ≤ most
      → codec_pairs count (48 + q) part ≡ pairs_from count (at + q) whole
  same_pairs zero q fits = refl
  same_pairs (suc count) q fits =
      let first = same_number q (omega (arith, fits)) in
      let again : number_at (48 + q + 8) 8 part ≡ number_at (at + q + 8) 8 whole =
      ap (λ (p : ℕ). number_at p 8 part) (omega arith) ∙ same_number (q + 8) (omega (arith, fits))
      ∙ ap (λ (p : ℕ). number_at p 8 whole) (omega arith) in
      let rest : codec_pairs count (48 + q + 16) part ≡ pairs_from count (at + q + 16) whole =
      ap (λ (p : ℕ). codec_pairs count p part) (omega arith) ∙ same_pairs count (q + 16) (omega (arith, fits))
      ∙ ap (λ (p : ℕ). pairs_from count p whole) (omega arith) in
      rw (first, again, rest) refl

-- ---- a part

-- where its pairs stand
pub part_pairs : (bytes pairs : List ℕ) → 48 ≤ length bytes → drop 48 (part_of bytes pairs) ≡ pairs
part_pairs bytes pairs long = drop_at (little_bytes 4 (48 + length pairs) ++ take 36 (drop 4 bytes)
    ++ little_bytes 4 (length pairs / 16) ++ take 4 (drop 44 bytes)) pairs 48 front
  where
    front : length (little_bytes 4 (48 + length pairs) ++ take 36 (drop 4 bytes) ++ little_bytes 4 (length pairs / 16)
        ++ take 4 (drop 44 bytes)) ≡ 48
    front =
        let whole : List ℕ = take 36 (drop 4 bytes) in
        let count : List ℕ = little_bytes 4 (length pairs / 16) in
        let second : List ℕ = whole ++ count in
        let four : length count ≡ 4 = refl in
        let one = length-append whole count in
        let two = length-append second (take 4 (drop 44 bytes)) in
        omega (
          arith,
          four,
          one,
          two,
          length-take 36 (drop 4 bytes),
          length-drop 4 bytes,
          length-take 4 (drop 44 bytes),
          length-drop 44 bytes,
          long,
        )

-- What a part's request forgets, these pairs of the whole do.
module _ (bytes pairs left : List ℕ) (is : IsLongBatch bytes) (split : drop 48 bytes ≡ pairs ++ left)
    (first count : ℕ) (before : length pairs ≡ 16 * first) (long : length (first_pairs left) ≡ 16 * count)
    (request : Request) (says : SaysRequest (part_of bytes (first_pairs left)) request) where
  abbrev part : List ℕ
  part = part_of bytes (first_pairs left)

  abbrev whole : List ℕ
  whole = drop 48 bytes

  bytes_long : 48 ≤ length bytes
  bytes_long = let more = is.long in omega (arith, more)

  part_is : drop 48 (part_of bytes (first_pairs left)) ≡ take (min (length left) 1024) (drop (16 * first) (drop 48 bytes))
  part_is = part_pairs bytes (first_pairs left) bytes_long
      ∙ ap (take (min (length left) 1024)) (sym (ap (drop (16 * first)) split ∙ drop_at pairs left (16 * first) before))

  pub part_opcode : opcode_in (part_of bytes (first_pairs left)) ≡ 42
  part_opcode =
      let header = is.header in
      same_opcode_of_part (48 + length (first_pairs left)) (length (first_pairs left) / 16) bytes (first_pairs left) header.0
      ∙ is.opcode

  asked_code : codecs.code_of (wire.opcode_of (let m = says.message in m.content)) ≡ 42
  asked_code = ap codecs.code_of (sym (asked_alike part request says)) ∙ sym (frame_opcode part request says) ∙ part_opcode

  of_content : (n : ℕ) (c : RequestContent) → codecs.code_of (wire.opcode_of c) ≡ 42 → ReadsAs 40 (request_body c) part
      → forgotten n (server.forgets_of (body_or (body_in (let m = says.message in m.nodeid) c)))
      ≤ forgotten n (pairs_from count (16 * first) (drop 48 bytes))
  of_content n (wire.batch_forget ps) code reads =
      let ends = list_ends ps 48 (part_of bytes (first_pairs left)) reads.1 in
      let behind : length (drop 48 (part_of bytes (first_pairs left))) ≡ length (first_pairs left) =
      ap (λ (l : List ℕ). length l) (part_pairs bytes (first_pairs left) bytes_long) in
      let many : length ps ≡ count =
      omega (arith, ends, behind, length-drop 48 (part_of bytes (first_pairs left)), long) in
      let most : 0 + 16 * count ≤ min (length left) 1024 =
      omega (arith, long, length-take (min (length left) 1024) left) in
      let same : pairs_from count (16 * first + 0) (drop 48 bytes) ≡ ps =
      sym (same_pairs (part_of bytes (first_pairs left)) (drop 48 bytes) (16 * first) (min (length left) 1024) part_is count 0
      most) ∙ ap (λ (k : ℕ). codec_pairs k 48 (part_of bytes (first_pairs left))) (sym many)
      ∙ one_list ps 48 (part_of bytes (first_pairs left)) reads.1 in
      let place : 16 * first + 0 ≡ 16 * first = omega arith in
      let now : forgotten n ps ≡ forgotten n (pairs_from count (16 * first) (drop 48 bytes)) =
      ap (forgotten n) (sym same ∙ ap (λ (p : ℕ). pairs_from count p (drop 48 bytes)) place) in
      omega (arith, now)
  of_content n (wire.forget lookups) code reads = absurd (omega (arith, code))
  of_content n (wire.lookup name) code reads = omega arith
  of_content n c code reads = omega arith

  pub part_forgets : (n : ℕ) → forgotten n (server.forgets_of request.body)
      ≤ forgotten n (pairs_from count (16 * first) (drop 48 bytes))
  part_forgets n =
      let here = of_content n (let m = says.message in m.content) asked_code (body_reads part request says) in
      let same : forgotten n (server.forgets_of (body_or (body_in (let m = says.message in m.nodeid)
      (let m = says.message in m.content)))) ≡ forgotten n (server.forgets_of request.body) =
      ap (λ (b : Option RequestBody). forgotten n (server.forgets_of (body_or b))) says.says in
      omega (arith, here, same)

-- ---- as a session reads it

-- a whole BATCH_FORGET as the table has it
abbrev batch_in : List ℕ → RequestMessage
batch_in bytes = record {
  unique = number_at 8 8 bytes;
  nodeid = number_at 16 8 bytes;
  node = None;
  handle = opened.None;
  asked = 0;
  fixed = slice_range bytes 40 48;
  names = [];
  tail = drop 48 bytes;
  extensions = [];
}

is_batch : (agreed : Agreed) (bytes : List ℕ) → agreed.has_extensions ≡ false → IsLongBatch bytes
    → length bytes ≤ 16777216 → IsRequest agreed bytes (row_at op.BatchForget) (batch_in bytes)
is_batch agreed bytes plain is short =
    let none : extension_size agreed bytes ≡ 0 = rw plain refl in
    let header = is.header in
    let long = is.long in
    let counted = is.counted in
    record {
      short = short;
      len = header.1;
      opcode = is.opcode;
      unique = refl;
      nodeid = refl;
      whole = omega (arith, none, long);
      node = refl;
      handle = refl;
      asked = refl;
      fixed = refl;
      parts = sym (append-nil (drop 48 bytes));
      names = tt;
      tail = omega (arith, counted, length-drop 48 bytes);
      extensions = sym none;
    }

-- What it forgets is what its pairs do.
pub batch_read : (k : Known) (bytes : List ℕ) (acts : List Act) → k.agreed.has_extensions ≡ false
    → AreRequestActs k bytes acts → IsLongBatch bytes → length bytes ≤ 16777216 → (n : ℕ)
    → sum_by (forgets_of n) acts ≡ forgotten n (pairs_from (length (drop 48 bytes) / 16) 0 (drop 48 bytes))
batch_read k bytes acts plain does is short n =
    let row = is_batch k.agreed bytes plain is short in
    let pairs : List Pair = pairs_from (length (drop 48 bytes) / 16) 0 (drop 48 bytes) in
    ap (sum_by (forgets_of n)) (acts_of k bytes acts plain does op.BatchForget (batch_in bytes) row)
    ∙ behind_reading n (number_at 8 8 bytes) op.BatchForget (forgets_in pairs) ∙ sym (sums_alike n pairs)

-- One that is longer is malformed.
module _ (k : Known) (bytes : List ℕ) (acts : List Act) (does : AreRequestActs k bytes acts) (is : IsLongBatch bytes)
    (group : Fault → Bool) (of : group fault.MalformedRequest ≡ true) (s : Session) (free : AreFree group s acts) where
  unknown : may_be_known k.offered bytes ≡ false
  unknown = by (has_header bytes) (is_later k.offered) (number_at 0 4 bytes == length bytes)
    where
      below : nat_lt 53 (opcode_in bytes) ≡ false
      below = ap (nat_lt 53) is.opcode

      by : (b c d : Bool) → (b && (c && (nat_lt 53 (opcode_in bytes) && d))) ≡ false
      by false c d = refl
      by true false d = refl
      by true true d = ap (λ (x : Bool). x && d) below

  pub free_short : length bytes ≤ 16777216
  free_short = by does
    where
      by : AreRequestActs k bytes acts → length bytes ≤ 16777216
      by (inl ((o, r), as_row, as_acts)) = as_row.short
      by (inr (none, unread)) = absurd (shown (subst (AreFree group s) unread free))
        where
          faulty : (b : Bool) → b ≡ false → AreFree group (s ++ act.Arrives ∷ [])
              ((if b then [] else act.Faulty fault.MalformedRequest ∷ []) ++ asking_unread bytes) → ⊥
          faulty true no_one clear = cc
          faulty false no_one clear = clear.0 fault.MalformedRequest refl of

          shown : AreFree group s (unread_acts k.offered bytes) → ⊥
          shown clear = faulty (may_be_known k.offered bytes) unknown clear.1
